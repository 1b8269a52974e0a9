-- The buffers of a worker: at hand, in its rings, in an unfinished frame, and in the packets that wait.
use Rattle.std.specs.Prelude.{◌≡◌, ℕ, List, ◌++◌, IsPermutation}
use Rattle.pool.specs.Hands.{total}
use Rattle.buffer_pool.specs.Buffer.{Buffer}
use Rattle.ring_model.specs.transmit.Ring.{number_of_posting}
use Rattle.driver.specs.Reclaiming.{out_of}
use Rattle.driver.specs.receive.Receiver.{Receiver}
use Rattle.driver.specs.receive.Returns.{itself, numbers_of}
use Rattle.driver.specs.transmit.Frames.{numbers_in}
use Rattle.driver.specs.transmit.Transmitter.{Transmitter}

-- with a receive driver: those that are out, and those of a frame that has not ended
abbrev pub with_receiver : Receiver → List ℕ
with_receiver r = out_of itself r.end ++ numbers_of r.chain

-- with a transmit driver: those that are out
abbrev pub with_transmitter : Transmitter → List ℕ
with_transmitter t = out_of number_of_posting t.end

-- all that a worker has by two drivers, a stash and a list of packets
abbrev pub lent : Receiver → Transmitter → List ℕ → List (List Buffer) → List ℕ
lent rx tx stash packets = stash ++ (with_receiver rx ++ (numbers_in packets ++ with_transmitter tx))

-- Whatever else is held beside the first numbers is held beside the second: those were exchanged for these
abbrev pub Exchanged : List ℕ → List ℕ → List ℕ → List ℕ → Type 0
Exchanged held before new after = (rest : List ℕ) → IsPermutation held (before ++ rest) → IsPermutation new (after ++ rest)

-- these were given back, and nothing else
abbrev pub GivenBack : List ℕ → List ℕ → List ℕ → Type 0
GivenBack held numbers new = (rest : List ℕ) → IsPermutation held (numbers ++ rest) → IsPermutation new rest

-- The same numbers, each equally often. It is stated by weights, as in the pool's rule: for every weighing, both lists have
-- the same total.
abbrev pub SameNumbers : List ℕ → List ℕ → Type 0
SameNumbers xs ys = (h : ℕ → ℕ) → total h xs ≡ total h ys
