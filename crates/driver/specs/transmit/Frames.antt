-- Packets as they are posted, and the number of descriptors that they need.
use Rattle.std.specs.Prelude.{ℕ, ◌+◌, ◌%◌, ◌<◌, ◌≤◌, ◌==◌, Bool, true, false, ◌||◌, List, [], ◌∷◌, ◌++◌, length, map}
use Rattle.buffer_pool.specs.Buffer.{Buffer}
use Rattle.buffer_pool.specs.Packed.{bytes_of}
use Rattle.tx_ring.specs.Calls.{item_of}
use Rattle.tx_ring.specs.Records.{Posting}

-- The buffers of a frame of `paylen` bytes. The last one ends the frame, and asks for its report if `rs` holds.
abbrev pub postings_of : ℕ → Bool → List Buffer → List Posting
postings_of paylen rs [] = []
postings_of paylen rs (b ∷ []) = item_of b true rs paylen ∷ []
postings_of paylen rs (b ∷ c ∷ bs) = item_of b false false paylen ∷ postings_of paylen rs (c ∷ bs)

-- The postings of a packet. PAYLEN is its length.
abbrev pub frame_of : Bool → List Buffer → List Posting
frame_of rs packet = postings_of (length (bytes_of packet)) rs packet

abbrev pub is_none : {X : Type 0} → List X → Bool
is_none [] = true
is_none (x ∷ xs) = false

-- The postings of packets that are posted together, after `count` earlier frames. Each frame whose number, counted from
-- 1, is a multiple of `every` asks for a report, and so does the last.
abbrev pub frames_of : ℕ → ℕ → List (List Buffer) → List Posting
frames_of every count [] = []
frames_of every count (p ∷ ps) = frame_of ((count + 1) % every == 0 || is_none ps) p ++ frames_of every (count + 1) ps

-- The number of descriptors that the packets need.
abbrev pub segment_count : List (List Buffer) → ℕ
segment_count [] = 0
segment_count (p ∷ ps) = length p + segment_count ps

-- The numbers of their buffers, in order.
abbrev pub numbers_in : List (List Buffer) → List ℕ
numbers_in [] = []
numbers_in (p ∷ ps) = map (λ b. b.number) p ++ numbers_in ps

-- The first packet, if any, needs more than `room` descriptors.
abbrev pub NeedsMore : ℕ → List (List Buffer) → Type 0
NeedsMore room [] = Unit {0}
NeedsMore room (p ∷ ps) = room < length p

-- The first packet needs more descriptors than a ring of `n` can have out.
abbrev pub IsTooLong : ℕ → List (List Buffer) → Type 0
IsTooLong n [] = ⊥
IsTooLong n (p ∷ ps) = n ≤ length p
