-- The buffers that a driver's side holds. "The same numbers, each as often" is expressed by weights, as in the pool:
-- for every weighing of the numbers, both sides weigh the same.
use Rattle.std.specs.Prelude.{◌≡◌, ℕ, ◌+◌, ◌≤◌, List}
use Rattle.pool.specs.Hands.{total}
use Rattle.buffer_accounting.specs.Lent.{lent, SameNumbers}
use Rattle.forwarding.specs.Driving.{Driving}

-- All that a flow holds: in the stash, in the waiting packets, and with both drivers.
abbrev pub all_of : Driving → List ℕ
all_of d = lent d.rx d.tx d.stash d.packets

-- The pass holds exactly these numbers.
abbrev pub HoldsJust : List ℕ → List ℕ → Type 0
HoldsJust = SameNumbers

-- The pass holds these numbers, and possibly others.
abbrev pub Holds : List ℕ → List ℕ → Type 0
Holds held has = (h : ℕ → ℕ) → total h has ≤ total h held

-- What the pass holds changed by the same numbers as what is at hand.
abbrev pub Keeps : List ℕ → List ℕ → List ℕ → List ℕ → Type 0
Keeps held has held' has' = (h : ℕ → ℕ) → total h held' + total h has ≡ total h held + total h has'
