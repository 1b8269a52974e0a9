-- Slots: in the table, or out with a seat, in the order in which the seat took them.
use Rattle.std.specs.Prelude.{ℕ, zero, suc, ◌+◌, ◌%◌, List, [], ◌∷◌, Bool, true, false, Option, Some, None}
use mathlib.Core.Option as maybe
use mathlib.Core.Option.{some, none}
use lib.ListN.{get_elem?}
use Rattle.buffer_pool.specs.Buffer.{Buffer, blank}

-- The buffer in a slot that is in the table.
abbrev pub at_home : maybe.Option (maybe.Option Buffer) → Option Buffer
at_home none = None
at_home (some none) = None
at_home (some (some b)) = Some b

abbrev pub home_at : List (maybe.Option Buffer) → ℕ → Option Buffer
home_at homes place = at_home (get_elem? homes place)

-- The slots of the given number of items from item `k` on, all empty.
abbrev pub empty_slots : ℕ → ℕ → ℕ → List (ℕ × Buffer)
empty_slots n k zero = []
empty_slots n k (suc more) = (k % n, blank) ∷ empty_slots n (k + 1) more

-- The controller's slot: that of the fetched buffer.
abbrev pub slots_while : ℕ → Option Buffer → List (ℕ × Buffer)
slots_while place None = []
slots_while place (Some b) = (place, blank) ∷ []

-- The buffer in the slot that a seat took last.
abbrev pub front_buffer : List (ℕ × Buffer) → Buffer
front_buffer [] = blank
front_buffer (x ∷ xs) = x.1

abbrev pub is_there : Option Buffer → Bool
is_there None = false
is_there (Some b) = true
