-- The counters of a flow, as words of a line or as members of a JSON object.
use Rattle.std.specs.Prelude.{ℕ, Bool, true, false, Option, Some, None, List, [], ◌∷◌, ◌++◌, codes, decimal}
use Rattle.counters.specs.FlowCounters.{Entry}

-- a counter after its key
abbrev pub counter_member : Entry → List ℕ
counter_member e = codes ",\"" ++ (e.key ++ (codes "\":" ++ decimal e.value))

-- a counter after its word, if it has one
abbrev pub after_word : Option (List ℕ) → ℕ → List ℕ
after_word None value = []
after_word (Some word) value = codes " " ++ (word ++ (codes " " ++ decimal value))

abbrev pub counter_word : Entry → List ℕ
counter_word e = after_word e.word e.value

-- a counter after its key in an object, and after its word in a line
abbrev pub counter_text : Bool → Entry → List ℕ
counter_text true e = counter_member e
counter_text false e = counter_word e

abbrev pub counter_texts : Bool → List Entry → List ℕ
counter_texts json [] = []
counter_texts json (e ∷ es) = counter_text json e ++ counter_texts json es
