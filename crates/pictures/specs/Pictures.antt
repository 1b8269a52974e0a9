-- A queue as lines of text, one for each place: the item there, its owner, the contents of its descriptor, the buffer
-- in its slot, and the marks there. Columns are separated by tabs.
use Rattle.std.specs.Prelude.{ℕ, zero, suc, ◌-◌, ◌/◌, ◌%◌, Bool, true, false, ◌||◌, ◌==◌, nat_lt, List, [], ◌∷◌, ◌++◌, Option, Some, None, codes, decimal, option_map, slice_get, slice_index, if◌then◌else◌}
use Rattle.ring_model.specs.declared.states.Owner.{Owner}
use Rattle.ring_model.specs.declared.states.Owner.TheVariants.{Driver, Ring, Controller}
use Rattle.ring_model.specs.shared.Lists.{slot_at}
use Rattle.ring_model.specs.shared.Places.{between_places, place_next}
use Rattle.ring_model.specs.shared.Agreement.{Wrapped}
use Rattle.ring_machine.specs.declared.moves.Move.{Move}
use Rattle.ring_machine.specs.declared.moves.Move.TheVariants as move
use Rattle.ring_machine.specs.declared.registers.QueueKind.{QueueKind}
use Rattle.ring_machine.specs.declared.registers.QueueKind.TheVariants.{Receive, Transmit}
use Rattle.ring_machine.specs.shared.Machine.{told_owner}
use Rattle.ring_machine.specs.Queues.{QueueParts}

-- how many places lie from the oldest item that is out up to this one
abbrev pub age_at : Wrapped ℕ → ℕ → ℕ
age_at w place = between_places w.size w.next place

abbrev pub owner_word : Owner → List ℕ
owner_word Driver = codes "drv"
owner_word Ring = codes "ring"
owner_word Controller = codes "ctl"

-- the item at a place, counted from the oldest that is out. A driver's place has none
abbrev pub item_of : Owner → ℕ → Option ℕ
item_of Driver age = None
item_of Ring age = Some age
item_of Controller age = Some age

-- a number, or a text for none
abbrev pub number_or : List ℕ → Option ℕ → List ℕ
number_or otherwise None = otherwise
number_or otherwise (Some n) = decimal n

abbrev pub number_or_dash : Option ℕ → List ℕ
number_or_dash n = number_or (codes "-") n

-- whether a bit of a word is set, which is the word's part of that weight
abbrev pub has_bit : ℕ → ℕ → Bool
has_bit weight word = (word / weight) % 2 == 1

-- DD, EOP and RS of a descriptor's second word, where a transmit queue's and a receive queue's have them
abbrev pub says_done : QueueKind → ℕ → Bool
says_done Receive word = has_bit 1 word
says_done Transmit word = has_bit 0x1_0000_0000 word

abbrev pub says_eop : QueueKind → ℕ → Bool
says_eop Receive word = has_bit 2 word
says_eop Transmit word = has_bit 0x100_0000 word

abbrev pub says_rs : QueueKind → ℕ → Bool
says_rs Receive word = false
says_rs Transmit word = has_bit 0x800_0000 word

abbrev pub flag_words : Bool → Bool → Bool → List ℕ
flag_words false false false = codes "-"
flag_words false false true = codes "RS"
flag_words false true false = codes "EOP"
flag_words false true true = codes "EOP RS"
flag_words true false false = codes "DD"
flag_words true false true = codes "DD RS"
flag_words true true false = codes "DD EOP"
flag_words true true true = codes "DD EOP RS"

-- what the descriptor at a place says. At a driver's place it may say anything
abbrev pub word_words : QueueKind → Owner → ℕ → List ℕ
word_words kind Driver word = codes "any"
word_words kind Ring word = flag_words (says_done kind word) (says_eop kind word) (says_rs kind word)
word_words kind Controller word = flag_words (says_done kind word) (says_eop kind word) (says_rs kind word)

-- a name after a tab, if this is at the place
abbrev pub mark : ℕ → ℕ → List ℕ → List ℕ
mark at place name = if at == place then 9 ∷ name else []

abbrev pub marks : Wrapped ℕ → ℕ → List ℕ
marks w place = mark w.head place (codes "head") ++ (mark w.tail place (codes "tail") ++ (mark w.fill place (codes "fill")
    ++ (mark w.next place (codes "next") ++ (mark w.serve place (codes "use") ++ mark w.known place (codes "known")))))

-- a place's line up to the names of what is there
abbrev pub columns : QueueKind → Wrapped ℕ → ℕ → List ℕ
columns kind w place = let owner = told_owner w place in
    decimal place ++ (9 ∷ (number_or_dash (item_of owner (age_at w place)) ++ (9 ∷ (owner_word owner
    ++ (9 ∷ (word_words kind owner (slice_index w.words place) ++ (9 ∷ number_or_dash (slot_at w.slots place))))))))

abbrev pub line : QueueKind → Wrapped ℕ → ℕ → List ℕ
line kind w place = columns kind w place ++ (marks w place ++ 10 ∷ [])

-- the place before this one, in a ring of n
abbrev pub place_before : ℕ → ℕ → ℕ
place_before n place = if place == 0 then n - 1 else (place - 1)

-- whether anything is here, at the place after, or at the place before
abbrev pub is_near : ℕ → ℕ → ℕ → Bool
is_near n place at = (place == at) || ((place_next n place == at) || (place_before n place == at))

-- all places of a ring of 8; of a longer ring, those with something at them, and the places before and after these
abbrev pub is_shown : Wrapped ℕ → ℕ → Bool
is_shown w place = nat_lt w.size 9 || (is_near w.size place w.head || (is_near w.size place w.tail || (is_near w.size place w.fill
    || (is_near w.size place w.next || (is_near w.size place w.serve || is_near w.size place w.known)))))

-- the first of places that are not shown
abbrev pub begins_fold : Wrapped ℕ → ℕ → Bool
begins_fold w zero = true
begins_fold w (suc before) = is_shown w before

abbrev pub place_text : QueueKind → Wrapped ℕ → ℕ → List ℕ
place_text kind w place = if is_shown w place then line kind w place else (if begins_fold w place then codes "..\n" else [])

-- the first places, as many as given
abbrev pub places_text : QueueKind → Wrapped ℕ → ℕ → List ℕ
places_text kind w zero = []
places_text kind w (suc count) = places_text kind w count ++ place_text kind w count

abbrev pub heading : List ℕ
heading = codes "place\titem\towner\tword\tbuffer\n"

abbrev pub picture : QueueKind → Wrapped ℕ → List ℕ
picture kind w = heading ++ places_text kind w w.size

abbrev pub picture_if_there : QueueKind → Option (Wrapped ℕ) → List ℕ
picture_if_there kind None = []
picture_if_there kind (Some w) = picture kind w

-- of the queue that a move names, if it is there
abbrev pub queue_picture : QueueParts → Move → List ℕ
queue_picture p (move.Receive q s) = picture_if_there Receive (option_map (λ m. m.queue) (slice_get p.receive q))
queue_picture p (move.Transmit q s) = picture_if_there Transmit (option_map (λ m. m.queue) (slice_get p.transmit q))
