-- The fields of transmit descriptors' words, and the first descriptor that asks for a report.
use Rattle.std.specs.Prelude.{ℕ, zero, suc, ◌-◌, ◌/◌, ◌%◌, ◌^◌, Bool, ◌||◌, ◌==◌, List, Option, Some, None, slice_index, if◌then◌else◌}
use Rattle.ring_model.specs.transmit.Agreement.{done_word}
use Rattle.ring_model.specs.shared.Places.{place_next}

abbrev pub place_before : ℕ → ℕ → ℕ
place_before n p = if p == 0 then n - 1 else (p - 1)

-- The fields of a descriptor's word.
abbrev pub word_len : ℕ → ℕ
word_len word = word % 2 ^ 16

abbrev pub word_eop : ℕ → Bool
word_eop word = word / 2 ^ 24 % 2 == 1

abbrev pub word_rs : ℕ → Bool
word_rs word = word / 2 ^ 27 % 2 == 1

-- Whether the item asked for a report. A done word did, although its RS is gone.
abbrev pub word_asks : ℕ → Bool
word_asks word = (word == done_word) || word_rs word

-- The place of the first word that asks for a report, among the given number of words from this place on.
abbrev pub first_asking : List ℕ → ℕ → ℕ → ℕ → Option ℕ
first_asking words n place zero = None
first_asking words n place (suc more) = if word_asks (slice_index words place) then Some place else first_asking words n (place_next n place) more
