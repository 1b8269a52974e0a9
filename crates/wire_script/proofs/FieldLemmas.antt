-- Fields of one digit, and of several.
use Rattle.std.proofs.Common.{◌≡◌, ℕ, ◌-◌, ◌&&◌, List, [], ◌∷◌, length, get_or, nat_le, nat_lt, if◌then◌else◌, None, Some, refl, arith}
use Rattle.wire_script.specs.Line.{digit_below}

-- a field of another length is no digit
pub digit_below-other : (n : ℕ) (field : List ℕ) → (length field ≡ 1 → ⊥) → digit_below n field ≡ None
unfolding digit_below
digit_below-other n [] other = refl
digit_below-other n (b ∷ []) other = absurd (other refl)
digit_below-other n (b ∷ c ∷ more) other = refl

-- a field of length 1
pub digit_below-one : (n : ℕ) (field : List ℕ) → length field ≡ 1
    → digit_below n field ≡ (if nat_le 48 (get_or field 0 0) && nat_lt (get_or field 0 0 - 48) n then Some (get_or field 0 0 - 48) else None)
unfolding digit_below
digit_below-one n [] one = absurd (omega arith)
digit_below-one n (b ∷ []) one = refl
digit_below-one n (b ∷ c ∷ more) one = absurd (omega arith)
