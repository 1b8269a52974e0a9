-- The first place of a byte, as a search tells it.
use Rattle.std.proofs.Common.{◌≡◌, ℕ, ◌==◌, Bool, true, false, List, length, get_or, Option, None, Some, refl, arith}
use Rattle.std.specs.Prelude.{position}
use Rattle.std.proofs.lemmas.Bool.{le-ltb, lt-ltb}
use Rattle.std.proofs.lemmas.List.Sums.{position_or_len_is}
use Rattle.memchr.specs.Find.{IsFirstByte, is_byte}

-- a test that does not hold fails
fails : (b : Bool) → ¬ (b ≡ true) → b ≡ false
fails true never = absurd (never refl)
fails false never = refl

module _ (w : ℕ) (hay : List ℕ) where
  pub place_is : (r : Option ℕ) → IsFirstByte (is_byte w) hay r → r ≡ position (λ b. b == w) hay
  place_is None none =
      let end = position_or_len_is (λ b. b == w) hay (length hay) 0 (omega arith) (λ k low. fails (get_or hay k 0 == w) (none k (omega arith) low)) (λ low. absurd (omega (arith, low))) in
      rw (end, le-ltb (length hay) (length hay) (omega arith)) refl
  place_is (Some k) found =
      let is = position_or_len_is (λ b. b == w) hay k 0 (omega (arith, found.0.high)) (λ j low. fails (get_or hay j 0 == w) (found.0.before j (omega arith) low)) (λ _. found.1) in
      rw (is, lt-ltb k (length hay) found.0.high) refl
