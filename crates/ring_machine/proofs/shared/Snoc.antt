-- A list with one more element at its end.
use Rattle.std.proofs.Common.{◌≡◌, ◌≢◌, ℕ, zero, suc, ◌<◌, ◌≤◌, Bool, List, [], ◌∷◌, ◌++◌, length, Some, None, refl, ap, arith}
use Rattle.std.specs.Prelude.{slice_get}
use Rattle.ring_model.specs.shared.Frames.{ends_frame}

module _ {X : Type 0} where
  pub snoc_end : (xs : List X) (x : X) → slice_get (xs ++ x ∷ []) (length xs) ≡ Some x
  snoc_end [] x = refl
  snoc_end (y ∷ ys) x = snoc_end ys x

  -- one more element changes no other place
  pub snoc_rest : (xs : List X) (x : X) (k : ℕ) → k ≢ length xs → slice_get (xs ++ x ∷ []) k ≡ slice_get xs k
  snoc_rest [] x zero ne = absurd (ne refl)
  snoc_rest [] x (suc k) ne = refl
  snoc_rest (y ∷ ys) x zero ne = refl
  snoc_rest (y ∷ ys) x (suc k) ne = snoc_rest ys x k (λ e. ne (ap suc e))

  pub past_end : (xs : List X) (k : ℕ) → length xs ≤ k → slice_get xs k ≡ None
  past_end [] k h = refl
  past_end (x ∷ xs) zero h = absurd (omega arith)
  past_end (x ∷ xs) (suc k) h = past_end xs k (omega arith)

  -- what lies below the length is there
  pub found : (xs : List X) (k : ℕ) → k < length xs → (x : X) × (slice_get xs k ≡ Some x)
  found [] k h = absurd (omega arith)
  found (x ∷ xs) zero h = (x, refl)
  found (x ∷ xs) (suc k) h = found xs k (omega arith)

  pub ends_frame-snoc : (ends : X → Bool) (whole : Bool) (xs : List X) (x : X) → ends_frame ends whole (xs ++ x ∷ []) ≡ ends x
  ends_frame-snoc ends whole [] x = refl
  ends_frame-snoc ends whole (y ∷ ys) x = ends_frame-snoc ends (ends y) ys x
