-- What a driver's search for the oldest report has passed over asks for none, and it may begin behind that.
use Rattle.std.proofs.Common.{◌≡◌, ◌∙◌, refl, ℕ, zero, suc, ◌+◌, ◌-◌, ◌<◌, ◌≤◌, ⊎_elim, Bool, true, false, List, [], ◌∷◌, ◌++◌, length, Option, Some, None, if◌then◌else◌, ap, sym, subst, arith, length-append}
use Rattle.std.specs.Prelude.{slice_get}
use Rattle.std.proofs.lemmas.Bool.{cases_eq}
use Rattle.ring_model.specs.transmit.Steps.{asks_report, first_report}
use Rattle.ring_laws.specs.Lists.{slice_get-front}
use Rattle.tx_ring.specs.Records.{Posting}
use Rattle.tx_ring.specs.Calls.{HasPassed}
use Rattle.tx_ring.proofs.Reported.{first_report-asks}

pub first-skip : (ps : List Posting) (k count : ℕ) → 0 < count → asks_report (slice_get ps k) ≡ false → first_report ps k count ≡ first_report ps (k + 1) (count - 1)
first-skip ps k zero pos e = absurd (omega arith)
first-skip ps k (suc more) pos e = ap (λ (b : Bool). if b then Some k else first_report ps (k + 1) more) e ∙ ap (first_report ps (k + 1)) (let f : more ≡ suc more - 1 = omega arith in f)

-- the item comes before the report that was found, or none was
abbrev IsBefore : ℕ → Option ℕ → Type 0
IsBefore i None = Unit {0}
IsBefore i (Some j) = i < j

passed-one : (ps : List Posting) (k more i : ℕ) (found : Option ℕ) (asked : Bool) → asks_report (slice_get ps k) ≡ asked → (if asked then Some k else first_report ps (k + 1) more) ≡ found
    → k ≤ i → IsBefore i found → (first_report ps (k + 1) more ≡ found → k + 1 ≤ i → asks_report (slice_get ps i) ≡ false) → asks_report (slice_get ps i) ≡ false
passed-one ps k more i found true is e low b rest = let early : i < k = subst (IsBefore i) (sym e) b in absurd (omega arith)
passed-one ps k more i found false is e low b rest = ⊎_elim (λ same. ap (λ (j : ℕ). asks_report (slice_get ps j)) same ∙ is) (λ other. rest e (omega arith)) (cases_eq i k)

-- those before what a search found ask for none
asks-none : (ps : List Posting) (k count i : ℕ) (found : Option ℕ) → first_report ps k count ≡ found → k ≤ i → i < k + count → IsBefore i found → asks_report (slice_get ps i) ≡ false
asks-none ps k zero i found e low high b = absurd (omega arith)
asks-none ps k (suc more) i found e low high b = passed-one ps k more i found (asks_report (slice_get ps k)) refl e low b (λ f l. asks-none ps (k + 1) more i found f l (omega arith) b)

-- a search that found one has passed over those before it; one that found none, over all
pub passed-found : (ps : List Posting) (seen ahead : ℕ) → first_report ps seen (length ps - seen) ≡ Some (seen + ahead) → HasPassed ps seen ahead
passed-found ps seen ahead e = let t = first_report-asks ps seen (length ps - seen) (seen + ahead) e in let b = t.0 in record {
  there = omega arith;
  none = λ j low high. asks-none ps seen (length ps - seen) j (Some (seen + ahead)) e low (omega arith) high;
}

pub passed-nothing : (ps : List Posting) (seen : ℕ) → seen ≤ length ps → HasPassed ps seen 0
passed-nothing ps seen below = record { there = omega arith; none = λ j low high. absurd (omega arith) }

-- so the search may begin behind them
pub from-passed : (ps : List Posting) (seen quiesced : ℕ) → HasPassed ps seen quiesced → (k : ℕ) → k ≤ quiesced → first_report ps seen (length ps - seen) ≡ first_report ps (seen + k) (length ps - (seen + k))
from-passed ps seen quiesced h zero low = ap (λ (j : ℕ). first_report ps j (length ps - j)) (let e : seen ≡ seen + 0 = omega arith in e)
from-passed ps seen quiesced h (suc k) low = let t = h.there in
    from-passed ps seen quiesced h k (omega arith) ∙ (first-skip ps (seen + k) (length ps - (seen + k)) (omega arith) (h.none (seen + k) (omega arith) (omega arith))
    ∙ (ap (λ (j : ℕ). first_report ps j (length ps - (seen + k) - 1)) (let f : seen + k + 1 ≡ seen + suc k = omega arith in f)
    ∙ ap (first_report ps (seen + suc k)) (let g : length ps - (seen + k) - 1 ≡ length ps - (seen + suc k) = omega arith in g)))

-- one more is posted
pub passed-snoc : (ps : List Posting) (p : Posting) (seen quiesced : ℕ) → HasPassed ps seen quiesced → HasPassed (ps ++ p ∷ []) seen quiesced
passed-snoc ps p seen quiesced h = let t = h.there in let len = length-append ps (p ∷ []) in record {
  there = omega arith;
  none = λ j low high. ap asks_report (slice_get-front ps (p ∷ []) j (omega arith)) ∙ h.none j low high;
}
