-- The postings of a frame that is begun say one length of the frame, as one more follows.
use Rattle.std.proofs.Common.{◌≡◌, ◌∙◌, ◌⊎◌, ℕ, false, List, [], ◌∷◌, ◌++◌, length, Some, sym, ap, ⊎_elim}
use Rattle.std.specs.Prelude.{slice_get}
use Rattle.std.proofs.lemmas.List.{nil_from_length}
use Rattle.std.proofs.lemmas.Option.{none-some}
use Rattle.ring_model.specs.shared.Frames.{unfinished}
use Rattle.ring_model.specs.transmit.Ring.{carried}
use Rattle.ring_laws.specs.Lists.{slice_get-snoc}
use Rattle.ring_tests.proofs.Growing.{begun_grows}
use Rattle.tx_ring.specs.Records.{Posting}
use Rattle.ring_tests.specs.Begun.{AreOfFrame}

pub none_of_frame : (paylen : ℕ) (ps : List Posting) → ps ≡ [] → AreOfFrame paylen ps
none_of_frame paylen ps none k p e = absurd (none-some p (ap (λ (l : List Posting). slice_get l k) (sym none) ∙ e))

-- where there are any, the next says the same
pub same_frame : (segments begun next said : ℕ) (ps : List Posting) → length ps ≡ segments → AreOfFrame begun ps → (segments ≡ 0) ⊎ (next ≡ begun) → said ≡ next → AreOfFrame said ps
same_frame segments begun next said ps count all which same =
    ⊎_elim (λ (zero : segments ≡ 0). none_of_frame said ps (nil_from_length ps (count ∙ zero)))
    (λ (alike : next ≡ begun) (k : ℕ) (p : Posting) (e : slice_get ps k ≡ Some p). all k p e ∙ sym (same ∙ alike)) which

pub frame_grows : (xs ys : List Posting) (x : Posting) → ys ≡ xs ++ x ∷ [] → x.eop ≡ false → AreOfFrame x.paylen (unfinished carried xs) → AreOfFrame x.paylen (unfinished carried ys)
frame_grows xs ys x grew goes all k p e =
    ⊎_elim (λ a. all k p a.1) (λ b. ap (λ (q : Posting). q.paylen) (sym b.1))
    (slice_get-snoc (unfinished carried xs) x p k (ap (λ (l : List Posting). slice_get l k) (sym (begun_grows carried xs ys x grew goes)) ∙ e))
