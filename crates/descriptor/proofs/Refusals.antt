-- The lowest refusal is one, and none applies to what keeps everything.
use Rattle.std.proofs.Common.{◌≡◌, ℕ, ◌<◌, ◌↔◌, ◌⊎◌, inl, inr, Result, Ok, Err, IfOk, refl, sym, ap, ◌∙◌, subst, arith, if◌then◌else◌}
use Rattle.std.specs.Prelude.{◌==◌}
use Rattle.refusals.specs.declared.errors.DescError.{DescError}
use Rattle.refusals.specs.declared.errors.DescError.TheVariants.{Length, Reserved, Kind, Size}
use Rattle.descriptor.specs.Refusal.{IsLowest}
use Rattle.refusals.specs.DescError.{refusal_number}

-- the refusal of a number
abbrev refusal_of : ℕ → DescError
refusal_of n = if n == 1 then Length else if n == 2 then Reserved else if n == 3 then Kind else Size

of-number : (e : DescError) → refusal_of (refusal_number e) ≡ e
of-number Length = refl
of-number Reserved = refl
of-number Kind = refl
of-number Size = refl

same-refusal : (e e' : DescError) → refusal_number e ≡ refusal_number e' → e ≡ e'
same-refusal e e' h = sym (of-number e) ∙ ap refusal_of h ∙ of-number e'

compare : (m n : ℕ) → (m < n) ⊎ ((n < m) ⊎ (m ≡ n))
compare m n = grind arith

pub one_lowest : (Keeps : DescError → Type 0) (e e' : DescError) → IsLowest Keeps e → IsLowest Keeps e' → e ≡ e'
one_lowest Keeps e e' h h' = elim (compare (refusal_number e) (refusal_number e')) [
  | inl below ↦ absurd (h.broken (h'.lowest e below))
  | inr other ↦ elim other [
    | inl above ↦ absurd (h'.broken (h.lowest e' above))
    | inr same ↦ same-refusal e e' same
  ]
]

-- what a call that decodes answers, where IsForm tells what is the form of a descriptor
pub record Decodes {D : Type 0} (IsForm : D → Type 0) (Keeps : DescError → Type 0) (r : Result D DescError) : Type 0 where
  pub accepted : IfOk r IsForm
  pub reads_back : (d : D) → IsForm d → r ≡ Ok d
  pub refused : (e : DescError) → (r ≡ Err e) ↔ IsLowest Keeps e

pub Decodes-ok : {D : Type 0} (IsForm : D → Type 0) (Keeps : DescError → Type 0) (d : D) → IsForm d
    → ((other : D) → IsForm other → d ≡ other) → ((e : DescError) → Keeps e) → Decodes IsForm Keeps (Ok d)
Decodes-ok {D = D} IsForm Keeps d form alone keeps =
    let r : Result D DescError = Ok d in
    let clash : (e : DescError) → r ≡ Err e → ⊥ = λ e err. cc in
    record {
      accepted = form;
      reads_back = λ other same. ap (λ (x : D). Ok x) (alone other same);
      refused = λ e. ((λ err. absurd (clash e err)), (λ h. absurd (h.broken (keeps e))));
    }

pub Decodes-err : {D : Type 0} (IsForm : D → Type 0) (Keeps : DescError → Type 0) (given : DescError) → IsLowest Keeps given
    → ((d : D) → IsForm d → (e : DescError) → Keeps e) → Decodes IsForm Keeps (Err given)
Decodes-err {D = D} IsForm Keeps given lowest keeps =
    let r : Result D DescError = Err given in
    let inside : (e : DescError) → r ≡ Err e → given ≡ e = λ e err. cc in
    record {
      accepted = tt;
      reads_back = λ d form. absurd (lowest.broken (keeps d form given));
      refused = λ e. (
        (λ err. subst (IsLowest Keeps) (inside e err) lowest),
        (λ h. ap (λ (x : DescError). Err x) (one_lowest Keeps given e lowest h)),
      );
    }
