-- How a request ends, from what it did to the output.
use Rattle.std.proofs.Common.{◌≡◌, ◌∙◌, ap, inl, inr, ℕ, List, Option, None, Some, refl, sym, subst}
use Rattle.std.specs.Prelude.{Result, Ok, Err}
use Rattle.std.specs.Io.KnownBytes.{Keeps}
use Rattle.requests.specs.Answers.{EndsBy}
use Rattle.requests.specs.declared.answers.TheConstants.{EXIT_SUCCESS, EXIT_REFUSED}
use Rattle.requests.specs.declared.refusal.Refusal.{Refusal}
use Rattle.forward_io.specs.Meanings.{Makes, Prints, Withholds}

-- what a known input makes
makes-known : (meant : List ℕ → Result (List ℕ) Refusal) (input : Option (List ℕ)) (bytes page : List ℕ) → Makes meant input page → input ≡ Some bytes
    → meant bytes ≡ Ok page
makes-known meant input bytes page is known = says (subst (λ (i : Option (List ℕ)). Makes meant i page) known is)
  where
    says : Makes meant (Some bytes) page → meant bytes ≡ Ok page
    says (read, same, is) = sym (ap meant same) ∙ is

-- a refusal that writes nothing ends it, whatever was meant
pub kept : (answer : Result (List ℕ) Refusal) (old new : Option (List ℕ)) → Keeps old new → EndsBy answer EXIT_REFUSED old new
kept (Ok page) old new keeps = inr refl
kept (Err e) old new keeps = (refl, keeps)

pub done-ends : (meant : List ℕ → Result (List ℕ) Refusal) (input old new : Option (List ℕ)) (bytes : List ℕ) → Prints meant input old new
    → input ≡ Some bytes → EndsBy (meant bytes) EXIT_SUCCESS old new
done-ends meant input old new bytes (page, is, printed) known =
    subst (λ (r : Result (List ℕ) Refusal). EndsBy r EXIT_SUCCESS old new) (sym (makes-known meant input bytes page is known)) (inl (refl, printed))

pub refused-ends : (meant : List ℕ → Result (List ℕ) Refusal) (input : Option (List ℕ)) (e : Refusal) (old new : Option (List ℕ)) (bytes : List ℕ)
    → Withholds meant input e old new → input ≡ Some bytes → EndsBy (meant bytes) EXIT_REFUSED old new
refused-ends meant input e old new bytes (inl (why, keeps)) known = kept (meant bytes) old new keeps
refused-ends meant input e old new bytes (inr (page, is, out)) known =
    subst (λ (r : Result (List ℕ) Refusal). EndsBy r EXIT_REFUSED old new) (sym (makes-known meant input bytes page is known)) (inr refl)

-- an output that is not touched
pub unchanged : (old : Option (List ℕ)) → Keeps old old
unchanged None = tt
unchanged (Some xs) = refl
