-- What holds at the beginning and is kept by each step holds of all that schedules give; and what each step leads to follows from what went before.
use Rattle.std.proofs.Common.{◌≡◌, Bool, true, false, List, [], ◌∷◌, ◌++◌, refl, ap, ◌∙◌, subst, if◌then◌else◌}
use Rattle.ring_model.specs.shared.Schedules.{next, after_all, IsReached}

module _ {State Step : Type 0} (can : State → Step → Bool) (changed : State → Step → State) where
  pub after-append : (r : State) (ss more : List Step) → after_all can changed r (ss ++ more) ≡ after_all can changed (after_all can changed r ss) more
  after-append r [] more = refl
  after-append r (s ∷ ss) more = after-append (next can changed r s) ss more

  pub next-happens : (r : State) (s : Step) → can r s ≡ true → next can changed r s ≡ changed r s
  next-happens r s e = ap (λ (b : Bool). if b then changed r s else r) e

  pub reached-more : {Beginning : Type 0} (opening : Beginning → State) (r : State) (more : List Step) → IsReached can changed opening r → IsReached can changed opening (after_all can changed r more)
  reached-more opening r more e = record {
    beginning = e.beginning;
    schedule = e.schedule ++ more;
    made = after-append (opening e.beginning) e.schedule more ∙ ap (λ (q : State). after_all can changed q more) e.made;
  }

  pub reached-opening : {Beginning : Type 0} (opening : Beginning → State) (b : Beginning) → IsReached can changed opening (opening b)
  reached-opening opening b = record { beginning = b; schedule = []; made = refl }

  pub reached-next : {Beginning : Type 0} (opening : Beginning → State) (r : State) (s : Step) → IsReached can changed opening r → IsReached can changed opening (next can changed r s)
  reached-next opening r s e = reached-more opening r (s ∷ []) e

  pub reached-changed : {Beginning : Type 0} (opening : Beginning → State) (r : State) (s : Step) → can r s ≡ true → IsReached can changed opening r → IsReached can changed opening (changed r s)
  reached-changed opening r s may e = subst (λ (q : State). IsReached can changed opening q) (next-happens r s may) (reached-more opening r (s ∷ []) e)

  module _ (Kept : State → Type 0) (step : (r : State) (s : Step) → Kept r → can r s ≡ true → Kept (changed r s)) where
    kept-if : (r : State) (s : Step) (happens : Bool) → can r s ≡ happens → Kept r → Kept (if happens then changed r s else r)
    kept-if r s true e k = step r s k e
    kept-if r s false e k = k

    pub kept-next : (r : State) (s : Step) → Kept r → Kept (next can changed r s)
    kept-next r s k = kept-if r s (can r s) refl k

    pub kept-all : (r : State) (ss : List Step) → Kept r → Kept (after_all can changed r ss)
    kept-all r [] k = k
    kept-all r (s ∷ ss) k = kept-all (next can changed r s) ss (kept-next r s k)

    pub kept-reached : {Beginning : Type 0} (opening : Beginning → State) → ((b : Beginning) → Kept (opening b)) → (r : State) → IsReached can changed opening r → Kept r
    kept-reached opening first r e = subst Kept e.made (kept-all (opening e.beginning) e.schedule (first e.beginning))

    module _ (Later : State → State → Type 0) (same : (r : State) → Later r r) (on : (a b c : State) → Later a b → Later b c → Later a c)
        (goes : (r : State) (s : Step) → Kept r → can r s ≡ true → Later r (changed r s)) where
      later-if : (r : State) (s : Step) (happens : Bool) → can r s ≡ happens → Kept r → Later r (if happens then changed r s else r)
      later-if r s true e k = goes r s k e
      later-if r s false e k = same r

      pub later-all : (r : State) (ss : List Step) → Kept r → Later r (after_all can changed r ss)
      later-all r [] k = same r
      later-all r (s ∷ ss) k = on r (next can changed r s) (after_all can changed (next can changed r s) ss) (later-if r s (can r s) refl k) (later-all (next can changed r s) ss (kept-next r s k))
