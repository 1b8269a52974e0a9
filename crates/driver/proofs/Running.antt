-- Runs of steps, one behind another.
use Rattle.std.proofs.Common.{◌≡◌, ◌∙◌, Bool, true, List, [], ◌∷◌, ◌++◌, sym, ap, append_assoc, append-nil}
use Rattle.std.proofs.lemmas.List.Elements.{All-nil, All-push, All-append}
use Rattle.shared_ring.specs.declared.events.DriverEvent.{DriverEvent}
use Rattle.shared_ring.specs.Ends.{DriverSide, driver_grown}
use Rattle.shared_ring.specs.Forms.{Form}
use Rattle.driver.specs.Steps.{Runs}

module _ {Ring Posted Completed Reaped D C : Type 0} {form : Form Ring Posted Completed Reaped D C} (kinds : DriverEvent D → Bool) where
  pub runs-none : (d : DriverSide form) → Runs kinds d d
  runs-none d = record { steps = []; step = ap (λ (es : List (DriverEvent D)). let s : DriverSide form = record d { events = es } in s) (sym (append-nil d.events)); only = All-nil (λ e. kinds e ≡ true) }

  pub runs-one : (d new : DriverSide form) (e : DriverEvent D) → new ≡ driver_grown d e → kinds e ≡ true → Runs kinds d new
  runs-one d new e step is = record { steps = e ∷ []; step = step; only = All-push (λ x. kinds x ≡ true) [] e (All-nil (λ x. kinds x ≡ true)) is }

  pub runs-trans : (a b c : DriverSide form) → Runs kinds a b → Runs kinds b c → Runs kinds a c
  runs-trans a b c f g = record {
    steps = f.steps ++ g.steps;
    step = g.step ∙ (ap (λ (s : DriverSide form). let t : DriverSide form = record s { events = s.events ++ g.steps } in t) f.step
        ∙ ap (λ (es : List (DriverEvent D)). let s : DriverSide form = record a { events = es } in s) (append_assoc a.events f.steps g.steps));
    only = All-append (λ e. kinds e ≡ true) f.steps g.steps f.only g.only;
  }

  pub runs-own : (a b : DriverSide form) → Runs kinds a b → b.table ≡ a.table
  runs-own a b f = ap (λ (s : DriverSide form). s.table) f.step

-- steps of some kinds are steps of more kinds
pub runs-more : {Ring Posted Completed Reaped D C : Type 0} {form : Form Ring Posted Completed Reaped D C} (some more : DriverEvent D → Bool) (a b : DriverSide form)
    → ((e : DriverEvent D) → some e ≡ true → more e ≡ true) → Runs some a b → Runs more a b
runs-more some more a b wider f = record { steps = f.steps; step = f.step; only = λ k d l. wider _ (f.only k d l) }
