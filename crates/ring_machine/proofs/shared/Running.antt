-- A machine that follows its ring step by step follows it through every schedule.
use Rattle.std.proofs.Common.{◌≡◌, ℕ, suc, ◌+◌, ◌<◌, Bool, true, false, List, [], ◌∷◌, ◌++◌, length, take, get_or, Some, None, sym, refl, ap, ◌∙◌, subst, arith, if◌then◌else◌}
use Rattle.std.specs.Prelude.{Result, Ok, Err}
use Rattle.std.specs.Option.{ok_or}
use Rattle.std.proofs.lemmas.List.{take_more}
use Rattle.ring_model.specs.declared.notes.Note.{Note}
use Rattle.ring_model.specs.shared.QueueSteps.{QueueStep, Post}
use Rattle.ring_model.specs.shared.Queue.{Queue, by}
use Rattle.ring_model.specs.shared.Schedules.{after_all, happened, next}
use Rattle.ring_laws.specs.Schedules.{after-append}
use Rattle.refusals.specs.declared.errors.MachineError.{MachineError}
use Rattle.refusals.specs.declared.errors.MachineError.TheVariants as refusal
use Rattle.ring_machine.specs.shared.Following.{Did, Follows, Runs, count_of}

-- no step changes how many places a queue has
pub by-size : {Posted Completed Reaped : Type 0} (q : Queue Posted Completed Reaped) (s : QueueStep Posted Completed Reaped) → (by q s).size ≡ q.size
by-size q (Post x) = refl
by-size q _ = refl

-- what is kept of a ring of n places is kept of one of as many; its machine tells that they are two or more
pub kept-there : (Kept : ℕ → Type 0) (n size places : ℕ) → size ≡ n → 1 < places → places ≡ size → (1 < n → Kept n) → Kept size
kept-there Kept n size places same some is kept = subst Kept (sym same) (kept (omega arith))

module _ {State Step : Type 0} (can : State → Step → Bool) (changed : State → Step → State) where
  counted : (x y : ℕ) (happens : Bool) → (if happens then suc (x + y) else (x + y)) ≡ (if happens then suc x else x) + y
  counted x y true = let e : suc (x + y) ≡ suc x + y = omega arith in e
  counted x y false = refl

  pub happened-append : (r : State) (ss more : List Step) → happened can changed r (ss ++ more) ≡ happened can changed r ss + happened can changed (after_all can changed r ss) more
  happened-append r [] more = let e : happened can changed r more ≡ 0 + happened can changed r more = omega arith in e
  happened-append r (s ∷ ss) more = ap (λ (x : ℕ). if can r s then suc x else x) (happened-append (next can changed r s) ss more)
      ∙ counted (happened can changed (next can changed r s) ss) (happened can changed (after_all can changed (next can changed r s) ss) more) (can r s)

  -- one schedule after another, from one ring
  pub joined : {Parts : Type 0} (Agree : Parts → State → Type 0) (c : Parts) (r : State) (ss more : List Step) (x y : ℕ) → x ≡ happened can changed r ss
      → Agree c (after_all can changed (after_all can changed r ss) more) × (y ≡ happened can changed (after_all can changed r ss) more)
      → Agree c (after_all can changed r (ss ++ more)) × (x + y ≡ happened can changed r (ss ++ more))
  joined Agree c r ss more x y e t = (
    subst (λ (z : State). Agree c z) (sym (after-append can changed r ss more)) t.0,
    ap (λ (i : ℕ). i + y) e ∙ ap (λ (i : ℕ). happened can changed r ss + i) t.1 ∙ sym (happened-append r ss more),
  )

  -- a step is counted where it is made
  pub counts-one : (tells : Note) (told : Note) (happens : Bool) → Ok told ≡ ok_or (if happens then Some tells else None) refusal.NotEnabled → 1 ≡ (if happens then suc 0 else 0)
  counts-one tells told true e = refl
  counts-one tells told false e = let bad : ⊥ = cc e in absurd bad

  pub counts-none : (tells : Note) (why : MachineError) (happens : Bool) → Err why ≡ ok_or (if happens then Some tells else None) refusal.NotEnabled → 0 ≡ (if happens then suc 0 else 0)
  counts-none tells why true e = let bad : ⊥ = cc e in absurd bad
  counts-none tells why false e = refl

module _ {Parts State Step : Type 0} (Agree : Parts → State → Type 0) (Reached : ℕ → State → Type 0) (can : State → Step → Bool) (changed : State → Step → State) (tells : State → Step → Note) where
  -- whatever a step answers, it is a schedule of one step, which is counted where it was made
  pub runs-answer : (a b : Parts) (s : Step) (told : Result Note MachineError) → Follows Agree Reached can changed tells a s told b → Runs Agree Reached can changed tells a (s ∷ []) (count_of told) b
  runs-answer a b s (Ok note) follows n r e g = let d = follows n r e g in (d.agrees, counts-one can changed (tells r s) note (can r s) d.answer)
  runs-answer a b s (Err why) follows n r e g = let d = follows n r e g in (d.agrees, counts-none can changed (tells r s) why (can r s) d.answer)

  pub runs-nil : (a : Parts) → Runs Agree Reached can changed tells a [] 0 a
  runs-nil a n r e g = (g, refl)

  pub runs-append : ((n : ℕ) (r : State) (ss : List Step) → Reached n r → Reached n (after_all can changed r ss)) → (a b c : Parts) (ss more : List Step) (x y : ℕ)
      → Runs Agree Reached can changed tells a ss x b → Runs Agree Reached can changed tells b more y c → Runs Agree Reached can changed tells a (ss ++ more) (x + y) c
  runs-append goes_on a b c ss more x y f g n r e h = let first = f n r e h in joined can changed Agree c r ss more x y first.1 (g n (after_all can changed r ss) (goes_on n r ss e) first.0)

  -- what a step of a machine is, whether it happened or not
  pub did-made : (a b : Parts) (r : State) (s : Step) → can r s ≡ true → Agree b (changed r s) → Did Agree (if can r s then Some (tells r s) else None) (next can changed r s) (Ok (tells r s)) a b
  did-made a b r s e g = rw e (record { answer = refl; agrees = g; kept = λ none. let bad : ⊥ = cc none in absurd bad })

  pub did-refused : (a : Parts) (r : State) (s : Step) → can r s ≡ false → Agree a r → Did Agree (if can r s then Some (tells r s) else None) (next can changed r s) (Err refusal.NotEnabled) a a
  did-refused a r s e g = rw e (record { answer = refl; agrees = g; kept = λ none. refl })

-- a schedule goes on by one step, where `Runs` goes on from one schedule to the next
pub runs-longer : {Parts Step : Type 0} (Runs : Parts → List Step → ℕ → Parts → Type 0)
    → ((a b c : Parts) (ss more : List Step) (x y : ℕ) → Runs a ss x b → Runs b more y c → Runs a (ss ++ more) (x + y) c)
    → (a b c : Parts) (ss : List Step) (i : ℕ) (s : Step) (x y : ℕ) → i < length ss → s ≡ get_or ss i s
    → Runs a (take i ss) x b → Runs b (s ∷ []) y c → Runs a (take (i + 1) ss) (x + y) c
runs-longer Runs append a b c ss i s x y inside is before now =
    rw (take_more ss i s inside ∙ ap (λ t. take i ss ++ t ∷ []) (sym is)) (append a b c (take i ss) (s ∷ []) x y before now)
