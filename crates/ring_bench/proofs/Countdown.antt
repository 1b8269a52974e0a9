-- Which frames ask for a report, counted down.
use Rattle.std.proofs.Common.{◌≡◌, ◌≢◌, ◌∙◌, ℕ, ◌+◌, ◌-◌, ◌%◌, ◌<◌, Bool, false, sym, ap, arith, mod-lt, mod-eq_of_lt, ⊎_elim}
use Rattle.std.specs.Prelude.{◌||◌, ◌==◌}
use Rattle.std.proofs.lemmas.Bool.{eqb-true, cases_Bool}
use Rattle.std.proofs.Math.Nat.{mod-add-mod, mod_self}
use Rattle.ring_bench.specs.declared.tx.words.TxPlan.{TxPlan}
use Rattle.ring_bench.specs.Sending.{IsCourse, asks_after}

neqb : (a b : ℕ) → a ≢ b → (a == b) ≡ false
neqb a b h = ⊎_elim (λ t. absurd (h (eqb-true a b t))) (λ f. f) (cases_Bool (a == b))

-- the last before a report: after it as many are to come as at first
turns : (n k : ℕ) → k % n + 1 ≡ n → (k + 1) % n ≡ 0
turns n k e = sym (mod-add-mod k n 1) ∙ (ap (λ (m : ℕ). m % n) e ∙ mod_self n)

goes_on : (n k : ℕ) → k % n + 1 < n → (k + 1) % n ≡ k % n + 1
goes_on n k h = sym (mod-add-mod k n 1) ∙ mod-eq_of_lt h

module _ (plan : TxPlan) (posted until : ℕ) (c : IsCourse plan posted until) where
  some_left : 0 < until
  some_left = let s = c.some in let m = mod-lt posted s in let d = c.due in omega arith

  pub course-turns : until ≡ 1 → posted < plan.load.frames → IsCourse plan (posted + 1) plan.report
  course-turns one h = let d = c.due in let t = turns plan.report posted (omega arith) in record { some = c.some; few = omega arith; due = omega arith }

  pub course-goes_on : until ≢ 1 → posted < plan.load.frames → IsCourse plan (posted + 1) (until - 1)
  course-goes_on more h = let d = c.due in let s = some_left in let t = goes_on plan.report posted (omega arith) in record { some = c.some; few = omega arith; due = omega arith }

  -- where the countdown is over a report is asked for, and else with the last alone
  pub asks-turns : until ≡ 1 → (until == 1) ≡ asks_after plan posted
  asks-turns one = let d = c.due in
      ap (λ (k : ℕ). k == 1) one ∙ sym (ap (λ (m : ℕ). (m == 0) || (posted + 1 == plan.load.frames)) (turns plan.report posted (omega arith)))

  pub asks-goes_on : until ≢ 1 → (posted + 1 == plan.load.frames) ≡ asks_after plan posted
  asks-goes_on more = let d = c.due in let s = some_left in let t = goes_on plan.report posted (omega arith) in
      sym (ap (λ (b : Bool). b || (posted + 1 == plan.load.frames)) (neqb ((posted + 1) % plan.report) 0 (omega arith)))
