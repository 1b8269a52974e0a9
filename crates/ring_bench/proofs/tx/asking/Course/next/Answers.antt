use Rattle.std.proofs.Common.{◌∙◌, ◌+◌, ◌<◌, sym, ap, subst}
use Rattle.ring_bench.specs.Sending.{Progress, IsCourse, asks_after}
use Rattle.ring_bench.proofs.Countdown.{course-turns, course-goes_on, asks-turns, asks-goes_on}
use Rattle.ring_bench.proofs.tx.asking.Course.next.Goals as goal
use Rattle.ring_bench.proofs.tx.asking.Course.next.Goals.{then-due, else-due, then-due-2, else-due-2}

pub invariant_of-self : goal.invariant_of-self
invariant_of-self c =
    let i = c.self.inside in
    let more = subst (λ (p : Progress). p.posted < p.plan.load.frames) (sym c.self.view_is) c.requires in elim c.if-due.branch [
      | then-due w ↦ subst (IsCourse i.plan (i.posted + 1)) (sym w.self-is) (course-turns i.plan i.posted i.until c.self.invariant w.if-due.true more)
      | else-due w ↦ subst (IsCourse i.plan (i.posted + 1)) (sym w.self-is) (course-goes_on i.plan i.posted i.until c.self.invariant w.if-due.false more)
    ]

pub returns-clause-asks : goal.returns-clause-asks
returns-clause-asks c =
    let i = c.self.inside in
    let seen = ap (λ (p : Progress). asks_after p.plan p.posted) c.self.view_is in elim c.if-due-2.branch [
      | then-due-2 w ↦ w.result-is ∙ (asks-turns i.plan i.posted i.until c.self.invariant w.if-due-2.true ∙ seen)
      | else-due-2 w ↦ w.result-is ∙ (asks-goes_on i.plan i.posted i.until c.self.invariant w.if-due-2.false ∙ seen)
    ]
