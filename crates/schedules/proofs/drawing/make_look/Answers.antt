use Rattle.std.proofs.Common.{◌≡◌, ◌∙◌, ℕ, ap, subst}
use Rattle.std.specs.Prelude.{IfSome, Option}
use Rattle.ring_model.specs.declared.steps.ControlStep.TheVariants.{LookAsked}
use Rattle.ring_model.specs.declared.steps.RxStep.TheVariants.{Control}
use Rattle.ring_machine.specs.declared.moves.Move.TheVariants.{Receive}
use Rattle.schedules.proofs.Foretelling.{look-happens}
use Rattle.schedules.proofs.drawing.make_look.Goals as goal

pub returns-clause-happens : goal.returns-clause-happens
returns-clause-happens c =
    let first = subst (λ (q : Option ℕ). IfSome q (λ k. k ≡ 0)) c.unwrap-queue.ensures c.new.ensures.value in
    look-happens c.args.queues.now c.make.new.queues c.make.result (c.make.ensures.action ∙ ap (λ (q : ℕ). Receive q (Control LookAsked)) first) c.make.ensures.draws
