-- The queue's own machine makes the step, or there is no such queue.
use Rattle.std.proofs.Common.{ℕ, ◌≤◌, length, ◌∙◌, subst, refl, Err, arith}
use Rattle.std.specs.Prelude.{slice_set}
use Rattle.std.proofs.lemmas.Option.{slice_get_read}
use Rattle.refusals.specs.declared.errors.MachineError.TheVariants.{NotEnabled}
use Rattle.ring_machine.specs.declared.moves.Move.TheVariants.{Receive}
use Rattle.ring_machine.specs.Queues.{QueueParts, QueuesFollow}
use Rattle.ring_machine.proofs.SideBySide.{past-end, receive-follows, receive-missing}
use Rattle.ring_machine.proofs.queues.Queues.receive_step.Goals as goal

pub returns-in_default-clause-follows : goal.returns-in_default-clause-follows
returns-in_default-clause-follows c = let old : QueueParts = record { receive = c.self.inside.receive.items; transmit = c.self.inside.transmit.items } in let queue = c.from.ensures ∙ c.number.ensures in
    let past : length old.receive ≤ c.from.result = let past_len = past-end c.from.result c.self.inside.receive.len c.in_default.ensures.variant.1 in let l = c.self.inside.receive.ok in omega arith in
    let follows = subst (λ (q : ℕ). QueuesFollow old (Receive q c.args.step) (Err NotEnabled) old) queue (receive-missing old c.from.result c.args.step past) in
    subst (λ (p : QueueParts). QueuesFollow p (Receive c.args.queue c.args.step) (Err NotEnabled) old) c.self.view_is follows

pub returns-clause-follows : goal.returns-clause-follows
returns-clause-follows c = let old : QueueParts = record { receive = c.self.inside.receive.items; transmit = c.self.inside.transmit.items } in let queue = c.from.ensures ∙ c.number.ensures in
    let item = c.in-Some.ensures.item in
    let here = slice_get_read old.receive (length old.receive) c.from.result c.in-Some.machine.now refl item.3.0 c.in-Some.ensures.value in
    let new : QueueParts = record { receive = slice_set old.receive c.from.result c.step.new.self; transmit = old.transmit } in
    let follows = subst (λ (q : ℕ). QueuesFollow old (Receive q c.args.step) c.step.result new) queue (receive-follows old c.from.result c.args.step c.in-Some.machine.now c.step.new.self c.step.result here c.step.ensures.follows) in
    subst (λ (p : QueueParts). QueuesFollow p (Receive c.args.queue c.args.step) c.step.result new) c.self.view_is follows
