-- Each turn brings the next slot to the front; after the last of the ring stands the first.
use Rattle.std.proofs.Common.{◌≡◌, sym, ap, ◌∙◌, arith}
use Rattle.std.proofs.Math.Nat.{mod_self, zero-mod}
use Rattle.atomic_table.specs.Table.{turned}
use Rattle.shared_ring.specs.Slots.{empty_slots}
use Rattle.shared_ring.proofs.Folds.{slots-turned, slots-alike}
use Rattle.shared_ring.proofs.steps.own.turn_round.Goals as goal

pub loop-preserved : goal.loop-preserved
loop-preserved g c = let i = c.loop.invariant in let t = c.turn.ensures in
    (t.0 ∙ i.0, t.1 ∙ i.1, ap (λ m. m.0) t.2 ∙ i.2, ap (λ m. m.1) t.2 ∙ ap turned i.3 ∙ slots-turned c.args.size c.loop.counter (let h = c.loop-test.true in omega arith))

pub returns-clause-turned : goal.returns-clause-turned
returns-clause-turned g c = let i = c.loop.invariant in let a = c.loop.auto.counter-end in let p = c.requires.place in let f = c.loop-test.false in
    let e : c.loop.counter ≡ c.args.size = omega arith in
    i.3 ∙ ap (λ k. empty_slots c.args.size k c.args.size) e ∙ slots-alike c.args.size c.args.size 0 c.args.size (mod_self c.args.size ∙ sym (zero-mod c.args.size))
