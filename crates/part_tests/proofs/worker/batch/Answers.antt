use Rattle.std.proofs.Common.{List, ℕ, subst}
use Rattle.pool.specs.Bulk.{Refilled}
use Rattle.part_tests.proofs.Returned.{returned}
use Rattle.part_tests.proofs.worker.batch.Goals as goal

pub returns-clause-idle : goal.returns-clause-idle
returns-clause-idle g c =
    let moved = subst (λ (stash : List ℕ). Refilled c.args.pass.now.hand stash c.refill-taken.result c.refill-taken.new.pass.hand c.refill-taken.new.stash)
    c.requires.empty c.refill-taken.ensures.moved in
    returned _ _ _ c.refill-taken.new.stash _ _ c.requires.idle moved c.give_all.ensures.how_many c.give_all.ensures.gave
