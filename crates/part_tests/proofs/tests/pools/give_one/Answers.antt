use Rattle.std.proofs.Common.{reverse}
use Rattle.part_tests.proofs.Held.{behind}
use Rattle.part_tests.proofs.tests.pools.give_one.Goals as goal

pub give-requires-clause-held : goal.give-requires-clause-held
give-requires-clause-held g c = rw (c.refill-moved.ensures.moved.took.held, c.in_ok-third.ensures.taken.held)
    (behind (reverse c.refill-moved.ensures.moved.numbers) _ c.in_ok-third.third.number)
