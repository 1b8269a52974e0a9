use Rattle.std.proofs.Common.{rules}
use Rattle.buffer_accounting.proofs.Giving.{none-received}
use Rattle.buffer_accounting.proofs.Returns.{reclaiming-moves}
use Rattle.buffer_accounting.proofs.lent.RxDriverLentDriverRxDriverOwnRxControllerOwnRxRule.give_into.Goals as goal

pub returns-clause-moved : goal.returns-clause-moved
returns-clause-moved c = reclaiming-moves.received c.args.self.now c.reclaim_into.new.self c.args.stash.now c.reclaim_into.new.stash (c.reclaim_into.ensures.back c.requires.stopped)

pub returns-clause-none : goal.returns-clause-none
returns-clause-none c = λ done. none-received c.reclaim_into.new.self (search rules)
