use Rattle.std.proofs.Common.{rules}
use Rattle.buffer_accounting.proofs.Giving.{none-sent}
use Rattle.buffer_accounting.proofs.Returns.{reclaiming-moves}
use Rattle.buffer_accounting.proofs.lent.TxDriverLentDriverTxDriverOwnTxControllerOwnTxRule.give_into.Goals as goal

pub returns-clause-moved : goal.returns-clause-moved
returns-clause-moved c = reclaiming-moves.sent c.args.self.now c.reclaim_into.new.self c.args.stash.now c.reclaim_into.new.stash ((c.reclaim_into.ensures.back c.requires.stopped).ring)

pub returns-clause-none : goal.returns-clause-none
returns-clause-none c = λ done. none-sent c.reclaim_into.new.self (search rules)
