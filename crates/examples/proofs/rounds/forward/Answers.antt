-- No buffer comes in or goes out by a batch that is received, nor by one that is sent.
use Rattle.limits.specs.declared.profile.TheConstants.{MOST_BATCH}
use Rattle.buffer_accounting.specs.Lent.{lent}
use Rattle.examples.proofs.Moving.{same-trans, batch-received, batch-sent}
use Rattle.examples.proofs.rounds.forward.Goals as goal

pub returns-clause-moved : goal.returns-clause-moved
returns-clause-moved c =
    let received = batch-received MOST_BATCH c.args.rx.now.batch c.args.rx.now c.rx_batch.new.self c.args.stash.now c.rx_batch.new.stash c.args.packets.now.items c.rx_batch.new.packets.items
    c.rx_batch.result c.rx_batch.ensures.unchanged c.rx_batch.ensures.done c.args.tx.now in
    let sent = batch-sent c.args.tx.now c.tx_batch.new.self c.rx_batch.new.stash c.tx_batch.new.stash c.rx_batch.new.packets.items c.tx_batch.new.packets.items
    c.tx_batch.result c.tx_batch.ensures.refusal c.tx_batch.ensures.unchanged c.tx_batch.ensures.cleaned c.tx_batch.ensures.done c.rx_batch.new.self in
    same-trans (lent c.args.rx.now c.args.tx.now c.args.stash.now c.args.packets.now.items) (lent c.rx_batch.new.self c.args.tx.now c.rx_batch.new.stash c.rx_batch.new.packets.items)
    (lent c.rx_batch.new.self c.tx_batch.new.self c.tx_batch.new.stash c.tx_batch.new.packets.items) received sent
