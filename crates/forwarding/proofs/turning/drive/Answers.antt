use Rattle.forwarding.specs.Driving.{Sent, driving}
use Rattle.forwarding.proofs.Drives.{received-moved, drove-can, drove-moved, sent-waiting, unmoved}
use Rattle.forwarding.proofs.turning.drive.Goals as goal

pub returns-in_err-admit-clause-moved : goal.returns-in_err-admit-clause-moved
returns-in_err-admit-clause-moved g c = unmoved (driving c.args.rx.now c.args.tx.now c.args.stash.now c.args.packets.now.items)

pub returns-in_err-admit-2-clause-moved : goal.returns-in_err-admit-2-clause-moved
returns-in_err-admit-2-clause-moved g c = received-moved c.args.from.now c.args.to.now (driving c.args.rx.now c.args.tx.now c.args.stash.now c.args.packets.now.items) c.requires.can
    c.receive-taken.result c.receive-taken.new.rx c.receive-taken.new.stash c.receive-taken.new.packets.items c.receive-taken.ensures.received

pub returns-clause-can : goal.returns-clause-can
returns-clause-can g c =
    let list = c.receive-taken.new.packets.items in
    let left = c.tx_batch.new.packets.items in
    let sent : Sent c.in-Ok.posted c.args.tx.now c.receive-taken.new.stash list c.tx_batch.new.self c.tx_batch.new.stash left = record { batch = c.in-Ok.ensures.done; own = c.tx_batch.ensures.ring; framed = c.in-Ok.ensures.frames } in
    drove-can c.args.from.now c.args.to.now (driving c.args.rx.now c.args.tx.now c.args.stash.now c.args.packets.now.items) c.requires.can
    c.receive-taken.result c.receive-taken.new.rx c.receive-taken.new.stash list c.receive-taken.ensures.received
    c.in-Ok.posted c.tx_batch.new.self c.tx_batch.new.stash left sent (sent-waiting c.args.from.now.slots c.in-Ok.posted list left c.in-Ok.ensures.done.posting.left c.receive-taken.ensures.waiting)

pub returns-clause-moved : goal.returns-clause-moved
returns-clause-moved g c =
    let sent : Sent c.in-Ok.posted c.args.tx.now c.receive-taken.new.stash c.receive-taken.new.packets.items c.tx_batch.new.self c.tx_batch.new.stash c.tx_batch.new.packets.items = record { batch = c.in-Ok.ensures.done; own = c.tx_batch.ensures.ring; framed = c.in-Ok.ensures.frames } in
    drove-moved c.args.from.now c.args.to.now (driving c.args.rx.now c.args.tx.now c.args.stash.now c.args.packets.now.items) c.requires.can
    c.receive-taken.result c.receive-taken.new.rx c.receive-taken.new.stash c.receive-taken.new.packets.items c.receive-taken.ensures.received
    c.in-Ok.posted c.tx_batch.new.self c.tx_batch.new.stash c.tx_batch.new.packets.items sent
