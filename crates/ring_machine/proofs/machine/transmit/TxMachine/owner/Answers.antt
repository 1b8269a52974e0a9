-- The owner is the map's.
use Rattle.std.proofs.Common.{◌<◌, sym, subst}
use Rattle.ring_machine.specs.transmit.Machine.{TxParts, TxOwns, tx_parts_of}
use Rattle.ring_machine.proofs.transmit.Running.{tx_owns}
use Rattle.ring_machine.proofs.machine.transmit.TxMachine.owner.Goals as goal

pub returns : goal.returns
returns c = subst (λ (p : TxParts). TxOwns p c.args.place c.owner.result) c.self.view_is
    (rw c.owner.ensures.told (tx_owns (tx_parts_of c.self.inside) c.args.place c.self.invariant.queue (subst (λ (p : TxParts). c.args.place < p.queue.size) (sym c.self.view_is) c.requires)))
