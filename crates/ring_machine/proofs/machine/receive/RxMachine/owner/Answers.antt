-- The owner is the map's.
use Rattle.std.proofs.Common.{◌<◌, sym, subst}
use Rattle.ring_machine.specs.receive.Machine.{RxParts, RxOwns, rx_parts_of}
use Rattle.ring_machine.proofs.receive.Running.{rx_owns}
use Rattle.ring_machine.proofs.machine.receive.RxMachine.owner.Goals as goal

pub returns : goal.returns
returns c = subst (λ (p : RxParts). RxOwns p c.args.place c.owner.result) c.self.view_is
    (rw c.owner.ensures.told (rx_owns (rx_parts_of c.self.inside) c.args.place c.owner.ensures.sound (subst (λ (p : RxParts). c.args.place < p.queue.size) (sym c.self.view_is) c.requires)))
