-- The agreement allows the step.
use Rattle.std.proofs.Common.{ℕ, sym, subst}
use Rattle.shared_ring.specs.InPlace.{MayRead, ReadNext}
use Rattle.tx_ring.specs.Form.{tx}
use Rattle.tx_ring.specs.Plays.{sends}
use Rattle.tx_ring.proofs.InPlace.{may-read, sent-at}
use Rattle.tx_ring.proofs.steps.controller.send_next.Goals as goal

pub read_own-requires-clause-may : goal.read_own-requires-clause-may
read_own-requires-clause-may g c = let e = c.args.seat.now in subst (λ (n : ℕ). MayRead tx sends e.table.slots e.completion e.events c.args.place n c.args.head g.S.Sink.may c.args.sink.now) (sym c.size-index.ensures.value)
    (may-read g.S.Sink.may g.S.Sink.took e c.args.place c.args.head c.args.sink.now c.requires.place c.requires.head c.requires.serving c.requires.takes)

pub returns : goal.returns
returns g c = let e = c.args.seat.now in sent-at g.S.Sink.may g.S.Sink.took e c.args.place c.args.head c.args.sink.now c.read_own.result c.read_own.new.self c.read_own.new.sink
    (subst (λ (n : ℕ). ReadNext tx sends g.S.Sink.took e c.args.place n c.args.head c.args.sink.now c.read_own.result c.read_own.new.sink c.read_own.new.self) c.size-index.ensures.value c.read_own.ensures)
