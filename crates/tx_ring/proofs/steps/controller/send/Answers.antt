-- The agreement allows the step.
use Rattle.std.proofs.Common.{ℕ, sym, subst}
use Rattle.shared_ring.specs.Own.{MayReap}
use Rattle.tx_ring.specs.Form.{tx}
use Rattle.tx_ring.specs.Plays.{sends}
use Rattle.tx_ring.proofs.Owning.{may-send}
use Rattle.tx_ring.proofs.steps.controller.send.Goals as goal

pub give_own-requires-clause-may : goal.give_own-requires-clause-may
give_own-requires-clause-may c = let e = c.args.seat.now in subst (λ (n : ℕ). MayReap tx sends e.table.slots e.completion e.events c.args.place n c.args.head c.args.buf) (sym c.size-index.ensures.value) (may-send e.table.slots e.completion e.events c.args.place c.args.head c.args.buf c.requires.place c.requires.head c.requires.serving c.requires.held)
