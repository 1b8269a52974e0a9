-- The agreement allows the step.
use Rattle.std.proofs.Common.{ℕ, ◌+◌, sym, subst}
use Rattle.shared_ring.specs.Own.{MayStore}
use Rattle.tx_ring.specs.Form.{tx}
use Rattle.tx_ring.specs.Plays.{reports}
use Rattle.tx_ring.proofs.Owning.{may-report_head}
use Rattle.tx_ring.proofs.steps.controller.report_head.Goals as goal

pub store_own-requires-clause-may : goal.store_own-requires-clause-may
store_own-requires-clause-may c = let e = c.args.seat.now in subst (λ (n : ℕ). MayStore tx reports e.table.slots e.completion e.events (n + 4) c.args.head) (sym c.size.ensures.value) (may-report_head e.table.slots e.completion e.events c.args.head c.requires.more c.requires.head c.requires.serving c.requires.owed)
