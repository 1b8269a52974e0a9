-- The agreement allows the step.
use Rattle.std.proofs.Common.{ℕ, ◌+◌, sym, subst}
use Rattle.shared_ring.specs.Own.{MayLoad}
use Rattle.rx_ring.specs.Form.{rx}
use Rattle.rx_ring.specs.Plays.{loads_quiet, IsBit}
use Rattle.rx_ring.proofs.Owning.{may-load_quiet}
use Rattle.rx_ring.proofs.steps.driver.load_quiet.Goals as goal

pub load_own-requires-clause-may : goal.load_own-requires-clause-may
load_own-requires-clause-may c = let e = c.args.seat.now in subst (λ (n : ℕ). MayLoad rx loads_quiet IsBit e.table.slots e.completion e.events (n + 3)) (sym c.size.ensures.value) (may-load_quiet e.table.slots e.completion e.events)
