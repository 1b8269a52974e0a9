-- The agreement allows the step.
use Rattle.std.proofs.Common.{ℕ, ◌+◌, sym, subst}
use Rattle.shared_ring.specs.Own.{MayEnd}
use Rattle.rx_ring.specs.Form.{rx}
use Rattle.rx_ring.specs.Plays.{clears_quiet}
use Rattle.rx_ring.proofs.Owning.{may-clear_quiet}
use Rattle.rx_ring.proofs.steps.driver.clear_quiet.Goals as goal

pub end_own-requires-clause-may : goal.end_own-requires-clause-may
end_own-requires-clause-may c = let e = c.args.seat.now in subst (λ (n : ℕ). MayEnd rx clears_quiet e.table.slots e.completion e.events (n + 3)) (sym c.size.ensures.value) (may-clear_quiet e.table.slots e.completion e.events c.requires.tailed)
