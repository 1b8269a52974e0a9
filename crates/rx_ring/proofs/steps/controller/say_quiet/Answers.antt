-- The agreement allows the step.
use Rattle.std.proofs.Common.{ℕ, ◌+◌, sym, subst}
use Rattle.shared_ring.specs.Own.{MayStore}
use Rattle.rx_ring.specs.Form.{rx}
use Rattle.rx_ring.specs.Plays.{says_quiet}
use Rattle.rx_ring.specs.Records.{controlling}
use Rattle.rx_ring.proofs.Owning.{may-say_quiet}
use Rattle.rx_ring.proofs.Words.{number-none}
use Rattle.rx_ring.proofs.steps.controller.say_quiet.Goals as goal

pub store_own-requires-clause-may : goal.store_own-requires-clause-may
store_own-requires-clause-may c = let e = c.args.seat.now in subst (λ (n : ℕ). MayStore rx says_quiet e.table.slots e.completion e.events (n + 3) 1) (sym c.size.ensures.value) (may-say_quiet e.table.slots e.completion e.events c.requires.serving (number-none (controlling e.table.slots e.events).held c.requires.held) c.requires.at_frame_end)
