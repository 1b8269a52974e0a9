-- A record whose last posting ends a frame has nothing unfinished.
use Rattle.std.proofs.Common.{◌≡◌, [], sym, ◌∙◌, subst}
use Rattle.ring_model.specs.shared.Frames.{unfinished}
use Rattle.ring_model.specs.transmit.Ring.{carried}
use Rattle.tx_ring.specs.Ends.{DriverSide, posted}
use Rattle.shared_ring.specs.Ends.{driver_of}
use Rattle.tx_ring.specs.Form.{tx}
use Rattle.tx_ring.proofs.Whole.{whole-rest}
use Rattle.tx_ring.proofs.driver.TxDriverEnd.is_whole.Goals as goal

pub returns-clause-rest : goal.returns-clause-rest
returns-clause-rest c e = subst (λ (s : DriverSide). unfinished carried (posted s) ≡ []) c.self.view_is (whole-rest (posted (driver_of tx c.self.inside.seat)) (sym c.self.invariant.whole_is ∙ e))
