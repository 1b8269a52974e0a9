-- The two ends' own places tell which buffers come back.
use Rattle.std.proofs.Common.{sym, ◌∙◌}
use Rattle.shared_ring.specs.Ends.{driver_of, controller_of}
use Rattle.rx_ring.specs.Form.{rx}
use Rattle.rx_ring.specs.Meeting.{IsClosed, AllReal, AllCameBack}
use Rattle.shared_ring.proofs.Closed.{as-seen}
use Rattle.rx_ring.proofs.Closing.{closed}
use Rattle.rx_ring.proofs.making.close.Goals as goal

pub returns : goal.returns
returns c = let i = c.driver.inside in let j = c.controller.inside in
    let all = as-seen (λ d e. IsClosed d e c.take_apart.result.items × AllReal c.take_apart.result.items × AllCameBack d e c.take_apart.result.items) (driver_of rx i.seat) c.args.driver (controller_of rx j.seat) c.args.controller c.driver.view_is c.controller.view_is
    (c.requires.controller ∙ sym c.requires.driver) (λ same. closed (driver_of rx i.seat) (controller_of rx j.seat) i.at c.driver.invariant.poster same j.at c.controller.invariant.server c.take_apart.result.items c.take_apart.ensures) in
    record { places = all.0; real = all.1; once = all.2 }
