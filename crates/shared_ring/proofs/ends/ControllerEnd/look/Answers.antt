-- The places tell how far the tail is ahead.
use Rattle.shared_ring.specs.Ends.{controller_of}
use Rattle.shared_ring.proofs.Serving.{look-found}
use Rattle.shared_ring.proofs.ends.ControllerEnd.look.Goals as goal

pub returns-clause-step : goal.returns-clause-step
returns-clause-step g c = look-found (controller_of g.R.Direction.form (g.Self.ControllerEnd.side c.args.self.now)) (controller_of g.R.Direction.form (g.Self.ControllerEnd.side c.load.new.self)) c.load.result c.load.ensures c.at.result c.at.ensures
