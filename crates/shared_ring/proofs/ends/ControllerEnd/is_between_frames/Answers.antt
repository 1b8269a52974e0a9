-- Between two frames nothing is unfinished.
use Rattle.std.proofs.Common.{sym, ◌∙◌}
use Rattle.shared_ring.specs.Ends.{controller_of, completed}
use Rattle.shared_ring.proofs.Serving.{at_frame_end-rest}
use Rattle.shared_ring.proofs.ends.ControllerEnd.is_between_frames.Goals as goal

pub returns-clause-rest : goal.returns-clause-rest
returns-clause-rest g c e = at_frame_end-rest g.R.Direction.form.carries (completed (controller_of g.R.Direction.form (g.Self.ControllerEnd.side c.args.self.now))) (sym c.at.ensures.at_frame_end_is ∙ e)
