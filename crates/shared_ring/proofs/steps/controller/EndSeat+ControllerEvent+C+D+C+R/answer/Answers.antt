-- The answer, and what the places then tell.
use Rattle.std.proofs.Common.{sym, ap, ◌∙◌}
use Rattle.shared_ring.specs.Ends.{controller_of}
use Rattle.shared_ring.proofs.Serving.{disable-keeps, enable-keeps, disabled-is, enabled-is, asks-disable}
use Rattle.shared_ring.proofs.steps.controller.EndSeat+ControllerEvent+C+D+C+R.answer.Goals as goal

pub tell-requires-clause-may : goal.tell-requires-clause-may
tell-requires-clause-may g c = asks-disable (controller_of g.R.Direction.form c.args.self.now) c.args.at.now c.requires.at c.requires.asked (sym c.is_serving.ensures ∙ c.if-is_serving.true)

pub returns-then-is_serving-clause-answered : goal.returns-then-is_serving-clause-answered
returns-then-is_serving-clause-answered g c = disabled-is (controller_of g.R.Direction.form c.args.self.now) c.args.at.now c.requires.at (controller_of g.R.Direction.form c.tell.new.self) (sym c.is_serving.ensures ∙ c.if-is_serving.true) (ap (controller_of g.R.Direction.form) c.tell.ensures)

pub returns-then-is_serving-clause-at : goal.returns-then-is_serving-clause-at
returns-then-is_serving-clause-at g c = disable-keeps (controller_of g.R.Direction.form c.args.self.now) c.args.at.now c.requires.at c.requires.asked (controller_of g.R.Direction.form c.tell.new.self) (sym c.is_serving.ensures ∙ c.if-is_serving.true) (ap (controller_of g.R.Direction.form) c.tell.ensures)

pub returns-else-is_serving-clause-answered : goal.returns-else-is_serving-clause-answered
returns-else-is_serving-clause-answered g c = enabled-is (controller_of g.R.Direction.form c.args.self.now) c.args.at.now c.requires.at (controller_of g.R.Direction.form c.tell-else-is_serving.new.self) (sym c.is_serving.ensures ∙ c.if-is_serving.false) (ap (controller_of g.R.Direction.form) c.tell-else-is_serving.ensures)

pub returns-else-is_serving-clause-at : goal.returns-else-is_serving-clause-at
returns-else-is_serving-clause-at g c = enable-keeps (controller_of g.R.Direction.form c.args.self.now) c.args.at.now c.requires.at (controller_of g.R.Direction.form c.tell-else-is_serving.new.self) (sym c.is_serving.ensures ∙ c.if-is_serving.false) (ap (controller_of g.R.Direction.form) c.tell-else-is_serving.ensures)
