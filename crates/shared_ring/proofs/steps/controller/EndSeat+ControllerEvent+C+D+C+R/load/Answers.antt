-- What the word tells is kept.
use Rattle.std.proofs.Common.{ℕ, sym, ap, subst}
use Rattle.shared_ring.specs.declared.ends.ControllerLoad.{ControllerLoad}
use Rattle.shared_ring.specs.Calls.{LoadedRequested, LoadedWord}
use Rattle.shared_ring.specs.Ends.{controller_of}
use Rattle.shared_ring.proofs.Serving.{look-keeps, request-keeps, requested}
use Rattle.shared_ring.proofs.steps.controller.EndSeat+ControllerEvent+C+D+C+R.load.Goals as goal

pub returns-in-Tail-clause-at : goal.returns-in-Tail-clause-at
returns-in-Tail-clause-at g c = look-keeps (controller_of g.R.Direction.form c.args.self.now) (controller_of g.R.Direction.form c.look-tail.new.self) c.look-tail.result c.look-tail.ensures c.args.at.now c.places_between-at.result c.requires.at c.places_between-at.ensures.value

pub returns-in-Request-clause-loaded : goal.returns-in-Request-clause-loaded
returns-in-Request-clause-loaded g c = let form = g.R.Direction.form in
    subst (λ (w : ControllerLoad). LoadedWord w (controller_of form c.args.self.now) c.word.result (controller_of form c.load_request-at.new.self)) (sym c.in-Request.is)
    (subst (λ (w : ℕ). LoadedRequested (controller_of form c.args.self.now) w (controller_of form c.load_request-at.new.self)) (sym c.word.ensures)
    (requested (controller_of form c.args.self.now) c.args.at.now c.requires.at (controller_of form c.load_request-at.new.self) c.load_request-at.result (ap (controller_of form) c.load_request-at.ensures)))

pub returns-in-Request-clause-at : goal.returns-in-Request-clause-at
returns-in-Request-clause-at g c = request-keeps (controller_of g.R.Direction.form c.args.self.now) c.args.at.now c.requires.at (controller_of g.R.Direction.form c.load_request-at.new.self) c.load_request-at.result (ap (controller_of g.R.Direction.form) c.load_request-at.ensures)
