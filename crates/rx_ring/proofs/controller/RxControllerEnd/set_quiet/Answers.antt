-- The record has one more event.
use Rattle.std.proofs.Common.{ap, ◌∙◌}
use Rattle.shared_ring.specs.declared.events.ControllerEvent.TheVariants as controller
use Rattle.rx_ring.specs.declared.events.RxControllerOwn.TheVariants as own
use Rattle.rx_ring.specs.Ends.{ControllerSide, controller_size, controller_record}
use Rattle.rx_ring.specs.Records.{control}
use Rattle.shared_ring.specs.Ends.{controller_of}
use Rattle.rx_ring.specs.Form.{rx}
use Rattle.shared_ring.proofs.Serving.{record-after}
use Rattle.rx_ring.proofs.ControllerEnds.{quiet-keeps}
use Rattle.rx_ring.proofs.controller.RxControllerEnd.set_quiet.Goals as goal

pub invariant_of-self : goal.invariant_of-self
invariant_of-self c = let i = c.self.inside in quiet-keeps (controller_of rx i.seat) i.at i.head i.finished c.self.invariant c.args.self.now c.self.view_is (controller_of rx c.say_quiet.new.seat) c.say_quiet.ensures

pub returns-clause-record : goal.returns-clause-record
returns-clause-record c = record-after (controller_of rx c.self.inside.seat) (controller_of rx c.say_quiet.new.seat) (controller.Own own.SaidQuiet) c.say_quiet.ensures ∙ ap (λ (s : ControllerSide). control (controller_size s) (controller_record s) (controller.Own own.SaidQuiet)) c.self.view_is
