use Rattle.std.proofs.Common.{◌≡◌, ◌∙◌, ◌∷◌, [], ap, refl, subst, sym}
use Rattle.tx_ring.specs.Ends.{ControllerSide}
use Rattle.poll82599_c.specs.batches.Transmitting.{IsAtHand, SendingDevice}
use Rattle.poll82599_c.proofs.Turning.{only_frame}
use Rattle.poll82599_c.proofs.batches.tx_device.Sender.hand_out.Goals as goal

-- src/batches/tx_device.rt:64:13
pub returns-then-room-count-clause-step : goal.returns-then-room-count-clause-step
returns-then-room-count-clause-step c was at_hand =
    let frame = c.frame-frame.result.now in
    let one : c.args.self.now.waiting ≡ frame ∷ [] = sym (ap (λ (s : SendingDevice). s.waiting) c.self.view_is) ∙ only_frame c.self.inside.wire frame c.self.invariant c.frame-frame.ensures in
    record { frame = frame; at_hand = at_hand frame one; len_is = refl; long = c.if-room-count.true; kept = refl; waits = one }

-- src/batches/tx_device.rt:55:5
pub returns-clause-step : goal.returns-clause-step
returns-clause-step c was at_hand =
    let frame = c.frame-frame.result.now in
    let one : c.args.self.now.waiting ≡ frame ∷ [] = sym (ap (λ (s : SendingDevice). s.waiting) c.self.view_is) ∙ only_frame c.self.inside.wire frame c.self.invariant c.frame-frame.ensures in
    record { frame = frame; at_hand = subst (λ (end : ControllerSide). IsAtHand frame was end) (sym (ap (λ (s : SendingDevice). s.end) c.self.view_is)) (at_hand frame one); len_is = refl; copied = c.overwrite.ensures; none_waits = c.clear.ensures }
