use Rattle.std.proofs.Common.{Option, ℕ, Result, arith, rules, subst, sym}
use Rattle.tx_ring.specs.Calls.{FoundReady}
use Rattle.tx_ring.specs.Ends.{ControllerSide}
use Rattle.refusals.specs.declared.errors.CtlError.{CtlError}
use Rattle.controller.specs.Sending.{SentInto}
use Rattle.controller.specs.Transmitting.{TurnedInto}
use Rattle.controller.specs.declared.sending_into.TurnInto.{TurnInto}
use Rattle.controller.proofs.PuttingInto.{turned_in_room, turned_on_wire}
use Rattle.controller.proofs.transmitting.TxController.turn_into.Goals as goal
use Rattle.controller.proofs.transmitting.TxController.turn_into.Goals.{in-Some, in-None}

pub returns-clause-turned : goal.returns-clause-turned
returns-clause-turned c =
    let looked = subst (λ (s : ControllerSide). FoundReady s c.look.result c.look.new.self) c.self.view_is c.look.ensures.step in
    elim c.match-send_frame_into.branch [
      | in-Some w ↦ subst (λ (r : Result TurnInto CtlError). TurnedInto c.args.self.now c.args.wire.now c.args.room.now r c.send_frame_into.new.end c.send_frame_into.new.arena.frames c.send_frame_into.new.room) (sym w.result-is)
          (turned_in_room c.args.self.now c.look.new.self _ c.look.result (search rules) looked (omega (arith, c.if-look-eq0.false)) c.args.wire.now c.reserve.new.self _ (search rules) _ _ _
          (subst (λ (s : Option ℕ). SentInto c.look.new.self c.reserve.new.self c.args.room.now s c.send_frame_into.new.end c.send_frame_into.new.arena c.send_frame_into.new.room) w.in-Some.is c.send_frame_into.ensures.sent))
      | in-None w ↦ subst (λ (r : Result TurnInto CtlError). TurnedInto c.args.self.now c.args.wire.now c.args.room.now r c.send_frame_into.new.end c.send_frame_into.new.arena.frames c.send_frame_into.new.room) (sym w.result-is)
          (turned_on_wire c.args.self.now c.look.new.self _ c.look.result (search rules) looked (omega (arith, c.if-look-eq0.false)) c.args.wire.now c.reserve.new.self _ (search rules) _ _
          (subst (λ (s : Option ℕ). SentInto c.look.new.self c.reserve.new.self c.args.room.now s c.send_frame_into.new.end c.send_frame_into.new.arena c.send_frame_into.new.room) w.in-None.is c.send_frame_into.ensures.sent))
    ]
