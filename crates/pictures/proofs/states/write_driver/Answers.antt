-- The state is the handshake's.
use Rattle.std.proofs.Common.{◌≡◌, ◌∙◌, ap, sym}
use Rattle.ring_model.specs.declared.handshake.Handshake.{Handshake}
use Rattle.ring_machine.specs.text.States.{driver_word}
use Rattle.pictures.proofs.states.write_driver.Goals as goal

pub returns : goal.returns
returns c =
    let driver : c.args.machine.now.handshake.driver ≡ c.handshake-driver.result.driver = sym (ap (λ (h : Handshake). h.driver) c.handshake-driver.ensures.value) in
    let state : driver_word c.args.machine.now.handshake.driver ≡ c.driver_word-state.result.now = ap driver_word driver ∙ sym c.driver_word-state.ensures in
    rw (state, sym c.fill-fill.ensures.value, sym c.next-next.ensures.value) c.write.ensures.bytes
