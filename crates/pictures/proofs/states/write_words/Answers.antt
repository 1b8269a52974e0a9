-- The words are those of the registers and the handshake.
use Rattle.std.proofs.Common.{◌≡◌, ap, sym}
use Rattle.ring_model.specs.declared.handshake.Handshake.{Handshake}
use Rattle.ring_machine.specs.declared.registers.Registers.{Registers}
use Rattle.pictures.proofs.states.write_words.Goals as goal

pub returns : goal.returns
returns c =
    let head : c.args.machine.now.head ≡ c.registers-head.result.head = sym (ap (λ (r : Registers). r.head) c.registers-head.ensures) in
    let tail : c.args.machine.now.tail ≡ c.registers-head.result.tail = sym (ap (λ (r : Registers). r.tail) c.registers-head.ensures) in
    let control : c.args.machine.now.handshake.control ≡ c.handshake-control.result.control = sym (ap (λ (h : Handshake). h.control) c.handshake-control.ensures.value) in
    rw (head, tail, control) c.write.ensures.bytes
