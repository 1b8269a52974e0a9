-- The members are written one after another.
use Rattle.std.proofs.Common.{◌≡◌, ◌∙◌, ap, sym}
use Rattle.std.specs.Int.{from_bool}
use Rattle.std.specs.String.{string_bytes}
use Rattle.ring_model.specs.shared.Agreement.{bit}
use Rattle.pictures.specs.States.{controller_members, driver_members, quiet_member, quiet_word, words_members}
use Rattle.pictures.proofs.Joining.{bit_is, five, of_queue}
use Rattle.pictures.proofs.states.write_receive.Goals as goal

pub returns : goal.returns
returns c =
    let p = c.args.machine.now in
    let quiet : p.quiet ≡ c.quiet-quiet.result = sym c.quiet-quiet.ensures in
    let still : bit p.still ≡ c.from-still.result = bit_is p.still ∙ sym (c.from-still.ensures ∙ ap from_bool c.is_still.ensures) in
    five (string_bytes c.args.text.now) (string_bytes c.write_words.new.text) (string_bytes c.write.new.self) (string_bytes c.write_driver.new.text)
    (string_bytes c.write_controller.new.text) (string_bytes c.write-2.new.self) (words_members p.queue) (quiet_word p) (driver_members p.queue) (controller_members p.queue) (quiet_member p)
    (of_queue words_members _ p.queue _ _ c.queue.ensures c.in_ok-write_words.ensures)
    (rw quiet c.in_ok-write.ensures.bytes)
    (of_queue driver_members _ p.queue _ _ c.queue-2.ensures c.in_ok-write_driver.ensures)
    (of_queue controller_members _ p.queue _ _ c.queue-3.ensures c.in_ok-write_controller.ensures)
    (rw still c.in_ok-write-2.ensures.bytes)
