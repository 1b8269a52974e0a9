-- The members are written one after another.
use Rattle.std.specs.String.{string_bytes}
use Rattle.pictures.specs.States.{controller_members, driver_members, due_member, head_member, reported_members, words_members}
use Rattle.pictures.proofs.Joining.{of_queue, six}
use Rattle.pictures.proofs.states.write_transmit.Goals as goal

pub returns : goal.returns
returns c =
    let p = c.args.machine.now in
    six (string_bytes c.args.text.now) (string_bytes c.write_words.new.text) (string_bytes c.write_head_word.new.text) (string_bytes c.write_driver.new.text)
    (string_bytes c.write_reported.new.text) (string_bytes c.write_controller.new.text) (string_bytes c.write_due.new.text)
    (words_members p.queue) (head_member p) (driver_members p.queue) (reported_members p) (controller_members p.queue) (due_member p)
    (of_queue words_members _ p.queue _ _ c.queue.ensures c.in_ok-write_words.ensures)
    c.in_ok-write_head_word.ensures
    (of_queue driver_members _ p.queue _ _ c.queue-2.ensures c.in_ok-write_driver.ensures)
    c.in_ok-write_reported.ensures
    (of_queue controller_members _ p.queue _ _ c.queue-3.ensures c.in_ok-write_controller.ensures)
    c.in_ok-write_due.ensures
