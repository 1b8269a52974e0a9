use Rattle.std.proofs.Common.{codes}
use Rattle.std.specs.String.{string_bytes}
use Rattle.pictures.specs.States.{rx_state}
use Rattle.pictures.proofs.Joining.{line-written}
use Rattle.pictures.proofs.following.write_receive_line.Goals as goal

pub returns : goal.returns
returns c =
    line-written (codes "r") c.args.number _ c.args.machine.now.queue.size (rx_state c.args.machine.now) (string_bytes c.args.text.now) (string_bytes c.write_queue_name.new.text)
    (string_bytes c.write_receive.new.text) (string_bytes c.push_str.new.self) c.size.ensures c.in_ok-write_queue_name.ensures c.in_ok-write_receive.ensures c.in_ok-push_str.ensures.bytes
