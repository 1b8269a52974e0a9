use Rattle.std.proofs.Common.{codes}
use Rattle.std.specs.String.{string_bytes}
use Rattle.pictures.specs.States.{tx_state}
use Rattle.pictures.proofs.Joining.{line-written}
use Rattle.pictures.proofs.following.write_transmit_line.Goals as goal

pub returns : goal.returns
returns c =
    line-written (codes "t") c.args.number _ c.args.machine.now.queue.size (tx_state c.args.machine.now) (string_bytes c.args.text.now) (string_bytes c.write_queue_name.new.text)
    (string_bytes c.write_transmit.new.text) (string_bytes c.push_str.new.self) c.size.ensures c.in_ok-write_queue_name.ensures c.in_ok-write_transmit.ensures c.in_ok-push_str.ensures.bytes
