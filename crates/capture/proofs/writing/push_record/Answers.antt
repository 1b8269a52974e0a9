use Rattle.capture.proofs.Parts.{written}
use Rattle.capture.proofs.writing.push_record.Goals as goal

pub returns-clause-appended : goal.returns-clause-appended
returns-clause-appended c =
    written c.args.bytes.now.items c.push_number.new.bytes.items c.push_number-2.new.bytes.items c.push_number-3.new.bytes.items c.push_number-4.new.bytes.items
    c.extend_from_slice.new.self.items c.args.found.now c.seconds.result c.fraction.result c.wire_len.result c.frame-frame.result.now
    c.seconds.ensures c.fraction.ensures c.wire_len.ensures c.frame-frame.ensures.value
    c.in_ok-push_number.ensures c.in_ok-push_number-2.ensures c.in_ok-push_number-3.ensures c.in_ok-push_number-4.ensures c.in_ok-extend_from_slice.ensures.items
