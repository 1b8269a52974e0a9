use Rattle.tx_ring.specs.Records.{posting_of}
use Rattle.controller.proofs.sending_into.put_segment.Goals as goal

pub send-ends-requires-clause-takes : goal.send-ends-requires-clause-takes
send-ends-requires-clause-takes c = record {
  takes = λ word buf f. record {
    in_room = c.requires.can.in_room (posting_of word buf) f.follows;
    on_wire = c.requires.can.on_wire (posting_of word buf) f.follows;
  };
}
