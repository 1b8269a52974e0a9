use Rattle.std.proofs.Common.{◌≡◌, ◌+◌, ◌-◌, ◌%◌, ◌<◌, length}
use Rattle.ring_model.specs.transmit.Steps.{first_report}
use Rattle.tx_ring.specs.Ends.{driver_size, outstanding, posted, seen_reported}
use Rattle.shared_ring.specs.Ends.{driver_of}
use Rattle.tx_ring.specs.Form.{tx}
use Rattle.tx_ring.proofs.driver.TxDriverEnd.oldest.Given as goal

abbrev pub invariant-loop-ahead : goal.invariant-loop-ahead
invariant-loop-ahead l = let d = (driver_of tx l.self-inside.seat) in record {
  rest : outstanding d ≡ first_report (posted d) (seen_reported d + l.ahead) (length (posted d) - (seen_reported d + l.ahead));
  there : l.place ≡ (seen_reported d + l.ahead) % driver_size d;
  below : l.place < l.self-inside.at.size;
}
