-- The sums of a port's flows, one flow after another.
use Rattle.std.specs.Prelude.{ℕ, ◌+◌, ◌-◌, ◌^◌, min}
use Rattle.forwarding.specs.declared.report.FlowReport.{FlowReport}
use Rattle.forward_io.specs.declared.sums.PortSums.{PortSums}

-- the saturated sum of two counts
abbrev pub added : ℕ → ℕ → ℕ
added m n = min (m + n) (2 ^ 64 - 1)

-- a flow more that came in
abbrev pub with_came : PortSums → FlowReport → PortSums
with_came s r = record s {
  rx_packets = added s.rx_packets r.tally.stored;
  rx_bytes = added s.rx_bytes r.stored_bytes;
  rx_dropped = added s.rx_dropped r.tally.dropped;
}

-- a flow more that left
abbrev pub with_left : PortSums → FlowReport → PortSums
with_left s r = record s {
  tx_packets = added s.tx_packets r.sent;
  tx_bytes = added s.tx_bytes r.sent_bytes;
  tx_dropped = added s.tx_dropped r.driven.tx_dropped;
}
