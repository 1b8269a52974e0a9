-- A flow's report as a JSON object on its own line.
use Rattle.std.specs.Prelude.{ℕ, ◌-◌, ◌^◌, Bool, true, false, List, [], ◌++◌, codes, decimal, min, sum_by}
use Rattle.counters.specs.FlowCounters.{entries}
use Rattle.forwarding.specs.declared.report.Ended.{Ended}
use Rattle.forwarding.specs.declared.report.Ended.TheVariants.{Cut, Drained}
use Rattle.forwarding.specs.declared.report.FlowReport.{FlowReport}
use Rattle.forwarding.specs.declared.ports.PortQueue.{PortQueue}
use Rattle.forwarding.specs.Peers.{peer, place}
use Rattle.forwarding.specs.Reported.{counters_of}
use Rattle.forward_io.specs.Counts.{counter_texts}
use Rattle.forward_io.specs.Leaving.{leaving}
use Rattle.forward_io.specs.declared.sums.PortSums.{PortSums}

abbrev pub ended_word : Ended → List ℕ
ended_word Drained = codes "drained"
ended_word Cut = codes "cut"

-- where the frames of a flow come in, and where they leave
abbrev pub end_members : PortQueue → PortQueue → List ℕ
end_members input output =
    codes "{\"port\":" ++ (decimal input.port ++ (codes ",\"queue\":" ++ (decimal input.queue
    ++ (codes ",\"rx_port\":" ++ (decimal input.port ++ (codes ",\"rx_queue\":" ++ (decimal input.queue
    ++ (codes ",\"tx_port\":" ++ (decimal output.port ++ (codes ",\"tx_queue\":" ++ decimal output.queue))))))))))

-- the frames that went out, and what remained
abbrev pub remaining_members : FlowReport → List ℕ
remaining_members r = codes ",\"wire\":" ++ (decimal r.sent ++ (codes ",\"left\":" ++ decimal r.left))

-- frames and bytes by direction, under the names of ethtool and testpmd: stored frames count as received, and frames on
-- the wire as sent
abbrev pub direction_members : FlowReport → List ℕ
direction_members r =
    codes ",\"rx_packets\":" ++ (decimal r.tally.stored ++ (codes ",\"rx_bytes\":" ++ (decimal r.stored_bytes ++ (codes ",\"rx_dropped\":" ++ (decimal r.tally.dropped
    ++ (codes ",\"tx_packets\":" ++ (decimal r.sent ++ (codes ",\"tx_bytes\":" ++ decimal r.sent_bytes))))))))

-- how it ended
abbrev pub ended_member : FlowReport → List ℕ
ended_member r = codes ",\"ended\":\"" ++ (ended_word r.ended ++ codes "\"}\n")

-- the object of the flow that came in at this port and queue
unfoldable pub flow_object : ℕ → ℕ → FlowReport → List ℕ
flow_object port queue r =
    end_members (place port queue) (peer (place port queue)) ++ (counter_texts true (entries (counters_of r)) ++ (remaining_members r ++ (direction_members r ++ ended_member r)))

-- the sum of a count over flows, at most 2^64 - 1
abbrev pub total : (FlowReport → ℕ) → List FlowReport → ℕ
total count flows = min (sum_by count flows) (2 ^ 64 - 1)

-- the sums of the flows that came in at a port, and of those that left it
abbrev pub sums_of : List FlowReport → List FlowReport → PortSums
sums_of came left = record {
  rx_packets = total (λ r. r.tally.stored) came;
  rx_bytes = total (λ r. r.stored_bytes) came;
  rx_dropped = total (λ r. r.tally.dropped) came;
  tx_packets = total (λ r. r.sent) left;
  tx_bytes = total (λ r. r.sent_bytes) left;
  tx_dropped = total (λ r. r.driven.tx_dropped) left;
}

-- the frames and bytes that came in at a port
abbrev pub received_members : ℕ → PortSums → List ℕ
received_members port s =
    codes "{\"port\":" ++ (decimal port ++ (codes ",\"rx_packets\":" ++ (decimal s.rx_packets
    ++ (codes ",\"rx_bytes\":" ++ (decimal s.rx_bytes ++ (codes ",\"rx_dropped\":" ++ decimal s.rx_dropped))))))

-- and those that left it
abbrev pub sent_members : PortSums → List ℕ
sent_members s =
    codes ",\"tx_packets\":" ++ (decimal s.tx_packets ++ (codes ",\"tx_bytes\":" ++ (decimal s.tx_bytes
    ++ (codes ",\"tx_dropped\":" ++ (decimal s.tx_dropped ++ codes "}\n")))))

-- the object of a port, which has no queue
abbrev pub port_object : ℕ → PortSums → List ℕ
port_object port s = received_members port s ++ sent_members s

-- both ports' objects, if objects are printed
abbrev pub port_objects : Bool → List FlowReport → List FlowReport → List ℕ
port_objects false front back = []
port_objects true front back = port_object 0 (sums_of front (leaving 0 front back)) ++ port_object 1 (sums_of back (leaving 1 front back))
