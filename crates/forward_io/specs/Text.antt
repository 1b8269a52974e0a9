-- The text of a report: the frames of the wires as script lines, unless it is quiet, then a line or an object for each
-- flow, and with objects also one for each port.
use Rattle.std.specs.Prelude.{ℕ, ◌+◌, Bool, true, false, if◌then◌else◌, List, [], ◌∷◌, ◌++◌, codes, decimal, drop, map, take}
use Rattle.counters.specs.FlowCounters.{entries}
use Rattle.forwarding.specs.declared.report.FlowReport.{FlowReport}
use Rattle.forwarding.specs.Reported.{counters_of}
use Rattle.wire_script.specs.Frame.{Frame, frame_of}
use Rattle.wire_script.specs.Script.{text_for}
use Rattle.forward_io.specs.Counts.{counter_texts}
use Rattle.forward_io.specs.Leaving.{leaving}
use Rattle.forward_io.specs.Objects.{ended_word, flow_object, port_objects}
use Rattle.requests.specs.declared.printing.Printing.{Printing}

-- the frames that left a port, of the flows of its queues from this one on
abbrev pub wires_from : ℕ → ℕ → List FlowReport → List Frame
wires_from port queue [] = []
wires_from port queue (r ∷ rs) = map (frame_of port queue) r.wire ++ wires_from port (queue + 1) rs

-- the frames that left both ports, of the flows that came in at port 0, and of those of port 1
abbrev pub wires_of : List FlowReport → List FlowReport → List Frame
wires_of front back = wires_from 0 0 (leaving 0 front back) ++ wires_from 1 0 (leaving 1 front back)

-- their lines, unless `quiet` is set
abbrev pub wires_text : Bool → List FlowReport → List FlowReport → List ℕ
wires_text quiet front back = if quiet then [] else text_for (wires_of front back)

-- the port and queue at which a flow came in
abbrev pub place_words : ℕ → ℕ → List ℕ
place_words port queue = codes "flow " ++ (decimal port ++ (codes " " ++ decimal queue))

-- the frames that went out and remained, and how it ended
abbrev pub ending_words : FlowReport → List ℕ
ending_words r =
    codes " wire " ++ (decimal r.sent ++ (codes " left " ++ (decimal r.left ++ (codes " ended " ++ (ended_word r.ended ++ 10 ∷ [])))))

-- the line of a flow
unfoldable pub flow_line : ℕ → ℕ → FlowReport → List ℕ
flow_line port queue r = place_words port queue ++ (counter_texts false (entries (counters_of r)) ++ ending_words r)

-- the object or the line of a flow
abbrev pub flow_text : Bool → ℕ → ℕ → FlowReport → List ℕ
flow_text true port queue r = flow_object port queue r
flow_text false port queue r = flow_line port queue r

-- the texts of the flows that came in at a port, at its queues from this one on
abbrev pub flow_texts : Bool → ℕ → ℕ → List FlowReport → List ℕ
flow_texts json port queue [] = []
flow_texts json port queue (r ∷ rs) = flow_text json port queue r ++ flow_texts json port (queue + 1) rs

-- the text of the reports of both ports' flows
abbrev pub both_text : Printing → List FlowReport → List FlowReport → List ℕ
both_text printing front back =
    wires_text printing.quiet front back ++ (flow_texts printing.json 0 0 front ++ (flow_texts printing.json 1 0 back ++ port_objects printing.json front back))

-- the text of a report with `pairs` queue pairs at each port
abbrev pub report_text : Printing → ℕ → List FlowReport → List ℕ
report_text printing pairs flows = both_text printing (take pairs flows) (drop pairs flows)
