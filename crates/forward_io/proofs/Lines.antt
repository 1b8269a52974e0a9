-- Lines that are written one after another: what is written, and what is left to be written, is the whole at each step.
use Rattle.std.proofs.Common.{◌≡◌, ◌∙◌, ℕ, Bool, false, true, ◌+◌, ◌<◌, ◌≤◌, List, [], ◌∷◌, ◌++◌, ap, ap₂, sym, drop, length, map, take, get_or}
use Rattle.std.proofs.lemmas.Grind.{flat_map-append}
use Rattle.std.proofs.lemmas.List.{append_assoc, append-nil, at_drop_all, at_drop_more}
use Rattle.counters.specs.declared.flow_counters.Counter.{Counter}
use Rattle.counters.specs.FlowCounters.{entries, entry_of}
use Rattle.forwarding.specs.declared.report.FlowReport.{FlowReport}
use Rattle.forwarding.specs.Reported.{counters_of}
use Rattle.wire_script.specs.Frame.{Frame, frame_of}
use Rattle.wire_script.specs.Script.{line_for, text_for}
use Rattle.forwarding.specs.Peers.{peer, place}
use Rattle.forward_io.specs.Counts.{counter_text, counter_texts}
use Rattle.forward_io.specs.Leaving.{leaving}
use Rattle.forward_io.specs.Objects.{direction_members, end_members, ended_member, flow_object, port_object, port_objects, remaining_members, sums_of}
use Rattle.forward_io.specs.declared.sums.PortSums.{PortSums}
use Rattle.forward_io.specs.Text.{both_text, ending_words, flow_line, flow_text, flow_texts, place_words, report_text, wires_from, wires_text}
use Rattle.requests.specs.declared.printing.Printing.{Printing}

-- a part more, where the rest begins with it
part-more : (part rest before after whole : List ℕ) → before ++ (part ++ rest) ≡ whole → after ≡ before ++ part → after ++ rest ≡ whole
part-more part rest before after whole is grown = ap (λ (t : List ℕ). t ++ rest) grown ∙ (append_assoc before part rest ∙ is)

-- the three parts of a flow's line
pub line-written : (port queue : ℕ) (r : FlowReport) (before t1 t2 t3 : List ℕ) → t1 ≡ before ++ place_words port queue → t2 ≡ t1 ++ counter_texts false (entries (counters_of r))
    → t3 ≡ t2 ++ ending_words r → t3 ≡ before ++ flow_line port queue r
unfolding flow_line
line-written port queue r before t1 t2 t3 one two three = parts (place_words port queue) (counter_texts false (entries (counters_of r))) (ending_words r) one two three
  where
    parts : (a b c : List ℕ) → t1 ≡ before ++ a → t2 ≡ t1 ++ b → t3 ≡ t2 ++ c → t3 ≡ before ++ (a ++ (b ++ c))
    parts a b c one two three =
        three ∙ (ap (λ (t : List ℕ). t ++ c) (two ∙ ap (λ (t : List ℕ). t ++ b) one) ∙ (append_assoc (before ++ a) b c ∙ append_assoc before a (b ++ c)))

-- the five parts of a flow's object
pub object-written : (port queue : ℕ) (r : FlowReport) (before t1 t2 t3 t4 t5 : List ℕ) → t1 ≡ before ++ end_members (place port queue) (peer (place port queue))
    → t2 ≡ t1 ++ counter_texts true (entries (counters_of r)) → t3 ≡ t2 ++ remaining_members r → t4 ≡ t3 ++ direction_members r → t5 ≡ t4 ++ ended_member r → t5 ≡ before ++ flow_object port queue r
unfolding flow_object
object-written port queue r before t1 t2 t3 t4 t5 one two three four five =
    parts (end_members (place port queue) (peer (place port queue))) (counter_texts true (entries (counters_of r))) (remaining_members r) (direction_members r) (ended_member r) one two three four five
  where
    parts : (a b c d e : List ℕ) → t1 ≡ before ++ a → t2 ≡ t1 ++ b → t3 ≡ t2 ++ c → t4 ≡ t3 ++ d → t5 ≡ t4 ++ e → t5 ≡ before ++ (a ++ (b ++ (c ++ (d ++ e))))
    parts a b c d e one two three four five =
        five ∙ ap (λ (t : List ℕ). t ++ e) (four ∙ ap (λ (t : List ℕ). t ++ d) (three ∙ ap (λ (t : List ℕ). t ++ c) (two ∙ ap (λ (t : List ℕ). t ++ b) one)))
        ∙ append_assoc (((before ++ a) ++ b) ++ c) d e ∙ append_assoc ((before ++ a) ++ b) c (d ++ e) ∙ append_assoc (before ++ a) b (c ++ (d ++ e)) ∙ append_assoc before a (b ++ (c ++ (d ++ e)))

-- a counter more
pub counters-more : (json : Bool) (k : ℕ) (cs : List Counter) (d : Counter) (before after whole : List ℕ) → k < length cs
    → before ++ counter_texts json (map entry_of (drop k cs)) ≡ whole → after ≡ before ++ counter_text json (entry_of (get_or cs k d))
    → after ++ counter_texts json (map entry_of (drop (k + 1) cs)) ≡ whole
counters-more json k cs d before after whole low is grown =
    let f : List Counter → List ℕ = λ (l : List Counter). counter_texts json (map entry_of l) in
    let first : f (drop k cs) ≡ counter_text json (entry_of (get_or cs k d)) ++ f (drop (k + 1) cs) = at_drop_more f cs k d low in
    part-more (counter_text json (entry_of (get_or cs k d))) (f (drop (k + 1) cs)) before after whole (ap (λ (t : List ℕ). before ++ t) (sym first) ∙ is) grown

-- and after the last of them
pub counters-all : (json : Bool) (k : ℕ) (cs : List Counter) (before whole : List ℕ) → length cs ≤ k → before ++ counter_texts json (map entry_of (drop k cs)) ≡ whole → before ≡ whole
counters-all json k cs before whole over is =
    let rest : counter_texts json (map entry_of (drop k cs)) ≡ [] = at_drop_all (λ (l : List Counter). counter_texts json (map entry_of l)) cs k over in
    sym (append-nil before) ∙ (ap (λ (t : List ℕ). before ++ t) (sym rest) ∙ is)

-- a frame more of a wire
pub frame-more : (port queue : ℕ) (bytes : List ℕ) (rest : List (List ℕ)) (before after whole : List ℕ)
    → before ++ text_for (map (frame_of port queue) (bytes ∷ rest)) ≡ whole → after ≡ before ++ line_for (frame_of port queue bytes)
    → after ++ text_for (map (frame_of port queue) rest) ≡ whole
frame-more port queue bytes rest before after whole is grown =
    part-more (line_for (frame_of port queue bytes)) (text_for (map (frame_of port queue) rest)) before after whole is grown

-- a wire more
pub wires-more : (port k : ℕ) (flows : List FlowReport) (r : FlowReport) (before after whole : List ℕ) → k < length flows → r ≡ get_or flows k r
    → before ++ text_for (wires_from port k (drop k flows)) ≡ whole → after ≡ before ++ text_for (map (frame_of port k) r.wire)
    → after ++ text_for (wires_from port (k + 1) (drop (k + 1) flows)) ≡ whole
wires-more port k flows r before after whole low here is grown =
    let mine : List Frame = map (frame_of port k) r.wire in
    let rest : List Frame = wires_from port (k + 1) (drop (k + 1) flows) in
    let first : text_for (wires_from port k (drop k flows)) ≡ text_for (mine ++ rest) =
    at_drop_more (λ (rs : List FlowReport). text_for (wires_from port k rs)) flows k r low
    ∙ ap (λ (q : FlowReport). text_for (wires_from port k (q ∷ drop (k + 1) flows))) (sym here) in
    part-more (text_for mine) (text_for rest) before after whole
    (ap (λ (t : List ℕ). before ++ t) (sym (first ∙ flat_map-append line_for mine rest)) ∙ is) grown

-- and after the last of them
pub wires-all : (port k : ℕ) (flows : List FlowReport) (before whole : List ℕ) → length flows ≤ k
    → before ++ text_for (wires_from port k (drop k flows)) ≡ whole → before ≡ whole
wires-all port k flows before whole all is =
    let none : text_for (wires_from port k (drop k flows)) ≡ [] = at_drop_all (λ (rs : List FlowReport). text_for (wires_from port k rs)) flows k all in
    sym (append-nil before) ∙ (ap (λ (t : List ℕ). before ++ t) (sym none) ∙ is)

-- the same of what is said of flows
pub flows-more : (json : Bool) (port k : ℕ) (flows : List FlowReport) (r : FlowReport) (before after whole : List ℕ) → k < length flows → r ≡ get_or flows k r
    → before ++ flow_texts json port k (drop k flows) ≡ whole → after ≡ before ++ flow_text json port k r
    → after ++ flow_texts json port (k + 1) (drop (k + 1) flows) ≡ whole
flows-more json port k flows r before after whole low here is grown =
    let rest : List ℕ = flow_texts json port (k + 1) (drop (k + 1) flows) in
    let first : flow_texts json port k (drop k flows) ≡ flow_text json port k r ++ rest =
    at_drop_more (flow_texts json port k) flows k r low ∙ ap (λ (q : FlowReport). flow_texts json port k (q ∷ drop (k + 1) flows)) (sym here) in
    part-more (flow_text json port k r) rest before after whole (ap (λ (t : List ℕ). before ++ t) (sym first) ∙ is) grown

pub flows-all : (json : Bool) (port k : ℕ) (flows : List FlowReport) (before whole : List ℕ) → length flows ≤ k
    → before ++ flow_texts json port k (drop k flows) ≡ whole → before ≡ whole
flows-all json port k flows before whole all is =
    let none : flow_texts json port k (drop k flows) ≡ [] = at_drop_all (flow_texts json port k) flows k all in
    sym (append-nil before) ∙ (ap (λ (t : List ℕ). before ++ t) (sym none) ∙ is)

-- both wires, one after another
pub both-written : (quiet : Bool) (front back to_0 to_1 : List FlowReport) (t t1 t2 : List ℕ) → quiet ≡ false → to_0 ≡ leaving 0 front back → to_1 ≡ leaving 1 front back
    → t1 ≡ t ++ text_for (wires_from 0 0 to_0) → t2 ≡ t1 ++ text_for (wires_from 1 0 to_1) → t2 ≡ t ++ wires_text quiet front back
both-written quiet front back to_0 to_1 t t1 t2 loud is_0 is_1 one two =
    let a : List Frame = wires_from 0 0 to_0 in
    let b : List Frame = wires_from 1 0 to_1 in
    two ∙ (ap (λ (s : List ℕ). s ++ text_for b) one ∙ (append_assoc t (text_for a) (text_for b) ∙ ap (λ (s : List ℕ). t ++ s) (sym (flat_map-append line_for a b))
    ∙ (ap₂ (λ (x y : List FlowReport). t ++ text_for (wires_from 0 0 x ++ wires_from 1 0 y)) is_0 is_1 ∙ ap (λ (q : Bool). t ++ wires_text q front back) (sym loud))))

-- both ports' objects
pub ports-written : (json : Bool) (front back to_0 to_1 : List FlowReport) (s_0 s_1 : PortSums) (t t1 t2 : List ℕ) → json ≡ true → to_0 ≡ leaving 0 front back
    → to_1 ≡ leaving 1 front back → s_0 ≡ sums_of front to_0 → s_1 ≡ sums_of back to_1 → t1 ≡ t ++ port_object 0 s_0 → t2 ≡ t1 ++ port_object 1 s_1
    → t2 ≡ t ++ port_objects json front back
ports-written json front back to_0 to_1 s_0 s_1 t t1 t2 is is_0 is_1 sum_0 sum_1 one two =
    two ∙ ap (λ (s : List ℕ). s ++ port_object 1 s_1) one ∙ append_assoc t (port_object 0 s_0) (port_object 1 s_1)
    ∙ ap₂ (λ (x y : PortSums). t ++ (port_object 0 x ++ port_object 1 y)) (sum_0 ∙ ap (sums_of front) is_0) (sum_1 ∙ ap (sums_of back) is_1)
    ∙ ap (λ (q : Bool). t ++ port_objects q front back) (sym is)

-- and all flows and both ports behind them are the text of the report
pub report-written : (printing : Printing) (pairs : ℕ) (flows front back : List FlowReport) (t t1 t2 t3 t4 : List ℕ)
    → front ≡ take pairs flows → back ≡ drop pairs flows → t ≡ []
    → t1 ≡ t ++ wires_text printing.quiet front back
    → t2 ≡ t1 ++ flow_texts printing.json 0 0 front → t3 ≡ t2 ++ flow_texts printing.json 1 0 back → t4 ≡ t3 ++ port_objects printing.json front back
    → t4 ≡ report_text printing pairs flows
report-written printing pairs flows front back t t1 t2 t3 t4 front_is back_is none one two three four =
    let w : List ℕ = wires_text printing.quiet front back in
    let c : List ℕ = flow_texts printing.json 0 0 front in
    let d : List ℕ = flow_texts printing.json 1 0 back in
    let e : List ℕ = port_objects printing.json front back in
    let wires : t1 ≡ w = one ∙ ap (λ (s : List ℕ). s ++ w) none in
    let written : t4 ≡ w ++ (c ++ (d ++ e)) =
    four ∙ ap (λ (s : List ℕ). s ++ e) (three ∙ ap (λ (s : List ℕ). s ++ d) (two ∙ ap (λ (s : List ℕ). s ++ c) wires)) ∙ append_assoc (w ++ c) d e ∙ append_assoc w c (d ++ e) in
    written ∙ (ap (λ (f : List FlowReport). both_text printing f back) front_is ∙ ap (λ (g : List FlowReport). both_text printing (take pairs flows) g) back_is)
