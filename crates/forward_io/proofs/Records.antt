-- Records of frames that are written one after another: what is written, and what is left to be written, is the whole at
-- each step; and of what leaves both ports, what leaves one.
use Rattle.std.proofs.Common.{◌≡◌, ◌∙◌, ℕ, zero, suc, ◌+◌, ◌<◌, ◌≤◌, ◌==◌, true, false, List, [], ◌∷◌, ◌++◌, ap, ap₂, refl, sym, drop, length, map, take, get_or, arith}
use Rattle.std.specs.List.{flat_map}
use Rattle.std.proofs.lemmas.Grind.{flat_map-append}
use Rattle.std.proofs.lemmas.List.{append_assoc, append-nil, at_drop_all, at_drop_more, length-map}
use Rattle.std.proofs.lemmas.List.Elements.{filter-append}
use Rattle.capture.specs.Record.{Record}
use Rattle.capture.specs.Writing.{capture_of, record_bytes}
use Rattle.capture.specs.Records.{frames_of_port, record_at, records_from}
use Rattle.forwarding.specs.declared.report.FlowReport.{FlowReport}
use Rattle.forward_io.specs.Leaving.{leaving}
use Rattle.forward_io.specs.Text.{wires_from}
use Rattle.wire_script.specs.Frame.{Frame, frame_of}
use Rattle.forward_io.specs.Wires.{port_capture}

-- the bytes of the records of frames, the first at so many microseconds
abbrev pub bytes_from : ℕ → List Frame → List ℕ
bytes_from number frames = flat_map record_bytes (records_from number frames)

-- the frames of a wire, wherever it is
abbrev pub frames_on : List (List ℕ) → List Frame
frames_on wire = map (frame_of 0 0) wire

-- a part more, where the rest begins with it
part-more : (part rest before after whole : List ℕ) → before ++ (part ++ rest) ≡ whole → after ≡ before ++ part → after ++ rest ≡ whole
part-more part rest before after whole is grown = ap (λ (t : List ℕ). t ++ rest) grown ∙ (append_assoc before part rest ∙ is)

-- a record says nothing of its frame's port and queue
placed : (number port queue : ℕ) (wire : List (List ℕ)) → records_from number (map (frame_of port queue) wire) ≡ records_from number (frames_on wire)
placed number port queue [] = refl
placed number port queue (bytes ∷ wire) = ap (λ (rs : List Record). record_at number (frame_of 0 0 bytes) ∷ rs) (placed (number + 1) port queue wire)

-- frames behind others are later by as many microseconds as there are others
records-append : (number : ℕ) (front back : List Frame) → records_from number (front ++ back) ≡ records_from number front ++ records_from (number + length front) back
records-append number [] back = ap (λ (n : ℕ). records_from n back) (omega arith)
records-append number (f ∷ front) back =
    ap (λ (rs : List Record). record_at number f ∷ rs) (records-append (number + 1) front back
    ∙ ap (λ (n : ℕ). records_from (number + 1) front ++ records_from n back) (omega arith))

-- a wire's records, and those of what is behind it
bytes-append : (number port queue : ℕ) (wire : List (List ℕ)) (back : List Frame)
    → bytes_from number (map (frame_of port queue) wire ++ back) ≡ bytes_from number (frames_on wire) ++ bytes_from (number + length wire) back
bytes-append number port queue wire back =
    ap (λ (rs : List Record). flat_map record_bytes rs) (records-append number (map (frame_of port queue) wire) back)
    ∙ (flat_map-append record_bytes (records_from number (map (frame_of port queue) wire)) (records_from (number + length (map (frame_of port queue) wire)) back)
    ∙ ap₂ (λ (rs : List Record) (n : ℕ). flat_map record_bytes rs ++ bytes_from n back) (placed number port queue wire)
    (ap (λ (n : ℕ). number + n) (length-map wire (frame_of port queue))))

-- a frame more
pub frame-more : (number : ℕ) (bytes : List ℕ) (rest : List (List ℕ)) (before after whole : List ℕ)
    → before ++ bytes_from number (frames_on (bytes ∷ rest)) ≡ whole → after ≡ before ++ record_bytes (record_at number (frame_of 0 0 bytes))
    → after ++ bytes_from (number + 1) (frames_on rest) ≡ whole
frame-more number bytes rest before after whole is grown =
    part-more (record_bytes (record_at number (frame_of 0 0 bytes))) (bytes_from (number + 1) (frames_on rest)) before after whole is grown

-- a wire more
pub wire-more : (port k number : ℕ) (flows : List FlowReport) (r : FlowReport) (before after whole : List ℕ) → k < length flows → r ≡ get_or flows k r
    → before ++ bytes_from number (wires_from port k (drop k flows)) ≡ whole → after ≡ before ++ bytes_from number (frames_on r.wire)
    → after ++ bytes_from (number + length r.wire) (wires_from port (k + 1) (drop (k + 1) flows)) ≡ whole
wire-more port k number flows r before after whole low here is grown =
    let rest : List Frame = wires_from port (k + 1) (drop (k + 1) flows) in
    let first : bytes_from number (wires_from port k (drop k flows)) ≡ bytes_from number (map (frame_of port k) r.wire ++ rest) =
    at_drop_more (λ (rs : List FlowReport). bytes_from number (wires_from port k rs)) flows k r low
    ∙ ap (λ (q : FlowReport). bytes_from number (wires_from port k (q ∷ drop (k + 1) flows))) (sym here) in
    part-more (bytes_from number (frames_on r.wire)) (bytes_from (number + length r.wire) rest) before after whole
    (ap (λ (t : List ℕ). before ++ t) (sym (first ∙ bytes-append number port k r.wire rest)) ∙ is) grown

pub wires-all : (port k number : ℕ) (flows : List FlowReport) (before whole : List ℕ) → length flows ≤ k
    → before ++ bytes_from number (wires_from port k (drop k flows)) ≡ whole → before ≡ whole
wires-all port k number flows before whole all is =
    let none : bytes_from number (wires_from port k (drop k flows)) ≡ [] = at_drop_all (λ (rs : List FlowReport). bytes_from number (wires_from port k rs)) flows k all in
    sym (append-nil before) ∙ (ap (λ (t : List ℕ). before ++ t) (sym none) ∙ is)

-- what leaves a port are frames of it
same-wire : (from port queue : ℕ) (wire : List (List ℕ)) → (from == port) ≡ true → frames_of_port port (map (frame_of from queue) wire) ≡ map (frame_of from queue) wire
same-wire from port queue [] same = refl
same-wire from port queue (bytes ∷ wire) same = rw same (ap (λ (fs : List Frame). frame_of from queue bytes ∷ fs) (same-wire from port queue wire same))

same-port : (from port queue : ℕ) (flows : List FlowReport) → (from == port) ≡ true → frames_of_port port (wires_from from queue flows) ≡ wires_from from queue flows
same-port from port queue [] same = refl
same-port from port queue (r ∷ rs) same =
    filter-append (λ f. f.port == port) (map (frame_of from queue) r.wire) (wires_from from (queue + 1) rs)
    ∙ ap₂ (λ (a b : List Frame). a ++ b) (same-wire from port queue r.wire same) (same-port from port (queue + 1) rs same)

-- and not of the other
other-wire : (from port queue : ℕ) (wire : List (List ℕ)) → (from == port) ≡ false → frames_of_port port (map (frame_of from queue) wire) ≡ []
other-wire from port queue [] other = refl
other-wire from port queue (bytes ∷ wire) other = rw other (other-wire from port queue wire other)

other-port : (from port queue : ℕ) (flows : List FlowReport) → (from == port) ≡ false → frames_of_port port (wires_from from queue flows) ≡ []
other-port from port queue [] other = refl
other-port from port queue (r ∷ rs) other =
    filter-append (λ f. f.port == port) (map (frame_of from queue) r.wire) (wires_from from (queue + 1) rs)
    ∙ ap₂ (λ (a b : List Frame). a ++ b) (other-wire from port queue r.wire other) (other-port from port (queue + 1) rs other)

-- the capture of port 0, whose frames came in at port 1
of-port-0 : (pairs : ℕ) (flows : List FlowReport) → capture_of (records_from 0 (wires_from 0 0 (drop pairs flows))) ≡ port_capture 0 pairs flows
of-port-0 pairs flows =
    let back : List Frame = wires_from 0 0 (drop pairs flows) in
    let front : List Frame = wires_from 1 0 (take pairs flows) in
    ap (λ (fs : List Frame). capture_of (records_from 0 fs)) (sym (filter-append (λ f. f.port == 0) back front
    ∙ (ap₂ (λ (a b : List Frame). a ++ b) (same-port 0 0 0 (drop pairs flows) refl) (other-port 1 0 0 (take pairs flows) refl) ∙ append-nil back)))

-- and of port 1
of-port-1 : (pairs : ℕ) (flows : List FlowReport) → capture_of (records_from 0 (wires_from 1 0 (take pairs flows))) ≡ port_capture 1 pairs flows
of-port-1 pairs flows =
    let back : List Frame = wires_from 0 0 (drop pairs flows) in
    let front : List Frame = wires_from 1 0 (take pairs flows) in
    ap (λ (fs : List Frame). capture_of (records_from 0 fs)) (sym (filter-append (λ f. f.port == 1) back front
    ∙ ap₂ (λ (a b : List Frame). a ++ b) (other-port 0 1 0 (drop pairs flows) refl) (same-port 1 1 0 (take pairs flows) refl)))

-- and of either port
pub of-port : (port pairs : ℕ) (flows to : List FlowReport) → port < 2 → to ≡ leaving port (take pairs flows) (drop pairs flows)
    → capture_of (records_from 0 (wires_from port 0 to)) ≡ port_capture port pairs flows
of-port zero pairs flows to low is = ap (λ (rs : List FlowReport). capture_of (records_from 0 (wires_from 0 0 rs))) is ∙ of-port-0 pairs flows
of-port (suc zero) pairs flows to low is = ap (λ (rs : List FlowReport). capture_of (records_from 0 (wires_from 1 0 rs))) is ∙ of-port-1 pairs flows
of-port (suc (suc port)) pairs flows to low is = absurd (omega (arith, low))
