-- Reading what was printed gives the frames back.
use Rattle.std.proofs.Common.{◌≡◌, ℕ, suc, inl, inr, ◌+◌, ◌-◌, ◌/◌, ◌%◌, ◌<◌, ◌≤◌, false, nat_eq, List, [], ◌∷◌, ◌++◌, length, slice_index, Some, None, Ok, refl, sym, ap, ◌∙◌, append_assoc, arith}
use Rattle.std.specs.Prelude.{All}
use Rattle.std.specs.List.{AllByRecursion}
use Rattle.std.proofs.lemmas.Bool.{cases_lt, ne_eqb, le-leb, lt-ltb}
use Rattle.std.proofs.lemmas.List.{get_or_past}
use Rattle.std.proofs.lemmas.List.Elements.{All-cons, All-get_or, All-nil}
use Rattle.std.proofs.lemmas.List.Splits.{slice_split_at, slice_split_none}
use Rattle.hex.specs.Hex.{IsBytes, encode_lower, encode_with, hex_digit_value, lower_digits}
use Rattle.hex.proofs.HexLemmas.{IsDigits-lower_digits, decode_of-encode_lower, length-encode_with}
use Rattle.limits.specs.declared.profile.TheConstants.{LEAST_FRAME, MOST_FRAME, MOST_PAIRS, MOST_SCRIPT_FRAMES, PORTS}
use Rattle.text_lines.specs.Parts.{parts}
use Rattle.wire_script.specs.Frame.{Frame, InRange}
use Rattle.wire_script.specs.Line.{digit_below, fields_say, frame_with, hex_in, line_says, port_in, queue_in, sized}
use Rattle.wire_script.specs.Script.{and_then, line_for, lines_say, script_of, text_for}
use Rattle.wire_script.proofs.SplitLemmas.{three_fields}

-- each byte of a frame is one
frame_bytes : (f : Frame) → InRange f → IsBytes f.bytes
frame_bytes f wire i =
    elim (cases_lt i (length f.bytes)) [
      | inl inside ↦ All-get_or (λ b. b < 256) f.bytes i 0 inside wire.bytes
      | inr outside ↦ omega (arith, get_or_past f.bytes i 0 outside)
    ]

-- what is no hex digit stands nowhere in hex text
not_digit : (b d : ℕ) → hex_digit_value b ≡ None → d < 16 → nat_eq (slice_index lower_digits d) b ≡ false
not_digit b d none below = ne_eqb (slice_index lower_digits d) b (λ same. cc (sym none ∙ ap hex_digit_value (sym same) ∙ IsDigits-lower_digits d below))

pub without : (b : ℕ) (xs : List ℕ) → hex_digit_value b ≡ None → IsBytes xs → All (λ x. nat_eq x b ≡ false) (encode_lower xs)
unfolding encode_with
without b [] none fits = All-nil (λ x. nat_eq x b ≡ false)
without b (x ∷ xs) none fits =
    let byte : x < 256 = fits 0 in
    let P : ℕ → Type 0 = λ y. nat_eq y b ≡ false in
    All-cons P (slice_index lower_digits (x / 16)) (slice_index lower_digits (x % 16) ∷ encode_lower xs) (not_digit b (x / 16) none (omega arith))
    (All-cons P (slice_index lower_digits (x % 16)) (encode_lower xs) (not_digit b (x % 16) none (omega arith)) (without b xs none (λ i. fits (suc i))))

-- a frame's line without its end
body : Frame → List ℕ
body f = (48 + f.port) ∷ 32 ∷ (48 + f.queue) ∷ 32 ∷ encode_lower f.bytes

-- its three fields
body_parts : (f : Frame) → InRange f → parts 32 (body f) ≡ ((48 + f.port) ∷ []) ∷ ((48 + f.queue) ∷ []) ∷ encode_lower f.bytes ∷ []
unfolding body
body_parts f wire =
    let P : ℕ → Type 0 = λ x. nat_eq x 32 ≡ false in
    let p : P (48 + f.port) = ne_eqb (48 + f.port) 32 (λ same. omega arith) in
    let q : P (48 + f.queue) = ne_eqb (48 + f.queue) 32 (λ same. omega arith) in
    let first = slice_split_at (λ b. nat_eq b 32) ((48 + f.port) ∷ []) 32 ((48 + f.queue) ∷ 32 ∷ encode_lower f.bytes) (All-cons P (48 + f.port) [] p (All-nil P)) refl in
    let second = slice_split_at (λ b. nat_eq b 32) ((48 + f.queue) ∷ []) 32 (encode_lower f.bytes) (All-cons P (48 + f.queue) [] q (All-nil P)) refl in
    let third = slice_split_none (λ b. nat_eq b 32) (encode_lower f.bytes) (without 32 f.bytes refl (frame_bytes f wire)) in
    first ∙ ap (λ fields. ((48 + f.port) ∷ []) ∷ fields) (second ∙ ap (λ fields. ((48 + f.queue) ∷ []) ∷ fields) third)

-- the text is cut after the first frame's line
text_parts : (f : Frame) (fs : List Frame) → InRange f → parts 10 (text_for (f ∷ fs)) ≡ body f ∷ parts 10 (text_for fs)
unfolding body line_for
text_parts f fs wire =
    let P : ℕ → Type 0 = λ x. nat_eq x 10 ≡ false in
    let p : P (48 + f.port) = ne_eqb (48 + f.port) 10 (λ same. omega arith) in
    let q : P (48 + f.queue) = ne_eqb (48 + f.queue) 10 (λ same. omega arith) in
    let none : All P (body f) = All-cons P (48 + f.port) (32 ∷ (48 + f.queue) ∷ 32 ∷ encode_lower f.bytes) p
    (All-cons P 32 ((48 + f.queue) ∷ 32 ∷ encode_lower f.bytes) refl
    (All-cons P (48 + f.queue) (32 ∷ encode_lower f.bytes) q
    (All-cons P 32 (encode_lower f.bytes) refl (without 10 f.bytes refl (frame_bytes f wire))))) in
    let same : text_for (f ∷ fs) ≡ body f ++ 10 ∷ text_for fs =
    ap (λ rest. (48 + f.port) ∷ 32 ∷ (48 + f.queue) ∷ 32 ∷ rest) (append_assoc (encode_lower f.bytes) (10 ∷ []) (text_for fs)) in
    ap (parts 10) same ∙ slice_split_at (λ b. nat_eq b 10) (body f) 10 (text_for fs) none refl

-- the three fields read
pub port_again : (k port : ℕ) → port < PORTS → port_in k ((48 + port) ∷ []) ≡ Ok port
unfolding digit_below
port_again k port below =
    let same : 48 + port - 48 ≡ port = omega arith in
    rw (le-leb 48 (48 + port) (omega arith), same, lt-ltb port PORTS below) refl

pub queue_again : (k queue : ℕ) → queue < MOST_PAIRS → queue_in k ((48 + queue) ∷ []) ≡ Ok queue
unfolding digit_below
queue_again k queue below =
    let same : 48 + queue - 48 ≡ queue = omega arith in
    rw (le-leb 48 (48 + queue) (omega arith), same, lt-ltb queue MOST_PAIRS below) refl

hex_again : (k : ℕ) (f : Frame) → InRange f → hex_in k (encode_lower f.bytes) ≡ Ok f.bytes
unfolding hex_in sized
hex_again k f wire =
    rw (decode_of-encode_lower f.bytes (frame_bytes f wire), le-leb LEAST_FRAME (length f.bytes) wire.least, le-leb (length f.bytes) MOST_FRAME wire.greatest) refl

frame_again : (k : ℕ) (f : Frame) → InRange f → frame_with k ((48 + f.port) ∷ []) ((48 + f.queue) ∷ []) (hex_in k (encode_lower f.bytes)) ≡ Ok f
unfolding frame_with
frame_again k f wire =
    rw (port_again k f.port wire.port, queue_again k f.queue wire.queue, hex_again k f wire) refl

line_again : (k : ℕ) (f : Frame) → InRange f → line_says k (body f) ≡ Ok (Some f)
unfolding line_says body
line_again k f wire =
    let filled : 0 < length (encode_lower f.bytes) = omega (arith, length-encode_with lower_digits f.bytes, wire.least) in
    let fields : fields_say k (parts 32 (body f)) ≡ Ok f =
    ap (fields_say k) (body_parts f wire) ∙ three_fields k ((48 + f.port) ∷ []) ((48 + f.queue) ∷ []) (encode_lower f.bytes) (omega arith) (omega arith) filled ∙ frame_again k f wire in
    rw (ne_eqb (48 + f.port) 35 (λ same. omega arith), fields) refl

-- from any line and number of frames on
lines_again : (k n : ℕ) (fs : List Frame) → AllByRecursion InRange fs → n + length fs ≤ MOST_SCRIPT_FRAMES → lines_say k n (parts 10 (text_for fs)) ≡ Ok fs
unfolding lines_say and_then line_says
lines_again k n [] wire room = refl
lines_again k n (f ∷ fs) wire room =
    let spare : nat_eq n MOST_SCRIPT_FRAMES ≡ false = ne_eqb n MOST_SCRIPT_FRAMES (λ full. omega arith) in
    let later = lines_again (k + 1) (n + 1) fs wire.1 (omega arith) in
    ap (lines_say k n) (text_parts f fs wire.0) ∙ (rw (line_again k f wire.0, spare, later) refl)

pub read_back : (fs : List Frame) → AllByRecursion InRange fs → length fs ≤ MOST_SCRIPT_FRAMES → script_of (text_for fs) ≡ Ok fs
read_back fs wire room = lines_again 1 0 fs wire (omega arith)
