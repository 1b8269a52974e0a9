-- A line with `fill` reads as the frame that it says.
use Rattle.std.proofs.Common.{◌≡◌, ℕ, zero, suc, ◌+◌, ◌%◌, ◌<◌, ◌^◌, false, nat_eq, List, [], ◌∷◌, ◌++◌, length, codes, Result, Ok, Some, refl, sym, ap, subst, ◌∙◌, arith, lit<}
use Rattle.std.specs.Prelude.{All, decimal, replicate}
use Rattle.std.proofs.lemmas.Bool.{eq-eqb, le-leb, ne_eqb}
use Rattle.std.proofs.lemmas.Fmt.{decimal_by_steps, decimal_nonempty}
use Rattle.std.proofs.lemmas.List.Elements.{All-append, All-cons, All-nil, All-push}
use Rattle.std.proofs.lemmas.List.Splits.{slice_split_at, slice_split_none}
use Rattle.hex.specs.Hex.{IsBytes, encode_lower, lower_digits}
use Rattle.hex.proofs.HexLemmas.{decode_sized-encode_lower, length-encode_with}
use Rattle.limits.specs.declared.profile.TheConstants.{LEAST_FRAME, MOST_FRAME}
use Rattle.text_lines.proofs.Decimals.{number_in-decimal}
use Rattle.text_lines.specs.Parts.{parts}
use Rattle.refusals.specs.declared.errors.ScriptError.{ScriptError}
use Rattle.wire_script.specs.Frame.{Frame, InRange}
use Rattle.wire_script.specs.Line.{byte_in, fields_say, fill_in, frame_with, len_in, line_says, sized}
use Rattle.wire_script.specs.Script.{and_then, fill_line, lines_say, script_of}
use Rattle.wire_script.specs.ScriptError.{Answers}
use Rattle.wire_script.proofs.RoundTrip.{port_again, queue_again, without}
use Rattle.wire_script.proofs.SplitLemmas.{five_fields}

-- what holds of ten digits holds of a decimal number
decimal_all : (P : ℕ → Type 0) → ((d : ℕ) → d < 10 → P (48 + d)) → (n : ℕ) → n < 2 ^ 64 → All P (decimal n)
decimal_all P each n small =
    decimal_by_steps (λ m ds. All P ds) (λ m below. All-cons P (48 + m) [] (each m below) (All-nil P))
    (λ m ds large before. All-push P ds (48 + m % 10) before (each (m % 10) (omega arith))) n small

-- a length in decimal
len_again : (k n : ℕ) → n < 10 ^ 5 → len_in k (decimal n) ≡ Ok n
unfolding len_in
len_again k n small = rw (number_in-decimal n small) refl

one_byte : (b : ℕ) → b < 256 → IsBytes (b ∷ [])
one_byte b small zero = small
one_byte b small (suc i) = omega arith

byte_again : (k b : ℕ) → b < 256 → byte_in k (encode_lower (b ∷ [])) ≡ Ok b
unfolding byte_in
byte_again k b small = rw (decode_sized-encode_lower (b ∷ []) 1 refl (one_byte b small)) refl

fill_again : (k : ℕ) (f : Frame) (b : ℕ) → InRange f → b < 256 → f.bytes ≡ replicate (length f.bytes) b
    → fill_in k (decimal (length f.bytes)) (encode_lower (b ∷ [])) ≡ Ok f.bytes
unfolding fill_in sized
fill_again k f b wire small same =
    let n : ℕ = length f.bytes in
    rw (len_again k n (omega (arith, wire.greatest)), byte_again k b small, sym same, le-leb LEAST_FRAME n wire.least, le-leb n MOST_FRAME wire.greatest) refl

-- what stands before a separator is a part
cut_at : (s : ℕ) (xs ys : List ℕ) → All (λ x. nat_eq x s ≡ false) xs → parts s (xs ++ s ∷ ys) ≡ xs ∷ parts s ys
cut_at s xs ys none = slice_split_at (λ x. nat_eq x s) xs s ys none (eq-eqb s s refl)

-- one digit, the word and the length have no separator in them
digit_apart : (d s : ℕ) → s < 48 → All (λ x. nat_eq x s ≡ false) ((48 + d) ∷ [])
digit_apart d s below =
    All-cons (λ x. nat_eq x s ≡ false) (48 + d) [] (ne_eqb (48 + d) s (λ same. omega arith)) (All-nil (λ x. nat_eq x s ≡ false))

word_apart : (s : ℕ) → s < 48 → All (λ x. nat_eq x s ≡ false) (codes "fill")
word_apart s below =
    let P : ℕ → Type 0 = λ x. nat_eq x s ≡ false in
    All-cons P 102 (105 ∷ 108 ∷ 108 ∷ []) (ne_eqb 102 s (λ same. omega arith))
    (All-cons P 105 (108 ∷ 108 ∷ []) (ne_eqb 105 s (λ same. omega arith))
    (All-cons P 108 (108 ∷ []) (ne_eqb 108 s (λ same. omega arith))
    (All-cons P 108 [] (ne_eqb 108 s (λ same. omega arith)) (All-nil P))))

length_apart : (f : Frame) (s : ℕ) → s < 48 → InRange f → All (λ x. nat_eq x s ≡ false) (decimal (length f.bytes))
length_apart f s below wire =
    decimal_all (λ x. nat_eq x s ≡ false) (λ d digit. ne_eqb (48 + d) s (λ same. omega arith)) (length f.bytes) (omega (arith, wire.greatest))

-- the five fields
fill_fields : (f : Frame) (b : ℕ) → InRange f → b < 256
    → parts 32 (fill_line f b) ≡ ((48 + f.port) ∷ []) ∷ ((48 + f.queue) ∷ []) ∷ codes "fill" ∷ decimal (length f.bytes) ∷ encode_lower (b ∷ []) ∷ []
unfolding fill_line
fill_fields f b wire small =
    let port : List ℕ = (48 + f.port) ∷ [] in
    let queue : List ℕ = (48 + f.queue) ∷ [] in
    let len : List ℕ = decimal (length f.bytes) in
    let byte : List ℕ = encode_lower (b ∷ []) in
    let last : parts 32 byte ≡ byte ∷ [] = slice_split_none (λ x. nat_eq x 32) byte (without 32 (b ∷ []) refl (one_byte b small)) in
    cut_at 32 port (queue ++ 32 ∷ (codes "fill" ++ 32 ∷ (len ++ 32 ∷ byte))) (digit_apart f.port 32 (lit< tt))
    ∙ ap (λ fields. port ∷ fields) (cut_at 32 queue (codes "fill" ++ 32 ∷ (len ++ 32 ∷ byte)) (digit_apart f.queue 32 (lit< tt))
    ∙ ap (λ fields. queue ∷ fields) (cut_at 32 (codes "fill") (len ++ 32 ∷ byte) (word_apart 32 (lit< tt))
    ∙ ap (λ fields. codes "fill" ∷ fields) (cut_at 32 len byte (length_apart f 32 (lit< tt) wire)
    ∙ ap (λ fields. len ∷ fields) last)))

-- the line is one line
fill_lines : (f : Frame) (b : ℕ) → InRange f → b < 256 → parts 10 (fill_line f b) ≡ fill_line f b ∷ []
unfolding fill_line
fill_lines f b wire small =
    let P : ℕ → Type 0 = λ x. nat_eq x 10 ≡ false in
    let len : List ℕ = decimal (length f.bytes) in
    let byte : List ℕ = encode_lower (b ∷ []) in
    let ends : All P (len ++ 32 ∷ byte) =
    All-append P len (32 ∷ byte) (length_apart f 10 (lit< tt) wire) (All-cons P 32 byte refl (without 10 (b ∷ []) refl (one_byte b small))) in
    let word : All P (codes "fill" ++ 32 ∷ (len ++ 32 ∷ byte)) =
    All-append P (codes "fill") (32 ∷ (len ++ 32 ∷ byte)) (word_apart 10 (lit< tt)) (All-cons P 32 (len ++ 32 ∷ byte) refl ends) in
    let queue : All P (((48 + f.queue) ∷ []) ++ 32 ∷ (codes "fill" ++ 32 ∷ (len ++ 32 ∷ byte))) =
    All-append P ((48 + f.queue) ∷ []) (32 ∷ (codes "fill" ++ 32 ∷ (len ++ 32 ∷ byte))) (digit_apart f.queue 10 (lit< tt)) (All-cons P 32 (codes "fill" ++ 32 ∷ (len ++ 32 ∷ byte)) refl word) in
    let port = All-append P ((48 + f.port) ∷ []) (32 ∷ (((48 + f.queue) ∷ []) ++ 32 ∷ (codes "fill" ++ 32 ∷ (len ++ 32 ∷ byte)))) (digit_apart f.port 10 (lit< tt))
    (All-cons P 32 (((48 + f.queue) ∷ []) ++ 32 ∷ (codes "fill" ++ 32 ∷ (len ++ 32 ∷ byte))) refl queue) in
    slice_split_none (λ x. nat_eq x 10) (fill_line f b) port

-- what the line says
fill_said : (k : ℕ) (f : Frame) (b : ℕ) → InRange f → b < 256 → f.bytes ≡ replicate (length f.bytes) b → line_says k (fill_line f b) ≡ Ok (Some f)
unfolding line_says fill_line frame_with
fill_said k f b wire small same =
    let two : 0 < length (encode_lower (b ∷ [])) = omega (arith, length-encode_with lower_digits (b ∷ [])) in
    let some : 0 < length (decimal (length f.bytes)) = decimal_nonempty (length f.bytes) (omega (arith, wire.greatest)) in
    let frame : fields_say k (parts 32 (fill_line f b)) ≡ Ok f =
    ap (fields_say k) (fill_fields f b wire small)
    ∙ five_fields k ((48 + f.port) ∷ []) ((48 + f.queue) ∷ []) (codes "fill") (decimal (length f.bytes)) (encode_lower (b ∷ [])) (omega arith) (omega arith) (lit< tt) some two refl
    ∙ (rw (port_again k f.port wire.port, queue_again k f.queue wire.queue, fill_again k f b wire small same) refl) in
    rw (ne_eqb (48 + f.port) 35 (λ same. omega arith), frame) refl

fill_read : (f : Frame) (b : ℕ) → InRange f → b < 256 → f.bytes ≡ replicate (length f.bytes) b → script_of (fill_line f b) ≡ Ok (f ∷ [])
unfolding lines_say and_then
fill_read f b wire small same = ap (lines_say 1 0) (fill_lines f b wire small) ∙ (rw (fill_said 1 f b wire small same) refl)

-- of an answer
pub fill_answered : (text : List ℕ) (r : Result (List Frame) ScriptError) (f : Frame) (b : ℕ) → Answers r (script_of text)
    → InRange f → b < 256 → f.bytes ≡ replicate (length f.bytes) b → text ≡ fill_line f b → Answers r (Ok (f ∷ []))
fill_answered text r f b exact wire small same is = subst (Answers r) (ap script_of is ∙ fill_read f b wire small same) exact
