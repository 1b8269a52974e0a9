-- Reading one line after the other, as the loop does.
use Rattle.std.proofs.Common.{◌≡◌, ◌≢◌, ◌⊎◌, inl, inr, ℕ, ◌+◌, ◌≤◌, List, [], ◌∷◌, ◌++◌, length, Option, Some, None, Result, Ok, Err, refl, sym, ap, ◌∙◌, append_assoc, arith, length-append}
use Rattle.std.specs.Prelude.{IsSome, option_to_list}
use Rattle.std.proofs.lemmas.Bool.{eq-eqb, ne_eqb}
use Rattle.std.proofs.lemmas.List.{append-nil}
use Rattle.limits.specs.declared.profile.TheConstants.{MOST_SCRIPT_FRAMES}
use Rattle.refusals.specs.declared.errors.ScriptError.{ScriptError}
use Rattle.refusals.specs.declared.errors.ScriptError.TheVariants as errors
use Rattle.wire_script.specs.Frame.{Frame}
use Rattle.wire_script.specs.Line.{line_says}
use Rattle.wire_script.specs.Script.{and_then, lines_say}
use Rattle.wire_script.specs.ScriptError.{◌>>=◌, Fails}

-- what was read before, and what the lines after it say
abbrev pub with_front : List Frame → Result (List Frame) ScriptError → Result (List Frame) ScriptError
with_front front later = later >>= λ frames. Ok (front ++ frames)

-- what is left says, after these frames and lines, what the whole text says
pub record Reads (frames : List Frame) (k : ℕ) (lines : List (List ℕ)) (total : Result (List Frame) ScriptError) : Type 0 where
  pub said : with_front frames (lines_say k (length frames) lines) ≡ total
  pub room : length frames ≤ MOST_SCRIPT_FRAMES

with_front-cons : (front : List Frame) (frame : Frame) (later : Result (List Frame) ScriptError)
    → with_front front (later >>= λ frames. Ok (frame ∷ frames)) ≡ with_front (front ++ frame ∷ []) later
with_front-cons front frame (Ok frames) = ap Ok (sym (append_assoc front (frame ∷ []) frames))
with_front-cons front frame (Err e) = refl

-- a line that is refused
stops : (e : ScriptError) (front : List Frame) (k : ℕ) (line : List ℕ) (lines : List (List ℕ)) (total : Result (List Frame) ScriptError)
    → line_says k line ≡ Err e → Reads front k (line ∷ lines) total → total ≡ Err e
unfolding lines_say and_then
stops e front k line lines total bad before =
    let one : with_front front (lines_say k (length front) (line ∷ lines)) ≡ Err e = rw bad refl in
    sym before.said ∙ one

pub stops_at : (e : ScriptError) (front : List Frame) (k : ℕ) (line : List ℕ) (lines : List (List ℕ)) (total : Result (List Frame) ScriptError)
    → Fails e (line_says k line) → Reads front k (line ∷ lines) total → Fails e total
stops_at (errors.Fields l) front k line lines total bad before = stops _ front k line lines total bad before
stops_at (errors.Port l) front k line lines total bad before = stops _ front k line lines total bad before
stops_at (errors.Queue l) front k line lines total bad before = stops _ front k line lines total bad before
stops_at (errors.Bytes l) front k line lines total bad before = stops _ front k line lines total bad before
stops_at (errors.FrameLength l) front k line lines total bad before = stops _ front k line lines total bad before
stops_at (errors.TooMany l) front k line lines total bad before = stops _ front k line lines total bad before
stops_at errors.Memory front k line lines total bad before = tt

-- one frame too many
too_many : (front : List Frame) (k : ℕ) (line : List ℕ) (lines : List (List ℕ)) (frame : Frame) (total : Result (List Frame) ScriptError)
    → line_says k line ≡ Ok (Some frame) → length front ≡ MOST_SCRIPT_FRAMES → Reads front k (line ∷ lines) total → total ≡ Err (errors.TooMany k)
unfolding lines_say and_then
too_many front k line lines frame total good full before =
    let one : with_front front (lines_say k (length front) (line ∷ lines)) ≡ Err (errors.TooMany k) = rw (good, eq-eqb (length front) MOST_SCRIPT_FRAMES full) refl in
    sym before.said ∙ one

-- a line that was not added
pub stops_full : (e : ScriptError) (front : List Frame) (k : ℕ) (line : List ℕ) (lines : List (List ℕ)) (said : Option Frame) (total : Result (List Frame) ScriptError)
    → line_says k line ≡ Ok said → (e ≡ errors.Memory) ⊎ ((e ≡ errors.TooMany k) × IsSome said × (length front ≡ MOST_SCRIPT_FRAMES))
    → Reads front k (line ∷ lines) total → Fails e total
stops_full e front k line lines said total good (inl memory) before = rw memory tt
stops_full e front k line lines (Some frame) total good (inr full) before = rw full.0 (too_many front k line lines frame total good full.2 before)
stops_full e front k line lines None total good (inr full) before = cc (full.1)

-- a line that says nothing
passes : (front : List Frame) (k : ℕ) (line : List ℕ) (lines : List (List ℕ)) (total : Result (List Frame) ScriptError)
    → line_says k line ≡ Ok None → Reads front k (line ∷ lines) total → Reads front (k + 1) lines total
unfolding lines_say and_then
passes front k line lines total good before =
    let one : with_front front (lines_say k (length front) (line ∷ lines)) ≡ with_front front (lines_say (k + 1) (length front) lines) = rw good refl in
    record { said = sym one ∙ before.said; room = before.room }

-- a line that says a frame
gains : (front : List Frame) (k : ℕ) (line : List ℕ) (lines : List (List ℕ)) (frame : Frame) (total : Result (List Frame) ScriptError)
    → line_says k line ≡ Ok (Some frame) → length front ≢ MOST_SCRIPT_FRAMES → Reads front k (line ∷ lines) total → Reads (front ++ frame ∷ []) (k + 1) lines total
unfolding lines_say and_then
gains front k line lines frame total good spare before =
    let later : Result (List Frame) ScriptError = lines_say (k + 1) (length front + 1) lines in
    let one : with_front front (lines_say k (length front) (line ∷ lines)) ≡ with_front front (later >>= λ frames. Ok (frame ∷ frames)) =
    rw (good, ne_eqb (length front) MOST_SCRIPT_FRAMES spare) refl in
    let more : length (front ++ frame ∷ []) ≡ length front + 1 = omega (arith, length-append front (frame ∷ [])) in
    record {
      said = ap (λ n. with_front (front ++ frame ∷ []) (lines_say (k + 1) n lines)) more ∙ sym (with_front-cons front frame later) ∙ sym one ∙ before.said;
      room = omega (arith, more, before.room);
    }

pub goes_on : (front : List Frame) (k : ℕ) (line : List ℕ) (lines : List (List ℕ)) (said : Option Frame) (total : Result (List Frame) ScriptError)
    → line_says k line ≡ Ok said → (IsSome said → length front ≢ MOST_SCRIPT_FRAMES) → Reads front k (line ∷ lines) total
    → Reads (front ++ option_to_list said) (k + 1) lines total
goes_on front k line lines None total good spare before = rw (append-nil front) (passes front k line lines total good before)
goes_on front k line lines (Some frame) total good spare before = gains front k line lines frame total good (spare refl) before

-- no line is left
pub is_read : (front : List Frame) (k : ℕ) (total : Result (List Frame) ScriptError) → Reads front k [] total → total ≡ Ok front
unfolding lines_say
is_read front k total before = sym before.said ∙ ap Ok (append-nil front)
