-- The meaning of a text as a script, and the text of frames.
use Rattle.std.specs.Prelude.{◌≡◌, ◌⊎◌, ℕ, ◌+◌, ◌≤◌, ◌==◌, if◌then◌else◌, List, [], ◌∷◌, ◌++◌, length, codes, decimal, All, Option, Some, None, IsSome, Result, Ok, Err, IsOk}
use Rattle.std.specs.List.{enumerate_from, filter_map, flat_map}
use Rattle.hex.specs.Hex.{encode_lower}
use Rattle.limits.specs.declared.profile.TheConstants.{MOST_SCRIPT_FRAMES}
use Rattle.text_lines.specs.Parts.{lines_of}
use Rattle.refusals.specs.declared.errors.ScriptError.{ScriptError}
use Rattle.refusals.specs.declared.errors.ScriptError.TheVariants.{TooMany}
use Rattle.wire_script.specs.Frame.{Frame}
use Rattle.wire_script.specs.Line.{line_says}
use Rattle.wire_script.specs.ScriptError.{◌>>=◌}

-- The meaning of line `k` and the lines after it, given that of the line alone and the number of `earlier` frames.
-- `later` is the meaning of the lines after it, given the number of frames before them.
unfoldable pub and_then : ℕ → ℕ → Result (Option Frame) ScriptError → (ℕ → Result (List Frame) ScriptError) → Result (List Frame) ScriptError
and_then k earlier (Err e) later = Err e
and_then k earlier (Ok None) later = later earlier
and_then k earlier (Ok (Some frame)) later =
    if earlier == MOST_SCRIPT_FRAMES then Err (TooMany k) else later (earlier + 1) >>= λ frames. Ok (frame ∷ frames)

-- The frames in the lines from number `k` on, or the first fault.
unfoldable pub lines_say : ℕ → ℕ → List (List ℕ) → Result (List Frame) ScriptError
lines_say k earlier [] = Ok []
lines_say k earlier (line ∷ lines) = and_then k earlier (line_says k line) (λ n. lines_say (k + 1) n lines)

-- The frames in a text, or its first fault.
abbrev pub script_of : List ℕ → Result (List Frame) ScriptError
script_of text = lines_say 1 0 (lines_of text)

-- A text's lines with their numbers.
abbrev pub numbered_lines : List ℕ → List (ℕ × List ℕ)
numbered_lines text = enumerate_from 1 (lines_of text)

-- The line with this number has no fault.
abbrev pub IsGood : ℕ × List ℕ → Type 0
IsGood line = IsOk (line_says line.0 line.1)

-- The frame in a line, if there is one.
abbrev pub said_frame : Result (Option Frame) ScriptError → Option Frame
said_frame (Ok said) = said
said_frame (Err e) = None

-- The frames in these lines.
abbrev pub frames_in : List (ℕ × List ℕ) → List Frame
frames_in lines = filter_map (λ line. said_frame (line_says line.0 line.1)) lines

-- No line has a fault, and these are their frames.
pub record Says (text : List ℕ) (frames : List Frame) : Type 0 where
  pub good : All IsGood (numbered_lines text)
  pub same : frames ≡ frames_in (numbered_lines text)
  pub room : length frames ≤ MOST_SCRIPT_FRAMES

-- These lines have no fault. The next line, `k`, has this fault or has one frame too many.
pub record StopsAt (before : List (ℕ × List ℕ)) (k : ℕ) (line : List ℕ) (e : ScriptError) : Type 0 where
  pub good : All IsGood before
  pub fault : (line_says k line ≡ Err e)
      ⊎ ((length (frames_in before) ≡ MOST_SCRIPT_FRAMES) × IsSome (said_frame (line_says k line)) × (e ≡ TooMany k))

-- This is the text's first fault.
abbrev pub Refuses : List ℕ → ScriptError → Type 0
Refuses text e =
    (before : List (ℕ × List ℕ)) × (k : ℕ) × (line : List ℕ) × (after : List (ℕ × List ℕ))
    × (numbered_lines text ≡ before ++ (k, line) ∷ after) × StopsAt before k line e

-- The line of a frame.
unfoldable pub line_for : Frame → List ℕ
line_for f = (48 + f.port) ∷ 32 ∷ (48 + f.queue) ∷ 32 ∷ (encode_lower f.bytes ++ 10 ∷ [])

-- The lines of frames.
abbrev pub text_for : List Frame → List ℕ
text_for frames = flat_map line_for frames

-- A line for a frame that repeats one byte.
unfoldable pub fill_line : Frame → ℕ → List ℕ
fill_line f byte =
    (48 + f.port) ∷ 32 ∷ (48 + f.queue) ∷ 32 ∷ (codes "fill" ++ 32 ∷ (decimal (length f.bytes) ++ 32 ∷ encode_lower (byte ∷ [])))
