-- The frames that a forwarding takes in: those of captures, and then those of a script.
use Rattle.std.specs.Prelude.{ℕ, suc, zero, ◌+◌, ◌-◌, nat_lt, Bool, true, not, ◌||◌, ◌==◌, if◌then◌else◌, Option, Some, None, List, [], ◌∷◌, length, Result, Ok, Err}
use Rattle.std.specs.List.{list_any}
use Rattle.capture.specs.declared.options.ReadOptions.{ReadOptions}
use Rattle.limits.specs.declared.profile.TheConstants.{MOST_SCRIPT_FRAMES}
use Rattle.refusals.specs.declared.errors.ScriptError.{ScriptError}
use Rattle.refusals.specs.declared.errors.ScriptError.TheVariants.{TooMany}
use Rattle.text_lines.specs.Parts.{lines_of, says_something}
use Rattle.wire_script.specs.Frame.{Frame}
use Rattle.wire_script.specs.Script.{script_of}
use Rattle.wire_script.specs.ScriptError.{◌>>=◌}
use Rattle.requests.specs.Files.{names_input}
use Rattle.requests.specs.Files.{SourceFile}

-- the captures, how they are read, and whether the input is a terminal
pub record FrameIntake : Type 0 where
  pub sources : List SourceFile
  pub reading : ReadOptions
  pub is_terminal : Bool

-- a capture is the input
abbrev pub has_input : List SourceFile → Bool
has_input sources = list_any (λ s. names_input s.file) sources

-- the input is read as a script: without captures always, and with captures if it is neither a terminal nor a capture
abbrev pub reads_beside : Bool → List SourceFile → Bool
reads_beside is_terminal [] = true
reads_beside is_terminal (s ∷ ss) = not (is_terminal || has_input (s ∷ ss))

abbrev pub reads_script : FrameIntake → Bool
reads_script intake = reads_beside intake.is_terminal intake.sources

-- the number of frames before the one that is looked for, after this line: none if the line is that frame
abbrev pub left_after : List ℕ → ℕ → Option ℕ
left_after line n = if says_something line then (if n == 0 then None else Some (n - 1)) else Some n

-- the number of the line of frame `n`, counted from 0, in lines without a fault, of which the first has number `k`
unfoldable pub frame_line : ℕ → ℕ → List (List ℕ) → ℕ
frame_line k n [] = k
frame_line k zero (line ∷ lines) = if says_something line then k else frame_line (k + 1) zero lines
frame_line k (suc n) (line ∷ lines) = if says_something line then frame_line (k + 1) n lines else frame_line (k + 1) (suc n) lines

-- the frames of a text, or its first fault; a text without a fault may have too many frames for the room
abbrev pub script_within : ℕ → List ℕ → Result (List Frame) ScriptError
script_within room text =
    script_of text >>= λ frames. if nat_lt room (length frames) then Err (TooMany (frame_line 1 room (lines_of text))) else Ok frames

-- the number of frames that fit after these
abbrev pub room_after : List Frame → ℕ
room_after captured = MOST_SCRIPT_FRAMES - length captured
