-- The script of captures and of the input.
use Rattle.std.specs.Prelude.{◌≡◌, ◌⊎◌, ℕ, Bool, true, false, List, ◌++◌, Option, Ok, IfSome}
use Rattle.requests.specs.declared.refusal.Refusal.{Refusal}
use Rattle.requests.specs.declared.refusal.Refusal.TheVariants as refusal
use Rattle.wire_script.specs.Frame.{Frame}
use Rattle.wire_script.specs.ScriptError.{Fails}
use Rattle.refusals.specs.declared.errors.ScriptError.{ScriptError}
use Rattle.forward_io.specs.declared.captured.refused.RefusalSubject.TheVariants.{Command}
use Rattle.forward_io.specs.declared.captured.refused.FileRefusal.{FileRefusal}
use Rattle.forward_io.specs.Gathering.{AreGathered, IsUngathered}
use Rattle.forward_io.specs.Intakes.{FrameIntake, reads_script, room_after, script_within}
use Rattle.capture.specs.declared.options.Skipped.{Skipped}

-- the input is read after the captures or not, and this is the script: their frames, and those of the text that was read,
-- which is the input if the input is known
abbrev pub IsContinued : Bool → Option (List ℕ) → List Frame → List Frame → Type 0
IsContinued false input captured script = script ≡ captured
IsContinued true input captured script =
    (text : List ℕ) × IfSome input (λ known. text ≡ known)
    × (frames : List Frame) × (script_within (room_after captured) text ≡ Ok frames) × (script ≡ captured ++ frames)

-- the frames of captures and of the input, and the counts of records left out of each capture
pub record IsScript (intake : FrameIntake) (input : Option (List ℕ)) (script : List Frame) (skipped : List Skipped) : Type 0 where
  pub captured : List Frame
  pub gathered : AreGathered intake.reading intake.sources captured skipped
  pub continued : IsContinued (reads_script intake) input captured script

-- why there is no script in the input after these frames
abbrev pub IsFaulty : Option (List ℕ) → List Frame → Refusal → Type 0
IsFaulty input captured e =
    (e ≡ refusal.Input) ⊎ ((e ≡ refusal.Memory) ⊎ ((text : List ℕ) × IfSome input (λ known. text ≡ known)
    × (fault : ScriptError) × (e ≡ refusal.Script fault) × Fails fault (script_within (room_after captured) text)))

-- the input is read after the captures, and there is no script in it
pub record IsInputFaulty (intake : FrameIntake) (input : Option (List ℕ)) (e : FileRefusal) : Type 0 where
  pub captured : List Frame
  pub skipped : List Skipped
  pub gathered : AreGathered intake.reading intake.sources captured skipped
  pub is_read : reads_script intake ≡ true
  pub place : e.place ≡ Command
  pub why : IsFaulty input captured e.refusal

-- why there is no script: a capture is refused, or the input
abbrev pub IsNoScript : FrameIntake → Option (List ℕ) → FileRefusal → Type 0
IsNoScript intake input e = IsUngathered intake.reading intake.sources e ⊎ IsInputFaulty intake input e
