-- The frames of several captures, each at its port and its queue.
use Rattle.std.specs.Prelude.{◌≡◌, ◌⊎◌, ℕ, ◌+◌, ◌-◌, nat_lt, if◌then◌else◌, List, [], ◌∷◌, ◌++◌, length, slice_get, take, Some, Result, Ok, Err}
use Rattle.limits.specs.declared.profile.TheConstants.{MOST_SCRIPT_FRAMES}
use Rattle.capture.specs.CaptureError.{◌>>=◌, Fails}
use Rattle.capture.specs.Reading.{capture_with}
use Rattle.capture.specs.declared.options.ReadOptions.{ReadOptions}
use Rattle.capture.specs.declared.options.Skipped.{Skipped}
use Rattle.refusals.specs.declared.errors.CaptureError.{CaptureError}
use Rattle.refusals.specs.declared.errors.CaptureError.TheVariants.{TooMany}
use Rattle.capture.specs.Frames.{frames_at}
use Rattle.requests.specs.declared.refusal.Refusal.{Refusal}
use Rattle.requests.specs.declared.refusal.Refusal.TheVariants as refusal
use Rattle.wire_script.specs.Frame.{Frame}
use Rattle.forward_io.specs.declared.captured.refused.RefusalSubject.TheVariants.{Source}
use Rattle.forward_io.specs.declared.captured.refused.FileRefusal.{FileRefusal}
use Rattle.forward_io.specs.Refusals.{IsFileNotRead}
use Rattle.requests.specs.Files.{SourceFile}

-- frames followed by others, or `TooMany` with the number of the first one that does not fit
abbrev pub with_frames : List Frame → List Frame → Result (List Frame) CaptureError
with_frames before frames =
    if nat_lt MOST_SCRIPT_FRAMES (length before + length frames) then Err (TooMany (MOST_SCRIPT_FRAMES - length before + 1)) else Ok (before ++ frames)

-- frames followed by those of a capture, each at this port and queue, and the counts of records left out; or the first
-- fault, where faults of the capture itself come first
unfoldable pub with_capture : ReadOptions → List Frame → ℕ → ℕ → List ℕ → Result (List Frame × Skipped) CaptureError
with_capture reading before port queue bytes =
    capture_with reading bytes >>= λ c. with_frames before (frames_at port queue c.0.records) >>= λ frames. Ok (frames, c.1)

-- captures of these sources, one each and in order, lead from the first frames to the second, and these records are left
-- out of them
abbrev pub Gathers : ReadOptions → List SourceFile → List Frame → List Frame → List Skipped → Type 0
Gathers reading [] before after skipped = (before ≡ after) × (skipped ≡ [])
Gathers reading (s ∷ ss) before after [] = ⊥
Gathers reading (s ∷ ss) before after (k ∷ ks) =
    (bytes : List ℕ) × (middle : List Frame) × (with_capture reading before s.port s.queue bytes ≡ Ok (middle, k)) × Gathers reading ss middle after ks

-- the frames of captures of these sources, and the counts of records left out of each
abbrev pub AreGathered : ReadOptions → List SourceFile → List Frame → List Skipped → Type 0
AreGathered reading sources frames skipped = Gathers reading sources [] frames skipped

-- a capture of this source leads from the first frames to the second, and the counts of records left out grow by its own
pub record IsAdded (reading : ReadOptions) (s : SourceFile) (before after : List Frame) (skipped more : List Skipped) : Type 0 where
  pub bytes : List ℕ
  pub left_out : Skipped
  pub frames : with_capture reading before s.port s.queue bytes ≡ Ok (after, left_out)
  pub counts : more ≡ skipped ++ left_out ∷ []

-- after these frames a source is refused: its file cannot be read, memory is missing, or its capture has this fault
abbrev pub IsUnread : ReadOptions → SourceFile → List Frame → Refusal → Type 0
IsUnread reading s before e =
    IsFileNotRead e ⊎ ((e ≡ refusal.Memory) ⊎ ((bytes : List ℕ) × (fault : CaptureError) × (e ≡ refusal.Capture fault)
    × Fails fault (with_capture reading before s.port s.queue bytes)))

-- the first source that is refused, and why: captures of the sources before it were gathered
pub record IsUngathered (reading : ReadOptions) (sources : List SourceFile) (e : FileRefusal) : Type 0 where
  pub at : ℕ
  pub source : SourceFile
  pub before : List Frame
  pub skipped : List Skipped
  pub place : e.place ≡ Source at
  pub there : slice_get sources at ≡ Some source
  pub gathered : AreGathered reading (take at sources) before skipped
  pub why : IsUnread reading source before e.refusal
