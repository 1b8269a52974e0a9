-- What a capture adds to frames, from what it says; and captures one after another.
use Rattle.std.proofs.Common.{◌≡◌, ◌∙◌, ℕ, ◌+◌, ◌-◌, ◌<◌, ◌≤◌, true, false, nat_lt, List, [], ◌∷◌, ◌++◌, Result, Ok, Err, ap, refl, sym, subst, length}
use Rattle.std.proofs.lemmas.Bool.{le-ltb, lt-ltb}
use Rattle.std.proofs.lemmas.List.{length-map}
use Rattle.limits.specs.declared.profile.TheConstants.{MOST_SCRIPT_FRAMES}
use Rattle.capture.specs.CaptureError.{◌>>=◌, Fails}
use Rattle.capture.specs.Reading.{Content, capture_with}
use Rattle.capture.specs.declared.options.ReadOptions.{ReadOptions}
use Rattle.capture.specs.declared.options.Skipped.{Skipped}
use Rattle.capture.specs.Record.{Record}
use Rattle.refusals.specs.declared.errors.CaptureError.{CaptureError}
use Rattle.refusals.specs.declared.errors.CaptureError.TheVariants.{NotCapture, LinkType, CutShort, CapturedShort, FrameLength, TooMany, Memory}
use Rattle.capture.specs.Frames.{frames_at}
use Rattle.wire_script.specs.Frame.{Frame, frame_of}
use Rattle.forward_io.specs.Gathering.{Gathers, with_capture, with_frames}
use Rattle.requests.specs.Files.{SourceFile}

-- frames beside the counts of records left out
abbrev beside : Skipped → Result (List Frame) CaptureError → Result (List Frame × Skipped) CaptureError
beside k r = r >>= λ frames. Ok (frames, k)

-- what a capture adds to frames, if it has no fault
abbrev adds : List Frame → ℕ → ℕ → Content × Skipped → Result (List Frame × Skipped) CaptureError
adds before port queue c = beside c.1 (with_frames before (frames_at port queue c.0.records))

abbrev with_it : List Frame → ℕ → ℕ → Result (Content × Skipped) CaptureError → Result (List Frame × Skipped) CaptureError
with_it before port queue r = r >>= adds before port queue

-- a capture's own fault is that of the frames with it
pub faulty : (reading : ReadOptions) (before : List Frame) (port queue : ℕ) (bytes : List ℕ) (e : CaptureError) → Fails e (capture_with reading bytes)
    → Fails e (with_capture reading before port queue bytes)
unfolding with_capture
faulty reading before port queue bytes Memory fails = fails
faulty reading before port queue bytes NotCapture fails = ap (with_it before port queue) fails
faulty reading before port queue bytes LinkType fails = ap (with_it before port queue) fails
faulty reading before port queue bytes (CutShort k) fails = ap (with_it before port queue) fails
faulty reading before port queue bytes (CapturedShort k) fails = ap (with_it before port queue) fails
faulty reading before port queue bytes (FrameLength k) fails = ap (with_it before port queue) fails
faulty reading before port queue bytes (TooMany k) fails = ap (with_it before port queue) fails

-- a capture that says these records
says : (reading : ReadOptions) (before : List Frame) (port queue : ℕ) (bytes : List ℕ) (c : Content) (k : Skipped) → capture_with reading bytes ≡ Ok (c, k)
    → with_capture reading before port queue bytes ≡ adds before port queue (c, k)
unfolding with_capture
says reading before port queue bytes c k is = ap (with_it before port queue) is

-- more than there is room for
pub too-many : (reading : ReadOptions) (before : List Frame) (room port queue : ℕ) (bytes : List ℕ) (c : Content) (k : Skipped) → capture_with reading bytes ≡ Ok (c, k)
    → room ≡ MOST_SCRIPT_FRAMES - length before → MOST_SCRIPT_FRAMES < length before + length c.records
    → with_capture reading before port queue bytes ≡ Err (TooMany (room + 1))
too-many reading before room port queue bytes c k is left many =
    rw left (says reading before port queue bytes c k is ∙ ap (beside k) (over (frames_at port queue c.records) (length-map c.records (λ r. frame_of port queue r.frame))))
  where
    over : (frames : List Frame) → length frames ≡ length c.records → with_frames before frames ≡ Err (TooMany (MOST_SCRIPT_FRAMES - length before + 1))
    over frames same = let t : nat_lt MOST_SCRIPT_FRAMES (length before + length frames) ≡ true = lt-ltb MOST_SCRIPT_FRAMES (length before + length frames) (rw same many) in rw t refl

-- and not more
pub added : (reading : ReadOptions) (before : List Frame) (port queue : ℕ) (bytes : List ℕ) (c : Content) (k : Skipped) (records : List Record) → capture_with reading bytes ≡ Ok (c, k)
    → records ≡ c.records → length before + length records ≤ MOST_SCRIPT_FRAMES
    → with_capture reading before port queue bytes ≡ Ok (before ++ frames_at port queue records, k)
added reading before port queue bytes c k records is same few =
    rw same (says reading before port queue bytes c k is ∙ ap (beside k) (within (frames_at port queue c.records) (length-map c.records (λ r. frame_of port queue r.frame))))
  where
    within : (frames : List Frame) → length frames ≡ length c.records → with_frames before frames ≡ Ok (before ++ frames)
    within frames size = let t : nat_lt MOST_SCRIPT_FRAMES (length before + length frames) ≡ false = le-ltb MOST_SCRIPT_FRAMES (length before + length frames) (rw (size, ap length (sym same)) few) in rw t refl

-- one source more
pub gathers-more : (reading : ReadOptions) (sources : List SourceFile) (s : SourceFile) (first before after : List Frame) (ks : List Skipped) (k : Skipped) (bytes : List ℕ)
    → Gathers reading sources first before ks → with_capture reading before s.port s.queue bytes ≡ Ok (after, k)
    → Gathers reading (sources ++ s ∷ []) first after (ks ++ k ∷ [])
gathers-more reading [] s first before after [] k bytes same is =
    (bytes, after, subst (λ (f : List Frame). with_capture reading f s.port s.queue bytes ≡ Ok (after, k)) (sym same.0) is, (refl, refl))
gathers-more reading [] s first before after (j ∷ js) k bytes same is = let bad : ⊥ = cc same.1 in absurd bad
gathers-more reading (t ∷ ts) s first before after [] k bytes gathers is = absurd gathers
gathers-more reading (t ∷ ts) s first before after (j ∷ js) k bytes (b, middle, one, rest) is =
    (b, middle, one, gathers-more reading ts s middle before after js k bytes rest is)
