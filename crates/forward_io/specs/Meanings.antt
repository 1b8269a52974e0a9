-- The conversions of `from-capture` and `to-capture`, and how the commands end.
use Rattle.std.specs.Prelude.{◌≡◌, ◌⊎◌, ℕ, List, map, Option, Result, Ok, Err, IfOk, IfSome, IsOk}
use Rattle.std.specs.Result.{result_map_both}
use Rattle.std.specs.Io.KnownBytes.{Appends, Keeps}
use Rattle.capture.specs.Reading.{capture_with}
use Rattle.capture.specs.declared.options.ReadOptions.{ReadOptions}
use Rattle.capture.specs.declared.options.Skipped.{Skipped}
use Rattle.capture.specs.Writing.{capture_of}
use Rattle.refusals.specs.declared.errors.CaptureError.TheVariants.{Memory as NoRecords}
use Rattle.capture.specs.Frames.{frames_at}
use Rattle.capture.specs.Records.{records_of_port}
use Rattle.requests.specs.declared.refusal.Refusal.{Refusal}
use Rattle.requests.specs.declared.refusal.Refusal.TheVariants as refusal
use Rattle.wire_script.specs.Frame.{Frame}
use Rattle.text_lines.specs.Parts.{lines_of}
use Rattle.wire_script.specs.Script.{lines_say, text_for}
use Rattle.refusals.specs.declared.errors.ScriptError.{ScriptError}
use Rattle.refusals.specs.declared.errors.ScriptError.TheVariants.{Memory as NoFrames}
use Rattle.requests.specs.declared.conversion.CaptureRequest.{CaptureRequest}
use Rattle.requests.specs.declared.conversion.CaptureRequest.TheVariants.{FromCapture, ToCapture}
use Rattle.forward_io.specs.Flows.{passed_line}

-- the frames of a capture, read with these options, as script lines at this port and queue, or the capture's first fault
abbrev pub lines_meant : ℕ → ℕ → ReadOptions → List ℕ → Result (List ℕ) Refusal
lines_meant port queue reading bytes =
    result_map_both (λ c. text_for (frames_at port queue c.0.records)) (λ e. refusal.Capture e) (capture_with reading bytes)

-- these records are left out of a capture
abbrev pub IsSkipped : ReadOptions → List ℕ → Skipped → Type 0
IsSkipped reading bytes skipped = IfOk (capture_with reading bytes) (λ c. c.1 ≡ skipped)

-- the frames of a text's lines without those of flows, or the first fault
abbrev pub wires_in : List ℕ → Result (List Frame) ScriptError
wires_in text = lines_say 1 0 (map passed_line (lines_of text))

-- the capture of the frames of a port, or the first fault
abbrev pub capture_meant : ℕ → List ℕ → Result (List ℕ) Refusal
capture_meant port text =
    result_map_both (λ frames. capture_of (records_of_port port frames)) (λ e. refusal.Script e) (wires_in text)

-- the result of a request on the input's bytes
abbrev pub meant : CaptureRequest → List ℕ → Result (List ℕ) Refusal
meant (FromCapture port queue reading) bytes = lines_meant port queue reading bytes
meant (ToCapture port) bytes = capture_meant port bytes

-- memory was missing to read a capture or a script, whatever its contents
abbrev pub IsUnread : Refusal → Type 0
IsUnread e = (e ≡ refusal.Capture NoRecords) ⊎ (e ≡ refusal.Script NoFrames)

-- the result is this refusal; or it is bytes, for which memory was missing; or memory was missing to read the input
abbrev pub IsRefusedAs : Result (List ℕ) Refusal → Refusal → Type 0
IsRefusedAs meant e = (meant ≡ Err e) ⊎ (((e ≡ refusal.Memory) × IsOk meant) ⊎ IsUnread e)

-- bytes were read, which are the input if the input is known, and this is their result
abbrev pub Makes : (List ℕ → Result (List ℕ) Refusal) → Option (List ℕ) → List ℕ → Type 0
Makes meant input page = (bytes : List ℕ) × IfSome input (λ known. bytes ≡ known) × (meant bytes ≡ Ok page)

-- nothing was read, or the bytes were refused
abbrev pub Refuses : (List ℕ → Result (List ℕ) Refusal) → Option (List ℕ) → Refusal → Type 0
Refuses meant input e =
    (e ≡ refusal.Input) ⊎ ((e ≡ refusal.Memory) ⊎ ((bytes : List ℕ) × IfSome input (λ known. bytes ≡ known) × IsRefusedAs (meant bytes) e))

-- the whole result was written, if the output's bytes are known
abbrev pub Prints : (List ℕ → Result (List ℕ) Refusal) → Option (List ℕ) → Option (List ℕ) → Option (List ℕ) → Type 0
Prints meant input old new = (page : List ℕ) × Makes meant input page × Appends old new page

-- it was refused, and the output is unchanged; or the output failed, and may have part of the result
abbrev pub Withholds : (List ℕ → Result (List ℕ) Refusal) → Option (List ℕ) → Refusal → Option (List ℕ) → Option (List ℕ) → Type 0
Withholds meant input e old new =
    (Refuses meant input e × Keeps old new) ⊎ ((page : List ℕ) × Makes meant input page × (e ≡ refusal.Output))
