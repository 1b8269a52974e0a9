-- A line's fields in the representation of the code.
use Rattle.std.specs.Prelude.{ℕ, ◌==◌, Bool, false, not, List, [], ◌∷◌, length, Option, Some, None, Result, Err}
use Rattle.refusals.specs.declared.errors.ScriptError.{ScriptError}
use Rattle.refusals.specs.declared.errors.ScriptError.TheVariants.{Fields}
use Rattle.wire_script.specs.declared.split.Split.{Split}
use Rattle.wire_script.specs.declared.split.Payload.{Payload}
use Rattle.wire_script.specs.declared.split.Payload.TheVariants.{Hex, Fill}
use Rattle.wire_script.specs.Frame.{Frame}
use Rattle.wire_script.specs.Line.{fill_in, frame_with, hex_in}

-- Whether the first field is not empty and is followed by another.
abbrev pub begins_inner : List (List ℕ) → Bool
begins_inner (field ∷ next ∷ more) = not (length field == 0)
begins_inner fields = false

-- Whether there is exactly one field, and it is not empty.
abbrev pub is_last : List (List ℕ) → Bool
is_last (field ∷ []) = not (length field == 0)
is_last fields = false

-- The frame's bytes.
abbrev pub bytes_in : ℕ → Payload → Result (List ℕ) ScriptError
bytes_in k (Hex field) = hex_in k field.now
bytes_in k (Fill len byte) = fill_in k len.now byte.now

-- The frame of a port, a queue and the fields after them.
abbrev pub frame_of_payload : ℕ → List ℕ → List ℕ → Option Payload → Result Frame ScriptError
frame_of_payload k port queue None = Err (Fields k)
frame_of_payload k port queue (Some payload) = frame_with k port queue (bytes_in k payload)

-- The frame of a split line.
abbrev pub frame_of_split : ℕ → Option Split → Result Frame ScriptError
frame_of_split k None = Err (Fields k)
frame_of_split k (Some s) = frame_with k s.port.now s.queue.now (bytes_in k s.payload)
