-- The meaning of one line of a script.
use Rattle.std.specs.Prelude.{ℕ, ◌-◌, ◌==◌, nat_le, nat_lt, Bool, ◌&&◌, if◌then◌else◌, List, [], ◌∷◌, length, slice_index, codes, replicate, Option, Some, None, Result, Ok, Err}
use Rattle.std.specs.List.{list_any}
use Rattle.std.specs.Option.{ok_or}
use Rattle.std.specs.Str.{bytes_eq}
use Rattle.hex.specs.Hex.{decode_of, decode_sized}
use Rattle.hex.specs.declared.error.FromHexError.{FromHexError}
use Rattle.limits.specs.declared.profile.TheConstants.{LEAST_FRAME, MOST_FRAME, MOST_PAIRS, PORTS}
use Rattle.text_lines.specs.Numbers.{number_in}
use Rattle.text_lines.specs.Parts.{parts, says_something}
use Rattle.refusals.specs.declared.errors.ScriptError.{ScriptError}
use Rattle.refusals.specs.declared.errors.ScriptError.TheVariants.{Fields, Port, Queue, Bytes, FrameLength}
use Rattle.wire_script.specs.Frame.{Frame}
use Rattle.wire_script.specs.ScriptError.{◌>>=◌}

-- One digit, with a value below `n`.
unfoldable pub digit_below : ℕ → List ℕ → Option ℕ
digit_below n (byte ∷ []) = if nat_le 48 byte && nat_lt (byte - 48) n then Some (byte - 48) else None
digit_below n field = None

-- A port is `0` or `1`.
abbrev pub port_in : ℕ → List ℕ → Result ℕ ScriptError
port_in k field = ok_or (digit_below PORTS field) (Port k)

-- A queue is one digit from `0` to `7`.
abbrev pub queue_in : ℕ → List ℕ → Result ℕ ScriptError
queue_in k field = ok_or (digit_below MOST_PAIRS field) (Queue k)

-- The bytes that hex digits of either case decode to.
abbrev pub decoded : ℕ → Result (List ℕ) FromHexError → Result (List ℕ) ScriptError
decoded k (Ok bytes) = Ok bytes
decoded k (Err e) = Err (Bytes k)

-- The bytes of a frame, if their number is within a frame's limits.
unfoldable pub sized : ℕ → List ℕ → Result (List ℕ) ScriptError
sized k bytes = if nat_le LEAST_FRAME (length bytes) && nat_le (length bytes) MOST_FRAME then Ok bytes else Err (FrameLength k)

-- A frame in hex.
unfoldable pub hex_in : ℕ → List ℕ → Result (List ℕ) ScriptError
hex_in k field = decoded k (decode_of field) >>= sized k

-- A length, in decimal.
unfoldable pub len_in : ℕ → List ℕ → Result ℕ ScriptError
len_in k field = ok_or (number_in field) (Bytes k)

-- One byte, in two hex digits.
unfoldable pub byte_in : ℕ → List ℕ → Result ℕ ScriptError
byte_in k field = do
  bytes ← decoded k (decode_sized field 1)
  Ok (slice_index bytes 0)

-- A frame that repeats one byte.
unfoldable pub fill_in : ℕ → List ℕ → List ℕ → Result (List ℕ) ScriptError
fill_in k len byte = do
  n ← len_in k len
  b ← byte_in k byte
  sized k (replicate n b)

-- The frame with these fields, or the lowest of their faults from 72 on.
unfoldable pub frame_with : ℕ → List ℕ → List ℕ → Result (List ℕ) ScriptError → Result Frame ScriptError
frame_with k port queue payload = do
  p ← port_in k port
  q ← queue_in k queue
  bytes ← payload
  Ok (record { port = p; queue = q; bytes = bytes })

-- The frame in three fields, or in five.
unfoldable pub frame_in : ℕ → List (List ℕ) → Result Frame ScriptError
frame_in k (port ∷ queue ∷ hex ∷ []) = frame_with k port queue (hex_in k hex)
frame_in k (port ∷ queue ∷ word ∷ len ∷ byte ∷ []) =
    if bytes_eq word (codes "fill") then frame_with k port queue (fill_in k len byte) else Err (Fields k)
frame_in k fields = Err (Fields k)

-- Whether a field is empty.
abbrev pub has_empty : List (List ℕ) → Bool
has_empty fields = list_any (λ field. length field == 0) fields

-- The frame in a line's fields, or the lowest fault.
unfoldable pub fields_say : ℕ → List (List ℕ) → Result Frame ScriptError
fields_say k fields = if has_empty fields then Err (Fields k) else frame_in k fields

-- The meaning of line `k`: nothing if it is empty or begins with `#`, else the frame in its space-separated fields, or
-- its lowest fault.
unfoldable pub line_says : ℕ → List ℕ → Result (Option Frame) ScriptError
line_says k line =
    if says_something line then (fields_say k (parts 32 line) >>= λ frame. Ok (Some frame)) else Ok None
