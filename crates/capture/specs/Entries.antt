-- The meaning of bytes as records: each is a frame or has a fault.
use Rattle.std.specs.Prelude.{ℕ, nat_lt, if◌then◌else◌, List, [], length, take, drop, Option, Some, None}
use Rattle.limits.specs.declared.profile.TheConstants.{LEAST_FRAME, MOST_FRAME}
use Rattle.refusals.specs.declared.errors.CaptureError.{CaptureError}
use Rattle.refusals.specs.declared.errors.CaptureError.TheVariants.{CutShort, CapturedShort, FrameLength}
use Rattle.capture.specs.declared.entry.Entry.{Entry}
use Rattle.capture.specs.declared.entry.Entry.TheVariants.{Frame, Faulty}
use Rattle.capture.specs.declared.entry.Fault.{Fault}
use Rattle.capture.specs.declared.entry.Fault.TheVariants.{Truncated, Snapped, Long, Short}
use Rattle.capture.specs.declared.entry.Lengths.{Lengths}
use Rattle.capture.specs.declared.header.Order.{Order}
use Rattle.capture.specs.Layout.{captured_in, fraction_in, numbers_in, seconds_in, wire_len_in}
use Rattle.capture.specs.Record.{Record, record_of}

-- The fault of a record with these lengths, none of whose bytes are missing.
abbrev pub fault_of : Lengths → Option Fault
fault_of lengths =
    if nat_lt lengths.captured lengths.wire then Some Snapped
    else if nat_lt lengths.captured LEAST_FRAME then Some Short
    else if nat_lt MOST_FRAME lengths.captured then Some Long
    else None

-- A record with this fault, if any.
abbrev pub entry_with : Option Fault → Lengths → Record → Entry
entry_with None lengths r = Frame r
entry_with (Some fault) lengths r = Faulty (record { fault = fault; lengths = Some lengths })

-- The first record in the bytes, and the bytes after it. After a truncated record, no bytes are left.
unfoldable pub entry_in : Order → List ℕ → Entry × List ℕ
entry_in order bytes =
    let number = numbers_in order in
    let lengths : Lengths = record { captured = captured_in number bytes; wire = wire_len_in number bytes } in
    let rest = drop 16 bytes in
    if nat_lt (length bytes) 16 then (Faulty (record { fault = Truncated; lengths = None }), [])
    else if nat_lt (length rest) lengths.captured then (Faulty (record { fault = Truncated; lengths = Some lengths }), [])
    else (
      entry_with (fault_of lengths) lengths (record_of (seconds_in number bytes) (fraction_in number bytes) lengths.wire (take lengths.captured rest)),
      drop lengths.captured rest,
    )

-- The refusal of record `k` with this fault.
abbrev pub refusal_of : Fault → ℕ → CaptureError
refusal_of Truncated k = CutShort k
refusal_of Snapped k = CapturedShort k
refusal_of Long k = FrameLength k
refusal_of Short k = FrameLength k
