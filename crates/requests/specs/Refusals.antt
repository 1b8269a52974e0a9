-- The numbers of refusals, and the lines and records that they concern.
use Rattle.std.specs.Prelude.{◌≡◌, ◌⊎◌, ℕ, Option, Some, None}
use Rattle.requests.specs.declared.refusal.Refusal.{Refusal}
use Rattle.requests.specs.declared.refusal.Refusal.TheVariants.{Capture, Descriptor, Forward, Machine, Ring, Script, Stock, FrameLength, Thread, Hex, Move, Input, Memory, Output, FileNotRead, FileNotWritten, SameFile}
use Rattle.refusals.specs.DescError.{refusal_number as descriptor_number}
use Rattle.refusals.specs.MachineError.{refusal_number as machine_number}
use Rattle.refusals.specs.ForwardError.{refusal_number as forward_number}
use Rattle.refusals.specs.declared.errors.RingError.TheVariants.{Memory as RingMemory}
use Rattle.refusals.specs.RingError.{refusal_number as ring_number}
use Rattle.refusals.specs.declared.errors.PoolError.TheVariants.{Memory as StockMemory}
use Rattle.refusals.specs.PoolError.{refusal_number as stock_number}
use Rattle.refusals.specs.ScriptError.{refusal_number as script_number, line_of as script_line}
use Rattle.refusals.specs.CaptureError.{refusal_number as capture_number, record_of as capture_record}

-- the refusals of the libraries keep their numbers
abbrev pub refusal_number : Refusal → ℕ
refusal_number (Descriptor error) = descriptor_number error
refusal_number (Ring error) = ring_number error
refusal_number (Stock error) = stock_number error
refusal_number FrameLength = 41
refusal_number Thread = 63
refusal_number Hex = 81
refusal_number (Move line) = 14
refusal_number (Machine error) = machine_number error
refusal_number (Script error) = script_number error
refusal_number (Forward error) = forward_number error
refusal_number (Capture error) = capture_number error
refusal_number Input = 82
refusal_number Memory = 83
refusal_number Output = 84
refusal_number (FileNotRead code) = 85
refusal_number (FileNotWritten code) = 86
refusal_number SameFile = 87

-- a faulty move and a fault of a script are on a line
abbrev pub refused_line : Refusal → Option ℕ
refused_line (Move line) = Some line
refused_line (Script error) = script_line error
refused_line refusal = None

-- a fault of a capture concerns a record, except a fault of the header
abbrev pub refused_record : Refusal → Option ℕ
refused_record (Capture error) = capture_record error
refused_record refusal = None

-- memory is missing for the ring or its buffers, or a thread for one of its ends
abbrev pub IsUnmade : Refusal → Type 0
IsUnmade e = (e ≡ Ring RingMemory) ⊎ (e ≡ Stock StockMemory) ⊎ (e ≡ Thread)
