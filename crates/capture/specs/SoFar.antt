-- The part of a capture that has been read, record by record.
use Rattle.std.specs.Prelude.{ℕ, ◌+◌, ◌==◌, ◌≤◌, Bool, true, false, if◌then◌else◌, List, [], ◌∷◌, ◌++◌, length, Result, Ok, Err}
use Rattle.limits.specs.declared.profile.TheConstants.{MOST_SCRIPT_FRAMES}
use Rattle.refusals.specs.declared.errors.CaptureError.{CaptureError}
use Rattle.refusals.specs.declared.errors.CaptureError.TheVariants.{TooMany}
use Rattle.capture.specs.declared.entry.Entry.{Entry}
use Rattle.capture.specs.declared.entry.Entry.TheVariants.{Frame, Faulty, Unread}
use Rattle.capture.specs.declared.entry.Fault.{Fault}
use Rattle.capture.specs.declared.entry.Fault.TheVariants.{Truncated, Snapped, Long, Short}
use Rattle.capture.specs.declared.options.Skipped.{Skipped}
use Rattle.capture.specs.declared.piece.Piece.{Piece}
use Rattle.capture.specs.declared.piece.Piece.TheVariants.{Packet, Section, Described, Other}
use Rattle.capture.specs.Entries.{refusal_of}
use Rattle.capture.specs.Record.{Record}

-- The frames, the counts of records left out, and the number of records read.
pub record SoFar : Type 0 where
  pub records : List Record
  pub skipped : Skipped
  pub number : ℕ

abbrev pub nothing : SoFar
nothing = record { records = []; skipped = record { truncated = 0; snapped = 0; long = 0; short = 0 }; number = 0 }

-- The records left out are at most those read.
pub record IsCounted (s : SoFar) : Type 0 where
  pub records : length s.records ≤ MOST_SCRIPT_FRAMES
  pub skipped : s.skipped.truncated + s.skipped.snapped + s.skipped.long + s.skipped.short ≤ s.number

-- One more record with this fault.
abbrev pub with_fault : Skipped → Fault → Skipped
with_fault s Truncated = record s { truncated = s.truncated + 1 }
with_fault s Snapped = record s { snapped = s.snapped + 1 }
with_fault s Long = record s { long = s.long + 1 }
with_fault s Short = record s { short = s.short + 1 }

-- One more record, which may be refused.
unfoldable pub with_entry : Bool → SoFar → Entry → Result SoFar CaptureError
with_entry skip s (Frame r) =
    if length s.records == MOST_SCRIPT_FRAMES then Err (TooMany (s.number + 1))
    else Ok (record { records = s.records ++ r ∷ []; skipped = s.skipped; number = s.number + 1 })
with_entry true s (Faulty f) = Ok (record { records = s.records; skipped = with_fault s.skipped f.fault; number = s.number + 1 })
with_entry skip s (Unread e) = Err e
with_entry false s (Faulty f) = Err (refusal_of f.fault (s.number + 1))

-- One more piece, which may be a packet.
abbrev pub with_piece : Bool → SoFar → Piece → Result SoFar CaptureError
with_piece skip s (Packet entry) = with_entry skip s entry
with_piece skip s (Section order) = Ok s
with_piece skip s (Described interface) = Ok s
with_piece skip s Other = Ok s
