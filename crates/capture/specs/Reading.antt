-- The meaning of bytes as a capture.
use Rattle.std.specs.Prelude.{ℕ, ◌==◌, nat_lt, ◌&&◌, not, Bool, false, if◌then◌else◌, List, [], length, drop, Option, Some, None, Result, Ok, Err}
use Rattle.byteorder.specs.Endian.{big_number}
use Rattle.refusals.specs.declared.errors.CaptureError.{CaptureError}
use Rattle.refusals.specs.declared.errors.CaptureError.TheVariants.{NotCapture, LinkType}
use Rattle.capture.specs.declared.header.CaptureForm.{CaptureForm}
use Rattle.capture.specs.declared.header.Format.TheVariants.{Blocks}
use Rattle.capture.specs.declared.header.Order.TheVariants.{Big}
use Rattle.capture.specs.declared.header.TimeUnit.{TimeUnit}
use Rattle.capture.specs.declared.header.TimeUnit.TheVariants.{Nanos}
use Rattle.capture.specs.declared.options.ReadOptions.{ReadOptions}
use Rattle.capture.specs.declared.options.Skipped.{Skipped}
use Rattle.capture.specs.declared.piece.Piece.{Piece}
use Rattle.capture.specs.declared.piece.Piece.TheVariants.{Packet, Section, Described, Other}
use Rattle.capture.specs.CaptureError.{◌>>=◌}
use Rattle.capture.specs.Choosing.{chosen}
use Rattle.capture.specs.Layout.{Numbers, form_of, link_type_in, major_in, minor_in, numbers_in}
use Rattle.capture.specs.Pcapng.{block_in, is_section}
use Rattle.capture.specs.Record.{Record}
use Rattle.capture.specs.Sources.{entries_in, source_of}

-- The content of a capture: the unit of its fractions of a second, and its records.
pub record Content : Type 0 where
  pub unit : TimeUnit
  pub records : List Record

-- A header of version 2.4 for Ethernet, or its first fault.
unfoldable pub checked_header : Numbers → CaptureForm → List ℕ → Result CaptureForm CaptureError
checked_header number form bytes =
    if not (major_in number bytes == 2 && minor_in number bytes == 4) then Err NotCapture
    else if not (link_type_in number bytes == 1) then Err LinkType
    else Ok form

-- The header of this form.
abbrev pub header_with : Option CaptureForm → List ℕ → Result CaptureForm CaptureError
header_with None bytes = Err NotCapture
header_with (Some form) bytes = checked_header (numbers_in form.order) form bytes

-- The header of classic pcap at the start of the bytes.
unfoldable pub classic_header_in : List ℕ → Result CaptureForm CaptureError
classic_header_in bytes = if nat_lt (length bytes) 24 then Err NotCapture else header_with (form_of (big_number 4 bytes)) bytes

-- A pcapng file begins with a section header, which determines the byte order. Its times are read as nanoseconds.
abbrev pub is_blocks : List ℕ → Bool
is_blocks bytes = not (nat_lt (length bytes) 4) && is_section bytes

abbrev pub form_with : Piece → List ℕ → Result (CaptureForm × List ℕ) CaptureError
form_with (Section order) rest = Ok (record { format = Blocks; order = order; unit = Nanos }, rest)
form_with (Packet entry) rest = Err NotCapture
form_with (Described interface) rest = Err NotCapture
form_with Other rest = Err NotCapture

unfoldable pub blocks_header_in : List ℕ → Result (CaptureForm × List ℕ) CaptureError
blocks_header_in bytes = let p = block_in Big [] bytes in form_with p.0 p.1

-- The form of the capture, and its bytes after the header.
unfoldable pub header_in : List ℕ → Result (CaptureForm × List ℕ) CaptureError
header_in bytes =
    if is_blocks bytes then blocks_header_in bytes
    else do
      form ← classic_header_in bytes
      Ok (form, drop 24 bytes)

-- The records read with these options and the counts of records left out, or the first fault.
unfoldable pub capture_with : ReadOptions → List ℕ → Result (Content × Skipped) CaptureError
capture_with options bytes = do
  header ← header_in bytes
  found ← chosen options (entries_in (source_of header.0) header.1)
  Ok (record { unit = header.0.unit; records = found.0 }, found.1)

-- The options that read all records and refuse a fault.
abbrev pub all_records : ReadOptions
all_records = record { skip = false; limit = None }

-- The meaning of bytes as a capture, or their first fault.
unfoldable pub capture_in : List ℕ → Result Content CaptureError
capture_in bytes = do
  found ← capture_with all_records bytes
  Ok found.0
