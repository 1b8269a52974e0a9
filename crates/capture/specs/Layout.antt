-- The layout of the header and of a record in the bytes of a classic capture.
use Rattle.std.specs.Prelude.{ℕ, ◌==◌, if◌then◌else◌, List, drop, Option, Some, None}
use Rattle.byteorder.specs.Endian.{big_number, little_number}
use Rattle.capture.specs.declared.header.CaptureForm.{CaptureForm}
use Rattle.capture.specs.declared.header.Format.TheVariants.{Classic}
use Rattle.capture.specs.declared.header.Order.{Order}
use Rattle.capture.specs.declared.header.Order.TheVariants.{Big, Little}
use Rattle.capture.specs.declared.header.TimeUnit.TheVariants.{Micros, Nanos}

-- How to read the first `n` bytes as a number.
abbrev pub Numbers : Type 0
Numbers = ℕ → List ℕ → ℕ

-- The same in a byte order.
abbrev pub numbers_in : Order → Numbers
numbers_in Big = big_number
numbers_in Little = little_number

-- The form for the first four bytes, read as a big-endian number: 0xa1b2c3d4 for microseconds and 0xa1b23c4d for
-- nanoseconds, each in either byte order.
abbrev pub form_of : ℕ → Option CaptureForm
form_of magic =
    if magic == 2712847316 then Some (record { format = Classic; order = Big; unit = Micros })
    else if magic == 2712812621 then Some (record { format = Classic; order = Big; unit = Nanos })
    else if magic == 3569595041 then Some (record { format = Classic; order = Little; unit = Micros })
    else if magic == 1295823521 then Some (record { format = Classic; order = Little; unit = Nanos })
    else None

-- The header's major and minor version, at bytes 4 and 6.
abbrev pub major_in : Numbers → List ℕ → ℕ
major_in number bytes = number 2 (drop 4 bytes)

abbrev pub minor_in : Numbers → List ℕ → ℕ
minor_in number bytes = number 2 (drop 6 bytes)

-- The header's link type, at byte 20.
abbrev pub link_type_in : Numbers → List ℕ → ℕ
link_type_in number bytes = number 4 (drop 20 bytes)

-- A record's seconds, fraction, captured length and length on the wire, at bytes 0, 4, 8 and 12.
abbrev pub seconds_in : Numbers → List ℕ → ℕ
seconds_in number bytes = number 4 bytes

abbrev pub fraction_in : Numbers → List ℕ → ℕ
fraction_in number bytes = number 4 (drop 4 bytes)

abbrev pub captured_in : Numbers → List ℕ → ℕ
captured_in number bytes = number 4 (drop 8 bytes)

abbrev pub wire_len_in : Numbers → List ℕ → ℕ
wire_len_in number bytes = number 4 (drop 12 bytes)
