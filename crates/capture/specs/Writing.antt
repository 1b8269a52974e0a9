-- The bytes of a capture of records: little-endian, in microseconds.
use Rattle.std.specs.Prelude.{ℕ, List, ◌++◌, length, replicate}
use Rattle.std.specs.List.{flat_map}
use Rattle.byteorder.specs.Endian.{little_bytes}
use Rattle.capture.specs.Record.{Record}

-- The magic number for microseconds, version 2.4, zone and accuracy 0, a snap length of 65,535, Ethernet.
abbrev pub header_bytes : List ℕ
header_bytes =
    little_bytes 4 2712847316 ++ (little_bytes 2 2 ++ (little_bytes 2 4 ++ (replicate 8 0 ++ (little_bytes 4 65535 ++ little_bytes 4 1))))

-- A record's header, and its bytes.
unfoldable pub record_bytes : Record → List ℕ
record_bytes r =
    little_bytes 4 r.seconds ++ (little_bytes 4 r.fraction
    ++ (little_bytes 4 (length r.frame) ++ (little_bytes 4 r.wire_len ++ r.frame)))

-- A capture.
abbrev pub capture_of : List Record → List ℕ
capture_of records = header_bytes ++ flat_map record_bytes records
