use Rattle.std.proofs.Common.{◌≡◌, ◌≤◌, ◌++◌, drop}
use Rattle.std.specs.List.{flat_map}
use Rattle.capture.specs.Writing.{capture_of, record_bytes}
use Rattle.capture.specs.Records.{frames_of_port, records_from, records_of_port}
use Rattle.capture.proofs.to_capture.capture_of.Given as goal

abbrev pub invariant-loop-frame : goal.invariant-loop-frame
invariant-loop-frame l = record {
  written : l.bytes.items ++ flat_map record_bytes (records_from l.number (frames_of_port l.port (drop l.frame-index l.script))) ≡ capture_of (records_of_port l.port l.script);
  counted : l.number ≤ l.frame-index;
}
