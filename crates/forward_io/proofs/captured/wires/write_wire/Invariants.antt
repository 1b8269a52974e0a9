use Rattle.std.proofs.Common.{◌≡◌, ◌+◌, ◌++◌, length}
use Rattle.forward_io.proofs.Records.{bytes_from, frames_on}
use Rattle.forward_io.proofs.captured.wires.write_wire.Given as goal

abbrev pub invariant-loop-frame : goal.invariant-loop-frame
invariant-loop-frame l = record {
  written : l.bytes.items ++ bytes_from l.at (frames_on l.frame-iterator) ≡ l.initial.bytes.items ++ bytes_from l.number (frames_on l.wire);
  counted : l.at + length l.frame-iterator ≡ l.number + length l.wire;
}
