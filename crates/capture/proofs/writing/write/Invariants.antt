use Rattle.std.proofs.Common.{◌≡◌, take}
use Rattle.std.specs.List.{AllByRecursion}
use Rattle.capture.specs.Record.{InRange}
use Rattle.capture.specs.Writing.{capture_of}
use Rattle.capture.proofs.writing.write.Given as goal

abbrev pub invariant-loop-found : goal.invariant-loop-found
invariant-loop-found l = record {
  bytes : l.bytes.items ≡ capture_of (take l.found-index l.records);
  fine : AllByRecursion InRange (take l.found-index l.records);
}
