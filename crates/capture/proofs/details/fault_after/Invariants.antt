use Rattle.std.proofs.Common.{length}
use Rattle.capture.specs.Sources.{entries_in, source_of}
use Rattle.capture.specs.Telling.{fault_after}
use Rattle.capture.proofs.Seeking.{Seeks}
use Rattle.capture.proofs.details.fault_after.Given as goal

abbrev pub invariant-loop-rest : goal.invariant-loop-rest
invariant-loop-rest l = record {
  seeks : Seeks (fault_after l.fn.others (entries_in (source_of l.fn.form) l.bytes)) l.cursor l.left l.rest;
}

abbrev pub decreases-loop-rest : goal.decreases-loop-rest
decreases-loop-rest l = length l.rest
