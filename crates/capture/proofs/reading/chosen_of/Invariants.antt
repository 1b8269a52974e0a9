use Rattle.std.proofs.Common.{◌≤◌, ◌+◌, length}
use Rattle.capture.specs.SoFar.{nothing}
use Rattle.capture.specs.Sources.{entries_in, source_of}
use Rattle.capture.proofs.Loop.{Reads}
use Rattle.capture.proofs.Steps.{go}
use Rattle.capture.proofs.reading.chosen_of.Given as goal

abbrev pub invariant-loop-gathered : goal.invariant-loop-gathered
invariant-loop-gathered l = record {
  reads : Reads l.options (go l.options.skip l.options.limit nothing (entries_in (source_of l.fn.form) l.bytes)) l.cursor l.gathered l.rest;
  counted : l.gathered.number + length l.rest ≤ l.len;
}

abbrev pub decreases-loop-gathered : goal.decreases-loop-gathered
decreases-loop-gathered l = length l.rest
