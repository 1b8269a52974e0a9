use Rattle.std.proofs.Common.{length}
use Rattle.capture.specs.Layout.{numbers_in}
use Rattle.capture.specs.Pcapng.{resolution_in}
use Rattle.capture.proofs.Tsresol.{Tells}
use Rattle.capture.proofs.blocks.resolution_of.Given as goal

abbrev pub invariant-loop-rest : goal.invariant-loop-rest
invariant-loop-rest l = record {
  tells : Tells (numbers_in l.order) (resolution_in (numbers_in l.order) l.options) l.rest;
}

abbrev pub decreases-loop-rest : goal.decreases-loop-rest
decreases-loop-rest l = length l.rest
