-- So many moves are drawn.
use Rattle.std.proofs.Common.{◌≡◌, ◌≤◌, length}
use Rattle.schedules.proofs.Foretelling.{SoFar}
use Rattle.schedules.proofs.drawing.draw.Given as goal

abbrev pub invariant-loop-k : goal.invariant-loop-k
invariant-loop-k l = record {
  so_far : SoFar l.plan l.drawn.items l.refused l.queues;
  place : length l.drawn.items ≡ l.k;
  most : l.refused ≤ l.k;
}
