use Rattle.std.proofs.Common.{◌≡◌, map, take}
use Rattle.program.specs.ShownSums.{read_by}
use Rattle.program.proofs.progress.reading.readers_of.Given as goal

-- the pens stay, and the cells so far have readers
abbrev pub invariant-loop-k : goal.invariant-loop-k
invariant-loop-k l = record {
  same : l.pens ≡ l.initial.pens;
  cells : map read_by l.readers.items ≡ take l.k l.cells;
}
