use Rattle.std.proofs.Common.{◌≡◌, ◌≤◌, take}
use Rattle.program.specs.ShownSums.{nothing_seen, sum_from}
use Rattle.program.proofs.progress.reading.read_all.Given as goal

-- the flows so far are added up, and no more frames are taken than offered
abbrev pub invariant-loop-reader : goal.invariant-loop-reader
invariant-loop-reader g l = (l.seen ≡ sum_from nothing_seen (take l.reader-index l.readers)) × (l.seen.taken ≤ l.seen.offered)
