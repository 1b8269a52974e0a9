use Rattle.std.proofs.Common.{◌∙◌, ap, sym, ◌<◌, length, take, arith}
use Rattle.std.proofs.lemmas.List.{take_more_set}
use Rattle.program.proofs.Sums.{sum-snoc}
use Rattle.program.specs.declared.progress.reading.Seen.{Seen}
use Rattle.program.specs.ShownSums.{nothing_seen, sum_from, with_flow}
use Rattle.program.proofs.progress.reading.read_all.Goals as goal

pub loop-reader-preserved : goal.loop-reader-preserved
loop-reader-preserved g c =
    let readers = c.loop-reader.readers in
    let done = c.loop-reader.reader-index in
    let read = c.add-seen.new.self in
    let low : done < length readers = omega (arith, c.loop-reader-test.true, c.loop-reader.auto.readers) in
    let more = ap (sum_from nothing_seen) (take_more_set readers done read low) ∙ sum-snoc nothing_seen (take done readers) read in
    (c.add-seen.ensures.sum ∙ ap (λ (seen : Seen). with_flow seen read) c.loop-reader.invariant.0 ∙ sym more, c.add-seen.ensures.order c.loop-reader.invariant.1)
