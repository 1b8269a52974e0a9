use Rattle.std.proofs.Common.{◌≡◌, ◌∙◌, ap, arith, refl, subst, sym}
use Rattle.counters.specs.Snapshots.{AreCounts, NoneFalls}
use Rattle.forwarder.proofs.Continuing.{counts-below}
use Rattle.forwarder.proofs.live_flow.LiveFlowFlow.turn.Goals as goal

pub write-requires : goal.write-requires
write-requires g c =
    let i = c.self.inside in
    let words = g.T.Words.words in
    let sum = g.T.Totals.sum in
    let was = g.F.Numbered.shown i.flow in
    let before = c.snapshot-was.ensures in
    let after = c.snapshot.ensures in
    let now = c.snapshot.result in
    let old : g.F.Flow.numbers i.flow ≡ words was = sym before.numbers ∙ ap words before.value in
    let rose : NoneFalls (words was) (words now) =
    subst (λ xs. NoneFalls xs (words now)) old (subst (λ ys. NoneFalls (g.F.Flow.numbers i.flow) ys) (sym after.numbers) c.turn-turned.ensures.none_falls) in
    let sums : NoneFalls (words (sum i.base was)) (words (sum i.base now)) = g.met.T.Totals.rises i.base was now rose in
    let total : c.in-Some.total ≡ sum i.base now = c.in-Some.ensures.value in
    let fits : AreCounts (words (sum i.base now)) = c.in-Some.ensures.fits.0 refl in
    let last : i.pen.last ≡ sum i.base was = c.self.invariant.2 (counts-below (words (sum i.base was)) (words (sum i.base now)) sums fits) in
    (omega arith, (omega arith, (c.self.invariant.0, (c.in-Some.ensures.lawful, subst (λ x. NoneFalls (words x) (words c.in-Some.total)) (sym last) (subst (λ x. NoneFalls (words (sum i.base was)) (words x)) (sym total) sums)))))
