use Rattle.std.proofs.Common.{rules, ◌≡◌, ◌∙◌, ap, subst, sym}
use Rattle.counters.specs.Snapshots.{AreCounts}
use Rattle.forwarder.proofs.live_flow.LiveFlow.into_parts.Goals as goal

-- T is Send, so its laws hold in any thread: here too
pub returns-clause-shown : goal.returns-clause-shown
returns-clause-shown g c =
    let i = c.self.inside in
    let words = g.T.Words.words in
    let sum = g.T.Totals.sum in
    let count = g.F.Numbered.shown i.flow in
    let now = c.snapshot-now.ensures in
    let laws = g.met.T.Totals g.world.𝓛 g.world.𝓜 g.world.𝓡 ((λ s x. x), (λ x. x), (λ x. x), λ x. x) in
    let base : c.args.self.base ≡ i.base = search rules in
    record {
      sums = λ fits. subst (λ b. i.pen.last ≡ sum b count) (sym base) (c.self.invariant.2 (subst (λ b. AreCounts (words (sum b count))) base fits));
      first = λ none. (
          let begun : sum i.base count ≡ count = ap (λ b. sum b count) (sym base ∙ none) ∙ laws.begins count in
          let counts : AreCounts (words count) = subst (λ x. AreCounts (words x)) now.value now.counts in
          c.self.invariant.2 (subst (λ x. AreCounts (words x)) (sym begun) counts) ∙ begun);
    }
