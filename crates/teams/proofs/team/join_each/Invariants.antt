use Rattle.std.proofs.Common.{◌≡◌, ◌+◌, ◌≤◌, ◌++◌, true, All, MatchResult, map, vec_items, vec_len, vec_capacity}
use Rattle.std.specs.Vec.Iter.{into_iter_items, into_iter_len}
use Rattle.teams.specs.Endings.{IsEnded, IsSo}
use Rattle.teams.specs.Hands.{given_by, hand_keys, AllOver}
use Rattle.teams.proofs.team.join_each.Given as goal

abbrev pub invariant-loop-begun : goal.invariant-loop-begun
invariant-loop-begun g l =
    let rest = l.begun-iterator in
    record {
      keys : hand_keys g.F.Flow.key (vec_items l.hands) ++ map (given_by (λ w. map g.F.Flow.key w.promise.given.value.items) (λ s. map g.F.Flow.key s.flows.items)) (into_iter_items rest) ≡ map (given_by (λ w. map g.F.Flow.key w.promise.given.value.items) (λ s. map g.F.Flow.key s.flows.items)) l.fn.team.items;
      room : vec_len l.hands + into_iter_len rest ≤ vec_capacity l.hands;
      so : All (λ b. MatchResult b (λ w. (w.promise.gate.now ≡ l.gate) × (w.promise.stop.now ≡ l.stop)) (λ s. IsEnded (All (λ f. g.F.Flow.over f ≡ true) s.flows.items) g.G.Gate.answers l.gate l.stop s.status)) (into_iter_items rest);
      ending : IsSo (AllOver g.F.Flow.over (vec_items l.hands)) g.G.Gate.answers l.gate l.status.ending;
      word : l.status.word ≡ l.stop;
      share : l.status.share + into_iter_len rest ≡ l.fn.status.share + vec_len l.fn.team;
    }
