use Rattle.std.proofs.Common.{◌≡◌, ◌+◌, ◌≤◌, ◌++◌, true, All, MatchResult, map, vec_items, vec_len, vec_capacity}
use Rattle.std.specs.Vec.Iter.{into_iter_items, into_iter_len}
use Rattle.teams.specs.Endings.{IsEnded, IsSo}
use Rattle.teams.specs.Hands.{given_by, hand_keys}
use Rattle.teams.proofs.team.start.Given as goal

abbrev pub invariant-loop-hand : goal.invariant-loop-hand
invariant-loop-hand g l =
    let rest = l.hand-iterator in
    record {
      given : map (given_by (λ w. map g.F.Flow.key w.promise.given.value.items) (λ s. map g.F.Flow.key s.flows.items)) (vec_items l.team) ++ hand_keys g.F.Flow.key (into_iter_items rest) ≡ hand_keys g.F.Flow.key l.fn.hands.items;
      so : All (λ b. MatchResult b (λ w. (w.promise.gate.now ≡ l.gate) × (w.promise.stop.now ≡ l.stop)) (λ s. IsEnded (All (λ f. g.F.Flow.over f ≡ true) s.flows.items) g.G.Gate.answers l.gate l.stop s.status)) (vec_items l.team);
      count : vec_len l.team + into_iter_len rest ≡ vec_len l.fn.hands;
      room : vec_len l.fn.hands ≤ vec_capacity l.team;
      word : l.starting.word ≡ l.fn.starting.word;
      share : l.starting.share + vec_len l.team ≡ l.fn.starting.share;
      starting : IsSo (Unit {0}) g.G.Gate.answers l.gate l.starting.ending;
    }
