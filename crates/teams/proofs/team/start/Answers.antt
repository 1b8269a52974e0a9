use Rattle.std.proofs.Common.{rules, ◌≡◌, true, All, MatchResult, ap, ◌∙◌, map, vec_items}
use Rattle.std.specs.Vec.Iter.{into_iter_items}
use Rattle.teams.specs.Endings.{IsEnded}
use Rattle.teams.specs.Hands.{given_by, hand_keys}
use Rattle.teams.proofs.Lists.{shifted, All-pushed}
use Rattle.teams.proofs.team.start.Goals as goal

pub loop-hand-preserved : goal.loop-hand-preserved
loop-hand-preserved g c =
    let was = c.loop-hand.invariant in
    let step = c.in-Some.ensures.steps in
    let pushed = c.push_reserved.ensures.items in
    let key = g.F.Flow.key in
    record {
      given = shifted (given_by (λ w. map key w.promise.given.value.items) (λ s. map key s.flows.items)) (vec_items c.loop-hand.team) _ c.begin.result
          (hand_keys key (into_iter_items c.loop-hand.hand-iterator)) (hand_keys key (into_iter_items c.next.new.self)) (map key c.in-Some.hand.items)
          (ap (hand_keys key) step.0) pushed c.begin.ensures.given ∙ was.given;
      so = All-pushed (λ b. MatchResult b (λ w. (w.promise.gate.now ≡ c.args.gate.now) × (w.promise.stop.now ≡ c.args.stop.now)) (λ s. IsEnded (All (λ f. g.F.Flow.over f ≡ true) s.flows.items) g.G.Gate.answers c.args.gate.now c.args.stop.now s.status)) (vec_items c.loop-hand.team) _ c.begin.result pushed was.so c.begin.ensures.so;
      count = search rules;
      room = search rules;
      word = search rules;
      share = search rules;
      starting = c.begin.ensures.starting;
    }
