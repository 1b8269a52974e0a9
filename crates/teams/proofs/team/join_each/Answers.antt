use Rattle.std.proofs.Common.{rules, ◌≡◌, true, All, MatchResult, map, ap, ◌∙◌, sym, subst, vec_items}
use Rattle.std.specs.Vec.Iter.{into_iter_items}
use Rattle.teams.specs.Endings.{IsEnded, IsSo}
use Rattle.teams.specs.Hands.{given_by, AllOver}
use Rattle.teams.proofs.Lists.{shifted, All-pushed, All-first, All-later}
use Rattle.teams.proofs.Together.{so-worse}
use Rattle.teams.proofs.team.join_each.Goals as goal

pub join_one-served-requires-clause-so : goal.join_one-served-requires-clause-so
join_one-served-requires-clause-so g c = λ κs lasts. All-first (λ b. MatchResult b (λ w. (w.promise.gate.now ≡ c.args.gate.now) × (w.promise.stop.now ≡ c.args.stop.now)) (λ s. IsEnded (All (λ f. g.F.Flow.over f ≡ true) s.flows.items) g.G.Gate.answers c.args.gate.now c.args.stop.now s.status)) (into_iter_items c.loop-begun.begun-iterator) c.in-Some.begun (into_iter_items c.next.new.self) c.in-Some.ensures.steps.0 c.loop-begun.invariant.so

pub loop-begun-preserved : goal.loop-begun-preserved
loop-begun-preserved g c =
    let was = c.loop-begun.invariant in
    let step = c.in-Some.ensures.steps in
    let pushed = c.push_reserved.ensures.items in
    let begun = c.in-Some.begun in
    let served = c.join_one-served.result in
    let one = c.join_one-served.ensures in
    let answers = g.G.Gate.answers in
    let gate = c.args.gate.now in
    let key = g.F.Flow.key in
    let over = g.F.Flow.over in
    let hands = vec_items c.loop-begun.hands in
    let more = vec_items c.push_reserved.new.self in
    let first = into_iter_items c.loop-begun.begun-iterator in
    let tail = into_iter_items c.next.new.self in
    record {
      keys = shifted (λ h. map key h.items) hands more served.flows (map (given_by (λ w. map g.F.Flow.key w.promise.given.value.items) (λ s. map g.F.Flow.key s.flows.items)) first) (map (given_by (λ w. map g.F.Flow.key w.promise.given.value.items) (λ s. map g.F.Flow.key s.flows.items)) tail) (given_by (λ w. map g.F.Flow.key w.promise.given.value.items) (λ s. map g.F.Flow.key s.flows.items) begun)
          (ap (map (given_by (λ w. map g.F.Flow.key w.promise.given.value.items) (λ s. map g.F.Flow.key s.flows.items))) step.0) pushed one.keys ∙ was.keys;
      room = search rules;
      so = All-later (λ b. MatchResult b (λ w. (w.promise.gate.now ≡ c.args.gate.now) × (w.promise.stop.now ≡ c.args.stop.now)) (λ s. IsEnded (All (λ f. g.F.Flow.over f ≡ true) s.flows.items) g.G.Gate.answers c.args.gate.now c.args.stop.now s.status)) first begun tail step.0 was.so;
      ending = subst (λ z. IsSo (AllOver over more) answers gate z.ending) (sym c.join.ensures)
          (so-worse answers gate (AllOver over hands) (All (λ f. over f ≡ true) served.flows.items) (AllOver over more)
          (λ others one. All-pushed (λ h. All (λ f. over f ≡ true) h.items) hands more served.flows pushed others one)
          c.loop-begun.status.ending served.status.ending was.ending one.ended.0);
      word = search rules;
      share = search rules;
    }
