use Rattle.std.proofs.Common.{rules, arith, ◌≡◌, ◌∙◌, ◌<◌, ◌++◌, [], true, All, ap, sym, subst, map, length, vec_items, vec_len, refl}
use Rattle.std.proofs.lemmas.List.{map-set, length-map, append-nil, get_or_read_under}
use Rattle.std.proofs.lemmas.List.Elements.{All-set}
use Rattle.teams.specs.Hands.{hand_keys}
use Rattle.teams.specs.Dealing.{Passes}
use Rattle.teams.proofs.Dealt.{Left, left-first, worker-has, left-less}
use Rattle.teams.proofs.Lists.{append-one, first-of, length-zero, mapped-at}
use Rattle.teams.proofs.dealing.gather.Goals as goal

pub loop-init : goal.loop-init
loop-init g c = record {
  worker = search rules;
  room = search rules;
  capacity = search rules;
  keys = (λ keys long dealt. (
    keys,
    sym (ap (λ l. map g.F.Flow.key l ++ keys) c.requires.none),
    (omega (arith, long)),
    left-first keys (hand_keys g.F.Flow.key c.args.hands.items) (vec_len c.args.hands) (search (rules, length-map)) dealt,
  ));
  over = (λ all. (all, (let none = c.requires.none in search rules)));
}

pub loop-preserved : goal.loop-preserved
loop-preserved g c =
    let was = c.loop.invariant in
    let worker = c.loop.worker in
    let vecs = vec_items c.loop.hands in
    let hand = c.index_mut.result.now in
    let less = c.move_first.new.hand in
    let count = vec_len c.loop.hands in
    let in-row : worker < length vecs = search rules in
    let passes : Passes count worker c.next_worker-worker.result = subst (λ n. Passes n worker c.next_worker-worker.result) (search rules) c.next_worker-worker.ensures.passes in
    let many : length (hand_keys g.F.Flow.key vecs) ≡ count = search (rules, length-map) in
    record {
      worker = search rules;
      room = search rules;
      capacity = search rules;
      keys = (λ keys long dealt.
          let old = was.keys keys long dealt in
          let rest = old.0 in
          let first = first-of rest (let h = old.2 in let t = c.loop-test.true in search rules) in
          let x = first.0 in
          let tail = first.1 in
          let left = subst (λ r. Left count worker r (hand_keys g.F.Flow.key vecs)) first.2 old.3 in
          let shown = mapped-at (λ h. map g.F.Flow.key h.items) vecs worker (map g.F.Flow.key hand.items) [] in-row
          (λ e. ap (λ h. map g.F.Flow.key h.items) (sym (get_or_read_under vecs worker (length vecs) hand e c.index_mut.ensures.value in-row refl))) in
          let moved = c.move_first.ensures.moved x _ (sym shown ∙ worker-has count worker x tail (hand_keys g.F.Flow.key vecs) [] was.worker left) in (
            tail,
            old.1 ∙ append-one (map g.F.Flow.key (vec_items c.loop.room)) x rest tail first.2 ∙ ap (λ l. l ++ tail) (sym moved.1),
            (let long = ap length first.2 in omega (arith, old.2, long)),
            subst (Left count c.next_worker-worker.result tail) (sym (map-set (λ h. map g.F.Flow.key h.items) vecs worker less))
                (left-less count worker c.next_worker-worker.result x tail (hand_keys g.F.Flow.key vecs) (map g.F.Flow.key less.items) was.worker many passes moved.0 left),
          ));
      over = (λ all.
          let old = was.over all in
          let one : All (λ f. g.F.Flow.over f ≡ true) hand.items = subst (λ h. All (λ f. g.F.Flow.over f ≡ true) h.items) (sym c.index_mut.ensures.value) (old.0 worker hand in-row) in
          let moved = c.move_first.ensures.over one old.1 in
          (All-set (λ h. All (λ f. g.F.Flow.over f ≡ true) h.items) vecs worker less moved.0 old.0, moved.1));
    }

pub returns-clause-keys : goal.returns-clause-keys
returns-clause-keys g c = λ keys long dealt.
    let old = c.loop.invariant.keys keys long dealt in
    let none = length-zero old.0 (let h = old.2 in let t = c.loop-test.false in search rules) in
    sym (old.1 ∙ ap (λ r. map g.F.Flow.key (vec_items c.loop.room) ++ r) none ∙ append-nil _)
