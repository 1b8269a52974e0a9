use Rattle.std.proofs.Common.{rules, arith, ◌≡◌, ◌∙◌, ◌<◌, ◌++◌, [], ◌∷◌, ap, sym, subst, map, length, refl, vec_items, vec_len}
use Rattle.std.proofs.lemmas.List.{map-set, length-map, get_or_read_under}
use Rattle.std.specs.Vec.Iter.{into_iter_len}
use Rattle.teams.specs.Dealing.{IsDealt, Passes}
use Rattle.teams.proofs.Dealt.{dealt-more, gaps-more, gaps-first, none-dealt, rooms-first, rooms-less}
use Rattle.teams.proofs.Lists.{append-one, mapped-at}
use Rattle.teams.proofs.dealing.deal.Goals as goal

pub push_reserved-requires : goal.push_reserved-requires
push_reserved-requires g c =
    let hands = vec_items c.loop-item.hands in
    let room = c.loop-item.invariant.1.room c.loop-item.worker c.index_mut.result.now (search rules) in
    search rules

pub loop-item-init : goal.loop-item-init
loop-item-init g c = (
  [],
  record {
    all = search rules;
    count = search rules;
    worker = search rules;
    gaps = (λ w low. gaps-first g.row.T.Denot (vec_len c.args.hands) w low);
    dealt = none-dealt (vec_items c.args.hands) c.requires.none;
    room = rooms-first (vec_len c.args.items) (into_iter_len c.into_iter-item-iterator.result) (vec_items c.args.hands) (search rules) c.requires.none c.requires.room;
  },
)

pub loop-item-preserved : goal.loop-item-preserved
loop-item-preserved g c =
    let was = c.loop-item.invariant in
    let item = c.in-Some.item in
    let worker = c.loop-item.worker in
    let count = vec_len c.args.hands in
    let vecs = c.loop-item.hands.items in
    let hand = c.index_mut.result.now in
    let more = c.push_reserved.new.self in
    let hands = map (λ h. h.items) vecs in
    let many : length hands ≡ count = search (rules, length-map) in
    let in-row : worker < length vecs = search rules in
    let pushed : more.items ≡ hand.items ++ item ∷ [] = search rules in
    let passes : Passes count worker c.next_worker-worker.result = subst (λ n. Passes n worker c.next_worker-worker.result) (search rules) c.next_worker-worker.ensures.passes in (
      was.0 ++ item ∷ [],
      record {
        all = was.1.all ∙ append-one was.0 item _ _ c.in-Some.ensures.steps.0;
        count = search rules;
        worker = search rules;
        gaps = gaps-more count worker c.next_worker-worker.result was.0 item passes was.1.gaps;
        dealt = subst (IsDealt (was.0 ++ item ∷ [])) (sym (map-set (λ h. h.items) vecs worker more))
            (dealt-more was.0 hands item worker more.items (omega (arith, in-row, length-map vecs (λ h. h.items)))
            (λ d. pushed ∙ ap (λ l. l ++ item ∷ []) (sym (mapped-at (λ h. h.items) vecs worker hand.items d in-row (λ e. ap (λ v. v.items) (sym (get_or_read_under vecs worker (length vecs) hand e c.index_mut.ensures.value in-row refl))))))
            count many was.1.gaps was.1.dealt);
        room = rooms-less (vec_len c.args.items) (into_iter_len c.loop-item.item-iterator) (into_iter_len c.next.new.self) vecs worker more (search rules)
            (let had = was.1.room worker hand in-row in search rules) was.1.room;
      },
    )
