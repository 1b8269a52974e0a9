use Rattle.std.proofs.Common.{◌≡◌, ◌+◌, ◌<◌, ◌≤◌, ◌++◌, true, All, List, map, length, vec_items, vec_len, vec_capacity}
use Rattle.teams.specs.Dealing.{IsDealt}
use Rattle.teams.specs.Hands.{hand_keys, AllOver}
use Rattle.teams.proofs.Dealt.{Left}
use Rattle.teams.proofs.dealing.gather.Given as goal

abbrev pub invariant-loop : goal.invariant-loop
invariant-loop g l =
    record {
      worker : l.worker < vec_len l.hands;
      room : vec_len l.room ≤ l.counter;
      capacity : l.total ≤ vec_capacity l.room;
      keys : (keys : List g.F.Flow.Key) → length keys ≡ l.total → IsDealt keys (hand_keys g.F.Flow.key l.fn.hands.items)
          → (rest : List g.F.Flow.Key) × (keys ≡ map g.F.Flow.key (vec_items l.room) ++ rest) × (length rest + l.counter ≡ l.total) × Left (vec_len l.hands) l.worker rest (hand_keys g.F.Flow.key (vec_items l.hands));
      over : AllOver g.F.Flow.over l.fn.hands.items → AllOver g.F.Flow.over (vec_items l.hands) × All (λ f. g.F.Flow.over f ≡ true) (vec_items l.room);
    }
