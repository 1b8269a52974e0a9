use Rattle.std.proofs.Common.{◌≡◌, ℕ, ◌<◌, ◌++◌, All, List, map, vec_items, vec_len}
use Rattle.std.specs.Vec.Iter.{into_iter_items, into_iter_len}
use Rattle.teams.specs.Dealing.{IsDealt}
use Rattle.teams.proofs.Dealt.{Gap, HasRoom, after}
use Rattle.teams.proofs.dealing.deal.Given as goal

abbrev pub invariant-loop-item : goal.invariant-loop-item
invariant-loop-item g l =
    let many = vec_len l.fn.hands in
    (done : List _) × record {
      all : l.fn.items.items ≡ done ++ into_iter_items l.item-iterator;
      count : vec_len l.hands ≡ many;
      worker : l.worker < many;
      gaps : (w : ℕ) → w < many → Gap many l.worker w (after many w done);
      dealt : IsDealt done (map (λ h. h.items) (vec_items l.hands));
      room : All (HasRoom (vec_len l.fn.items) (into_iter_len l.item-iterator)) (vec_items l.hands);
    }
