use Rattle.std.specs.Option.{is_some}
use Rattle.std.proofs.Common.{◌≡◌, ◌+◌, ◌*◌, ◌<◌, All, map, length, vec_items}
use Rattle.counters.specs.Kinds.{none_taken, nothing}
use Rattle.limits.specs.declared.profile.TheConstants.{MOST_PAIRS, PORTS}
use Rattle.std.specs.Vec.Iter.{into_iter_items, into_iter_len}
use Rattle.pool.specs.Owned.{IsOf}
use Rattle.forwarder.specs.Plans.{AreAllSides, plan_with}
use Rattle.forwarder.proofs.Walking.{Makes}
use Rattle.forwarder.proofs.sides.make_sides.Given as goal

abbrev pub invariant-loop-own : goal.invariant-loop-own
invariant-loop-own g l =
    record {
      both : Makes l.number (length l.rings) l.fn.ends.items (into_iter_items l.own-iterator) (into_iter_len l.own-iterator) l.drivers l.controllers;
      pool : IsOf l.pool l.pass;
      held : l.pass.hand.held ≡ l.initial.pass.hand.held;
      share : l.number + l.pass.hand.share ≡ l.initial.pass.hand.share;
      enough : PORTS * MOST_PAIRS < l.number + l.pass.hand.share;
      counts : All (λ f. f.counts ≡ none_taken) (vec_items l.drivers);
      tallies : All (λ f. f.tally ≡ nothing) (vec_items l.controllers);
      sides : AreAllSides (plan_with (is_some l.stop) l.config l.script) l.pool l.number l.rings (map (λ f. f.key) (vec_items l.drivers)) (map (λ f. f.key) (vec_items l.controllers));
    }
