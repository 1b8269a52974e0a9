use Rattle.std.proofs.Common.{◌≡◌, ◌+◌, ◌<◌, ◌≤◌, drop, length, vec_len, vec_capacity}
use Rattle.std.specs.Vec.Iter.{into_iter_items, into_iter_len}
use Rattle.pool.specs.Owned.{IsOf}
use Rattle.forward_bench.proofs.sides.make_sides.Given as goal

abbrev pub invariant-loop-own : goal.invariant-loop-own
invariant-loop-own g l =
    let rest = l.own-iterator in
    record {
      ends : into_iter_items rest ≡ drop l.number l.fn.ends.items;
      count : l.number + into_iter_len rest ≡ length l.flow_rings;
      drivers : vec_len l.drivers ≡ l.number;
      controllers : vec_len l.controllers ≡ l.number;
      room : (length l.flow_rings ≤ vec_capacity l.drivers) × (length l.flow_rings ≤ vec_capacity l.controllers);
      pool : IsOf l.pool l.pass;
      share : length l.flow_rings < l.number + l.pass.hand.share;
    }
