use Rattle.std.proofs.Common.{◌≡◌, ℕ, ◌<◌, ◌≤◌, vec_items, vec_len, vec_capacity, get_or}
use Rattle.forwarder.specs.Rings.{AreEnds}
use Rattle.forwarder.proofs.flow_rings.make_rings.Given as goal

abbrev pub invariant-loop : goal.invariant-loop
invariant-loop l =
    record {
      rings : vec_len l.rings ≡ l.counter;
      ends : vec_len l.ends ≡ l.counter;
      room : (l.flows ≤ vec_capacity l.rings) × (l.flows ≤ vec_capacity l.ends);
      made : (k : ℕ) (d : _) (e : _) → k < l.counter → AreEnds l.config.ring l.config.completion (get_or (vec_items l.rings) k d) (get_or (vec_items l.ends) k e);
    }
