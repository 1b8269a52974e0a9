use Rattle.std.proofs.Common.{◌≡◌, ℕ, ◌<◌, [], vec_len, get_or}
use Rattle.forwarder.proofs.index.no_places.Given as goal

abbrev pub invariant-loop : goal.invariant-loop
invariant-loop l =
    record {
      len : vec_len l.lists ≡ l.counter;
      empty : (k : ℕ) (d : _) → k < l.counter → (get_or l.lists.items k d).items ≡ [];
    }
