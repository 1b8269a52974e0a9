use Rattle.std.proofs.Common.{◌≡◌, ◌≤◌, [], All, vec_items, vec_len, vec_capacity}
use Rattle.teams.proofs.dealing.empty_hands.Given as goal

abbrev pub invariant-loop : goal.invariant-loop
invariant-loop g l =
    record {
      len : vec_len l.hands ≡ l.counter;
      all : l.count ≤ vec_capacity l.hands;
      empty : All (λ h. h.items ≡ []) (vec_items l.hands);
      room : All (λ h. l.room ≤ vec_capacity h) (vec_items l.hands);
    }
