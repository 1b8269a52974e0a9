-- The invariants of the steps of a receive ring.
use Rattle.std.specs.Prelude.{◌≡◌, ℕ, ◌≤◌, true, false, map, Some, slice_get}
use Rattle.ring_model.specs.shared.Lists.{IsBeginning}
use Rattle.ring_model.specs.shared.Handshakes.{is_serving}
use Rattle.ring_model.specs.receive.Ring.{RxLedger, RxRing, is_whole}
use Rattle.ring_model.specs.shared.Segments.{ends_segment, number_of_segment}
use Rattle.ring_model.specs.receive.Lawful.{IsLawfulRxLedger}
use Rattle.ring_model.specs.receive.Laws.{rx_quiesced}
use Rattle.ring_model.specs.kept.Queues.{IsKept}

pub record IsRxKept (Payload : Type 0) (n : ℕ) (r : RxRing Payload) : Type 0 where
  pub queue : IsKept n ends_segment r.queue
  pub taken : IsBeginning r.ledger.reaped r.ledger.completed
  pub stored : IsBeginning (map number_of_segment r.ledger.completed) r.ledger.posted
  pub past : (k : ℕ) (l : RxLedger Payload) → slice_get r.past k ≡ Some l → IsLawfulRxLedger Payload n l
  pub at_rest : r.still ≡ true → r.held ≡ false
  pub finished : is_serving r.handshake.controller ≡ true → r.still ≡ true → is_whole r ≡ true
  pub bit : r.quiet ≤ 1
  pub quiet : r.quiet ≡ 1 → rx_quiesced r ≡ true
  pub said : r.quiet ≡ 1 → r.still ≡ true
