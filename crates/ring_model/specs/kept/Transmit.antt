-- The invariants of the steps of a transmit ring.
use Rattle.std.specs.Prelude.{◌≡◌, ℕ, ◌+◌, ◌-◌, ◌<◌, ◌≤◌, Bool, true, false, List, map, length, take, Some, slice_get}
use Rattle.ring_model.specs.shared.Lists.{IsBeginning}
use Rattle.ring_model.specs.shared.Handshakes.{is_serving}
use Rattle.ring_model.specs.shared.Queue.{reaped_count}
use Rattle.ring_model.specs.transmit.Ring.{Posting, TxLedger, TxRing, are_whole, ends_posting, number_of_posting}
use Rattle.ring_model.specs.transmit.Steps.{asks_report}
use Rattle.ring_model.specs.transmit.Lawful.{IsLawfulTxLedger}
use Rattle.ring_model.specs.kept.Queues.{IsKept}

-- The counts of reports, in order. Of the items sent but not reported, only the last may have asked for a report; that
-- report is then owed.
pub record InReports {Payload : Type 0} (sent : List (Posting Payload)) (reaped seen reported : ℕ) (held owed serving : Bool) : Type 0 where
  pub reaped_seen : reaped ≤ seen
  pub seen_reported : seen ≤ reported
  pub reported_sent : reported ≤ length sent
  pub owed_unheld : owed ≡ true → held ≡ false
  pub owed_serving : owed ≡ true → serving ≡ true
  pub owed_last : owed ≡ true → reported < length sent
  pub asked : owed ≡ true → asks_report (slice_get sent (length sent - 1)) ≡ true
  pub silent : (k : ℕ) → reported ≤ k → k < length sent → (owed ≡ true → k + 1 < length sent) → asks_report (slice_get sent k) ≡ false

pub record IsTxKept (Payload : Type 0) (n : ℕ) (r : TxRing Payload) : Type 0 where
  pub queue : IsKept n ends_posting r.queue
  pub reports : InReports r.ledger.completed (reaped_count r.queue) r.seen_reported r.reported r.held r.owed (is_serving r.handshake.controller)
  pub sent : IsBeginning r.ledger.completed r.ledger.posted
  pub cleaned : IsBeginning r.ledger.reaped (map number_of_posting r.ledger.completed)
  pub past : (k : ℕ) (l : TxLedger Payload) → slice_get r.past k ≡ Some l → IsLawfulTxLedger Payload n l
  pub published : are_whole (take r.published r.ledger.posted) ≡ true
