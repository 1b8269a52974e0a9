-- Settled and lasting facts of a transmit ring.
use Rattle.std.specs.Prelude.{◌≡◌, ◌≤◌, Bool, true, false, map, take}
use Rattle.ring_model.specs.shared.Handshakes.{has_ended}
use Rattle.ring_model.specs.shared.Queue.{posted_count, completed_count, reaped_count}
use Rattle.ring_model.specs.shared.Laws.{IsConcluded, IsOrdered, Later}
use Rattle.ring_model.specs.transmit.Ring.{TxRing, are_whole, number_of_posting}

module _ {Payload : Type 0} where
  -- The controller sends no more in this epoch: it answered the disabling.
  -- No worked row decides this, only `has_ended`; the laws' proofs rely on it.
  abbrev pub tx_quiesced : TxRing Payload → Bool
  tx_quiesced r = has_ended r.handshake

  -- Cleaned items were seen reported, items seen reported were reported, and reported items were sent.
  -- No worked row decides this; `counts_are_ordered` proves it of every reachable ring.
  pub record IsTxOrdered (r : TxRing Payload) : Type 0 where
    pub queue : IsOrdered r.queue
    pub cleaned_seen : reaped_count r.queue ≤ r.seen_reported
    pub seen_reported : r.seen_reported ≤ r.reported
    pub reported_sent : r.reported ≤ completed_count r.queue

  -- The published postings end with a whole frame. Once the controller sends no more, no frame is unfinished and no
  -- report is owed. If all postings are cleaned, all were sent and their buffers came back, in order.
  -- No worked row decides this; `rings_are_concluded` proves it of every reachable ring.
  pub record IsTxConcluded (r : TxRing Payload) : Type 0 where
    pub queue : IsConcluded r.queue
    pub published : are_whole (take r.published r.ledger.posted) ≡ true
    pub whole : tx_quiesced r ≡ true → are_whole r.ledger.completed ≡ true
    pub paid : tx_quiesced r ≡ true → r.owed ≡ false
    pub all_sent : posted_count r.queue ≤ reaped_count r.queue → r.ledger.completed ≡ r.ledger.posted
    pub all_cleaned : posted_count r.queue ≤ reaped_count r.queue → r.ledger.reaped ≡ map number_of_posting r.ledger.posted

  abbrev pub TxLater : TxRing Payload → TxRing Payload → Type 0
  TxLater r later = Later r.queue (tx_quiesced r) later.queue (tx_quiesced later)
