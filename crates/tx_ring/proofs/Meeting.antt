-- What two ends that met know of their ledger.
use Rattle.std.proofs.Common.{◌≡◌, ℕ, ◌+◌, ◌-◌, ◌%◌, ◌<◌, ◌≤◌, List, length, Option, Some, None, sym, refl, ap, ◌∙◌, subst, arith}
use Rattle.ring_model.specs.transmit.Ring.{TxLedger, ends_posting}
use Rattle.ring_model.specs.transmit.Lawful.{IsLawfulTxLedger}
use Rattle.ring_model.specs.shared.Frames.{Bytes}
use Rattle.ring_model.specs.shared.Queue.{posted_count, completed_count}
use Rattle.ring_model.specs.kept.Transmit.{IsTxKept}
use Rattle.ring_laws.specs.Rings.{tx_kept, tx_concluded}
use Rattle.ring_laws.specs.Places.{ahead}
use Rattle.tx_ring.specs.Records.{Posting, TxDriven}
use Rattle.shared_ring.proofs.Meeting.{completed-is}
use Rattle.tx_ring.specs.Rule.{word_of_item, buffer_of_item}
use Rattle.tx_ring.specs.Ends.{DriverSide, driver_size, posted, cleaned, known_of, ControllerSide}
use Rattle.tx_ring.specs.Meeting.{ledger_of, sent_now, left_by, left_at, told_left, IsTold, Met}

module _ (d : DriverSide) (c : ControllerSide) (m : Met d c) (same : c.table ≡ d.table) (big : 1 < driver_size d) where
  kept : IsTxKept Bytes (driver_size d) m.queue
  kept = tx_kept (driver_size d) m.queue big m.reachable

  pub sent-is : sent_now d c ≡ m.queue.ledger.completed
  sent-is = let k = kept in completed-is (word_of_item m.queue) buffer_of_item ends_posting (driver_size d) m.queue.queue k.queue m.queue.owed d c same m.driver m.controller

  ledger-is : ledger_of d c ≡ m.queue.ledger
  ledger-is = ap (λ (x : TxDriven). let l : TxLedger Bytes = record { posted = x.posted; completed = sent_now d c; reaped = x.reaped } in l) m.driver
      ∙ ap (λ (xs : List Posting). let l : TxLedger Bytes = record { posted = m.queue.ledger.posted; completed = xs; reaped = m.queue.ledger.reaped } in l) sent-is

  pub met-lawful : IsLawfulTxLedger Bytes (driver_size d) (ledger_of d c)
  met-lawful = let a = m.lawful in let e = a.ledger in let f = m.driver in
      subst (λ (n : ℕ). IsLawfulTxLedger Bytes n (ledger_of d c)) m.size_is
      (subst (λ (l : TxLedger Bytes). IsLawfulTxLedger Bytes m.queue.size l) (sym ledger-is) e)

  -- what was learnt of the head
  pub met-left : (head : ℕ) → (known_of d).head ≡ Some head → length (posted d) ≡ length (sent_now d c) + left_by d head
  met-left head e = let l = m.learnt in let h = l.head head e in let k = kept in let o = k.queue.order in let gs = o.reaped_completed in let sp = o.completed_posted in let r = o.room in
      let t : length (posted d) ≡ posted_count m.queue.queue = ap (λ (x : TxDriven). length x.posted) m.driver in let s : length (sent_now d c) ≡ completed_count m.queue.queue = ap length sent-is in
      let a = ahead (driver_size d) (completed_count m.queue.queue) (posted_count m.queue.queue) (omega arith) sp (omega arith) in
      let b : left_by d head ≡ (posted_count m.queue.queue % driver_size d + driver_size d - completed_count m.queue.queue % driver_size d) % driver_size d =
      ap (λ (x : ℕ). (x % driver_size d + driver_size d - head) % driver_size d) t ∙ ap (λ (x : ℕ). (posted_count m.queue.queue % driver_size d + driver_size d - x) % driver_size d) h.1 in
      omega arith

  told-is : (o : Option ℕ) → (known_of d).head ≡ o → IsTold (left_at d o) (length (sent_now d c)) (length (posted d))
  told-is None e = tt
  told-is (Some head) e = met-left head e

  pub met-told : IsTold (told_left d) (length (sent_now d c)) (length (posted d))
  met-told = told-is (known_of d).head refl

  -- where all that was posted is cleaned, all was sent
  pub met-all : length (posted d) ≤ length (cleaned d) → sent_now d c ≡ posted d
  met-all h = let k = kept in let t = tx_concluded (driver_size d) m.queue k in
      sent-is ∙ t.all_sent (subst (λ (x : TxDriven). length x.posted ≤ length x.reaped) m.driver h) ∙ sym (ap (λ (x : TxDriven). x.posted) m.driver)
