-- What two ends that met know of their ledger.
use Rattle.std.proofs.Common.{◌≡◌, ℕ, ◌+◌, ◌-◌, ◌%◌, ◌<◌, true, List, length, Option, Some, None, sym, refl, ap, ◌∙◌, subst, arith, ◌++◌, append-nil, length-append}
use Rattle.atomic_table.specs.Seated.{TableId}
use Rattle.ring_model.specs.shared.Lists.{IsBeginning}
use Rattle.ring_model.specs.receive.Ring.{RxLedger}
use Rattle.ring_model.specs.shared.Segments.{Segment, ends_segment}
use Rattle.ring_model.specs.receive.Lawful.{IsLawfulRxLedger}
use Rattle.ring_model.specs.shared.Frames.{Bytes}
use Rattle.ring_model.specs.shared.Queue.{completed_count, reaped_count}
use Rattle.ring_model.specs.kept.Receive.{IsRxKept}
use Rattle.ring_laws.specs.Rings.{rx_kept}
use Rattle.ring_laws.specs.Places.{ahead}
use Rattle.shared_ring.proofs.Laying.{none-empty}
use Rattle.rx_ring.specs.Records.{RxDriven, controlling}
use Rattle.shared_ring.proofs.Meeting.{completed-is}
use Rattle.rx_ring.specs.Rule.{word_of_item, buffer_of_item}
use Rattle.rx_ring.specs.Ends.{DriverSide, driver_size, taken, known_of, saw_quiet, is_drained, ControllerSide, is_quiet}
use Rattle.rx_ring.specs.Calls.{IsTold, left_at, told_left}
use Rattle.rx_ring.specs.Meeting.{ledger_of, stored_now, left_by, Met}

-- a beginning that is as long is the whole
beginning-whole : {X : Type 0} (xs ys : List X) → IsBeginning xs ys → length xs ≡ length ys → xs ≡ ys
beginning-whole xs ys b e = let len = length-append xs b.0 in let l : length (xs ++ b.0) ≡ length ys = ap length b.1 in
    sym (append-nil xs) ∙ ap (λ zs. xs ++ zs) (sym (none-empty b.0 (omega arith))) ∙ b.1

module _ (d : DriverSide) (c : ControllerSide) (m : Met d c) (same : c.table ≡ d.table) (big : 1 < driver_size d) where
  kept : IsRxKept Bytes (driver_size d) m.queue
  kept = rx_kept (driver_size d) m.queue big m.reachable

  pub stored-is : stored_now d c ≡ m.queue.ledger.completed
  stored-is = let k = kept in completed-is word_of_item buffer_of_item ends_segment (driver_size d) m.queue.queue k.queue m.queue.still d c same m.driver m.controller

  ledger-is : ledger_of d c ≡ m.queue.ledger
  ledger-is = ap (λ (x : RxDriven). let l : RxLedger Bytes = record { posted = x.posted; completed = stored_now d c; reaped = x.reaped } in l) m.driver
      ∙ ap (λ (xs : List (Segment Bytes)). let l : RxLedger Bytes = record { posted = m.queue.ledger.posted; completed = xs; reaped = m.queue.ledger.reaped } in l) stored-is

  pub met-lawful : IsLawfulRxLedger Bytes (driver_size d) (ledger_of d c)
  met-lawful = let a = m.lawful in let e = a.ledger in let f = m.driver in
      subst (λ (n : ℕ). IsLawfulRxLedger Bytes n (ledger_of d c)) m.size_is
      (subst (λ (l : RxLedger Bytes). IsLawfulRxLedger Bytes m.queue.size l) (sym ledger-is) e)

  -- what was learnt of the head
  pub met-left : (head : ℕ) → (known_of d).head ≡ Some head → length (stored_now d c) ≡ length (taken d) + left_by d head
  met-left head e = let l = m.learnt in let h = l.head head e in let k = kept in let o = k.queue.order in let gs = o.reaped_completed in let sp = o.completed_posted in let r = o.room in
      let t : length (taken d) ≡ reaped_count m.queue.queue = ap (λ (x : RxDriven). length x.reaped) m.driver in let s : length (stored_now d c) ≡ completed_count m.queue.queue = ap length stored-is in
      let a = ahead (driver_size d) (reaped_count m.queue.queue) (completed_count m.queue.queue) (omega arith) gs (omega arith) in
      let b : left_by d head ≡ (completed_count m.queue.queue % driver_size d + driver_size d - reaped_count m.queue.queue % driver_size d) % driver_size d =
      ap (λ (x : ℕ). (head + driver_size d - x % driver_size d) % driver_size d) t ∙ ap (λ (x : ℕ). (x + driver_size d - reaped_count m.queue.queue % driver_size d) % driver_size d) h.1 in
      omega arith

  -- where it saw the queue quiet, the controller said that it is
  pub met-quiet : saw_quiet d ≡ true → is_quiet c ≡ true
  met-quiet e = let l = m.learnt in let o = m.controller in ap (λ (z : TableId). (controlling z.slots c.events).barred) same ∙ o.barred ∙ l.said e

  pub met-drained : is_drained d ≡ true → taken d ≡ stored_now d c
  met-drained e = let l = m.learnt in let h = l.drained e in let k = kept in
      ap (λ (x : RxDriven). x.reaped) m.driver ∙ beginning-whole m.queue.ledger.reaped m.queue.ledger.completed k.taken h.1 ∙ sym stored-is

  told-is : (o : Option ℕ) → (known_of d).head ≡ o → IsTold (left_at d o) (length (taken d)) (length (stored_now d c))
  told-is None e = tt
  told-is (Some head) e = met-left head e

  pub met-told : IsTold (told_left d) (length (taken d)) (length (stored_now d c))
  met-told = told-is (known_of d).head refl
