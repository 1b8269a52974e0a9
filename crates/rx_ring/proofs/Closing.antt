-- A ring's end: the two ends' own places tell which buffers come back.
use Rattle.std.proofs.Common.{◌≡◌, ℕ, ◌≤◌, List, [], Option, Some, None, sym, refl, ap, ◌∙◌, subst, arith}
use Rattle.std.specs.Prelude.{slice_get}
use Rattle.std.proofs.lemmas.Option.{same_Some}
use Rattle.buffer_pool.specs.Buffer.{Buffer, buffer}
use Rattle.ring_model.specs.receive.Ring.{RxRing}
use Rattle.ring_model.specs.shared.Segments.{Segment, ends_segment, piece_of}
use Rattle.ring_model.specs.shared.Frames.{Bytes}
use Rattle.ring_model.specs.kept.Receive.{IsRxKept}
use Rattle.ring_laws.specs.Rings.{rx_kept}
use Rattle.ring_laws.specs.Lists as beginnings
use Rattle.shared_ring.specs.declared.ends.DriverPlaces.{DriverPlaces}
use Rattle.shared_ring.specs.declared.ends.ControllerPlaces.{ControllerPlaces}
use Rattle.shared_ring.specs.Meeting.{TakenApart, kept_at, kept_upto}
use Rattle.shared_ring.specs.Calls.{IsPoster, IsServer}
use Rattle.shared_ring.proofs.Closed.{comes-back}
use Rattle.rx_ring.specs.Ends.{DriverSide, driver_size, driver_record, ControllerSide, controller_size, controller_record}
use Rattle.rx_ring.specs.Form.{rx}
use Rattle.rx_ring.specs.Meeting.{IsClosed, GaveBack, AllReal, AllCameBack}
use Rattle.rx_ring.specs.Rule.{word_of_item, buffer_of_item}

module _ (d : DriverSide) (c : ControllerSide) (at : DriverPlaces) (e : IsPoster (driver_size d) (driver_record d) at) (same : c.table ≡ d.table)
    (places : ControllerPlaces) (h : IsServer piece_of (controller_size c) (controller_record c) places) (buffers : List (Option Buffer)) (t : TakenApart d c at.next at.out places.serve places.holding buffers) where
  abbrev q : RxRing Bytes
  q = ((t.left).of_one_ring).queue

  kept : IsRxKept Bytes (driver_size d) ((t.left).of_one_ring).queue
  kept = let l = t.left in let a = l.of_one_ring in let g : 8 ≤ driver_size d = e.lawful.0 in rx_kept (driver_size d) a.queue (omega arith) a.reachable

  -- a stored segment has the number that was posted
  lain : (k x : ℕ) → slice_get q.ledger.posted k ≡ Some x → (b : Buffer) × ((buffer_of_item (Some x) (slice_get q.ledger.completed k) ≡ Some b) × rx.IsOf x b)
  lain k x is = found (slice_get q.ledger.completed k) refl
    where
      found : (o : Option (Segment Bytes)) → slice_get q.ledger.completed k ≡ o → (b : Buffer) × ((buffer_of_item (Some x) o ≡ Some b) × rx.IsOf x b)
      found None f = (buffer x [], (refl, (refl, refl)))
      found (Some s) f = let k' = kept in (buffer s.number s.payload, (refl, (same_Some x s.number (sym is ∙ beginnings.number_at q.ledger.completed q.ledger.posted k s k'.stored f), refl)))

  pub closed : IsClosed d c buffers × AllReal buffers × AllCameBack d c buffers
  closed = let l = t.left in let a = l.of_one_ring in let b = a.lawful in let k = kept in
      let all = comes-back d c at e same places h word_of_item buffer_of_item ends_segment q.queue k.queue q.owners b.map a.size_is q.still a.driver a.controller t.slots l.buffers lain (λ x y of. of.1) (λ x. x) (λ x y of. sym of.0) (λ x. (buffer x [], (refl, refl)))
      (GaveBack d (kept_upto (kept_at (driver_size d) at.next at.out places.serve places.holding t.slots) (driver_size d)))
      (λ place k x y out there was of. record { item = k; buf = y; is_out = out; there = there; number = was ∙ ap Some of.0 }) in
      subst (λ (bs : List (Option Buffer)). IsClosed d c bs × AllReal bs × AllCameBack d c bs) (sym t.kept) (record { of_one_ring = l.of_one_ring; places = all.0 }, all.1, all.2)
