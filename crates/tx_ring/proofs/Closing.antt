-- A ring's end: the two ends' own places tell which buffers come back.
use Rattle.std.proofs.Common.{◌≡◌, ◌≤◌, List, Option, Some, sym, refl, ap, ◌∙◌, subst, arith}
use Rattle.buffer_pool.specs.Buffer.{Buffer}
use Rattle.ring_model.specs.transmit.Ring.{carried, TxRing, ends_posting, number_of_posting}
use Rattle.ring_model.specs.shared.Frames.{Bytes}
use Rattle.ring_laws.specs.Rings.{tx_kept}
use Rattle.shared_ring.specs.declared.ends.DriverPlaces.{DriverPlaces}
use Rattle.shared_ring.specs.declared.ends.ControllerPlaces.{ControllerPlaces}
use Rattle.shared_ring.specs.Meeting.{IsReal, TakenApart, kept_at, kept_upto}
use Rattle.shared_ring.specs.Calls.{IsPoster, IsServer}
use Rattle.shared_ring.proofs.Closed.{comes-back}
use Rattle.tx_ring.specs.Ends.{DriverSide, driver_size, driver_record, ControllerSide, controller_size, controller_record}
use Rattle.tx_ring.specs.Meeting.{IsClosed, GaveBack, AllReal, AllCameBack}
use Rattle.tx_ring.specs.Rule.{filled, word_of_item, buffer_of_item}

module _ (d : DriverSide) (c : ControllerSide) (at : DriverPlaces) (e : IsPoster (driver_size d) (driver_record d) at) (same : c.table ≡ d.table)
    (places : ControllerPlaces) (h : IsServer carried (controller_size c) (controller_record c) places) (buffers : List (Option Buffer)) (t : TakenApart d c at.next at.out places.serve places.holding buffers) where
  abbrev q : TxRing Bytes
  q = ((t.left).of_one_ring).queue

  pub closed : IsClosed d c buffers × AllReal buffers × AllCameBack d c buffers
  closed = let l = t.left in let a = l.of_one_ring in let b = a.lawful in let g : 8 ≤ driver_size d = e.lawful.0 in let k = tx_kept (driver_size d) a.queue (omega arith) a.reachable in
      let all = comes-back d c at e same places h (word_of_item q) buffer_of_item ends_posting q.queue k.queue q.owners b.map a.size_is q.owed a.driver a.controller t.slots l.buffers
      (λ k x is. (filled x, (refl, refl))) (λ x y of. subst IsReal (sym of) refl) number_of_posting (λ x y of. ap (λ (z : Buffer). z.number) of) (λ x. (filled x, (refl, refl)))
      (GaveBack d (kept_upto (kept_at (driver_size d) at.next at.out places.serve places.holding t.slots) (driver_size d)))
      (λ place k x y out there was of. record { item = k; posting = x; is_out = out; there = there ∙ ap (λ (z : Buffer). Some (Some z)) of; posting_is = was }) in
      subst (λ (bs : List (Option Buffer)). IsClosed d c bs × AllReal bs × AllCameBack d c bs) (sym t.kept) (record { of_one_ring = l.of_one_ring; places = all.0 }, all.1, all.2)
