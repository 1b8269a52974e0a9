-- Each move of a receive machine takes it to what agrees with the ring after the step.
use Rattle.std.proofs.Common.{◌≡◌, ℕ, ◌<◌, Bool, true, not, ◌&&◌, length, Option, Some, None, refl, ap, ◌∙◌, arith}
use Rattle.std.specs.Prelude.{slice_index, nat_lt}
use Rattle.std.proofs.lemmas.Bool.{and_parts, lt-ltb, and_from}
use Rattle.std.proofs.lemmas.Option.{slice_get_within}
use Rattle.ring_model.specs.declared.handshake.Handshake.{Handshake}
use Rattle.ring_model.specs.declared.steps.ControlStep.{ControlStep}
use Rattle.ring_model.specs.declared.steps.RxStep.{RxStep}
use Rattle.ring_model.specs.declared.steps.RxStep.TheVariants.{Post, Publish, Look, Fetch, Store, Take, Head, Control, Reclaim, StoreQuiet, LoadQuiet, ClearHead, ClearTail, ClearQuiet}
use Rattle.ring_model.specs.shared.Handshakes.{enables, is_live}
use Rattle.ring_model.specs.shared.QueueSteps as queue
use Rattle.ring_model.specs.shared.Queue.{completed_count, reaped_count, posted_count, returned_count, may, by}
use Rattle.ring_model.specs.shared.Agreement.{Agrees, Wrapped}
use Rattle.ring_model.specs.receive.Ring.{RxRing, RxQueue, due, next_segment}
use Rattle.ring_model.specs.shared.Segments.{Segment, ends_segment}
use Rattle.ring_model.specs.receive.Steps.{rx_can, rx_changed, rx_settled, took}
use Rattle.ring_model.specs.receive.Agreement.{rx_word}
use Rattle.ring_model.specs.kept.Receive.{IsRxKept}
use Rattle.ring_machine.specs.code.Sound.{IsSound}
use Rattle.ring_machine.specs.code.Shared.{after_out}
use Rattle.ring_machine.specs.receive.Machine.{RxAgrees, RxParts, buffer_rx, word_rx}
use Rattle.ring_machine.specs.code.Receive.{next_slot, rx_moved}
use Rattle.ring_machine.proofs.shared.Snoc.{found}
use Rattle.ring_machine.proofs.shared.Slots.{put-here}
use Rattle.ring_machine.proofs.shared.Fitting as fit
use Rattle.ring_machine.proofs.shared.ControlStepping as control_step
use Rattle.ring_machine.proofs.receive.Telling.{dd_set, due_word, fetched_slot, held_is, reclaimed_slot, taken_slot}
use Rattle.ring_laws.specs.Queues.{held_below}

module _ (p : RxParts) (r : RxRing ℕ) (k : IsRxKept ℕ r.size r) (a : RxAgrees p r) (sound : IsSound p.queue) where
  -- a step of the queue alone
  rests : (w : Wrapped ℕ) (q : RxQueue ℕ) → Agrees {Reaped = Segment ℕ} ends_segment word_rx buffer_rx w q → RxAgrees (record p { queue = w }) (record r { queue = q })
  rests w q fits = record { queue = fits; quiet = a.quiet; still = a.still }

  moves-fetch : rx_can r Fetch ≡ true → RxAgrees (rx_moved p Fetch) (rx_changed r Fetch)
  moves-fetch e = let t = and_parts (may r.queue queue.Fetch) (not r.still) e in
      rests (rx_moved p Fetch).queue (by r.queue queue.Fetch) (fit.fits-fetch ends_segment word_rx buffer_rx p.queue r.queue k.queue a.queue sound (slice_index r.ledger.posted (completed_count r.queue)) t.0 (fetched_slot p r k a e))

  moves-store : (x : ℕ) (eop : Bool) → r.held ≡ true → RxAgrees (rx_moved p (Store x eop)) (rx_changed r (Store x eop))
  moves-store x eop e = let below : p.queue.serve < length p.queue.words = let l = sound.words in let s = sound.serve in omega arith in
      let g = found r.ledger.posted (completed_count r.queue) (held_below r.size ends_segment r.queue k.queue e) in
      rests (rx_moved p (Store x eop)).queue (by r.queue (queue.Complete (next_segment r x eop)))
      (fit.fits-complete ends_segment word_rx buffer_rx p.queue r.queue k.queue a.queue sound (next_segment r x eop) (Some (rx_word x eop)) eop (slice_index r.ledger.posted (completed_count r.queue)) e (held_is p r k a e) refl
      (put-here p.queue.words p.queue.serve (rx_word x eop) below)
      (ap (λ (o : Option ℕ). buffer_rx o (Some (next_segment r x eop))) g.1))

  moves-taken : (s : Segment ℕ) → due r ≡ Some s → rx_can r Take ≡ true → RxAgrees (rx_moved p Take) (took r (Some s))
  moves-taken s e may_take = let t = and_parts (is_live r.handshake.driver) (nat_lt (reaped_count r.queue) (posted_count r.queue)) may_take in let below = slice_get_within r.ledger.completed (reaped_count r.queue) s e in
      let fair = and_from (is_live r.handshake.driver) (nat_lt (reaped_count r.queue) (completed_count r.queue)) t.0 (lt-ltb (reaped_count r.queue) (completed_count r.queue) below) in
      rw (due_word p r k a (Some s) e may_take) (rw (dd_set s.payload s.eop)
      (rests (after_out p.queue None (next_slot p)) (by r.queue (queue.Reap s)) (fit.fits-reap ends_segment word_rx buffer_rx p.queue r.queue k.queue a.queue sound s None s.number fair (taken_slot p r k a s e may_take))))

  moves-due : (o : Option (Segment ℕ)) → due r ≡ o → rx_can r Take ≡ true → RxAgrees (rx_moved p Take) (took r o)
  moves-due None e may_take = rw (due_word p r k a None e may_take) a
  moves-due (Some s) e may_take = moves-taken s e may_take

  moves-control : (c : ControlStep) → rx_can r (Control c) ≡ true → RxAgrees (rx_moved p (Control c)) (rx_changed r (Control c))
  moves-control c e = record {
    queue = control_step.fits-control_step ends_segment word_rx buffer_rx p.queue r.queue k.queue a.queue c (rx_settled r) e;
    quiet = a.quiet;
    still = let q = a.queue in ap (λ (h : Handshake). not (enables h c) && p.still) q.handshake ∙ ap (λ (b : Bool). not (enables r.handshake c) && b) a.still;
  }

  pub rx_fits-moved : (s : RxStep ℕ) → rx_can r s ≡ true → RxAgrees (rx_moved p s) (rx_changed r s)
  rx_fits-moved (Post b) e = rests (rx_moved p (Post b)).queue (by r.queue (queue.Post b)) (fit.fits-post ends_segment word_rx buffer_rx p.queue r.queue k.queue a.queue sound b b 0 e refl refl)
  rx_fits-moved Publish e = rests (rx_moved p Publish).queue (by r.queue queue.Publish) (control_step.fits-publish ends_segment word_rx buffer_rx p.queue r.queue k.queue a.queue)
  rx_fits-moved Look e = rests (rx_moved p Look).queue (by r.queue queue.Look) (control_step.fits-look ends_segment word_rx buffer_rx p.queue r.queue k.queue a.queue)
  rx_fits-moved Fetch e = moves-fetch e
  rx_fits-moved (Store x eop) e = moves-store x eop e
  rx_fits-moved Take e = moves-due (due r) refl e
  rx_fits-moved Head e = rests (rx_moved p Head).queue (by r.queue queue.Head) (control_step.fits-head ends_segment word_rx buffer_rx p.queue r.queue k.queue a.queue e)
  rx_fits-moved (Control c) e = moves-control c e
  rx_fits-moved Reclaim e = rests (rx_moved p Reclaim).queue (by r.queue queue.Reclaim) (fit.fits-reclaim ends_segment word_rx buffer_rx p.queue r.queue k.queue a.queue sound (Some 0) (slice_index r.ledger.posted (returned_count r.queue)) e (reclaimed_slot p r k a e))
  rx_fits-moved StoreQuiet e = record { queue = a.queue; quiet = refl; still = refl }
  rx_fits-moved LoadQuiet e = a
  rx_fits-moved ClearHead e = rests (rx_moved p ClearHead).queue (by r.queue queue.ClearHead) (control_step.fits-clear_head ends_segment word_rx buffer_rx p.queue r.queue k.queue a.queue e)
  rx_fits-moved ClearTail e = rests (rx_moved p ClearTail).queue (by r.queue queue.ClearTail) (control_step.fits-clear_tail ends_segment word_rx buffer_rx p.queue r.queue k.queue a.queue e)
  rx_fits-moved ClearQuiet e = record { queue = control_step.fits-renew ends_segment word_rx buffer_rx p.queue r.queue k.queue a.queue word_rx e; quiet = refl; still = a.still }
