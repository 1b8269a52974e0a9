-- What the fields of a controller's end keep as its record grows.
use Rattle.std.proofs.Common.{◌≡◌, ℕ, ◌+◌, ◌-◌, ◌<◌, Bool, true, false, if◌then◌else◌, [], ◌∷◌, ◌++◌, length, Option, Some, None, sym, refl, ap, ◌∙◌, subst}
use Rattle.std.specs.Prelude.{◌==◌}
use Rattle.std.proofs.lemmas.Option.{none-some}
use Rattle.buffer_pool.specs.Buffer.{Buffer}
use Rattle.limits.specs.RingLength.{IsRingLength}
use Rattle.ring_model.specs.receive.Agreement.{rx_word}
use Rattle.ring_model.specs.shared.Segments.{Segment, piece_of}
use Rattle.ring_model.specs.shared.Frames.{Bytes}
use Rattle.ring_model.specs.shared.Handshakes.{is_serving}
use Rattle.shared_ring.specs.declared.ends.ControllerPlaces.{ControllerPlaces}
use Rattle.shared_ring.specs.declared.ends.ControllerLoad.{ControllerLoad}
use Rattle.shared_ring.specs.Calls.{IsServer, LoadedWord}
use Rattle.shared_ring.specs.declared.events.ControllerEvent.TheVariants as controller
use Rattle.shared_ring.specs.Slots.{is_there}
use Rattle.shared_ring.specs.Steps.{CameOut}
use Rattle.shared_ring.specs.Records.{uncontrolled}
use Rattle.shared_ring.proofs.Serving as shared
use Rattle.shared_ring.proofs.Serving.{unplaced, record-after, loaded-leaves, server-fetch, server-completed, server-same}
use Rattle.rx_ring.specs.declared.events.RxControllerOwn.TheVariants.{WroteBack, SaidQuiet}
use Rattle.rx_ring.specs.Records.{RxControlled, ControllerStep, control, segment_of}
use Rattle.rx_ring.specs.Ends.{ControllerSide, controller_size, controller_record, stored, known_free, number_in, held_number, controller_state, serve_place, controller_grown}
use Rattle.rx_ring.specs.Calls.{IsServerOf, IsControllerEnd, Fetched, segment}
use Rattle.rx_ring.proofs.Words.{eop_of-rx_word}

pub end-after : (c new : ControllerSide) (e : ControllerStep) (at : ControllerPlaces) (head : ℕ) (finished : Bool) → new ≡ controller_grown c e → IsServerOf (controller_size c) (control (controller_size c) (controller_record c) e) at head finished → IsControllerEnd new at head finished
end-after c new e at head finished step h = subst (λ (n : ℕ). IsServerOf n (controller_record new) at head finished) (sym (ap controller_size step))
    (subst (λ (x : RxControlled). IsServerOf (controller_size c) x at head finished) (sym (record-after c new e step)) h)

pub some-there : (o : Option Buffer) (k : ℕ) → number_in o ≡ Some k → is_there o ≡ true
some-there None k e = absurd (none-some k e)
some-there (Some b) k e = refl

pub server-fresh : (n : ℕ) → IsRingLength n → IsServerOf n uncontrolled (unplaced n) 0 false
server-fresh n lawful = record { server = shared.server-fresh piece_of n lawful; head_is = refl; quiet_is = refl }

module _ (c : ControllerSide) (at : ControllerPlaces) (head : ℕ) (finished : Bool) (h : IsControllerEnd c at head finished) (now : ControllerSide) (was : c ≡ now) where
  abbrev x : RxControlled
  x = controller_record c

  pub serve-below : at.serve < controller_size c
  serve-below = shared.serve-below piece_of (controller_size c) x at h.server

  -- A4
  pub fetch-keeps : (new : ControllerSide) (buf : Buffer) (word : ℕ) → CameOut c at.serve buf word new → is_serving (controller_state now) ≡ true → 0 < known_free now → IsControllerEnd new (record at { holding = true }) head finished
  fetch-keeps new buf word f serving some = end-after c new (controller.Fetched at.serve word buf) (record at { holding = true }) head finished f.step (record {
    server = server-fetch piece_of (controller_size c) x at h.server buf (ap (λ (s : ControllerSide). is_serving (controller_state s)) was ∙ serving) (subst (λ (s : ControllerSide). 0 < known_free s) (sym was) some);
    head_is = h.head_is;
    quiet_is = h.quiet_is;
  })

  pub fetched : (new : ControllerSide) (buf : Buffer) (word : ℕ) → CameOut c at.serve buf word new → Fetched now buf new
  fetched new buf word f = subst (λ (s : ControllerSide). Fetched s buf new) was (record {
    step = f.step ∙ ap (λ (w : ℕ). controller_grown c (controller.Fetched at.serve w buf)) f.fetched.0 ∙ ap (λ (p : ℕ). controller_grown c (controller.Fetched p 0 buf)) h.serve_is;
    empty = f.fetched.1;
    same = record-after c new (controller.Fetched at.serve word buf) f.step;
  })

  -- A5
  module _ (buf : Buffer) (eop : Bool) (held : held_number now ≡ Some buf.number) where
    holds : at.holding ≡ true
    holds = h.held_is ∙ some-there x.held buf.number (ap held_number was ∙ held)

    pub some-free : 0 < at.available
    some-free = h.held_available holds

    pub holder-serves : is_serving (controller_state c) ≡ true
    holder-serves = h.held_serving holds

    segment-is : segment_of (rx_word (length buf.bytes) eop) buf ≡ segment buf eop
    segment-is = ap (λ (e : Bool). let s : Segment Bytes = record { number = buf.number; payload = buf.bytes; eop = e } in s) (eop_of-rx_word (length buf.bytes) eop)

    pub write_back-keeps : (new : ControllerSide) (serve : ℕ) → new ≡ controller_grown c (controller.Own (WroteBack at.serve (rx_word (length buf.bytes) eop) buf)) → serve ≡ (if (at.serve + 1) == controller_size c then 0 else (at.serve + 1))
        → IsControllerEnd new (record at { serve = serve; available = at.available - 1; holding = false; at_frame_end = eop }) head finished
    write_back-keeps new serve step e = end-after c new (controller.Own (WroteBack at.serve (rx_word (length buf.bytes) eop) buf)) (record at { serve = serve; available = at.available - 1; holding = false; at_frame_end = eop }) head finished step (record {
      server = server-completed piece_of (controller_size c) x at h.server (segment_of (rx_word (length buf.bytes) eop) buf) serve eop holds e (sym (eop_of-rx_word (length buf.bytes) eop)) x.head x.barred;
      head_is = h.head_is;
      quiet_is = h.quiet_is;
    })

    pub write_back-record : (new : ControllerSide) → new ≡ controller_grown c (controller.Own (WroteBack at.serve (rx_word (length buf.bytes) eop) buf)) → controller_record new ≡ record (controller_record now) { completed = stored now ++ segment buf eop ∷ []; held = None }
    write_back-record new step = record-after c new (controller.Own (WroteBack at.serve (rx_word (length buf.bytes) eop) buf)) step
        ∙ ap (λ (s : Segment Bytes). let y : RxControlled = record x { completed = x.completed ++ s ∷ []; held = None } in y) segment-is
        ∙ ap (λ (s : ControllerSide). let y : RxControlled = record (controller_record s) { completed = stored s ++ segment buf eop ∷ []; held = None } in y) was

    pub write_back-step : (new : ControllerSide) → new ≡ controller_grown c (controller.Own (WroteBack at.serve (rx_word (length buf.bytes) eop) buf)) → new ≡ controller_grown now (controller.Own (WroteBack (serve_place now) (rx_word (length buf.bytes) eop) buf))
    write_back-step new step = step ∙ ap (λ (p : ℕ). controller_grown c (controller.Own (WroteBack p (rx_word (length buf.bytes) eop) buf))) h.serve_is
        ∙ ap (λ (s : ControllerSide). controller_grown s (controller.Own (WroteBack (serve_place s) (rx_word (length buf.bytes) eop) buf))) was

  -- A7
  pub head-keeps : (new : ControllerSide) → new ≡ controller_grown c (controller.StoredHead at.serve) → IsControllerEnd new at at.serve finished
  head-keeps new step = end-after c new (controller.StoredHead at.serve) at at.serve finished step (record {
    server = server-same piece_of (controller_size c) x at h.server (record x { head = at.serve }) refl refl refl refl refl;
    head_is = refl;
    quiet_is = h.quiet_is;
  })

  pub head-record : (new : ControllerSide) → new ≡ controller_grown c (controller.StoredHead at.serve) → controller_record new ≡ record (controller_record now) { head = serve_place now }
  head-record new step = record-after c new (controller.StoredHead at.serve) step ∙ ap (λ (p : ℕ). let y : RxControlled = record x { head = p } in y) h.serve_is
      ∙ ap (λ (s : ControllerSide). let y : RxControlled = record (controller_record s) { head = serve_place s } in y) was

  -- C7
  pub quiet-keeps : (new : ControllerSide) → new ≡ controller_grown c (controller.Own SaidQuiet) → IsControllerEnd new at head true
  quiet-keeps new step = end-after c new (controller.Own SaidQuiet) at head true step (record {
    server = server-same piece_of (controller_size c) x at h.server (record x { barred = true }) refl refl refl refl refl;
    head_is = h.head_is;
    quiet_is = refl;
  })

  -- A3 and C2
  pub load-keeps : (new : ControllerSide) (which : ControllerLoad) (word : ℕ) (at' : ControllerPlaces) → LoadedWord which c word new → IsServer piece_of (controller_size new) (controller_record new) at' → IsControllerEnd new at' head finished
  load-keeps new which word at' f k = let l = loaded-leaves c new which word f in record { server = k; head_is = h.head_is ∙ sym l.head; quiet_is = h.quiet_is ∙ sym l.barred }
