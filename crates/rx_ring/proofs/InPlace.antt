-- A segment stored in a descriptor whose buffer stays in its slot: what the fields keep, and what the record says.
use Rattle.std.proofs.Common.{◌≡◌, ℕ, ◌+◌, ◌-◌, ◌%◌, ◌<◌, ◌≤◌, Bool, true, false, if◌then◌else◌, List, [], ◌∷◌, ◌++◌, length, Some, None, sym, refl, ap, ◌∙◌, subst}
use Rattle.std.specs.Prelude.{◌==◌}
use Rattle.buffer_pool.specs.Buffer.{Buffer, buffer}
use Rattle.ring_model.specs.declared.states.Completion.{Completion}
use Rattle.ring_model.specs.receive.Agreement.{rx_word}
use Rattle.ring_model.specs.shared.Frames.{Bytes, Follows, unfinished}
use Rattle.ring_model.specs.shared.Segments.{piece_of}
use Rattle.ring_model.specs.shared.Handshakes.{is_serving}
use Rattle.shared_ring.specs.declared.ends.ControllerPlaces.{ControllerPlaces}
use Rattle.shared_ring.specs.declared.events.ControllerEvent.TheVariants as controller
use Rattle.shared_ring.specs.Ends.{Side, controller_of}
use Rattle.shared_ring.specs.InPlace.{MayFill, FilledNext, filled}
use Rattle.shared_ring.specs.Records.{uncontrolled}
use Rattle.shared_ring.specs.Slots.{is_there}
use Rattle.shared_ring.specs.Steps.{CameOut}
use Rattle.rx_ring.specs.declared.events.RxControllerOwn.TheVariants.{WroteBack}
use Rattle.rx_ring.specs.Form.{rx}
use Rattle.rx_ring.specs.Plays.{writes_back}
use Rattle.rx_ring.specs.Records.{RxControlled, ControllerStep, control, control_own, controlling}
use Rattle.rx_ring.specs.Ends.{ControllerSide, controller_size, known_free, held, number_in, held_number, controller_state, serve_place, controller_grown}
use Rattle.rx_ring.specs.Calls.{IsControllerEnd, Fetched, StoredBytes, segment}
use Rattle.rx_ring.specs.Steps.{StoredAt}
use Rattle.shared_ring.proofs.Folds.{controlling-snoc}
use Rattle.rx_ring.proofs.Owning.{may-write_back}
use Rattle.rx_ring.proofs.ControllerEnds.{fetch-keeps, fetched, write_back-keeps, write_back-record}

-- what is stored may be given back: the fetched buffer is empty, and has room for it
module _ (n : ℕ) (mode : Completion) (es : List ControllerStep) (place w : ℕ) (bytes : Bytes) (eop : Bool) (word : w ≡ rx_word (length bytes) eop) where
  abbrev x : RxControlled
  x = controlling n es

  did : (r : ℕ) (b : Buffer) → controlling n (es ++ controller.Fetched place r b ∷ []) ≡ control n x (controller.Fetched place r b)
  did r b = controlling-snoc n control_own uncontrolled es (controller.Fetched place r b)

  pub may-fill : 8 ≤ n → place ≡ length x.completed % n → is_serving x.state ≡ true → Follows piece_of n (unfinished piece_of x.completed) bytes eop → MayFill rx writes_back n mode es place place w bytes
  may-fill big at serving follows = record {
    fits = λ r b f. subst (λ (y : Buffer). length bytes ≤ y.capacity) (sym f.1) follows.few_bytes;
    gives = λ r b f. may-write_back n mode (es ++ controller.Fetched place r b ∷ []) big place w (filled bytes b) eop word
        (at ∙ sym (ap (λ (y : RxControlled). length y.completed % n) (did r b))) (ap (λ (y : RxControlled). is_serving y.state) (did r b) ∙ serving)
        b (ap (λ (y : RxControlled). y.held) (did r b)) refl (ap (filled bytes) f.1)
        (subst (λ (y : RxControlled). Follows piece_of n (unfinished piece_of y.completed) bytes eop) (sym (did r b)) follows);
  }

  pub stored-at : (old new : Side ControllerStep) → FilledNext rx writes_back old place place w bytes new → StoredAt (controller_of rx old) place bytes eop (controller_of rx new)
  stored-at old new f = let s = f.served in let b = f.buf in record {
    number = b.number;
    step = ap (controller_of rx) s.step
        ∙ ap (λ (r : ℕ). controller_grown (controller_grown (controller_of rx old) (controller.Fetched place r b)) (controller.Own (WroteBack place w (filled bytes b)))) s.fetched.0
        ∙ ap (λ (y : Buffer). controller_grown (controller_grown (controller_of rx old) (controller.Fetched place 0 y)) (controller.Own (WroteBack place w (filled bytes y)))) s.fetched.1
        ∙ ap (λ (v : ℕ). controller_grown (controller_grown (controller_of rx old) (controller.Fetched place 0 (buffer b.number []))) (controller.Own (WroteBack place v (buffer b.number bytes)))) word;
  }

module _ (c : ControllerSide) (at : ControllerPlaces) (head : ℕ) (finished : Bool) (h : IsControllerEnd c at head finished) (now : ControllerSide) (was : c ≡ now)
    (bytes : Bytes) (eop : Bool) (serving : is_serving (controller_state now) ≡ true) (free : 0 < known_free now) (unheld : held now ≡ None) (new : ControllerSide) (f : StoredAt c at.serve bytes eop new) where
  -- the end while it has the buffer
  abbrev mid : ControllerSide
  mid = controller_grown c (controller.Fetched at.serve 0 (buffer f.number []))

  came : CameOut c at.serve (buffer f.number []) 0 mid
  came = record { step = refl; fetched = (refl, refl) }

  between : IsControllerEnd mid (record at { holding = true }) head finished
  between = fetch-keeps c at head finished h now was mid (buffer f.number []) 0 came serving free

  got : Fetched now (buffer f.number []) mid
  got = fetched c at head finished h now was mid (buffer f.number []) 0 came

  holds : held_number mid ≡ Some f.number
  holds = ap (λ (x : RxControlled). number_in x.held) got.same

  idle : at.holding ≡ false
  idle = h.held_is ∙ ap (λ (s : ControllerSide). is_there (held s)) was ∙ ap is_there unheld

  pub store-keeps : (serve : ℕ) → serve ≡ (if (at.serve + 1) == controller_size c then 0 else (at.serve + 1)) → IsControllerEnd new (record at { serve = serve; available = at.available - 1; at_frame_end = eop }) head finished
  store-keeps serve e = subst (λ (b : Bool). IsControllerEnd new (record at { serve = serve; available = at.available - 1; holding = b; at_frame_end = eop }) head finished) (sym idle)
      (write_back-keeps mid (record at { holding = true }) head finished between mid refl (buffer f.number bytes) eop holds new serve f.step e)

  pub store-segment : StoredBytes now bytes eop new
  store-segment = record {
    number = f.number;
    stored_as = record {
      step = f.step ∙ ap (λ (m : ControllerSide). controller_grown m (controller.Own (WroteBack at.serve (rx_word (length bytes) eop) (buffer f.number bytes)))) got.step
          ∙ ap (λ (p : ℕ). controller_grown (controller_grown now (controller.Fetched (serve_place now) 0 (buffer f.number []))) (controller.Own (WroteBack p (rx_word (length bytes) eop) (buffer f.number bytes)))) (h.serve_is ∙ ap serve_place was);
      grew = write_back-record mid (record at { holding = true }) head finished between mid refl (buffer f.number bytes) eop holds new f.step
          ∙ ap (λ (x : RxControlled). let y : RxControlled = record x { completed = x.completed ++ segment (buffer f.number bytes) eop ∷ []; held = None } in y) got.same;
    };
  }
