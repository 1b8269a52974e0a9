-- A segment sent from a descriptor whose buffer stays in its slot: what the fields keep, and what the record says.
use Rattle.std.proofs.Common.{◌≡◌, ℕ, ◌+◌, ◌-◌, ◌%◌, ◌<◌, Bool, true, false, if◌then◌else◌, [], ◌∷◌, ◌++◌, length, Some, None, sym, refl, ap, ◌∙◌, subst}
use Rattle.std.specs.Prelude.{◌==◌}
use Rattle.std.proofs.lemmas.Bool.{false≢true}
use Rattle.buffer_pool.specs.Buffer.{Buffer}
use Rattle.descriptor.specs.Transmit.{eop_of, rs_of}
use Rattle.ring_model.specs.shared.Handshakes.{is_serving}
use Rattle.ring_model.specs.transmit.Ring.{carried}
use Rattle.shared_ring.specs.declared.ends.ControllerPlaces.{ControllerPlaces}
use Rattle.shared_ring.specs.declared.events.ControllerEvent.TheVariants as controller
use Rattle.shared_ring.specs.Ends.{Side, controller_of}
use Rattle.shared_ring.specs.InPlace.{MayRead, ReadNext}
use Rattle.shared_ring.specs.Records.{uncontrolled}
use Rattle.shared_ring.specs.Slots.{is_there}
use Rattle.shared_ring.specs.Steps.{CameOut}
use Rattle.shared_ring.proofs.Folds.{controlling-snoc}
use Rattle.shared_ring.proofs.Serving.{next-is, record-after}
use Rattle.tx_ring.specs.declared.events.TxControllerOwn.TheVariants.{Sent}
use Rattle.tx_ring.specs.Form.{tx, IsFetchedAs}
use Rattle.tx_ring.specs.Plays.{sends}
use Rattle.tx_ring.specs.Records.{TxControlled, ControllerStep, control, control_own, controlling, posting_of}
use Rattle.tx_ring.specs.Ends.{ControllerSide, controller_size, controller_record, sent, known_ready, held, held_word, controller_state, serve_place, controller_grown}
use Rattle.tx_ring.specs.Calls.{CanTake, IsControllerEnd, SentTo}
use Rattle.tx_ring.specs.Steps.{SentAt}
use Rattle.tx_ring.proofs.ControllerEnds.{fetch-keeps, send-keeps, send-record, word-after}
use Rattle.tx_ring.proofs.Owning.{may-send}
use Rattle.tx_ring.proofs.Placing.{fetched-snoc}

-- what is fetched may be sent
module _ {S : Type 0} (may : S → ℕ → Buffer → Type 0) (took : S → ℕ → Buffer → S → Type 0) (old : Side ControllerStep) (place head : ℕ) (sink : S) where
  abbrev n : ℕ
  n = old.table.slots

  abbrev x : TxControlled
  x = controlling old.table.slots old.events

  did : (w : ℕ) (b : Buffer) → controlling old.table.slots (old.events ++ controller.Fetched place w b ∷ []) ≡ control old.table.slots x (controller.Fetched place w b)
  did w b = controlling-snoc old.table.slots control_own uncontrolled old.events (controller.Fetched place w b)

  pub may-read : place ≡ length x.completed % n → head ≡ (length x.completed + 1) % n → is_serving x.state ≡ true → CanTake may (controller_of tx old) sink → MayRead tx sends old.table.slots old.completion old.events place old.table.slots head may sink
  may-read at next serving can = record {
    takes = can.takes;
    gives = λ w b f. may-send old.table.slots old.completion (old.events ++ controller.Fetched place w b ∷ []) place head b
        (at ∙ sym (ap (λ (y : TxControlled). length y.completed % old.table.slots) (did w b))) (next ∙ sym (ap (λ (y : TxControlled). (length y.completed + 1) % old.table.slots) (did w b)))
        (ap (λ (y : TxControlled). is_serving y.state) (did w b) ∙ serving) (ap (λ (y : TxControlled). y.held) (did w b));
  }

  pub sent-at : (w : ℕ) (new : Side ControllerStep) (sink' : S) → ReadNext tx sends took old place old.table.slots head sink w sink' new → SentAt took (controller_of tx old) place head sink w (controller_of tx new) sink'
  sent-at w new sink' f = let s = f.served in record {
    buf = f.buf;
    fetched = s.fetched;
    taken = f.taken;
    step = ap (controller_of tx) s.step
        ∙ ap (λ (k : ℕ). controller_grown (controller_grown (controller_of tx old) (controller.Fetched place w f.buf)) (controller.Own (Sent head k f.buf))) (fetched-snoc old.events (controller.Fetched place w f.buf));
  }

module _ (c : ControllerSide) (at : ControllerPlaces) (last : ℕ) (ends asks owing : Bool) (h : IsControllerEnd c at last ends asks owing) (now : ControllerSide) (was : c ≡ now) (head : ℕ) (is : head ≡ (if (at.serve + 1) == controller_size c then 0 else (at.serve + 1))) where
  pub next-head : head ≡ (length (sent c) + 1) % controller_size c
  next-head = next-is carried (controller_size c) (controller_record c) at h.server head is

  module _ (serving : is_serving (controller_state now) ≡ true) (ready : 0 < known_ready now) (unheld : held now ≡ None) {S : Type 0} (took : S → ℕ → Buffer → S → Type 0) (sink : S) (w : ℕ) (new : ControllerSide) (sink' : S) (f : SentAt took c at.serve head sink w new sink') where
    -- the end while it has the buffer
    abbrev mid : ControllerSide
    mid = controller_grown c (controller.Fetched at.serve w f.buf)

    came : CameOut c at.serve f.buf w mid
    came = record { step = refl; fetched = f.fetched }

    between : IsControllerEnd mid (record at { holding = true }) last (eop_of w) (rs_of w) owing
    between = fetch-keeps c at last ends asks owing h now was mid f.buf w came (eop_of w) (rs_of w) refl refl serving ready

    got : controller_record mid ≡ record (controller_record c) { held = Some f.buf }
    got = record-after c mid (controller.Fetched at.serve w f.buf) refl

    holds : held mid ≡ Some f.buf
    holds = ap (λ (y : TxControlled). y.held) got

    word : held_word mid ≡ w
    word = word-after c mid (controller.Fetched at.serve w f.buf) refl

    step : new ≡ controller_grown mid (controller.Own (Sent head (held_word mid) f.buf))
    step = f.step ∙ ap (λ (k : ℕ). controller_grown mid (controller.Own (Sent head k f.buf))) (sym word)

    idle : at.holding ≡ false
    idle = h.held_is ∙ ap (λ (s : ControllerSide). is_there (held s)) was ∙ ap is_there unheld

    module _ (e r : Bool) (e_is : e ≡ eop_of w) (r_is : r ≡ rs_of w) where
      kept : IsControllerEnd new (record at { serve = head; available = at.available - 1; holding = false; at_frame_end = e }) at.serve (eop_of w) (rs_of w) r
      kept = subst (λ (b : Bool). IsControllerEnd new (record at { serve = head; available = at.available - 1; holding = false; at_frame_end = b }) at.serve (eop_of w) (rs_of w) r) (sym e_is)
          (subst (λ (b : Bool). IsControllerEnd new (record at { serve = head; available = at.available - 1; holding = false; at_frame_end = eop_of w }) at.serve (eop_of w) (rs_of w) b) (sym r_is)
          (send-keeps mid (record at { holding = true }) last (eop_of w) (rs_of w) owing between mid refl f.buf holds new head is step))

      pub send-next-keeps : IsControllerEnd new (record at { serve = head; available = at.available - 1; at_frame_end = e }) at.serve ends asks r
      send-next-keeps = subst (λ (b : Bool). IsControllerEnd new (record at { serve = head; available = at.available - 1; holding = b; at_frame_end = e }) at.serve ends asks r) (sym idle) (let k = kept in record {
        server = k.server;
        head_is = k.head_is;
        ends_is = λ t. absurd (false≢true t);
        asks_is = λ t. absurd (false≢true t);
        owing_is = k.owing_is;
        owing_serving = k.owing_serving;
        last_is = k.last_is;
      })

      pub sent-next : SentTo took now sink e new sink'
      sent-next = record {
        word = w;
        buf = f.buf;
        fetched = subst (λ (s : ControllerSide). IsFetchedAs (controller_size s) (controller_record s) w f.buf) was f.fetched;
        taken = f.taken;
        ends_is = e_is;
        step = f.step ∙ ap (λ (p : ℕ). controller_grown (controller_grown c (controller.Fetched p w f.buf)) (controller.Own (Sent head w f.buf))) h.serve_is
            ∙ ap (λ (k : ℕ). controller_grown (controller_grown c (controller.Fetched (serve_place c) w f.buf)) (controller.Own (Sent k w f.buf))) next-head
            ∙ ap (λ (s : ControllerSide). controller_grown (controller_grown s (controller.Fetched (serve_place s) w f.buf)) (controller.Own (Sent ((length (sent s) + 1) % controller_size s) w f.buf))) was;
        grew = send-record mid (record at { holding = true }) last (eop_of w) (rs_of w) owing between mid refl f.buf holds new head is step
            ∙ ap (λ (k : ℕ). let y : TxControlled = record (controller_record mid) { completed = sent mid ++ posting_of k f.buf ∷ []; held = None; head = (length (sent mid) + 1) % controller_size c; barred = rs_of k } in y) word
            ∙ ap (λ (z : TxControlled). let y : TxControlled = record z { completed = z.completed ++ posting_of w f.buf ∷ []; held = None; head = (length z.completed + 1) % controller_size c; barred = rs_of w } in y) got
            ∙ ap (λ (s : ControllerSide). let y : TxControlled = record (controller_record s) { completed = sent s ++ posting_of w f.buf ∷ []; held = None; head = (length (sent s) + 1) % controller_size s; barred = rs_of w } in y) was;
      }
