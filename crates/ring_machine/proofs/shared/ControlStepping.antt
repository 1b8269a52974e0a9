-- Tail and head, the handshake, clearing and renewal take a machine's queue to one that agrees with the queue after the step; and so does the making.
use Rattle.std.proofs.Common.{◌≡◌, ℕ, ◌%◌, ◌<◌, Bool, true, false, not, ◌&&◌, ◌||◌, [], Option, None, sym, refl, ap, ◌∙◌, ⊎_elim, subst, arith, if◌then◌else◌, mod-eq_of_lt}
use Rattle.std.specs.Prelude.{slice_get, ◌==◌}
use Rattle.std.proofs.lemmas.Bool.{both_ways, and_parts, and_from, and_left, and_right, not-true, not_from_false, eqb-true, or_cases, true≢false}
use Rattle.ring_model.specs.declared.states.DriverState.TheVariants.{New, Cleared, Tailed}
use Rattle.ring_model.specs.declared.handshake.Handshake.{Handshake}
use Rattle.ring_model.specs.declared.steps.ControlStep.{ControlStep}
use Rattle.ring_model.specs.declared.steps.ControlStep.TheVariants.{AskEnable, LookAsked, Answer, LookAnswered, AskDisable}
use Rattle.ring_model.specs.shared.Handshakes.{is_open, is_serving, is_ended, is_stopped, is_between_epochs, ask_enable, look_asked, look_answered, ask_disable, can_enable, can_disable, enable, disable, enables, may_control_step, after_control_step}
use Rattle.ring_model.specs.shared.QueueSteps.{Publish, Look, Head, Controls, ClearHead, ClearTail, Renew}
use Rattle.ring_model.specs.shared.Queue.{Queue, opening, posted_count, completed_count, returned_count, may, by}
use Rattle.ring_model.specs.shared.Agreement.{Agrees, Wrapped}
use Rattle.ring_model.specs.kept.Queues.{IsKept}
use Rattle.ring_laws.specs.States.{new_open, on_serving, stopped_answered, answered_closed, emptied_answered, cleared_emptied, tailed_emptied, control_steps-enable, learned_open, serving_unended}
use Rattle.ring_laws.specs.Queues.{control_fits_of, answered_unheld, answered_has_ended}
use Rattle.ring_machine.specs.code.Shared.{after_control, after_clear_head, after_clear_tail, after_head, after_look, after_publish, after_renew, begun}
use Rattle.ring_machine.proofs.shared.Slots.{empty-begun}

module _ {Posted Completed Reaped : Type 0} (ends : Completed → Bool) (word_of_item : ℕ → Option Posted → Option Completed → ℕ) (buffer_of_item : Option Posted → Option Completed → Option ℕ) where
  module _ (w : Wrapped ℕ) (q : Queue Posted Completed Reaped) (k : IsKept q.size ends q) (a : Agrees {Reaped = Reaped} ends word_of_item buffer_of_item w q) where
    pos : 0 < q.size
    pos = let some = k.places in omega arith

    -- a step that leaves words and slots, the driver's places and what is held
    fits-left : (head tail serve known : ℕ) (h : Handshake) (stored published last : ℕ) (g : Handshake) → head ≡ stored → tail ≡ published % q.size
        → (is_between_epochs g ≡ false → serve ≡ completed_count q % q.size) → (is_between_epochs g ≡ false → known ≡ last % q.size) → h ≡ g
        → Agrees {Reaped = Reaped} ends word_of_item buffer_of_item (record w { head = head; tail = tail; serve = serve; known = known; handshake = h }) (record q { published = published; known = last; head = stored; handshake = g })
    fits-left head tail serve known h stored published last g heads tails serves knows control_fits = let i = a.items in record {
      size_is = a.size_is;
      head = heads;
      tail = tails;
      items = record { words = i.words; slots = i.slots };
      empty = a.empty;
      fill = a.fill;
      next = a.next;
      serve = serves;
      known = knows;
      held = a.held;
      whole = a.whole;
      handshake = control_fits;
    }

    pub fits-publish : Agrees {Reaped = Reaped} ends word_of_item buffer_of_item (after_publish w) (by q Publish)
    fits-publish = fits-left w.head w.fill w.serve w.known w.handshake q.head (posted_count q) q.known q.handshake a.head a.fill a.serve a.known a.handshake

    pub fits-look : Agrees {Reaped = Reaped} ends word_of_item buffer_of_item (after_look w) (by q Look)
    fits-look = fits-left w.head w.tail w.serve w.tail w.handshake q.head q.published q.published q.handshake a.head a.tail a.serve (λ e. a.tail) a.handshake

    -- the places stay where both sides agreed on them before
    fits-changed : (g : Handshake) → (is_between_epochs g ≡ false → is_between_epochs q.handshake ≡ false) → Agrees {Reaped = Reaped} ends word_of_item buffer_of_item (record w { handshake = g }) (record q { handshake = g })
    fits-changed g off = fits-left w.head w.tail w.serve w.known g q.head q.published q.known g a.head a.tail (λ e. a.serve (off e)) (λ e. a.known (off e)) refl

    unbetween : is_serving q.handshake.controller ≡ true → is_between_epochs q.handshake ≡ false
    unbetween serving = and_left (is_ended q.handshake.controller) (is_open q.handshake.driver) (serving_unended q.handshake.controller serving)

    pub fits-head : may q Head ≡ true → Agrees {Reaped = Reaped} ends word_of_item buffer_of_item (after_head w) (by q Head)
    fits-head may = let t = and_parts (is_serving q.handshake.controller) (not q.held) may in
        fits-left w.serve w.tail w.serve w.known w.handshake (completed_count q % q.size) q.published q.known q.handshake (a.serve (unbetween t.0)) a.tail a.serve a.known a.handshake

    fits-answered : (on settled : Bool) → can_enable q.handshake ≡ on → (can_enable q.handshake || (can_disable q.handshake && settled)) ≡ true
        → Agrees {Reaped = Reaped} ends word_of_item buffer_of_item (record w { serve = if on then 0 else w.serve; known = if on then 0 else w.known; handshake = if on then enable q.handshake else disable q.handshake })
        (record q { known = if on then 0 else q.known; handshake = if on then enable q.handshake else disable q.handshake })
    fits-answered true settled e may = let h = q.handshake in let t = and_parts (h.seen == 1) (not (is_serving h.controller)) e in let o = k.order in
        let s = control_steps-enable h.driver h.controller h.control h.seen (eqb-true h.seen 1 t.0) (control_fits_of q.size ends q k) in let none = o.none_completed (not-true (is_serving h.controller) t.1) s.1 in
        fits-left w.head w.tail 0 0 (enable h) q.head q.published 0 (enable h) a.head a.tail (λ e. sym (ap (λ (j : ℕ). j % q.size) none ∙ mod-eq_of_lt pos)) (λ e. sym (mod-eq_of_lt pos)) refl
    fits-answered false settled e may = let h = q.handshake in
        let t = ⊎_elim (λ t. absurd (both_ways (can_enable h) e t)) (λ t. t) (or_cases (can_enable h) (can_disable h && settled) may) in
        let u = and_parts (can_disable h) settled t in let v = and_parts (h.seen == 3) (is_serving h.controller) u.0 in
        fits-changed (disable h) (λ e. unbetween v.1)

    fits-control : (c : ControlStep) (settled : Bool) → may_control_step q.handshake c settled ≡ true
        → Agrees {Reaped = Reaped} ends word_of_item buffer_of_item (record w { serve = if enables q.handshake c then 0 else w.serve; known = if enables q.handshake c then 0 else w.known; handshake = after_control_step q.handshake c }) (by q (Controls c settled))
    fits-control AskEnable settled may = let h = q.handshake in fits-changed (ask_enable h) (λ e. rw (new_open h.driver may) e)
    fits-control LookAsked settled may = fits-changed (look_asked q.handshake) (λ e. e)
    fits-control Answer settled may = fits-answered (can_enable q.handshake) settled refl may
    fits-control LookAnswered settled may = let h = q.handshake in fits-changed (look_answered h) (λ e. rw (sym (learned_open h.driver h.control)) e)
    fits-control AskDisable settled may = let h = q.handshake in fits-changed (ask_disable h) (λ e. unbetween (on_serving h.driver h.controller h.control h.seen may (control_fits_of q.size ends q k)))

    pub fits-control_step : (c : ControlStep) (settled : Bool) → may_control_step q.handshake c settled ≡ true → Agrees {Reaped = Reaped} ends word_of_item buffer_of_item (after_control w c) (by q (Controls c settled))
    fits-control_step c settled may = subst (λ (h : Handshake). Agrees {Reaped = Reaped} ends word_of_item buffer_of_item (record w { serve = if enables h c then 0 else w.serve; known = if enables h c then 0 else w.known; handshake = after_control_step h c }) (by q (Controls c settled)))
        (sym a.handshake) (fits-control c settled may)

    pub fits-clear_head : may q ClearHead ≡ true → Agrees {Reaped = Reaped} ends word_of_item buffer_of_item (after_clear_head w) (by q ClearHead)
    fits-clear_head may = let h = q.handshake in let t = and_parts (is_stopped h.driver) (returned_count q == posted_count q) may in
        let off = and_right (is_ended h.controller) (is_open h.driver) (answered_closed h.driver (stopped_answered h.driver t.0)) in
        fits-left 0 w.tail w.serve w.known (record w.handshake { driver = Cleared }) 0 q.published q.known (record h { driver = Cleared }) refl a.tail (λ e. a.serve off) (λ e. a.known off) (ap (λ (g : Handshake). record g { driver = Cleared }) a.handshake)

    pub fits-clear_tail : may q ClearTail ≡ true → Agrees {Reaped = Reaped} ends word_of_item buffer_of_item (after_clear_tail w) (by q ClearTail)
    fits-clear_tail may = let h = q.handshake in
        let off = and_right (is_ended h.controller) (is_open h.driver) (answered_closed h.driver (emptied_answered h.driver (cleared_emptied h.driver may))) in
        fits-left w.head 0 w.serve w.known (record w.handshake { driver = Tailed }) q.head 0 q.known (record h { driver = Tailed }) a.head (sym (mod-eq_of_lt pos)) (λ e. a.serve off) (λ e. a.known off) (ap (λ (g : Handshake). record g { driver = Tailed }) a.handshake)

    held_anew : (holds : Bool) (o p : Option ℕ) → holds ≡ false → (if holds then o else None) ≡ (if holds then p else None)
    held_anew true o p e = absurd (true≢false e)
    held_anew false o p e = refl

    -- with no item out, any words do: those of the next epoch
    pub fits-renew : (saying : ℕ → Option Posted → Option Completed → ℕ) → may q Renew ≡ true → Agrees {Reaped = Reaped} ends saying buffer_of_item (after_renew w) (by q Renew)
    fits-renew saying may = let h = q.handshake in let answered = emptied_answered h.driver (tailed_emptied h.driver may) in let quiesced = answered_has_ended q.size ends q k answered in
        let between : (is_ended h.controller && true) ≡ true = and_from (is_ended h.controller) true quiesced refl in
        let ended = and_from (is_ended h.controller) (not (is_open h.driver)) quiesced (not_from_false (is_open h.driver) (answered_closed h.driver answered)) in record {
          size_is = a.size_is;
          head = a.head;
          tail = a.tail;
          items = record { words = λ j x y. absurd (omega arith); slots = λ j x y. absurd (omega arith) };
          empty = a.empty;
          fill = sym (mod-eq_of_lt pos);
          next = sym (mod-eq_of_lt pos);
          serve = λ e. absurd (both_ways (is_ended h.controller && true) e between);
          known = λ e. absurd (both_ways (is_ended h.controller && true) e between);
          held = a.held ∙ held_anew q.held (buffer_of_item (slice_get q.ledger.posted (completed_count q)) None) (buffer_of_item (slice_get [] 0) None) (answered_unheld q.size ends q k answered);
          whole = a.whole ∙ k.whole ended;
          handshake = ap (λ (g : Handshake). record g { driver = New }) a.handshake;
        }

  -- a machine as it is made agrees with the opening queue
  pub fits-begun : (n : ℕ) (enabled : Bool) → 0 < n → Agrees {Reaped = Reaped} ends word_of_item buffer_of_item (begun n enabled) (opening n enabled)
  fits-begun n enabled some = record {
    size_is = refl;
    head = refl;
    tail = sym (mod-eq_of_lt some);
    items = record { words = λ j x y. absurd (omega arith); slots = λ j x y. absurd (omega arith) };
    empty = λ place mine. empty-begun n place;
    fill = sym (mod-eq_of_lt some);
    next = sym (mod-eq_of_lt some);
    serve = λ e. sym (mod-eq_of_lt some);
    known = λ e. sym (mod-eq_of_lt some);
    held = refl;
    whole = refl;
    handshake = refl;
  }
