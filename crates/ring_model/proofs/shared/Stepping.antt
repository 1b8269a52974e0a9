-- What every step of a queue keeps: one lemma a step, and then any step.
use Rattle.std.proofs.Common.{◌≡◌, ℕ, ◌+◌, ◌-◌, ◌<◌, ◌≤◌, Bool, true, false, not, ◌&&◌, ◌||◌, [], ◌∷◌, sym, refl, ap, ◌∙◌, ⊎_elim, arith, if◌then◌else◌, length-append}
use Rattle.std.specs.Prelude.{◌==◌, nat_lt}
use Rattle.std.proofs.lemmas.Bool.{cases_Bool, both_ways, and_parts, or_cases, not-true, ltb-true, eqb-true, false≢true, true≢false}
use Rattle.ring_model.specs.declared.states.Owner.TheVariants.{Ring, Controller}
use Rattle.ring_model.specs.declared.states.DriverState.TheVariants.{New, Cleared, Tailed}
use Rattle.ring_model.specs.declared.handshake.Handshake.{Handshake}
use Rattle.ring_model.specs.declared.steps.ControlStep.{ControlStep}
use Rattle.ring_model.specs.declared.steps.ControlStep.TheVariants.{AskEnable, LookAsked, Answer, LookAnswered, AskDisable}
use Rattle.ring_model.specs.shared.Frames.{ends_frame}
use Rattle.ring_model.specs.shared.Handshakes.{is_open, is_live, is_answered, is_serving, is_ended, is_new, is_on, is_stopped, is_tailed, first_handshake, ask_enable, look_asked, can_enable, enable, can_disable, disable, look_answered, ask_disable, may_control_step, has_ended}
use Rattle.ring_model.specs.shared.QueueSteps.{QueueStep, Post, Publish, Look, Fetch, Complete, Head, Reap, Controls, Reclaim, ClearHead, ClearTail, Renew}
use Rattle.ring_model.specs.shared.Queue.{Queue, opening, posted_count, completed_count, reaped_count, returned_count, next_head, is_settled, may, by}
use Rattle.ring_model.specs.shared.Handshakes.{is_emptied}
use Rattle.ring_model.specs.shared.Laws.{ControlFits}
use Rattle.ring_model.specs.kept.Queues.{HandshakeFits, InOrder, IsKept}
use Rattle.ring_model.proofs.shared.ControlSteps.{new_open, on_open, open_unanswered, live_unanswered, stopped_answered, cleared_emptied, tailed_emptied, emptied_answered, answered_closed, answered_ended, serving_unanswered, control_steps-ask_enable, control_steps-look_asked, control_steps-enable, control_steps-disable, control_steps-look_answered, learned_open, learned_emptied, learned_tailed, learned_unanswered, control_steps-ask_disable, control_steps-clear_head, control_steps-clear_tail, control_steps-renew, serving_unended, on_serving}
use Rattle.ring_model.proofs.shared.Orders.{order-post, order-publish, order-look, order-fetch, completed_below, order-complete, order-reap, order-reclaim, order-control_step, order-enable, order-disable, order-clear_tail, order-begin}
use Rattle.ring_model.proofs.shared.Owners.{who-other, who-held, map-post, map-complete, map-return_at, map-none, map-opening}

-- a queue that serves has not ended
pub unended : (h : Handshake) → is_serving h.controller ≡ true → has_ended h ≡ true → ⊥
unended h serving e = let t = and_parts (is_ended h.controller) (not (is_open h.driver)) e in both_ways (is_ended h.controller) (serving_unended h.controller serving) t.0

-- nor has one whose driver posts
pub open_unended : (h : Handshake) → is_open h.driver ≡ true → has_ended h ≡ true → ⊥
open_unended h opened e = let t = and_parts (is_ended h.controller) (not (is_open h.driver)) e in both_ways (is_open h.driver) (not-true (is_open h.driver) t.1) opened

module _ {Posted Completed Reaped : Type 0} (n : ℕ) (ends : Completed → Bool) where
  kept-first : (h : Handshake) (enabled : Bool) → 1 < n → first_handshake enabled ≡ h → HandshakeFits h → is_ended h.controller ≡ false → IsKept n ends (record (opening {Posted = Posted} {Completed = Completed} {Reaped = Reaped} n enabled) { handshake = h })
  kept-first h enabled some e s off = record {
    size_is = refl;
    places = some;
    handshake_fits = s;
    order = order-begin n 0 0 false h (omega arith) refl refl (λ s. refl);
    map = map-opening n 0 false;
    whole = λ e. refl;
    told = λ e. absurd (both_ways (is_ended h.controller) off e);
  }

  pub kept-opening : (enabled : Bool) → 1 < n → IsKept n ends (opening {Posted = Posted} {Completed = Completed} {Reaped = Reaped} n enabled)
  kept-opening true h = kept-first (first_handshake true) true h refl (record { control_fits = (refl, refl) }) refl
  kept-opening false h = kept-first (first_handshake false) false h refl (record { control_fits = (refl, refl) }) refl

  -- a disabling is answered only where the queue is settled
  abbrev pub IsFair : Queue Posted Completed Reaped → QueueStep Posted Completed Reaped → Type 0
  IsFair q (Controls c settled) = settled ≡ true → is_settled ends q ≡ true
  IsFair q _ = Unit {0}

  module _ (q : Queue Posted Completed Reaped) (k : IsKept n ends q) where
    pub some_places : 0 < q.size
    some_places = let e = k.size_is in let p = k.places in omega arith

    pub within : posted_count q ≤ returned_count q + q.size
    within = let e = k.size_is in let o = k.order in let h = o.room in omega arith

    pub control_fits_of : ControlFits q.handshake.driver q.handshake.controller q.handshake.control q.handshake.seen
    control_fits_of = let s = k.handshake_fits in s.control_fits

    -- while the controller serves, what is with the driver again was served
    pub returned_completed : is_serving q.handshake.controller ≡ true → returned_count q ≤ completed_count q
    returned_completed serving = let o = k.order in let a = o.reaped_completed in
        let none = o.not_reclaimed (serving_unanswered q.handshake.driver q.handshake.controller q.handshake.control q.handshake.seen serving control_fits_of) in omega arith

    pub held_below : q.held ≡ true → completed_count q < posted_count q
    held_below e = completed_below n (posted_count q) (completed_count q) (reaped_count q) q.published q.known q.reclaimed q.held q.handshake k.order e

    -- what may be fetched: the controller serves, holds nothing, and the next item was posted
    pub fetch_facts : may q Fetch ≡ true → (is_serving q.handshake.controller ≡ true) × (q.held ≡ false) × (completed_count q < posted_count q)
    fetch_facts e = let u = and_parts (is_serving q.handshake.controller && not q.held) (nat_lt (completed_count q) q.known) e in
        let v = and_parts (is_serving q.handshake.controller) (not q.held) u.0 in
        let free = ltb-true (completed_count q) q.known u.1 in
        let o = k.order in let a = o.known_published v.0 in let b = o.published_posted in (v.0, not-true q.held v.1, omega arith)

    -- once the disabling was seen answered, the controller has ended and holds nothing
    pub answered_has_ended : is_answered q.handshake.driver ≡ true → is_ended q.handshake.controller ≡ true
    answered_has_ended a = let h = q.handshake in let t = answered_ended h.driver h.controller h.control h.seen a control_fits_of in ap is_ended t.0

    pub answered_idle : is_answered q.handshake.driver ≡ true → is_serving q.handshake.controller ≡ false
    answered_idle a = let h = q.handshake in let t = answered_ended h.driver h.controller h.control h.seen a control_fits_of in ap is_serving t.0

    pub answered_unheld : is_answered q.handshake.driver ≡ true → q.held ≡ false
    answered_unheld a = let o = k.order in ⊎_elim (λ e. absurd (both_ways (is_serving q.handshake.controller) (answered_idle a) (o.held_serving e))) (λ e. e) (cases_Bool q.held)

    pub kept-post : (x : Posted) → may q (Post x) ≡ true → IsKept n ends (by q (Post x))
    kept-post x e = let t = and_parts (is_open q.handshake.driver) (nat_lt (posted_count q - reaped_count q) (q.size - 1)) e in
        let room = ltb-true (posted_count q - reaped_count q) (q.size - 1) t.1 in
        let s = k.size_is in let o = k.order in let back = o.returned_posted in
        record {
          size_is = k.size_is;
          places = k.places;
          handshake_fits = k.handshake_fits;
          order = rw (length-append q.ledger.posted (x ∷ [])) (order-post n (posted_count q) (completed_count q) (reaped_count q) q.published q.known q.reclaimed q.held q.handshake k.order t.0 (omega arith));
          map = rw (length-append q.ledger.posted (x ∷ [])) (map-post q.size (returned_count q) (completed_count q) (posted_count q) q.held q.owners k.map some_places (omega arith) back held_below);
          whole = k.whole;
          told = k.told;
        }

    -- a step that changes what is published or known alone
    kept-seen : (published known : ℕ) → InOrder n (posted_count q) (completed_count q) (reaped_count q) published known q.reclaimed q.held q.handshake → IsKept n ends (record q { published = published; known = known })
    kept-seen published known o = record { size_is = k.size_is; places = k.places; handshake_fits = k.handshake_fits; order = o; map = k.map; whole = k.whole; told = k.told }

    pub kept-publish : may q Publish ≡ true → IsKept n ends (by q Publish)
    kept-publish e = kept-seen (posted_count q) q.known (order-publish n (posted_count q) (completed_count q) (reaped_count q) q.published q.known q.reclaimed q.held q.handshake k.order e)

    pub kept-look : may q Look ≡ true → IsKept n ends (by q Look)
    kept-look e = kept-seen q.published q.published (order-look n (posted_count q) (completed_count q) (reaped_count q) q.published q.known q.reclaimed q.held q.handshake k.order e)

    pub kept-fetch : may q Fetch ≡ true → IsKept n ends (by q Fetch)
    kept-fetch e = let u = and_parts (is_serving q.handshake.controller && not q.held) (nat_lt (completed_count q) q.known) e in
        let v = and_parts (is_serving q.handshake.controller) (not q.held) u.0 in
        let free = ltb-true (completed_count q) q.known u.1 in
        let o = k.order in let a = o.known_published v.0 in let b = o.published_posted in let back = returned_completed v.0 in
        record {
          size_is = k.size_is;
          places = k.places;
          handshake_fits = k.handshake_fits;
          order = order-fetch n (posted_count q) (completed_count q) (reaped_count q) q.published q.known q.reclaimed q.held q.handshake k.order v.0 free;
          map = map-complete q.size (returned_count q) (completed_count q) (posted_count q) q.held q.owners k.map some_places (completed_count q) true Controller (sym (who-held (completed_count q))) within back (omega arith)
              (λ j ne. who-other (completed_count q) j true ne ∙ sym (who-other (completed_count q) j q.held ne));
          whole = k.whole;
          told = k.told;
        }

    pub kept-complete : (x : Completed) → may q (Complete x) ≡ true → IsKept n ends (by q (Complete x))
    kept-complete x e = let below = held_below e in let o = k.order in let serving = o.held_serving e in let back = returned_completed serving in
        record {
          size_is = k.size_is;
          places = k.places;
          handshake_fits = k.handshake_fits;
          order = rw (length-append q.ledger.completed (x ∷ [])) (order-complete n (posted_count q) (completed_count q) (reaped_count q) q.published q.known q.reclaimed q.held q.handshake k.order e);
          map = rw (length-append q.ledger.completed (x ∷ [])) (map-complete q.size (returned_count q) (completed_count q) (posted_count q) q.held q.owners k.map some_places (completed_count q + 1) false Ring refl within back below
              (λ j ne. sym (who-other (completed_count q) j q.held ne)));
          whole = λ f. absurd (unended q.handshake serving f);
          told = λ f. absurd (both_ways (is_ended q.handshake.controller) (serving_unended q.handshake.controller serving) f);
        }

    pub kept-head : may q Head ≡ true → IsKept n ends (by q Head)
    kept-head e = let t = and_parts (is_serving q.handshake.controller) (not q.held) e in record {
      size_is = k.size_is;
      places = k.places;
      handshake_fits = k.handshake_fits;
      order = k.order;
      map = k.map;
      whole = k.whole;
      told = λ f. absurd (both_ways (is_ended q.handshake.controller) (serving_unended q.handshake.controller t.0) f);
    }

    pub kept-reap : (x : Reaped) → may q (Reap x) ≡ true → IsKept n ends (by q (Reap x))
    kept-reap x e = let t = and_parts (is_live q.handshake.driver) (nat_lt (reaped_count q) (completed_count q)) e in
        let more = ltb-true (reaped_count q) (completed_count q) t.1 in
        let o = k.order in let none = o.not_reclaimed (live_unanswered q.handshake.driver t.0) in let below = o.completed_posted in
        record {
          size_is = k.size_is;
          places = k.places;
          handshake_fits = k.handshake_fits;
          order = rw (length-append q.ledger.reaped (x ∷ [])) (order-reap n (posted_count q) (completed_count q) (reaped_count q) q.published q.known q.reclaimed q.held q.handshake k.order t.0 more);
          map = rw (length-append q.ledger.reaped (x ∷ [])) (map-return_at q.size (returned_count q) (completed_count q) (posted_count q) q.held q.owners k.map some_places (reaped_count q) (reaped_count q + 1 + q.reclaimed)
              (omega arith) (omega arith) within (omega arith));
          whole = k.whole;
          told = k.told;
        }

    pub kept-reclaim : may q Reclaim ≡ true → IsKept n ends (by q Reclaim)
    kept-reclaim e = let t = and_parts (is_stopped q.handshake.driver) (nat_lt (returned_count q) (posted_count q)) e in let more = ltb-true (returned_count q) (posted_count q) t.1 in
        record {
          size_is = k.size_is;
          places = k.places;
          handshake_fits = k.handshake_fits;
          order = order-reclaim n (posted_count q) (completed_count q) (reaped_count q) q.published q.known q.reclaimed q.held q.handshake k.order t.0 more;
          map = map-return_at q.size (returned_count q) (completed_count q) (posted_count q) q.held q.owners k.map some_places (returned_count q) (reaped_count q + (q.reclaimed + 1)) refl (omega arith) within more;
          whole = k.whole;
          told = k.told;
        }

    -- a step that changes the handshake alone
    kept-control_stepped : (g : Handshake) → HandshakeFits g → InOrder n (posted_count q) (completed_count q) (reaped_count q) q.published q.known q.reclaimed q.held g
        → (has_ended g ≡ true → ends_frame ends true q.ledger.completed ≡ true)
        → (is_ended g.controller ≡ true → is_open g.driver ≡ false → is_emptied g.driver ≡ false → q.head ≡ next_head q) → IsKept n ends (record q { handshake = g })
    kept-control_stepped g s o whole told = record { size_is = k.size_is; places = k.places; handshake_fits = s; order = o; map = k.map; whole = whole; told = told }

    ordered : (g : Handshake) → is_serving g.controller ≡ is_serving q.handshake.controller → (is_answered g.driver ≡ false → is_answered q.handshake.driver ≡ false) → (is_open g.driver ≡ true → is_open q.handshake.driver ≡ true)
        → (is_emptied g.driver ≡ true → returned_count q ≡ posted_count q) → (is_tailed g.driver ≡ true → q.published ≡ 0) → InOrder n (posted_count q) (completed_count q) (reaped_count q) q.published q.known q.reclaimed q.held g
    ordered g a b c d e = order-control_step n (posted_count q) (completed_count q) (reaped_count q) q.published q.known q.reclaimed q.held q.handshake k.order g a b c d e

    kept-ask_enable : is_new q.handshake.driver ≡ true → IsKept n ends (record q { handshake = ask_enable q.handshake })
    kept-ask_enable e = let h = q.handshake in kept-control_stepped (ask_enable h) (record { control_fits = control_steps-ask_enable h.driver h.controller h.control h.seen e control_fits_of })
        (ordered (ask_enable h) refl (λ a. open_unanswered h.driver (new_open h.driver e)) (λ a. new_open h.driver e) (λ f. absurd (false≢true f)) (λ f. absurd (false≢true f)))
        (λ f. absurd (open_unended (ask_enable h) refl f))
        (λ f c. absurd (true≢false c))

    kept-look_asked : IsKept n ends (record q { handshake = look_asked q.handshake })
    kept-look_asked = let h = q.handshake in let o = k.order in kept-control_stepped (look_asked h) (record { control_fits = control_steps-look_asked h.driver h.controller h.control h.seen control_fits_of })
        (ordered (look_asked h) refl (λ a. a) (λ a. a) o.all_back o.tail_cleared) k.whole k.told

    kept-look_answered : IsKept n ends (record q { handshake = look_answered q.handshake })
    kept-look_answered = let h = q.handshake in let o = k.order in kept-control_stepped (look_answered h) (record { control_fits = control_steps-look_answered h.driver h.controller h.control h.seen control_fits_of })
        (ordered (look_answered h) refl (learned_unanswered h.driver h.control) (λ a. sym (learned_open h.driver h.control) ∙ a)
        (λ e. o.all_back (sym (learned_emptied h.driver h.control) ∙ e)) (λ e. o.tail_cleared (sym (learned_tailed h.driver h.control) ∙ e)))
        (λ e. k.whole (rw (sym (learned_open h.driver h.control)) e))
        (λ e c f. k.told e (sym (learned_open h.driver h.control) ∙ c) (sym (learned_emptied h.driver h.control) ∙ f))

    kept-ask_disable : is_on q.handshake.driver ≡ true → IsKept n ends (record q { handshake = ask_disable q.handshake })
    kept-ask_disable e = let h = q.handshake in let serving = on_serving h.driver h.controller h.control h.seen e control_fits_of in
        kept-control_stepped (ask_disable h) (record { control_fits = control_steps-ask_disable h.driver h.controller h.control h.seen e control_fits_of })
        (ordered (ask_disable h) refl (λ a. open_unanswered h.driver (on_open h.driver e)) (λ a. on_open h.driver e) (λ f. absurd (false≢true f)) (λ f. absurd (false≢true f)))
        (λ f. absurd (unended (ask_disable h) serving f))
        (λ f. absurd (both_ways (is_ended h.controller) (serving_unended h.controller serving) f))

    kept-enable : can_enable q.handshake ≡ true → IsKept n ends (record q { known = 0; handshake = enable q.handshake })
    kept-enable e = let h = q.handshake in let t = and_parts (h.seen == 1) (not (is_serving h.controller)) e in
        let s = control_steps-enable h.driver h.controller h.control h.seen (eqb-true h.seen 1 t.0) control_fits_of in
        record {
          size_is = k.size_is;
          places = k.places;
          handshake_fits = record { control_fits = s.0 };
          order = order-enable n (posted_count q) (completed_count q) (reaped_count q) q.published q.known q.reclaimed q.held h k.order (enable h) refl (not-true (is_serving h.controller) t.1) s.1 refl;
          map = k.map;
          whole = λ f. absurd (false≢true f);
          told = λ f. absurd (false≢true f);
        }

    kept-disable : can_disable q.handshake ≡ true → is_settled ends q ≡ true → IsKept n ends (record q { handshake = disable q.handshake })
    kept-disable e settled = let h = q.handshake in let u = and_parts (h.seen == 3) (is_serving h.controller) e in
        let v = and_parts (not q.held && (q.head == next_head q)) (ends_frame ends true q.ledger.completed) settled in let w = and_parts (not q.held) (q.head == next_head q) v.0 in
        let s = control_steps-disable h.driver h.controller h.control h.seen (eqb-true h.seen 3 u.0) u.1 control_fits_of in
        kept-control_stepped (disable h) (record { control_fits = s.0 })
        (order-disable n (posted_count q) (completed_count q) (reaped_count q) q.published q.known q.reclaimed q.held h k.order (disable h) refl (not-true q.held w.0) s.1 refl)
        (λ f. v.1)
        (λ f c g. eqb-true q.head (next_head q) w.1)

    kept-answered : (on settled : Bool) → can_enable q.handshake ≡ on → (can_enable q.handshake || (can_disable q.handshake && settled)) ≡ true → (settled ≡ true → is_settled ends q ≡ true)
        → IsKept n ends (record q { known = if on then 0 else q.known; handshake = if on then enable q.handshake else disable q.handshake })
    kept-answered true settled e f fair = kept-enable e
    kept-answered false settled e f fair = let t : (can_disable q.handshake && settled) ≡ true = ⊎_elim (λ a. absurd (both_ways (can_enable q.handshake) e a)) (λ b. b) (or_cases (can_enable q.handshake) (can_disable q.handshake && settled) f) in
        let u = and_parts (can_disable q.handshake) settled t in kept-disable u.0 (fair u.1)

    kept-control_step : (c : ControlStep) (settled : Bool) → (settled ≡ true → is_settled ends q ≡ true) → may_control_step q.handshake c settled ≡ true → IsKept n ends (by q (Controls c settled))
    kept-control_step AskEnable settled fair e = kept-ask_enable e
    kept-control_step LookAsked settled fair e = kept-look_asked
    kept-control_step Answer settled fair e = kept-answered (can_enable q.handshake) settled refl e fair
    kept-control_step LookAnswered settled fair e = kept-look_answered
    kept-control_step AskDisable settled fair e = kept-ask_disable e

    pub kept-clear_head : may q ClearHead ≡ true → IsKept n ends (by q ClearHead)
    kept-clear_head e = let h = q.handshake in let t = and_parts (is_stopped h.driver) (returned_count q == posted_count q) e in
        let g : Handshake = record h { driver = Cleared } in let closed = answered_closed h.driver (stopped_answered h.driver t.0) in
        record {
          size_is = k.size_is;
          places = k.places;
          handshake_fits = record { control_fits = control_steps-clear_head h.driver h.controller h.control h.seen t.0 control_fits_of };
          order = ordered g refl (λ f. absurd (true≢false f)) (λ f. absurd (false≢true f)) (λ f. eqb-true (returned_count q) (posted_count q) t.1) (λ f. absurd (false≢true f));
          map = k.map;
          whole = λ f. k.whole (rw closed f);
          told = λ f c g. absurd (true≢false g);
        }

    pub kept-clear_tail : may q ClearTail ≡ true → IsKept n ends (by q ClearTail)
    kept-clear_tail may = let h = q.handshake in let e = cleared_emptied h.driver may in let a = emptied_answered h.driver e in let o = k.order in
        let g : Handshake = record h { driver = Tailed } in
        record {
          size_is = k.size_is;
          places = k.places;
          handshake_fits = record { control_fits = control_steps-clear_tail h.driver h.controller h.control h.seen may control_fits_of };
          order = order-clear_tail n (posted_count q) (completed_count q) (reaped_count q) q.published q.known q.reclaimed q.held h k.order g (answered_idle a) (answered_unheld a) refl refl (o.all_back e);
          map = k.map;
          whole = λ f. k.whole (rw (answered_closed h.driver a) f);
          told = λ f c g. absurd (true≢false g);
        }

    pub kept-renew : may q Renew ≡ true → IsKept n ends (by q Renew)
    kept-renew may = let h = q.handshake in let e = tailed_emptied h.driver may in let a = emptied_answered h.driver e in let o = k.order in
        let g : Handshake = record h { driver = New } in let s = control_steps-renew h.driver h.controller h.control h.seen may control_fits_of in let pos = k.places in let back = o.all_back e in
        record {
          size_is = k.size_is;
          places = k.places;
          handshake_fits = record { control_fits = s.0 };
          order = order-begin n q.published q.known q.held g (omega arith) (o.tail_cleared may) (answered_unheld a) (λ serves. absurd (both_ways (is_serving h.controller) s.1 serves));
          map = map-none q.size (returned_count q) (completed_count q) (posted_count q) 0 0 q.held q.held q.owners (omega arith) k.map;
          whole = λ f. refl;
          told = λ f c. absurd (true≢false c);
        }

    pub kept-by : (s : QueueStep Posted Completed Reaped) → IsFair q s → may q s ≡ true → IsKept n ends (by q s)
    kept-by (Post x) fair e = kept-post x e
    kept-by Publish fair e = kept-publish e
    kept-by Look fair e = kept-look e
    kept-by Fetch fair e = kept-fetch e
    kept-by (Complete x) fair e = kept-complete x e
    kept-by Head fair e = kept-head e
    kept-by (Reap x) fair e = kept-reap x e
    kept-by (Controls c settled) fair e = kept-control_step c settled fair e
    kept-by Reclaim fair e = kept-reclaim e
    kept-by ClearHead fair e = kept-clear_head e
    kept-by ClearTail fair e = kept-clear_tail e
    kept-by Renew fair e = kept-renew e
