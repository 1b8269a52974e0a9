-- What the controller has of a queue, as each step changes it.
use Rattle.std.proofs.Common.{◌≡◌, ℕ, ◌+◌, ◌-◌, ◌%◌, ◌<◌, Bool, true, false, ◌&&◌, List, [], ◌∷◌, ◌++◌, length, Option, Some, None, sym, refl, ap, ◌∙◌, arith, if◌then◌else◌}
use Rattle.std.specs.Prelude.{slice_get}
use Rattle.std.proofs.lemmas.Bool.{and_left, and_from, and_right, both_ways, false≢true}
use Rattle.std.proofs.lemmas.Option.{none-some}
use Rattle.buffer_pool.specs.Buffer.{Buffer}
use Rattle.ring_model.specs.declared.states.DriverState.TheVariants.{Asked, Stopping}
use Rattle.ring_model.specs.declared.states.ControllerState.TheVariants.{Serving, Ended}
use Rattle.ring_model.specs.declared.handshake.Handshake.{Handshake}
use Rattle.ring_model.specs.declared.steps.ControlStep.TheVariants.{AskEnable, LookAsked, LookAnswered, AskDisable}
use Rattle.ring_model.specs.shared.Handshakes.{is_open, is_serving, is_ended, is_new, is_on, is_stopped, is_cleared, is_tailed, is_between_epochs, enable, disable, learned}
use Rattle.ring_model.specs.shared.QueueSteps.{Post, Publish, Look, Fetch, Complete, Head, Reap, Controls, Reclaim, ClearHead, ClearTail, Renew}
use Rattle.ring_model.specs.shared.Queue.{Queue, posted_count, completed_count, by}
use Rattle.ring_laws.specs.Lists.{slice_get-front}
use Rattle.ring_laws.specs.Places.{ahead}
use Rattle.ring_model.specs.kept.Queues.{IsKept}
use Rattle.ring_laws.specs.States.{new_open, on_serving, serving_unended, learned_open, stopped_answered, cleared_emptied, tailed_emptied, emptied_answered, answered_closed}
use Rattle.ring_laws.specs.Queues.{control_fits_of, held_below, answered_idle, answered_unheld}
use Rattle.shared_ring.specs.Records.{Controlled, count_at}
use Rattle.shared_ring.specs.LaidOut.{IsControlled}
use Rattle.shared_ring.proofs.Laying.{none-empty}

-- a queue that is served does not stand between two epochs
pub serving_settled : (h : Handshake) → is_serving h.controller ≡ true → is_between_epochs h ≡ false
serving_settled h serving = and_left (is_ended h.controller) (is_open h.driver) (serving_unended h.controller serving)

pub closed_settled : (h : Handshake) → is_open h.driver ≡ false → is_between_epochs h ≡ false
closed_settled h closed = and_right (is_ended h.controller) (is_open h.driver) closed

module _ {Posted Completed Reaped : Type 0} (word_of_item : ℕ → Option Posted → Option Completed → ℕ) (buffer_of_item : Option Posted → Option Completed → Option Buffer) (ends : Completed → Bool) (n : ℕ)
    (q : Queue Posted Completed Reaped) (k : IsKept n ends q) (bars : Bool) (c : Controlled Completed) (l : IsControlled {Reaped = Reaped} word_of_item buffer_of_item q bars c) where
  -- what a record says of the queue
  pub of-serving : is_serving c.state ≡ true → is_serving q.handshake.controller ≡ true
  of-serving e = sym (ap is_serving l.state) ∙ e

  pub of-completed : is_serving c.state ≡ true → c.completed ≡ q.ledger.completed
  of-completed e = l.completed (serving_settled q.handshake (of-serving e))

  pub of-known : is_serving c.state ≡ true → c.known ≡ q.known
  of-known e = l.known (serving_settled q.handshake (of-serving e))

  unheld_if : (held : Bool) (b : Option Buffer) → (held ≡ true → ¬ (b ≡ None)) → (if held then b else None) ≡ None → held ≡ false
  unheld_if true b some e = absurd (some refl e)
  unheld_if false b some e = refl

  held_if : (held : Bool) (b : Option Buffer) (x : Buffer) → (if held then b else None) ≡ Some x → (held ≡ true) × (b ≡ Some x)
  held_if true b x e = (refl, e)
  held_if false b x e = absurd (none-some x e)

  pub of-held : (b : Buffer) → c.held ≡ Some b → (q.held ≡ true) × (buffer_of_item (slice_get q.ledger.posted (completed_count q)) None ≡ Some b)
  of-held b e = held_if q.held (buffer_of_item (slice_get q.ledger.posted (completed_count q)) None) b (sym l.held ∙ e)

  -- the slot of every posted item has a buffer
  pub of-unheld : (completed_count q < posted_count q → ¬ (buffer_of_item (slice_get q.ledger.posted (completed_count q)) None ≡ None)) → c.held ≡ None → q.held ≡ false
  of-unheld some e = unheld_if q.held (buffer_of_item (slice_get q.ledger.posted (completed_count q)) None) (λ h. some (held_below n ends q k h)) (sym l.held ∙ e)

  held_post : (x : Posted) (held : Bool) → q.held ≡ held → (if held then buffer_of_item (slice_get q.ledger.posted (completed_count q)) None else None) ≡ (if held then buffer_of_item (slice_get (q.ledger.posted ++ x ∷ []) (completed_count q)) None else None)
  held_post x true e = ap (λ (o : Option Posted). buffer_of_item o None) (sym (slice_get-front q.ledger.posted (x ∷ []) (completed_count q) (held_below n ends q k e)))
  held_post x false e = refl

  pub ctl-post : (x : Posted) → IsControlled {Reaped = Reaped} word_of_item buffer_of_item (by q (Post x)) bars c
  ctl-post x = record { completed = l.completed; known = l.known; held = l.held ∙ held_post x q.held refl; head = l.head; state = l.state; seen = l.seen; barred = l.barred }

  pub ctl-publish : IsControlled {Reaped = Reaped} word_of_item buffer_of_item (by q Publish) bars c
  ctl-publish = record { completed = l.completed; known = l.known; held = l.held; head = l.head; state = l.state; seen = l.seen; barred = l.barred }

  pub ctl-reap : (x : Reaped) → IsControlled {Reaped = Reaped} word_of_item buffer_of_item (by q (Reap x)) bars c
  ctl-reap x = record { completed = l.completed; known = l.known; held = l.held; head = l.head; state = l.state; seen = l.seen; barred = l.barred }

  pub ctl-reclaim : IsControlled {Reaped = Reaped} word_of_item buffer_of_item (by q Reclaim) bars c
  ctl-reclaim = record { completed = l.completed; known = l.known; held = l.held; head = l.head; state = l.state; seen = l.seen; barred = l.barred }

  -- a step of the driver's side of the handshake
  ctl-control_stepped : (g : Handshake) → g.controller ≡ q.handshake.controller → g.seen ≡ q.handshake.seen → (is_between_epochs g ≡ false → is_between_epochs q.handshake ≡ false) → IsControlled {Reaped = Reaped} word_of_item buffer_of_item (record q { handshake = g }) bars c
  ctl-control_stepped g a b f = record {
    completed = λ e. l.completed (f e);
    known = λ e. l.known (f e);
    held = l.held;
    head = λ e. l.head (sym (ap is_serving a) ∙ e);
    state = l.state ∙ sym a;
    seen = l.seen ∙ sym b;
    barred = l.barred;
  }

  -- the driver stays open, or stays closed
  same_open : (g : Handshake) → g.controller ≡ q.handshake.controller → is_open g.driver ≡ is_open q.handshake.driver → is_between_epochs g ≡ false → is_between_epochs q.handshake ≡ false
  same_open g a b e = sym (ap (λ (x : Bool). x && is_open q.handshake.driver) (ap is_ended a)) ∙ sym (ap (λ (x : Bool). is_ended g.controller && x) b) ∙ e

  pub ctl-ask_enable : (settled : Bool) → is_new q.handshake.driver ≡ true → IsControlled {Reaped = Reaped} word_of_item buffer_of_item (by q (Controls AskEnable settled)) bars c
  ctl-ask_enable settled e = let g : Handshake = record q.handshake { control = 1; driver = Asked } in ctl-control_stepped g refl refl (same_open g refl (sym (new_open q.handshake.driver e)))

  pub ctl-look_answered : (settled : Bool) → IsControlled {Reaped = Reaped} word_of_item buffer_of_item (by q (Controls LookAnswered settled)) bars c
  ctl-look_answered settled = let g : Handshake = record q.handshake { driver = learned q.handshake.driver q.handshake.control } in ctl-control_stepped g refl refl (same_open g refl (learned_open q.handshake.driver q.handshake.control))

  pub ctl-ask_disable : (settled : Bool) → is_on q.handshake.driver ≡ true → IsControlled {Reaped = Reaped} word_of_item buffer_of_item (by q (Controls AskDisable settled)) bars c
  ctl-ask_disable settled e = let h = q.handshake in ctl-control_stepped (record h { control = 3; driver = Stopping }) refl refl (λ f. serving_settled h (on_serving h.driver h.controller h.control h.seen e (control_fits_of n ends q k)))

  pub ctl-clear_head : is_stopped q.handshake.driver ≡ true → IsControlled {Reaped = Reaped} word_of_item buffer_of_item (by q ClearHead) bars c
  ctl-clear_head e = let a = stopped_answered q.handshake.driver e in let closed = closed_settled q.handshake (answered_closed q.handshake.driver a) in record {
    completed = λ f. l.completed closed;
    known = λ f. l.known closed;
    held = l.held;
    head = λ s. absurd (both_ways (is_serving q.handshake.controller) (answered_idle n ends q k a) s);
    state = l.state;
    seen = l.seen;
    barred = l.barred;
  }

  pub ctl-clear_tail : is_cleared q.handshake.driver ≡ true → IsControlled {Reaped = Reaped} word_of_item buffer_of_item (by q ClearTail) bars c
  ctl-clear_tail e = let closed = closed_settled q.handshake (answered_closed q.handshake.driver (emptied_answered q.handshake.driver (cleared_emptied q.handshake.driver e))) in
      record { completed = λ f. l.completed closed; known = λ f. l.known closed; held = l.held; head = l.head; state = l.state; seen = l.seen; barred = l.barred }

  held_renew : (held : Bool) (a b : Option Buffer) → held ≡ false → (if held then a else None) ≡ (if held then b else None)
  held_renew held a b e = rw e refl

  pub ctl-renew : is_tailed q.handshake.driver ≡ true → is_ended q.handshake.controller ≡ true → IsControlled {Reaped = Reaped} word_of_item buffer_of_item (by q Renew) bars c
  ctl-renew e ended = let a = emptied_answered q.handshake.driver (tailed_emptied q.handshake.driver e) in record {
    completed = λ f. absurd (both_ways (is_ended q.handshake.controller && true) f (and_from (is_ended q.handshake.controller) true ended refl));
    known = λ f. absurd (both_ways (is_ended q.handshake.controller && true) f (and_from (is_ended q.handshake.controller) true ended refl));
    held = l.held ∙ held_renew q.held (buffer_of_item (slice_get q.ledger.posted (completed_count q)) None) (buffer_of_item None None) (answered_unheld n ends q k a);
    head = λ s. absurd (both_ways (is_serving q.handshake.controller) (answered_idle n ends q k a) s);
    state = l.state;
    seen = l.seen;
    barred = l.barred;
  }

  -- The controller's own steps
  pub known-looked : (t : ℕ) → t ≡ q.published % n → is_serving q.handshake.controller ≡ true → count_at n (length c.completed) t ≡ q.published
  known-looked t at serving = let o = k.order in let a = o.completed_known serving in let b = o.known_published serving in let d = o.published_posted in let r = o.room in let g = o.reaped_completed in let some = k.places in
      ap (λ (xs : List Completed). count_at n (length xs) t) (l.completed (serving_settled q.handshake serving))
      ∙ ap (λ (j : ℕ). completed_count q + (j + n - completed_count q % n) % n) at
      ∙ ap (λ (j : ℕ). completed_count q + j) (ahead n (completed_count q) q.published (omega arith) (omega arith) (omega arith))
      ∙ (let f : completed_count q + (q.published - completed_count q) ≡ q.published = omega arith in f)

  pub ctl-look : (t : ℕ) → t ≡ q.published % n → is_serving q.handshake.controller ≡ true → IsControlled {Reaped = Reaped} word_of_item buffer_of_item (by q Look) bars (record c { known = count_at n (length c.completed) t })
  ctl-look t at serving = record { completed = l.completed; known = λ e. known-looked t at serving; held = l.held; head = l.head; state = l.state; seen = l.seen; barred = l.barred }

  pub ctl-fetch : (b : Buffer) → buffer_of_item (slice_get q.ledger.posted (completed_count q)) None ≡ Some b → IsControlled {Reaped = Reaped} word_of_item buffer_of_item (by q Fetch) bars (record c { held = Some b })
  ctl-fetch b e = record { completed = l.completed; known = l.known; held = sym e; head = l.head; state = l.state; seen = l.seen; barred = l.barred }

  pub ctl-complete : (x : Completed) → IsControlled {Reaped = Reaped} word_of_item buffer_of_item (by q (Complete x)) bars (record c { completed = c.completed ++ x ∷ []; held = None })
  ctl-complete x = record { completed = λ e. ap (λ (xs : List Completed). xs ++ x ∷ []) (l.completed e); known = l.known; held = refl; head = l.head; state = l.state; seen = l.seen; barred = l.barred }

  pub ctl-head : (h : ℕ) → h ≡ completed_count q % n → IsControlled {Reaped = Reaped} word_of_item buffer_of_item (by q Head) bars (record c { head = h })
  ctl-head h at = record { completed = l.completed; known = l.known; held = l.held; head = λ e. at ∙ ap (λ (j : ℕ). completed_count q % j) (sym k.size_is); state = l.state; seen = l.seen; barred = l.barred }

  pub ctl-look_asked : (settled : Bool) (v : ℕ) → v ≡ q.handshake.control → IsControlled {Reaped = Reaped} word_of_item buffer_of_item (by q (Controls LookAsked settled)) bars (record c { seen = v })
  ctl-look_asked settled v e = record { completed = l.completed; known = l.known; held = l.held; head = l.head; state = l.state; seen = e; barred = l.barred }

  pub ctl-enable : is_serving q.handshake.controller ≡ false → is_open q.handshake.driver ≡ true → q.head ≡ 0
      → IsControlled {Reaped = Reaped} word_of_item buffer_of_item (record q { known = 0; handshake = enable q.handshake }) false (record c { completed = []; known = 0; head = 0; state = Serving; seen = 2; barred = false })
  ctl-enable idle opened head = let o = k.order in record {
    completed = λ e. sym (none-empty q.ledger.completed (o.none_completed idle opened));
    known = λ e. refl;
    held = l.held;
    head = λ e. sym head;
    state = refl;
    seen = refl;
    barred = refl;
  }

  pub ctl-disable : is_serving q.handshake.controller ≡ true → IsControlled {Reaped = Reaped} word_of_item buffer_of_item (record q { handshake = disable q.handshake }) bars (record c { state = Ended; seen = 0 })
  ctl-disable serving = let s = serving_settled q.handshake serving in
      record { completed = λ e. l.completed s; known = λ e. l.known s; held = l.held; head = λ e. absurd (false≢true e); state = refl; seen = refl; barred = l.barred }

  pub ctl-bar : IsControlled {Reaped = Reaped} word_of_item buffer_of_item q true (record c { barred = true })
  ctl-bar = record { completed = l.completed; known = l.known; held = l.held; head = l.head; state = l.state; seen = l.seen; barred = refl }
