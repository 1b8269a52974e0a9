-- What every step of a receive ring keeps.
use Rattle.std.proofs.Common.{◌≡◌, ℕ, ◌<◌, Bool, true, false, not, ◌&&◌, [], ◌∷◌, ◌++◌, map, Option, Some, None, refl, ap, subst, ⊎_elim, arith, if◌then◌else◌}
use Rattle.std.specs.Prelude.{nat_lt, slice_get}
use Rattle.std.proofs.lemmas.Bool.{both_ways, and_parts, and_from, not-true, lt-ltb, false≢true}
use Rattle.std.proofs.lemmas.Option.{none-some, slice_get_within}
use Rattle.ring_model.specs.declared.handshake.Handshake.{Handshake}
use Rattle.ring_model.specs.declared.states.DriverState.TheVariants.{Cleared, Tailed}
use Rattle.ring_model.specs.declared.steps.ControlStep.{ControlStep}
use Rattle.ring_model.specs.declared.steps.ControlStep.TheVariants.{AskEnable, LookAsked, Answer, LookAnswered, AskDisable}
use Rattle.ring_model.specs.declared.steps.RxStep.{RxStep}
use Rattle.ring_model.specs.declared.steps.RxStep.TheVariants as rx
use Rattle.ring_model.specs.shared.Handshakes.{is_live, is_serving, can_enable, enable, disable, after_control_step, enables}
use Rattle.ring_model.specs.shared.Lists.{IsBeginning}
use Rattle.ring_model.specs.shared.QueueSteps.{QueueStep, Post, Publish, Look, Fetch, Complete, Head, Reap, Controls, Reclaim, ClearHead, ClearTail, Renew}
use Rattle.ring_model.specs.shared.Queue.{posted_count, completed_count, reaped_count, may, by}
use Rattle.ring_model.specs.receive.Ring.{RxLedger, RxRing, rx_opening, due, is_whole, next_segment}
use Rattle.ring_model.specs.shared.Segments.{Segment, ends_segment, number_of_segment}
use Rattle.ring_model.specs.receive.Steps.{rx_can, rx_changed, rx_settled, took}
use Rattle.ring_model.specs.receive.Lawful.{IsLawfulRxLedger}
use Rattle.ring_model.specs.receive.Laws.{rx_quiesced}
use Rattle.ring_model.specs.kept.Queues.{IsKept}
use Rattle.ring_model.proofs.shared.Beginnings.{beginning-append, beginning-snoc, numbers-snoc, slice_get-snoc}
use Rattle.ring_model.proofs.shared.Stepping.{kept-opening, kept-by, held_below}
use Rattle.ring_model.specs.kept.Receive.{IsRxKept}
use Rattle.ring_model.proofs.receive.Quiesced.{quiesced-quiet, quiesced-close, quiesced-control_step, quiesced-still}

pub rx_kept-opening : {Payload : Type 0} (n : ℕ) (enabled : Bool) → 1 < n → IsRxKept Payload n (rx_opening n enabled)
rx_kept-opening n enabled h = record {
  queue = kept-opening n ends_segment enabled h;
  taken = ([], refl);
  stored = ([], refl);
  past = λ k l e. absurd (none-some l e);
  at_rest = λ e. refl;
  finished = λ e f. refl;
  bit = omega arith;
  quiet = λ e. absurd (let bad : ⊥ = omega arith in bad);
  said = λ e. absurd (let bad : ⊥ = omega arith in bad);
}

module _ {Payload : Type 0} (n : ℕ) (r : RxRing Payload) (k : IsRxKept Payload n r) where
  -- the ledger of this epoch is lawful
  pub rx_ledger : IsLawfulRxLedger Payload n r.ledger
  rx_ledger = let q = k.queue in let o = q.order in let h = o.room in let p = q.places in record { taken = k.taken; stored = k.stored; room = omega arith }

  -- a step that leaves what is stored, the handshake and what is held
  rx_kept-lists : (s : QueueStep ℕ (Segment Payload) (Segment Payload)) → IsKept n ends_segment (by r.queue s) → IsBeginning (by r.queue s).ledger.reaped (by r.queue s).ledger.completed → IsBeginning (map number_of_segment (by r.queue s).ledger.completed) (by r.queue s).ledger.posted
      → (by r.queue s).ledger.completed ≡ r.ledger.completed → (by r.queue s).past ≡ r.past → (by r.queue s).handshake ≡ r.handshake → (r.still ≡ true → (by r.queue s).held ≡ false) → IsRxKept Payload n (record r { queue = by r.queue s })
  rx_kept-lists s kept taken stored l p h rest = record {
    queue = kept;
    taken = taken;
    stored = stored;
    past = rw p k.past;
    at_rest = rest;
    finished = rw (h, l) k.finished;
    bit = k.bit;
    quiet = rw h k.quiet;
    said = k.said;
  }

  rx_kept-post : (b : ℕ) → may r.queue (Post b) ≡ true → IsRxKept Payload n (record r { queue = by r.queue (Post b) })
  rx_kept-post b e = rx_kept-lists (Post b) (kept-by n ends_segment r.queue k.queue (Post b) tt e) k.taken (beginning-append (map number_of_segment r.ledger.completed) r.ledger.posted (b ∷ []) k.stored) refl refl refl k.at_rest

  -- a step that leaves the ledger, the handshake and what is held
  rx_kept-rest : (s : QueueStep ℕ (Segment Payload) (Segment Payload)) → IsKept n ends_segment (by r.queue s) → (by r.queue s).ledger ≡ r.ledger → (by r.queue s).past ≡ r.past → (by r.queue s).handshake ≡ r.handshake
      → (r.still ≡ true → (by r.queue s).held ≡ false) → IsRxKept Payload n (record r { queue = by r.queue s })
  rx_kept-rest s kept l p h rest = rx_kept-lists s kept (rw l k.taken) (rw l k.stored) (ap (λ (x : RxLedger Payload). x.completed) l) p h rest

  rx_kept-store : (x : Payload) (eop : Bool) → r.held ≡ true → IsRxKept Payload n (record r { queue = by r.queue (Complete (next_segment r x eop)) })
  rx_kept-store x eop e = let s : Segment Payload = next_segment r x eop in record {
    queue = kept-by n ends_segment r.queue k.queue (Complete s) tt e;
    taken = beginning-append r.ledger.reaped r.ledger.completed (s ∷ []) k.taken;
    stored = numbers-snoc r.ledger.completed r.ledger.posted s k.stored (held_below n ends_segment r.queue k.queue e) refl;
    past = k.past;
    at_rest = λ f. refl;
    finished = λ serving f. absurd (both_ways r.held (k.at_rest f) e);
    bit = k.bit;
    quiet = k.quiet;
    said = k.said;
  }

  rx_kept-took : (found : Option (Segment Payload)) → due r ≡ found → is_live r.handshake.driver ≡ true → IsRxKept Payload n (took r found)
  rx_kept-took None e live = k
  rx_kept-took (Some s) e live = let more = slice_get_within r.ledger.completed (reaped_count r.queue) s e in
      rx_kept-lists (Reap s) (kept-by n ends_segment r.queue k.queue (Reap s) tt (and_from (is_live r.handshake.driver) (nat_lt (reaped_count r.queue) (completed_count r.queue)) live (lt-ltb (reaped_count r.queue) (completed_count r.queue) more)))
      (beginning-snoc r.ledger.reaped r.ledger.completed s k.taken e) k.stored refl refl refl k.at_rest

  -- a controller that serves after its answer was enabled by it, and then it isn't still
  answered_still : (on : Bool) → is_serving (if on then enable r.handshake else disable r.handshake).controller ≡ true → (not on && r.still) ≡ true → is_whole r ≡ true
  answered_still true serving e = absurd (false≢true e)
  answered_still false serving e = absurd (false≢true serving)

  finished-control_step : (c : ControlStep) → is_serving (after_control_step r.handshake c).controller ≡ true → (not (enables r.handshake c) && r.still) ≡ true → is_whole r ≡ true
  finished-control_step AskEnable serving e = k.finished serving e
  finished-control_step LookAsked serving e = k.finished serving e
  finished-control_step Answer serving e = answered_still (can_enable r.handshake) serving e
  finished-control_step LookAnswered serving e = k.finished serving e
  finished-control_step AskDisable serving e = k.finished serving e

  rx_kept-control : (c : ControlStep) → may r.queue (Controls c (rx_settled r)) ≡ true → IsRxKept Payload n (rx_changed r (rx.Control c))
  rx_kept-control c e = record {
    queue = kept-by n ends_segment r.queue k.queue (Controls c (rx_settled r)) (λ s. s) e;
    taken = k.taken;
    stored = k.stored;
    past = k.past;
    at_rest = λ f. let t = and_parts (not (enables r.handshake c)) r.still f in k.at_rest t.1;
    finished = finished-control_step c;
    bit = k.bit;
    quiet = λ f. quiesced-control_step n r k c e (k.quiet f);
    said = λ f. quiesced-still n r k c (k.quiet f) (k.said f);
  }

  rx_kept-quiet : rx_can r rx.StoreQuiet ≡ true → IsRxKept Payload n (rx_changed r rx.StoreQuiet)
  rx_kept-quiet e = let t = and_parts (is_serving r.handshake.controller && not r.held) (is_whole r) e in let u = and_parts (is_serving r.handshake.controller) (not r.held) t.0 in record {
    queue = k.queue;
    taken = k.taken;
    stored = k.stored;
    past = k.past;
    at_rest = λ f. not-true r.held u.1;
    finished = λ serving f. t.1;
    bit = omega arith;
    quiet = λ f. quiesced-quiet r.handshake true u.0 refl;
    said = λ f. refl;
  }

  rx_kept-clear : (s : QueueStep ℕ (Segment Payload) (Segment Payload)) (g : Handshake) → IsKept n ends_segment (by r.queue s) → (by r.queue s).ledger ≡ r.ledger → (by r.queue s).past ≡ r.past → (by r.queue s).held ≡ r.held
      → (by r.queue s).handshake ≡ g → g.controller ≡ r.handshake.controller → (rx_quiesced r ≡ true → rx_quiesced (record r { queue = by r.queue s }) ≡ true) → IsRxKept Payload n (record r { queue = by r.queue s })
  rx_kept-clear s g kept l p held h c stays = record {
    queue = kept;
    taken = rw l k.taken;
    stored = rw l k.stored;
    past = rw p k.past;
    at_rest = rw held k.at_rest;
    finished = rw (h, c, l) k.finished;
    bit = k.bit;
    quiet = λ f. stays (k.quiet f);
    said = k.said;
  }

  -- the ledger joins the past ones
  past_more : (i : ℕ) (l : RxLedger Payload) → slice_get (r.past ++ r.ledger ∷ []) i ≡ Some l → IsLawfulRxLedger Payload n l
  past_more i l e = ⊎_elim (λ a. k.past i l a.1) (λ b. subst (λ m. IsLawfulRxLedger Payload n m) b.1 rx_ledger) (slice_get-snoc r.past r.ledger l i e)

  rx_kept-renew : may r.queue Renew ≡ true → IsRxKept Payload n (rx_changed r rx.ClearQuiet)
  rx_kept-renew e = record {
    queue = kept-by n ends_segment r.queue k.queue Renew tt e;
    taken = ([], refl);
    stored = ([], refl);
    past = past_more;
    at_rest = k.at_rest;
    finished = λ serving f. refl;
    bit = omega arith;
    quiet = λ f. absurd (let bad : ⊥ = omega arith in bad);
    said = λ f. absurd (let bad : ⊥ = omega arith in bad);
  }

  pub rx_kept-changed : (s : RxStep Payload) → rx_can r s ≡ true → IsRxKept Payload n (rx_changed r s)
  rx_kept-changed (rx.Post b) e = rx_kept-post b e
  rx_kept-changed rx.Publish e = rx_kept-rest Publish (kept-by n ends_segment r.queue k.queue Publish tt e) refl refl refl k.at_rest
  rx_kept-changed rx.Look e = rx_kept-rest Look (kept-by n ends_segment r.queue k.queue Look tt e) refl refl refl k.at_rest
  rx_kept-changed rx.Fetch e = let t = and_parts (may r.queue Fetch) (not r.still) e in
      rx_kept-rest Fetch (kept-by n ends_segment r.queue k.queue Fetch tt t.0) refl refl refl (λ f. absurd (both_ways r.still (not-true r.still t.1) f))
  rx_kept-changed (rx.Store x eop) e = rx_kept-store x eop e
  rx_kept-changed rx.Take e = let t = and_parts (is_live r.handshake.driver) (nat_lt (reaped_count r.queue) (posted_count r.queue)) e in rx_kept-took (due r) refl t.0
  rx_kept-changed rx.Head e = rx_kept-rest Head (kept-by n ends_segment r.queue k.queue Head tt e) refl refl refl k.at_rest
  rx_kept-changed (rx.Control c) e = rx_kept-control c e
  rx_kept-changed rx.Reclaim e = rx_kept-rest Reclaim (kept-by n ends_segment r.queue k.queue Reclaim tt e) refl refl refl k.at_rest
  rx_kept-changed rx.StoreQuiet e = rx_kept-quiet e
  rx_kept-changed rx.LoadQuiet e = k
  rx_kept-changed rx.ClearHead e = rx_kept-clear ClearHead (record r.handshake { driver = Cleared }) (kept-by n ends_segment r.queue k.queue ClearHead tt e) refl refl refl refl refl
      (λ f. quiesced-close r.handshake (record r.handshake { driver = Cleared }) r.still refl refl f)
  rx_kept-changed rx.ClearTail e = rx_kept-clear ClearTail (record r.handshake { driver = Tailed }) (kept-by n ends_segment r.queue k.queue ClearTail tt e) refl refl refl refl refl
      (λ f. quiesced-close r.handshake (record r.handshake { driver = Tailed }) r.still refl refl f)
  rx_kept-changed rx.ClearQuiet e = rx_kept-renew e
