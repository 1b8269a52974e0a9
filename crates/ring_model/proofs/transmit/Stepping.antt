-- What every step of a transmit ring keeps.
use Rattle.std.proofs.Common.{◌≡◌, ℕ, zero, suc, ◌+◌, ◌-◌, ◌<◌, ◌≤◌, Bool, true, false, not, ◌&&◌, List, [], ◌∷◌, ◌++◌, map, take, Option, Some, None, option_map, refl, ap, ◌∙◌, subst, ⊎_elim, arith, if◌then◌else◌, length-append}
use Rattle.std.specs.Prelude.{◌==◌, nat_lt, slice_get}
use Rattle.std.proofs.lemmas.Bool.{and_parts, and_from, or_cases, not-true, lt-ltb, ltb-true}
use Rattle.std.proofs.lemmas.Option.{none-some, same_Some, slice_get-map}
use Rattle.std.proofs.lemmas.List.{map-append, take-append-le}
use Rattle.std.proofs.Math.Seq.{take-length}
use Rattle.ring_model.specs.declared.steps.ControlStep.{ControlStep}
use Rattle.ring_model.specs.declared.steps.ControlStep.TheVariants.{AskEnable, LookAsked, Answer, LookAnswered, AskDisable}
use Rattle.ring_model.specs.declared.steps.TxStep.{TxStep}
use Rattle.ring_model.specs.declared.steps.TxStep.TheVariants as tx
use Rattle.ring_model.specs.shared.Handshakes.{first_handshake, is_live, is_serving, can_enable, can_disable, after_control_step, enables}
use Rattle.ring_model.specs.shared.QueueSteps.{QueueStep, Post, Publish, Look, Fetch, Complete, Head, Reap, Controls, Reclaim, ClearHead, ClearTail, Renew}
use Rattle.ring_model.specs.shared.Queue.{posted_count, completed_count, reaped_count, is_settled, may, by}
use Rattle.ring_model.specs.transmit.Ring.{Posting, TxBeginning, TxLedger, TxRing, tx_opening, are_whole, ends_posting, next_posting, next_sent, number_of_posting}
use Rattle.ring_model.specs.transmit.Steps.{by_head, asks_report, first_report, oldest_report, tx_settled, sent_one, loaded_report, cleaned_one, tx_renewed, tx_cleared, tx_can, tx_changed}
use Rattle.ring_model.specs.transmit.Lawful.{IsLawfulTxLedger}
use Rattle.ring_model.specs.kept.Queues.{IsKept}
use Rattle.ring_model.proofs.shared.ControlSteps.{tailed_emptied, emptied_answered}
use Rattle.ring_model.proofs.shared.Beginnings.{beginning-append, beginning-snoc, slice_get-snoc}
use Rattle.ring_model.proofs.shared.Stepping.{kept-opening, kept-by, answered_idle}
use Rattle.ring_model.specs.kept.Transmit.{InReports, IsTxKept}
use Rattle.ring_model.proofs.transmit.Reports.{reports-none, unserving_paid, reports-fetch, reports-send, reports-report, reports-load, reports-reap, reports-answer}

pub tx_kept-opening : {Payload : Type 0} (n : ℕ) (b : TxBeginning) → 1 < n → IsTxKept Payload n (tx_opening n b)
tx_kept-opening n b h = record {
  queue = kept-opening n ends_posting b.enabled h;
  reports = reports-none false false (is_serving (first_handshake b.enabled).controller) refl;
  sent = ([], refl);
  cleaned = ([], refl);
  past = λ k l e. absurd (none-some l e);
  published = refl;
}

module _ {Payload : Type 0} where
  -- the report that is looked for is at the first item or a later one
  above_found : (ps : List (Posting Payload)) (k more j : ℕ) (b : Bool) → (first_report ps (k + 1) more ≡ Some j → k + 1 ≤ j) → (if b then Some k else first_report ps (k + 1) more) ≡ Some j → k ≤ j
  above_found ps k more j true rest e = let s = same_Some k j e in omega arith
  above_found ps k more j false rest e = let a = rest e in omega arith

  pub first_report-above : (ps : List (Posting Payload)) (k count j : ℕ) → first_report ps k count ≡ Some j → k ≤ j
  first_report-above ps k zero j e = absurd (none-some j e)
  first_report-above ps k (suc more) j e = above_found ps k more j (asks_report (slice_get ps k)) (first_report-above ps (k + 1) more j) e

  module _ (n : ℕ) (r : TxRing Payload) (k : IsTxKept Payload n r) where
    -- the ledger of this epoch is lawful
    pub tx_ledger : IsLawfulTxLedger Payload n r.ledger
    tx_ledger = let q = k.queue in let o = q.order in let h = o.room in let p = q.places in record { sent = k.sent; cleaned = k.cleaned; room = omega arith }

    -- while the controller serves no more, nothing is owed
    pub idle_paid : is_serving r.handshake.controller ≡ false → r.owed ≡ false
    idle_paid idle = unserving_paid r.ledger.completed (reaped_count r.queue) r.seen_reported r.reported r.held r.owed (is_serving r.handshake.controller) k.reports idle

    tx_kept-post : (p : Posting Payload) → may r.queue (Post p) ≡ true → IsTxKept Payload n (record r { queue = by r.queue (Post p) })
    tx_kept-post p e = let q = k.queue in let o = q.order in let few = o.published_posted in record {
      queue = kept-by n ends_posting r.queue k.queue (Post p) tt e;
      reports = k.reports;
      sent = beginning-append r.ledger.completed r.ledger.posted (p ∷ []) k.sent;
      cleaned = k.cleaned;
      past = k.past;
      published = ap are_whole (take-append-le r.published r.ledger.posted (p ∷ []) few) ∙ k.published;
    }

    tx_kept-publish : may r.queue Publish ≡ true → are_whole r.ledger.posted ≡ true → IsTxKept Payload n (record r { queue = by r.queue Publish })
    tx_kept-publish e whole = record {
      queue = kept-by n ends_posting r.queue k.queue Publish tt e;
      reports = k.reports;
      sent = k.sent;
      cleaned = k.cleaned;
      past = k.past;
      published = ap are_whole (take-length r.ledger.posted) ∙ whole;
    }

    -- a step that leaves the lists and what is published
    tx_kept-rest : (s : QueueStep (Posting Payload) (Posting Payload) ℕ) → IsKept n ends_posting (by r.queue s) → (by r.queue s).ledger ≡ r.ledger → (by r.queue s).past ≡ r.past → (by r.queue s).published ≡ r.published
        → InReports r.ledger.completed (reaped_count r.queue) r.seen_reported r.reported (by r.queue s).held r.owed (is_serving (by r.queue s).handshake.controller) → IsTxKept Payload n (record r { queue = by r.queue s })
    tx_kept-rest s kept l p same reports = record {
      queue = kept;
      reports = rw l reports;
      sent = rw l k.sent;
      cleaned = rw l k.cleaned;
      past = rw p k.past;
      published = rw (l, same) k.published;
    }

    tx_kept-sent : (found : Option (Posting Payload)) → next_posting r ≡ found → r.held ≡ true → IsTxKept Payload n (sent_one r found)
    tx_kept-sent None e held = k
    tx_kept-sent (Some p) e held = let q = k.queue in let o = q.order in let serving = o.held_serving held in
        let completed = kept-by n ends_posting r.queue k.queue (Complete p) tt held in record {
          queue = kept-by n ends_posting (by r.queue (Complete p)) completed Head tt (and_from (is_serving r.handshake.controller) true serving refl);
          reports = reports-send r.ledger.completed (reaped_count r.queue) r.seen_reported r.reported r.held r.owed (is_serving r.handshake.controller) k.reports p held serving;
          sent = beginning-snoc r.ledger.completed r.ledger.posted p k.sent e;
          cleaned = rw (map-append number_of_posting r.ledger.completed (p ∷ [])) (beginning-append r.ledger.reaped (map number_of_posting r.ledger.completed) (p.number ∷ []) k.cleaned);
          past = k.past;
          published = k.published;
        }

    tx_kept-report : r.owed ≡ true → IsTxKept Payload n (tx_changed r tx.Report)
    tx_kept-report e = record {
      queue = k.queue;
      reports = reports-report r.ledger.completed (reaped_count r.queue) r.seen_reported r.reported r.held r.owed (is_serving r.handshake.controller) k.reports e;
      sent = k.sent;
      cleaned = k.cleaned;
      past = k.past;
      published = k.published;
    }

    tx_kept-seen : (j : ℕ) → r.seen_reported ≤ j → (made : Bool) → nat_lt j r.reported ≡ made → IsTxKept Payload n (if made then record r { seen_reported = j + 1 } else r)
    tx_kept-seen j above false e = k
    tx_kept-seen j above true e = record {
      queue = k.queue;
      reports = reports-load r.ledger.completed (reaped_count r.queue) r.seen_reported r.reported r.held r.owed (is_serving r.handshake.controller) k.reports j (ltb-true j r.reported e) above;
      sent = k.sent;
      cleaned = k.cleaned;
      past = k.past;
      published = k.published;
    }

    tx_kept-loaded : (found : Option ℕ) → oldest_report r ≡ found → IsTxKept Payload n (loaded_report r found)
    tx_kept-loaded None e = k
    tx_kept-loaded (Some j) e = tx_kept-seen j (first_report-above r.ledger.posted r.seen_reported (posted_count r.queue - r.seen_reported) j e) (nat_lt j r.reported) refl

    -- what is seen reported was sent
    pub seen_sent : r.seen_reported ≤ completed_count r.queue
    seen_sent = let s = k.reports in let a = s.seen_reported in let b = s.reported_sent in omega arith

    pub may_clean : (x : ℕ) → is_live r.handshake.driver ≡ true → reaped_count r.queue < r.seen_reported → may r.queue (Reap x) ≡ true
    may_clean x live below = let few = seen_sent in and_from (is_live r.handshake.driver) (nat_lt (reaped_count r.queue) (completed_count r.queue)) live (lt-ltb (reaped_count r.queue) (completed_count r.queue) (omega arith))

    tx_kept-cleaned : (found : Option (Posting Payload)) → next_sent r ≡ found → tx_can r tx.Clean ≡ true → IsTxKept Payload n (cleaned_one r found)
    tx_kept-cleaned None e can = k
    tx_kept-cleaned (Some p) e can = let t = and_parts (is_live r.handshake.driver) (nat_lt (reaped_count r.queue) r.seen_reported) can in let below = ltb-true (reaped_count r.queue) r.seen_reported t.1 in record {
      queue = kept-by n ends_posting r.queue k.queue (Reap p.number) tt (may_clean p.number t.0 below);
      reports = rw (length-append r.ledger.reaped (p.number ∷ [])) (reports-reap r.ledger.completed (reaped_count r.queue) r.seen_reported r.reported r.held r.owed (is_serving r.handshake.controller) k.reports below);
      sent = k.sent;
      cleaned = beginning-snoc r.ledger.reaped (map number_of_posting r.ledger.completed) p.number k.cleaned (slice_get-map number_of_posting r.ledger.completed (reaped_count r.queue) ∙ ap (λ (o : Option (Posting Payload)). option_map number_of_posting o) e);
      past = k.past;
      published = k.published;
    }

    -- nothing is owed where an answer is given, and so it is after the answer
    answer_paid : tx_can r (tx.Control Answer) ≡ true → r.owed ≡ false
    answer_paid e = ⊎_elim
        (λ a. let t = and_parts (r.handshake.seen == 1) (not (is_serving r.handshake.controller)) a in idle_paid (not-true (is_serving r.handshake.controller) t.1))
        (λ b. let t = and_parts (can_disable r.handshake) (tx_settled r) b in let u = and_parts (is_settled ends_posting r.queue) (not r.owed) t.1 in not-true r.owed u.1)
        (or_cases (can_enable r.handshake) (can_disable r.handshake && tx_settled r) e)

    still_paid : (on : Bool) → r.owed ≡ false → (not on && r.owed) ≡ false
    still_paid true none = refl
    still_paid false none = none

    reports-control_step : (c : ControlStep) → tx_can r (tx.Control c) ≡ true
        → InReports r.ledger.completed (reaped_count r.queue) r.seen_reported r.reported r.held (not (enables r.handshake c) && r.owed) (is_serving (after_control_step r.handshake c).controller)
    reports-control_step AskEnable e = k.reports
    reports-control_step LookAsked e = k.reports
    reports-control_step Answer e = let none = answer_paid e in
        reports-answer r.ledger.completed (reaped_count r.queue) r.seen_reported r.reported r.held r.owed (is_serving r.handshake.controller) k.reports
        (is_serving (after_control_step r.handshake Answer).controller) (not (enables r.handshake Answer) && r.owed) none (still_paid (can_enable r.handshake) none)
    reports-control_step LookAnswered e = k.reports
    reports-control_step AskDisable e = k.reports

    tx_kept-control : (c : ControlStep) → tx_can r (tx.Control c) ≡ true → IsTxKept Payload n (tx_changed r (tx.Control c))
    tx_kept-control c e = record {
      queue = kept-by n ends_posting r.queue k.queue (Controls c (tx_settled r)) (λ s. let t = and_parts (is_settled ends_posting r.queue) (not r.owed) s in t.0) e;
      reports = reports-control_step c e;
      sent = k.sent;
      cleaned = k.cleaned;
      past = k.past;
      published = k.published;
    }

    past_more : (i : ℕ) (l : TxLedger Payload) → slice_get (r.past ++ r.ledger ∷ []) i ≡ Some l → IsLawfulTxLedger Payload n l
    past_more i l e = ⊎_elim (λ a. k.past i l a.1) (λ b. subst (λ m. IsLawfulTxLedger Payload n m) b.1 tx_ledger) (slice_get-snoc r.past r.ledger l i e)

    tx_kept-renew : may r.queue Renew ≡ true → IsTxKept Payload n (tx_renewed r)
    tx_kept-renew e = let q = k.queue in let o = q.order in let h = r.handshake in let a = emptied_answered h.driver (tailed_emptied h.driver e) in record {
      queue = kept-by n ends_posting r.queue k.queue Renew tt e;
      reports = reports-none r.held r.owed (is_serving h.controller) (idle_paid (answered_idle n ends_posting r.queue k.queue a));
      sent = ([], refl);
      cleaned = ([], refl);
      past = past_more;
      published = ap (λ (m : ℕ). are_whole {Payload = Payload} (take m [])) (o.tail_cleared e);
    }

    tx_kept-clear_tail : may r.queue ClearTail ≡ true → IsTxKept Payload n (record r { queue = by r.queue ClearTail })
    tx_kept-clear_tail e = record {
      queue = kept-by n ends_posting r.queue k.queue ClearTail tt e;
      reports = k.reports;
      sent = k.sent;
      cleaned = k.cleaned;
      past = k.past;
      published = refl;
    }

module _ {Payload : Type 0} (n : ℕ) (r : TxRing Payload) (k : IsTxKept Payload n r) where
  tx_kept-cleared : (more : Bool) → may r.queue ClearTail ≡ true → IsTxKept Payload n (tx_cleared r more)
  tx_kept-cleared true e = tx_kept-clear_tail n r k e
  tx_kept-cleared false e = tx_kept-renew n (record r { queue = by r.queue ClearTail }) (tx_kept-clear_tail n r k e) refl

  pub tx_kept-changed : (s : TxStep (Posting Payload)) → tx_can r s ≡ true → IsTxKept Payload n (tx_changed r s)
  tx_kept-changed (tx.Post p) e = tx_kept-post n r k p e
  tx_kept-changed tx.Publish e = let t = and_parts (may r.queue Publish) (are_whole r.ledger.posted) e in tx_kept-publish n r k t.0 t.1
  tx_kept-changed tx.Look e = tx_kept-rest n r k Look (kept-by n ends_posting r.queue k.queue Look tt e) refl refl refl k.reports
  tx_kept-changed tx.Fetch e = let t = and_parts (may r.queue Fetch) (not r.owed) e in tx_kept-rest n r k Fetch (kept-by n ends_posting r.queue k.queue Fetch tt t.0) refl refl refl
      (reports-fetch r.ledger.completed (reaped_count r.queue) r.seen_reported r.reported r.held r.owed (is_serving r.handshake.controller) k.reports (not-true r.owed t.1))
  tx_kept-changed tx.Send e = tx_kept-sent n r k (next_posting r) refl e
  tx_kept-changed tx.Report e = tx_kept-report n r k e
  tx_kept-changed tx.LoadReport e = tx_kept-loaded n r k (oldest_report r) refl
  tx_kept-changed tx.Clean e = tx_kept-cleaned n r k (next_sent r) refl e
  tx_kept-changed (tx.Control c) e = tx_kept-control n r k c e
  tx_kept-changed tx.Reclaim e = tx_kept-rest n r k Reclaim (kept-by n ends_posting r.queue k.queue Reclaim tt e) refl refl refl k.reports
  tx_kept-changed tx.ClearHead e = tx_kept-rest n r k ClearHead (kept-by n ends_posting r.queue k.queue ClearHead tt e) refl refl refl k.reports
  tx_kept-changed tx.ClearTail e = tx_kept-cleared (by_head r.completion) e
  tx_kept-changed tx.ClearReport e = let t = and_parts (by_head r.completion) (may r.queue Renew) e in tx_kept-renew n r k t.1
