-- Every transmit ring that a schedule gives is kept, so it is lawful and concluded; and whatever schedule goes on from it, the ring after is later.
use Rattle.std.proofs.Common.{◌≡◌, ℕ, ◌+◌, ◌<◌, ◌≤◌, ⊎_elim, Bool, true, false, not, List, [], ◌∷◌, ◌++◌, map, length, Option, Some, None, refl, sym, ap, ◌∙◌, arith, if◌then◌else◌, append-nil, length-append}
use Rattle.std.specs.Prelude.{nat_lt}
use Rattle.std.proofs.lemmas.Bool.{and_parts, and_from, cases_Bool, ltb-true, not_from_false}
use Rattle.std.proofs.lemmas.List.{length-map}
use Rattle.ring_model.specs.declared.handshake.Handshake.{Handshake}
use Rattle.ring_model.specs.declared.steps.TxStep.{TxStep}
use Rattle.ring_model.specs.declared.steps.TxStep.TheVariants as tx
use Rattle.ring_model.specs.shared.Lists.{IsBeginning}
use Rattle.ring_model.specs.shared.Handshakes.{is_ended, is_live, is_open, is_serving, has_ended}
use Rattle.ring_model.specs.shared.QueueSteps.{Post, Publish, Look, Fetch, Complete, Head, Reap, Controls, Reclaim, ClearHead, ClearTail, Renew}
use Rattle.ring_model.specs.shared.Queue.{posted_count, reaped_count, may, by}
use Rattle.ring_model.specs.transmit.Ring.{Posting, TxRing, tx_opening, are_whole, ends_posting, next_posting, next_sent, number_of_posting}
use Rattle.ring_model.specs.transmit.Steps.{IsTxReachable, by_head, oldest_report, cleaned_one, loaded_report, sent_one, tx_after_all, tx_can, tx_changed, tx_cleared, tx_settled}
use Rattle.ring_model.specs.transmit.Lawful.{IsLawfulTx, IsLawfulTxLedger}
use Rattle.ring_model.specs.transmit.Laws.{IsTxConcluded, IsTxOrdered, TxLater, tx_quiesced}
use Rattle.ring_model.proofs.shared.Stepping.{unended}
use Rattle.ring_model.proofs.shared.Fixed.{ended-control_step, later-refl, later-trans, later-by}
use Rattle.ring_model.proofs.shared.Reached.{ordered, concluded, lawful}
use Rattle.ring_model.proofs.shared.Reaching.{kept-reached, later-all}
use Rattle.ring_model.specs.kept.Transmit.{IsTxKept}
use Rattle.ring_model.proofs.transmit.Stepping.{tx_kept-opening, tx_kept-changed, tx_ledger, may_clean}

nothing_more : {X : Type 0} (xs rest : List X) → length (xs ++ rest) ≤ length xs → xs ++ rest ≡ xs
nothing_more xs [] h = append-nil xs
nothing_more xs (x ∷ rest) h = let e = length-append xs (x ∷ rest) in absurd (omega arith)

-- a beginning that is no shorter is the whole
pub beginning_whole : {X : Type 0} (xs ys : List X) → IsBeginning xs ys → length ys ≤ length xs → xs ≡ ys
beginning_whole xs ys b h = sym (nothing_more xs b.0 (let e = ap length b.1 in omega arith)) ∙ b.1

module _ {Payload : Type 0} where
  pub tx_kept : (n : ℕ) (r : TxRing Payload) → 1 < n → IsTxReachable Payload n r → IsTxKept Payload n r
  tx_kept n r h e = kept-reached tx_can tx_changed (IsTxKept Payload n) (λ q s k may. tx_kept-changed n q k s may) (tx_opening n) (λ b. tx_kept-opening n b h) r e

  pub tx_lawful : (n : ℕ) (r : TxRing Payload) → IsTxKept Payload n r → IsLawfulTx Payload r
  tx_lawful n r k = lawful n r.queue k.queue (IsLawfulTxLedger Payload) (tx_ledger n r k) k.past

  module _ (n : ℕ) (r : TxRing Payload) (k : IsTxKept Payload n r) where
    pub tx_ordered : IsTxOrdered r
    tx_ordered = let s = k.reports in record { queue = ordered n r.queue k.queue; cleaned_seen = s.reaped_seen; seen_reported = s.seen_reported; reported_sent = s.reported_sent }

    paid : tx_quiesced r ≡ true → r.owed ≡ false
    paid e = let s = k.reports in ⊎_elim (λ owed. absurd (unended r.handshake (s.owed_serving owed) e)) (λ none. none) (cases_Bool r.owed)

    -- where all that was posted is cleaned, all was sent, and the numbers cleaned are those posted
    all_sent : posted_count r.queue ≤ reaped_count r.queue → r.ledger.completed ≡ r.ledger.posted
    all_sent all = let q = k.queue in let o = q.order in let a = o.reaped_completed in beginning_whole r.ledger.completed r.ledger.posted k.sent (omega arith)

    all_cleaned : posted_count r.queue ≤ reaped_count r.queue → r.ledger.reaped ≡ map number_of_posting r.ledger.posted
    all_cleaned all = let q = k.queue in let o = q.order in let a = o.completed_posted in let m = length-map r.ledger.completed number_of_posting in
        beginning_whole r.ledger.reaped (map number_of_posting r.ledger.completed) k.cleaned (omega arith) ∙ ap (λ ps. map number_of_posting ps) (all_sent all)

    pub tx_concluded : IsTxConcluded r
    tx_concluded = let q = k.queue in record {
      queue = concluded n r.queue k.queue;
      published = k.published;
      whole = q.whole;
      paid = paid;
      all_sent = all_sent;
      all_cleaned = all_cleaned;
    }

    -- while a buffer is held, the controller has not ended
    held-unended : r.held ≡ true → tx_quiesced r ≡ false
    held-unended held = let q = k.queue in let o = q.order in ⊎_elim (λ e. absurd (unended r.handshake (o.held_serving held) e)) (λ e. e) (cases_Bool (tx_quiesced r))

    later-sent : (found : Option (Posting Payload)) → r.held ≡ true → TxLater r (sent_one r found)
    later-sent None held = later-refl r.queue (tx_quiesced r)
    later-sent (Some p) held = let q = k.queue in let o = q.order in
        later-trans r.queue (by r.queue (Complete p)) (by (by r.queue (Complete p)) Head) (tx_quiesced r) (tx_quiesced r) (tx_quiesced r)
        (later-by r.queue (tx_quiesced r) (tx_quiesced r) (Complete p) held (held-unended held))
        (later-by (by r.queue (Complete p)) (tx_quiesced r) (tx_quiesced r) Head (and_from (is_serving r.handshake.controller) true (o.held_serving held) refl) (λ f. f))

    later-seen : (j : ℕ) (made : Bool) → TxLater r (if made then record r { seen_reported = j + 1 } else r)
    later-seen j true = later-refl r.queue (tx_quiesced r)
    later-seen j false = later-refl r.queue (tx_quiesced r)

    later-loaded : (found : Option ℕ) → TxLater r (loaded_report r found)
    later-loaded None = later-refl r.queue (tx_quiesced r)
    later-loaded (Some j) = later-seen j (nat_lt j r.reported)

    later-cleaned : (found : Option (Posting Payload)) → tx_can r tx.Clean ≡ true → TxLater r (cleaned_one r found)
    later-cleaned None e = later-refl r.queue (tx_quiesced r)
    later-cleaned (Some p) e = let t = and_parts (is_live r.handshake.driver) (nat_lt (reaped_count r.queue) r.seen_reported) e in
        later-by r.queue (tx_quiesced r) (tx_quiesced r) (Reap p.number) (may_clean n r k p.number t.0 (ltb-true (reaped_count r.queue) r.seen_reported t.1)) (λ f. f)

    -- a driver that posts no more leaves ended what had ended
    ended-close : (g : Handshake) → g.controller ≡ r.handshake.controller → is_open g.driver ≡ false → has_ended r.handshake ≡ true → has_ended g ≡ true
    ended-close g same closed e = let t = and_parts (is_ended r.handshake.controller) (not (is_open r.handshake.driver)) e in
        and_from (is_ended g.controller) (not (is_open g.driver)) (ap is_ended same ∙ t.0) (not_from_false (is_open g.driver) closed)

    later-clear_tail : may r.queue ClearTail ≡ true → TxLater r (record r { queue = by r.queue ClearTail })
    later-clear_tail e = later-by r.queue (tx_quiesced r) (has_ended (by r.queue ClearTail).handshake) ClearTail e (λ f. ended-close (by r.queue ClearTail).handshake refl refl f)

    later-cleared : (more : Bool) → may r.queue ClearTail ≡ true → TxLater r (tx_cleared r more)
    later-cleared true e = later-clear_tail e
    later-cleared false e = let q = by r.queue ClearTail in
        later-trans r.queue q (by q Renew) (tx_quiesced r) (has_ended q.handshake) (has_ended (by q Renew).handshake) (later-clear_tail e) (later-by q (has_ended q.handshake) (has_ended (by q Renew).handshake) Renew refl tt)

  later-changed : (n : ℕ) (r : TxRing Payload) (s : TxStep (Posting Payload)) → IsTxKept Payload n r → tx_can r s ≡ true → TxLater r (tx_changed r s)
  later-changed n r (tx.Post p) k e = later-by r.queue (tx_quiesced r) (tx_quiesced r) (Post p) e (λ f. f)
  later-changed n r tx.Publish k e = let t = and_parts (may r.queue Publish) (are_whole r.ledger.posted) e in later-by r.queue (tx_quiesced r) (tx_quiesced r) Publish t.0 (λ f. f)
  later-changed n r tx.Look k e = later-by r.queue (tx_quiesced r) (tx_quiesced r) Look e (λ f. f)
  later-changed n r tx.Fetch k e = let t = and_parts (may r.queue Fetch) (not r.owed) e in later-by r.queue (tx_quiesced r) (tx_quiesced r) Fetch t.0 (λ f. f)
  later-changed n r tx.Send k e = later-sent n r k (next_posting r) e
  later-changed n r tx.Report k e = later-refl r.queue (tx_quiesced r)
  later-changed n r tx.LoadReport k e = later-loaded n r k (oldest_report r)
  later-changed n r tx.Clean k e = later-cleaned n r k (next_sent r) e
  later-changed n r (tx.Control c) k e = later-by r.queue (tx_quiesced r) (tx_quiesced (tx_changed r (tx.Control c))) (Controls c (tx_settled r)) e (ended-control_step n ends_posting r.queue k.queue c (tx_settled r) e)
  later-changed n r tx.Reclaim k e = later-by r.queue (tx_quiesced r) (tx_quiesced r) Reclaim e (λ f. f)
  later-changed n r tx.ClearHead k e = later-by r.queue (tx_quiesced r) (has_ended (by r.queue ClearHead).handshake) ClearHead e (λ f. ended-close n r k (by r.queue ClearHead).handshake refl refl f)
  later-changed n r tx.ClearTail k e = later-cleared n r k (by_head r.completion) e
  later-changed n r tx.ClearReport k e = let t = and_parts (by_head r.completion) (may r.queue Renew) e in later-by r.queue (tx_quiesced r) (has_ended (by r.queue Renew).handshake) Renew t.1 tt

  pub tx_later-all : (n : ℕ) (r : TxRing Payload) (more : List (TxStep (Posting Payload))) → IsTxKept Payload n r → TxLater r (tx_after_all r more)
  tx_later-all n r more k = later-all tx_can tx_changed (IsTxKept Payload n) (λ q s j may. tx_kept-changed n q j s may) TxLater (λ q. later-refl q.queue (tx_quiesced q))
      (λ a b c x y. later-trans a.queue b.queue c.queue (tx_quiesced a) (tx_quiesced b) (tx_quiesced c) x y) (λ q s j may. later-changed n q s j may) r more k
