-- Every receive ring that a schedule gives is kept, so it is lawful and concluded; and whatever schedule goes on from it, the ring after is later.
use Rattle.std.proofs.Common.{◌≡◌, ℕ, ◌<◌, inr, ⊎_elim, true, not, ◌&&◌, List, Option, Some, None, refl}
use Rattle.std.specs.Prelude.{nat_lt}
use Rattle.std.proofs.lemmas.Bool.{and_parts, and_from, lt-ltb}
use Rattle.std.proofs.lemmas.Option.{slice_get_within}
use Rattle.ring_model.specs.declared.states.DriverState.TheVariants.{Cleared, Tailed}
use Rattle.ring_model.specs.declared.steps.RxStep.{RxStep}
use Rattle.ring_model.specs.declared.steps.RxStep.TheVariants as rx
use Rattle.ring_model.specs.shared.Handshakes.{is_live, is_serving}
use Rattle.ring_model.specs.shared.QueueSteps.{Post, Publish, Look, Fetch, Complete, Head, Reap, Controls, Reclaim, ClearHead, ClearTail, Renew}
use Rattle.ring_model.specs.shared.Queue.{posted_count, completed_count, reaped_count, may}
use Rattle.ring_model.specs.receive.Ring.{RxRing, rx_opening, due, is_whole, next_segment}
use Rattle.ring_model.specs.shared.Segments.{Segment}
use Rattle.ring_model.specs.receive.Steps.{IsRxReachable, rx_after_all, rx_can, rx_changed, rx_settled, took}
use Rattle.ring_model.specs.receive.Lawful.{IsLawfulRx, IsLawfulRxLedger}
use Rattle.ring_model.specs.receive.Laws.{IsRxConcluded, RxLater, rx_quiesced}
use Rattle.ring_model.proofs.shared.Fixed.{later-refl, later-trans, later-by, same-lists}
use Rattle.ring_model.proofs.shared.Reached.{ordered, concluded, lawful}
use Rattle.ring_model.proofs.shared.Reaching.{kept-reached, later-all}
use Rattle.ring_model.specs.shared.Laws.{IsOrdered}
use Rattle.ring_model.specs.kept.Receive.{IsRxKept}
use Rattle.ring_model.proofs.receive.Quiesced.{quiesced-parts, quiesced-quiet, quiesced-close, quiesced-control_step, held-unover}
use Rattle.ring_model.proofs.receive.Stepping.{rx_kept-opening, rx_kept-changed, rx_ledger}

module _ {Payload : Type 0} where
  pub rx_kept : (n : ℕ) (r : RxRing Payload) → 1 < n → IsRxReachable Payload n r → IsRxKept Payload n r
  rx_kept n r h e = kept-reached rx_can rx_changed (IsRxKept Payload n) (λ q s k may. rx_kept-changed n q k s may) (rx_opening n) (λ b. rx_kept-opening n b h) r e

  pub rx_lawful : (n : ℕ) (r : RxRing Payload) → IsRxKept Payload n r → IsLawfulRx Payload r
  rx_lawful n r k = lawful n r.queue k.queue (IsLawfulRxLedger Payload) (rx_ledger n r k) k.past

  -- an ended controller has a whole ring, and so has one that said that it is quiet
  whole_quiesced : (n : ℕ) (r : RxRing Payload) → IsRxKept Payload n r → rx_quiesced r ≡ true → is_whole r ≡ true
  whole_quiesced n r k e = let q = k.queue in ⊎_elim (λ a. q.whole a) (λ b. k.finished b.0 b.1) (quiesced-parts r.handshake r.still e)

  pub rx_ordered : (n : ℕ) (r : RxRing Payload) → IsRxKept Payload n r → IsOrdered r.queue
  rx_ordered n r k = ordered n r.queue k.queue

  pub rx_concluded : (n : ℕ) (r : RxRing Payload) → IsRxKept Payload n r → IsRxConcluded r
  rx_concluded n r k = record { queue = concluded n r.queue k.queue; whole = whole_quiesced n r k; bit = k.bit; quiet = k.quiet; said = k.said }

  later-took : (n : ℕ) (r : RxRing Payload) → IsRxKept Payload n r → (found : Option (Segment Payload)) → due r ≡ found → is_live r.handshake.driver ≡ true → RxLater r (took r found)
  later-took n r k None e live = later-refl r.queue (rx_quiesced r)
  later-took n r k (Some s) e live = let more = slice_get_within r.ledger.completed (reaped_count r.queue) s e in
      later-by r.queue (rx_quiesced r) (rx_quiesced r) (Reap s) (and_from (is_live r.handshake.driver) (nat_lt (reaped_count r.queue) (completed_count r.queue)) live (lt-ltb (reaped_count r.queue) (completed_count r.queue) more)) (λ f. f)

  later-changed : (n : ℕ) (r : RxRing Payload) (s : RxStep Payload) → IsRxKept Payload n r → rx_can r s ≡ true → RxLater r (rx_changed r s)
  later-changed n r (rx.Post b) k e = later-by r.queue (rx_quiesced r) (rx_quiesced r) (Post b) e (λ f. f)
  later-changed n r rx.Publish k e = later-by r.queue (rx_quiesced r) (rx_quiesced r) Publish e (λ f. f)
  later-changed n r rx.Look k e = later-by r.queue (rx_quiesced r) (rx_quiesced r) Look e (λ f. f)
  later-changed n r rx.Fetch k e = let t = and_parts (may r.queue Fetch) (not r.still) e in later-by r.queue (rx_quiesced r) (rx_quiesced r) Fetch t.0 (λ f. f)
  later-changed n r (rx.Store x eop) k e = later-by r.queue (rx_quiesced r) (rx_quiesced r) (Complete (next_segment r x eop)) e (held-unover n r k e)
  later-changed n r rx.Take k e = let t = and_parts (is_live r.handshake.driver) (nat_lt (reaped_count r.queue) (posted_count r.queue)) e in later-took n r k (due r) refl t.0
  later-changed n r rx.Head k e = later-by r.queue (rx_quiesced r) (rx_quiesced r) Head e (λ f. f)
  later-changed n r (rx.Control c) k e = later-by r.queue (rx_quiesced r) (rx_quiesced (rx_changed r (rx.Control c))) (Controls c (rx_settled r)) e (quiesced-control_step n r k c e)
  later-changed n r rx.Reclaim k e = later-by r.queue (rx_quiesced r) (rx_quiesced r) Reclaim e (λ f. f)
  later-changed n r rx.StoreQuiet k e = let t = and_parts (is_serving r.handshake.controller && not r.held) (is_whole r) e in let u = and_parts (is_serving r.handshake.controller) (not r.held) t.0 in
      inr (same-lists r.queue r.queue (rx_quiesced r) (rx_quiesced (rx_changed r rx.StoreQuiet)) refl refl (λ f. f) (λ f. quiesced-quiet r.handshake true u.0 refl) (λ f. f))
  later-changed n r rx.LoadQuiet k e = later-refl r.queue (rx_quiesced r)
  later-changed n r rx.ClearHead k e = later-by r.queue (rx_quiesced r) (rx_quiesced (rx_changed r rx.ClearHead)) ClearHead e (λ f. quiesced-close r.handshake (record r.handshake { driver = Cleared }) r.still refl refl f)
  later-changed n r rx.ClearTail k e = later-by r.queue (rx_quiesced r) (rx_quiesced (rx_changed r rx.ClearTail)) ClearTail e (λ f. quiesced-close r.handshake (record r.handshake { driver = Tailed }) r.still refl refl f)
  later-changed n r rx.ClearQuiet k e = later-by r.queue (rx_quiesced r) (rx_quiesced (rx_changed r rx.ClearQuiet)) Renew e tt

  pub rx_later-all : (n : ℕ) (r : RxRing Payload) (more : List (RxStep Payload)) → IsRxKept Payload n r → RxLater r (rx_after_all r more)
  rx_later-all n r more k = later-all rx_can rx_changed (IsRxKept Payload n) (λ q s j may. rx_kept-changed n q j s may) RxLater (λ q. later-refl q.queue (rx_quiesced q))
      (λ a b c x y. later-trans a.queue b.queue c.queue (rx_quiesced a) (rx_quiesced b) (rx_quiesced c) x y) (λ q s j may. later-changed n q s j may) r more k
