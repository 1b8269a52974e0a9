-- What a kept queue is: it is lawful where its ledgers are; its counts stand in their order, and where the controller has ended, the head tells how many were served.
use Rattle.std.proofs.Common.{◌≡◌, ℕ, Bool, Some, sym, subst}
use Rattle.std.specs.Prelude.{slice_get}
use Rattle.ring_model.specs.shared.Queue.{Ledger, Queue}
use Rattle.ring_model.specs.shared.Lawful.{IsLawfulQueue}
use Rattle.ring_model.specs.shared.Laws.{IsConcluded, IsOrdered}
use Rattle.ring_model.specs.kept.Queues.{IsKept}
use Rattle.ring_model.proofs.shared.ControlSteps.{ended_full}
use Rattle.ring_model.proofs.shared.Stepping.{answered_has_ended}

module _ {Posted Completed Reaped : Type 0} (n : ℕ) {ends : Completed → Bool} (q : Queue Posted Completed Reaped) (k : IsKept n ends q) where
  pub ordered : IsOrdered q
  ordered = let o = k.order in record {
    reaped_completed = o.reaped_completed;
    completed_posted = o.completed_posted;
    returned_posted = o.returned_posted;
    published_posted = o.published_posted;
    known_published = o.known_published;
    completed_known = o.completed_known;
    held_known = o.held_known;
    held_serving = o.held_serving;
    not_reclaimed = o.not_reclaimed;
    none_completed = o.none_completed;
    all_back = o.all_back;
  }

  -- a ledger that is lawful for n is so for the queue, which has n places
  pub lawful : (Lawful : ℕ → Ledger Posted Completed Reaped → Type 0) → Lawful n q.ledger → ((i : ℕ) (l : Ledger Posted Completed Reaped) → slice_get q.past i ≡ Some l → Lawful n l) → IsLawfulQueue Lawful q
  lawful Lawful now before = record {
    ledger = subst (λ (m : ℕ). Lawful m q.ledger) (sym k.size_is) now;
    past = λ i l e. subst (λ (m : ℕ). Lawful m l) (sym k.size_is) (before i l e);
    map = k.map;
  }

  pub concluded : IsConcluded q
  concluded = let h = q.handshake in let s = k.handshake_fits in record {
    ended = answered_has_ended n ends q k;
    head = λ e l. let t = ended_full h.driver h.controller h.control h.seen e l s.control_fits in k.told e t.0 t.1;
  }
