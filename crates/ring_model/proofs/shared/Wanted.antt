-- What a fetch changes of the slots that items want.
use Rattle.std.proofs.Common.{◌≡◌, ◌≢◌, ℕ, Bool, Option, None, sym, refl, ap, ◌∙◌, if◌then◌else◌}
use Rattle.std.specs.Prelude.{slice_get, ◌==◌}
use Rattle.std.proofs.lemmas.Bool.{and_right, eq-eqb, ne_eqb}
use Rattle.ring_model.specs.shared.QueueSteps.{Fetch}
use Rattle.ring_model.specs.shared.Queue.{Queue, completed_count, by}
use Rattle.ring_model.specs.shared.Agreement.{wanted_slot}

module _ {Posted Completed Reaped Buffer : Type 0} (word_of_item : ℕ → Option Posted → Option Completed → ℕ) (buffer_of_item : Option Posted → Option Completed → Option Buffer) (q : Queue Posted Completed Reaped) where
  -- an item other than the one that is fetched wants what it wanted
  pub fetch_rest : (j : ℕ) → j ≢ completed_count q → wanted_slot {Reaped = Reaped} word_of_item buffer_of_item (by q Fetch) j ≡ wanted_slot {Reaped = Reaped} word_of_item buffer_of_item q j
  fetch_rest j ne = let other = ne_eqb j (completed_count q) ne in
      let chosen : Bool → Option Buffer = λ (b : Bool). if b then None else buffer_of_item (slice_get q.ledger.posted j) (slice_get q.ledger.completed j) in
      ap chosen other ∙ sym (ap chosen (and_right q.held (j == completed_count q) other))

  pub fetch_here : wanted_slot {Reaped = Reaped} word_of_item buffer_of_item (by q Fetch) (completed_count q) ≡ None
  fetch_here = let same = eq-eqb (completed_count q) (completed_count q) refl in rw same refl
