-- A transmit machine follows its ring, step by step and through every schedule.
use Rattle.std.proofs.Common.{◌≡◌, ℕ, ◌+◌, ◌<◌, Bool, true, false, List, [], ◌∷◌, ◌++◌, Option, Some, None, sym, refl, ◌∙◌, if◌then◌else◌, mod-eq_of_lt}
use Rattle.std.specs.Prelude.{Result, nat_lt, Err}
use Rattle.std.proofs.lemmas.Option.{none-some}
use Rattle.ring_model.specs.declared.steps.TxStep.{TxStep}
use Rattle.ring_model.specs.declared.steps.TxStep.TheVariants.{Send, LoadReport, Clean, ClearTail}
use Rattle.ring_model.specs.declared.notes.Note.{Note}
use Rattle.ring_model.specs.transmit.Ring.{Posting, TxBeginning, TxRing, ends_posting, next_posting, next_sent, number_of_posting, tx_opening}
use Rattle.ring_model.specs.transmit.Steps.{IsTxReachable, by_head, cleaned_one, loaded_report, oldest_report, sent_one, tx_can, tx_changed, tx_cleared, tx_note_of}
use Rattle.ring_model.specs.transmit.Agreement.{is_told}
use Rattle.ring_laws.specs.Schedules.{reached-more}
use Rattle.ring_model.proofs.shared.Reaching.{kept-reached}
use Rattle.ring_model.specs.kept.Transmit.{IsTxKept}
use Rattle.ring_laws.specs.Rings.{tx_kept}
use Rattle.ring_machine.specs.shared.Following.{count_of}
use Rattle.refusals.specs.declared.errors.MachineError.{MachineError}
use Rattle.refusals.specs.declared.errors.MachineError.TheVariants as refusal
use Rattle.ring_machine.specs.shared.Machine.{told_owner}
use Rattle.ring_machine.specs.transmit.Machine.{TxAgrees, TxFollows, TxOwns, TxParts, TxRuns, buffer_tx, word_tx}
use Rattle.ring_machine.specs.code.Sound.{IsSound}
use Rattle.ring_machine.specs.code.TxSound.{IsTxSound, StepFits}
use Rattle.ring_machine.specs.code.Transmit.{tx_begun, tx_may, tx_moved, tx_told}
use Rattle.ring_machine.proofs.shared.Running.{did-made, did-refused, kept-there, runs-answer, runs-append, runs-nil}
use Rattle.ring_machine.proofs.shared.ControlStepping.{fits-begun}
use Rattle.ring_machine.proofs.shared.Owning.{owns}
use Rattle.ring_machine.proofs.transmit.Telling.{named, tx_may_is, tx_told_is}
use Rattle.ring_machine.proofs.transmit.Moving.{tx_fits-moved}

sent-size : (r : TxRing ℕ) (o : Option (Posting ℕ)) → (sent_one r o).size ≡ r.size
sent-size r None = refl
sent-size r (Some q) = refl

seen-size : (r : TxRing ℕ) (j : ℕ) (seen : Bool) → (if seen then record r { seen_reported = j + 1 } else r).size ≡ r.size
seen-size r j true = refl
seen-size r j false = refl

loaded-size : (r : TxRing ℕ) (o : Option ℕ) → (loaded_report r o).size ≡ r.size
loaded-size r None = refl
loaded-size r (Some j) = seen-size r j (nat_lt j r.reported)

cleaned-size : (r : TxRing ℕ) (o : Option (Posting ℕ)) → (cleaned_one r o).size ≡ r.size
cleaned-size r None = refl
cleaned-size r (Some q) = refl

cleared-size : (r : TxRing ℕ) (head : Bool) → (tx_cleared r head).size ≡ r.size
cleared-size r true = refl
cleared-size r false = refl

changed-size : (r : TxRing ℕ) (s : TxStep (Posting ℕ)) → (tx_changed r s).size ≡ r.size
changed-size r Send = sent-size r (next_posting r)
changed-size r LoadReport = loaded-size r (oldest_report r)
changed-size r Clean = cleaned-size r (next_sent r)
changed-size r ClearTail = cleared-size r (by_head r.completion)
changed-size r _ = refl

-- a ring has as many places as the one that its schedule began with
pub tx_reached-size : (n : ℕ) (r : TxRing ℕ) → IsTxReachable ℕ n r → r.size ≡ n
tx_reached-size n r e = kept-reached tx_can tx_changed (λ (q : TxRing ℕ). q.size ≡ n) (λ q s same may. changed-size q s ∙ same) (tx_opening n) (λ b. refl) r e

-- a ring that a schedule gave and that a machine agrees with is kept
pub tx_meets : (p : TxParts) (n : ℕ) (r : TxRing ℕ) → IsSound p.queue → IsTxReachable ℕ n r → TxAgrees p r → IsTxKept ℕ r.size r
tx_meets p n r sound e a = let q = a.queue in kept-there (λ m. IsTxKept ℕ m r) n r.size p.queue.size (tx_reached-size n r e) sound.some_places q.size_is (λ some. tx_kept n r some e)

pub tx_moves-on : (p : TxParts) (s : TxStep (Posting ℕ)) → IsTxSound p → StepFits s → tx_may p s ≡ true → TxFollows p s (tx_told p s) (tx_moved p s)
unfolding TxFollows
tx_moves-on p s sound short may n r e a = let k = tx_meets p n r sound.queue e a in let happens : tx_can r s ≡ true = sym (tx_may_is p r k a s) ∙ may in
    rw (tx_told_is p r k a s happens) (did-made TxAgrees (IsTxReachable ℕ) tx_can tx_changed tx_note_of p (tx_moved p s) r s happens (tx_fits-moved p r k a sound s short happens))

pub tx_refuses : (p : TxParts) (s : TxStep (Posting ℕ)) → IsTxSound p → tx_may p s ≡ false → TxFollows p s (Err refusal.NotEnabled) p
unfolding TxFollows
tx_refuses p s sound may n r e a = let k = tx_meets p n r sound.queue e a in did-refused TxAgrees (IsTxReachable ℕ) tx_can tx_changed tx_note_of p r s (sym (tx_may_is p r k a s) ∙ may) a

-- a machine as it is made agrees with the opening ring
pub tx_begun-agrees : (n : ℕ) (b : TxBeginning) → 0 < n → TxAgrees (tx_begun n b) (tx_opening n b)
tx_begun-agrees n b some = record {
  queue = fits-begun ends_posting (word_tx (is_told {Payload = ℕ} (tx_opening n b))) buffer_tx n b.enabled some;
  completion = refl;
  report = λ e. sym (mod-eq_of_lt some);
  rep = sym (mod-eq_of_lt some);
  ends = refl;
  owed = refl;
  lengths = λ j q x e. absurd (none-some q e);
}

-- whatever a step answers, it is a schedule of one step, which is counted where it was made
pub tx_runs-answer : (a b : TxParts) (s : TxStep (Posting ℕ)) (told : Result Note MachineError) → TxFollows a s told b → TxRuns a (s ∷ []) (count_of told) b
unfolding TxFollows TxRuns
tx_runs-answer a b s told follows = runs-answer TxAgrees (IsTxReachable ℕ) tx_can tx_changed tx_note_of a b s told follows

pub tx_runs-nil : (a : TxParts) → TxRuns a [] 0 a
unfolding TxRuns
tx_runs-nil a = runs-nil TxAgrees (IsTxReachable ℕ) tx_can tx_changed tx_note_of a

-- one schedule after another
pub tx_runs-append : (a b c : TxParts) (ss more : List (TxStep (Posting ℕ))) (x y : ℕ) → TxRuns a ss x b → TxRuns b more y c → TxRuns a (ss ++ more) (x + y) c
unfolding TxRuns
tx_runs-append a b c ss more x y f g = runs-append TxAgrees (IsTxReachable ℕ) tx_can tx_changed tx_note_of (λ n r ss e. reached-more tx_can tx_changed (tx_opening n) r ss e) a b c ss more x y f g

pub tx_owns : (p : TxParts) (place : ℕ) → IsSound p.queue → place < p.queue.size → TxOwns p place (told_owner p.queue place)
unfolding TxOwns
tx_owns p place sound below n r e a = let k = tx_meets p n r sound e a in owns ends_posting (word_tx (is_told r)) buffer_tx number_of_posting p.queue r.queue k.queue a.queue (named p r k a) place below
