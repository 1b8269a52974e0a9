-- A receive machine follows its ring, step by step and through every schedule.
use Rattle.std.proofs.Common.{◌≡◌, ℕ, ◌+◌, ◌<◌, Bool, true, false, List, [], ◌∷◌, ◌++◌, Option, Some, None, sym, refl, ◌∙◌}
use Rattle.std.specs.Prelude.{Result, Err}
use Rattle.ring_model.specs.declared.steps.RxStep.{RxStep}
use Rattle.ring_model.specs.declared.steps.RxStep.TheVariants.{Take}
use Rattle.ring_model.specs.declared.notes.Note.{Note}
use Rattle.ring_model.specs.receive.Ring.{RxRing, due, rx_opening}
use Rattle.ring_model.specs.shared.Segments.{Segment, ends_segment}
use Rattle.ring_model.specs.receive.Steps.{IsRxReachable, rx_can, rx_changed, rx_note_of, took}
use Rattle.ring_laws.specs.Schedules.{reached-more}
use Rattle.ring_model.proofs.shared.Reaching.{kept-reached}
use Rattle.ring_model.specs.kept.Receive.{IsRxKept}
use Rattle.ring_laws.specs.Rings.{rx_kept}
use Rattle.refusals.specs.declared.errors.MachineError.{MachineError}
use Rattle.refusals.specs.declared.errors.MachineError.TheVariants as refusal
use Rattle.ring_machine.specs.shared.Following.{count_of}
use Rattle.ring_machine.specs.code.Sound.{IsSound}
use Rattle.ring_machine.specs.shared.Machine.{told_owner}
use Rattle.ring_machine.specs.receive.Machine.{RxAgrees, RxFollows, RxOwns, RxParts, RxRuns, buffer_rx, word_rx}
use Rattle.ring_machine.specs.code.Receive.{rx_begun, rx_may, rx_moved, rx_told}
use Rattle.ring_machine.proofs.shared.Running.{did-made, did-refused, kept-there, runs-answer, runs-append, runs-nil}
use Rattle.ring_machine.proofs.shared.ControlStepping.{fits-begun}
use Rattle.ring_machine.proofs.shared.Owning.{owns}
use Rattle.ring_machine.proofs.receive.Telling.{itself, named, rx_may_is, rx_told_is}
use Rattle.ring_machine.proofs.receive.Moving.{rx_fits-moved}

took-size : (r : RxRing ℕ) (o : Option (Segment ℕ)) → (took r o).size ≡ r.size
took-size r None = refl
took-size r (Some s) = refl

changed-size : (r : RxRing ℕ) (s : RxStep ℕ) → (rx_changed r s).size ≡ r.size
changed-size r Take = took-size r (due r)
changed-size r _ = refl

-- a ring has as many places as the one that its schedule began with
pub rx_reached-size : (n : ℕ) (r : RxRing ℕ) → IsRxReachable ℕ n r → r.size ≡ n
rx_reached-size n r e = kept-reached rx_can rx_changed (λ (q : RxRing ℕ). q.size ≡ n) (λ q s same may. changed-size q s ∙ same) (rx_opening n) (λ b. refl) r e

-- a ring that a schedule gave and that a machine agrees with is kept
pub rx_meets : (p : RxParts) (n : ℕ) (r : RxRing ℕ) → IsSound p.queue → IsRxReachable ℕ n r → RxAgrees p r → IsRxKept ℕ r.size r
rx_meets p n r sound e a = let q = a.queue in kept-there (λ m. IsRxKept ℕ m r) n r.size p.queue.size (rx_reached-size n r e) sound.some_places q.size_is (λ some. rx_kept n r some e)

pub rx_moves-on : (p : RxParts) (s : RxStep ℕ) → IsSound p.queue → rx_may p s ≡ true → RxFollows p s (rx_told p s) (rx_moved p s)
unfolding RxFollows
rx_moves-on p s sound may n r e a = let k = rx_meets p n r sound e a in let happens : rx_can r s ≡ true = sym (rx_may_is p r k a s) ∙ may in
    rw (rx_told_is p r k a s happens) (did-made RxAgrees (IsRxReachable ℕ) rx_can rx_changed rx_note_of p (rx_moved p s) r s happens (rx_fits-moved p r k a sound s happens))

pub rx_refuses : (p : RxParts) (s : RxStep ℕ) → IsSound p.queue → rx_may p s ≡ false → RxFollows p s (Err refusal.NotEnabled) p
unfolding RxFollows
rx_refuses p s sound may n r e a = let k = rx_meets p n r sound e a in did-refused RxAgrees (IsRxReachable ℕ) rx_can rx_changed rx_note_of p r s (sym (rx_may_is p r k a s) ∙ may) a

-- a machine as it is made agrees with the opening ring
pub rx_begun-agrees : (n : ℕ) (enabled : Bool) → 0 < n → RxAgrees (rx_begun n enabled) (rx_opening n enabled)
rx_begun-agrees n enabled some = record { queue = fits-begun ends_segment word_rx buffer_rx n enabled some; quiet = refl; still = refl }

-- whatever a step answers, it is a schedule of one step, which is counted where it was made
pub rx_runs-answer : (a b : RxParts) (s : RxStep ℕ) (told : Result Note MachineError) → RxFollows a s told b → RxRuns a (s ∷ []) (count_of told) b
unfolding RxFollows RxRuns
rx_runs-answer a b s told follows = runs-answer RxAgrees (IsRxReachable ℕ) rx_can rx_changed rx_note_of a b s told follows

pub rx_runs-nil : (a : RxParts) → RxRuns a [] 0 a
unfolding RxRuns
rx_runs-nil a = runs-nil RxAgrees (IsRxReachable ℕ) rx_can rx_changed rx_note_of a

-- one schedule after another
pub rx_runs-append : (a b c : RxParts) (ss more : List (RxStep ℕ)) (x y : ℕ) → RxRuns a ss x b → RxRuns b more y c → RxRuns a (ss ++ more) (x + y) c
unfolding RxRuns
rx_runs-append a b c ss more x y f g = runs-append RxAgrees (IsRxReachable ℕ) rx_can rx_changed rx_note_of (λ n r ss e. reached-more rx_can rx_changed (rx_opening n) r ss e) a b c ss more x y f g

pub rx_owns : (p : RxParts) (place : ℕ) → IsSound p.queue → place < p.queue.size → RxOwns p place (told_owner p.queue place)
unfolding RxOwns
rx_owns p place sound below n r e a = let k = rx_meets p n r sound e a in owns ends_segment word_rx buffer_rx itself p.queue r.queue k.queue a.queue (named p r k a) place below
