-- What is read of a machine's words is what its ring says.
use Rattle.std.proofs.Common.{◌≡◌, ℕ, Bool, List, Option, Some, None, sym, refl, ap, subst, arith}
use Rattle.std.specs.Prelude.{option_map, slice_get}
use Rattle.std.proofs.lemmas.Option.{slice_get_within}
use Rattle.ring_model.specs.shared.Agreement.{Agrees, Wrapped}
use Rattle.ring_model.specs.shared.Queue.{Queue}
use Rattle.ring_model.specs.shared.Segments.{ends_segment}
use Rattle.ring_model.specs.receive.Ring.{RxRing}
use Rattle.ring_model.specs.transmit.Agreement.{is_told}
use Rattle.ring_model.specs.transmit.Ring.{TxRing, ends_posting}
use Rattle.ring_machine.specs.declared.moves.Move.{Move}
use Rattle.ring_machine.specs.declared.moves.Move.TheVariants.{Receive, Transmit}
use Rattle.ring_machine.specs.declared.registers.Registers.{Registers}
use Rattle.ring_machine.specs.declared.registers.QueueKind.{QueueKind}
use Rattle.ring_machine.specs.declared.registers.QueueKind.TheVariants as kind
use Rattle.ring_machine.specs.receive.Machine.{RxAgrees, RxParts, buffer_rx, word_rx}
use Rattle.ring_machine.specs.transmit.Machine.{TxAgrees, TxParts, buffer_tx, word_tx}
use Rattle.ring_machine.specs.Queues.{AllAgree, QueueParts}
use Rattle.ring_machine.specs.Registers.{QueuesRead, registers_held, registers_of}
use Rattle.ring_machine.proofs.SideBySide.{found-within}

pub registers-agree : {Posted Completed Reaped : Type 0} (s : QueueKind) (ends : Completed → Bool) (word_of_item : ℕ → Option Posted → Option Completed → ℕ) (buffer_of_item : Option Posted → Option Completed → Option ℕ)
    (w : Wrapped ℕ) (q : Queue Posted Completed Reaped) → Agrees {Reaped = Reaped} ends word_of_item buffer_of_item w q → registers_held s w ≡ registers_of s q
registers-agree s ends word_of_item buffer_of_item w q a = rw (a.head, a.tail, a.handshake) refl

rx-registers : (p : RxParts) (r : RxRing ℕ) → RxAgrees p r → registers_held kind.Receive p.queue ≡ registers_of kind.Receive r.queue
rx-registers p r a = registers-agree kind.Receive ends_segment word_rx buffer_rx p.queue r.queue a.queue

tx-registers : (p : TxParts) (r : TxRing ℕ) → TxAgrees p r → registers_held kind.Transmit p.queue ≡ registers_of kind.Transmit r.queue
tx-registers p r a = registers-agree kind.Transmit ends_posting (word_tx (is_told r)) buffer_tx p.queue r.queue a.queue

-- what is read of one of several machines is what is read of the ring of its number
module _ {A B X : Type 0} (Agree : A → B → Type 0) (of_machine : A → X) (of_ring : B → X) (same : (x : A) (y : B) → Agree x y → of_machine x ≡ of_ring y) where
  read-found : (xs : List A) (ys : List B) (q : ℕ) → AllAgree Agree xs ys → (x : Option A) (y : Option B) → slice_get xs q ≡ x → slice_get ys q ≡ y → option_map of_machine x ≡ option_map of_ring y
  read-found xs ys q a None None e f = refl
  read-found xs ys q a (Some x) (Some y) e f = ap Some (same x y (a.each q x y e f))
  read-found xs ys q a None (Some y) e f = let inside = slice_get_within ys q y f in let l = a.lengths in absurd (found-within xs q (omega arith) e)
  read-found xs ys q a (Some x) None e f = let inside = slice_get_within xs q x e in let l = a.lengths in absurd (found-within ys q (omega arith) f)

  read-one : (xs : List A) (ys : List B) (q : ℕ) → AllAgree Agree xs ys → option_map of_machine (slice_get xs q) ≡ option_map of_ring (slice_get ys q)
  read-one xs ys q a = read-found xs ys q a (slice_get xs q) (slice_get ys q) refl refl

-- the registers of the queue that a move names, as the machine has them
abbrev pub registers_at : QueueParts → Move → Option Registers
registers_at p (Receive q s) = option_map (λ m. registers_held kind.Receive m.queue) (slice_get p.receive q)
registers_at p (Transmit q s) = option_map (λ m. registers_held kind.Transmit m.queue) (slice_get p.transmit q)

pub queues_read : (p : QueueParts) (m : Move) → QueuesRead p m (registers_at p m)
unfolding QueuesRead
queues_read p (Receive q s) w a = read-one RxAgrees (λ m. registers_held kind.Receive m.queue) (λ r. registers_of kind.Receive r.queue) rx-registers p.receive w.receive q a.receive
queues_read p (Transmit q s) w a = read-one TxAgrees (λ m. registers_held kind.Transmit m.queue) (λ r. registers_of kind.Transmit r.queue) tx-registers p.transmit w.transmit q a.transmit

pub read_at : (p : QueueParts) (m : Move) (read : Option Registers) → read ≡ registers_at p m → QueuesRead p m read
read_at p m read e = subst (λ (x : Option Registers). QueuesRead p m x) (sym e) (queues_read p m)
