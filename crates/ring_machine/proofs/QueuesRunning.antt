-- Queues follow their world through every schedule of moves.
use Rattle.std.proofs.Common.{◌≡◌, ℕ, suc, ◌+◌, Bool, true, false, List, [], ◌∷◌, ◌++◌, map, Option, Some, None, sym, refl, ap, ◌∙◌, if◌then◌else◌}
use Rattle.std.specs.Prelude.{Result, Ok, Err, slice_get}
use Rattle.std.specs.Option.{ok_or}
use Rattle.std.proofs.lemmas.List.{map-append}
use Rattle.ring_model.specs.declared.notes.Note.{Note}
use Rattle.ring_model.specs.shared.Schedules.{next}
use Rattle.ring_model.specs.receive.Steps.{rx_can, rx_note_of}
use Rattle.ring_model.specs.transmit.Steps.{tx_can, tx_note_of}
use Rattle.ring_model.specs.Worlds.{QueueMove, World, after_move, after_moves, can_at, can_move, note_at, note_in}
use Rattle.ring_model.specs.Worlds as world
use Rattle.ring_laws.specs.Worlds.{reached_world}
use Rattle.refusals.specs.declared.errors.MachineError.{MachineError}
use Rattle.refusals.specs.declared.errors.MachineError.TheVariants as refusal
use Rattle.ring_machine.specs.declared.moves.Move.{Move}
use Rattle.ring_machine.specs.shared.Following.{Did, count_of}
use Rattle.ring_machine.specs.Queues.{QueueParts, QueuesAgree, QueuesFollow, QueuesRun, queue_move}
use Rattle.ring_machine.proofs.shared.Running.{joined}

-- a note is told exactly where the move can happen
abbrev is_told : Option Note → Bool
is_told None = false
is_told (Some t) = true

told-if : (t : Note) (happens : Bool) → is_told (if happens then Some t else None) ≡ happens
told-if t true = refl
told-if t false = refl

told_at : {Ring Step : Type 0} (can : Ring → Step → Bool) (tells : Ring → Step → Note) (found : Option Ring) (s : Step) → is_told (note_at can tells found s) ≡ can_at can found s
told_at can tells None s = refl
told_at can tells (Some r) s = told-if (tells r s) (can r s)

told-can : (w : World) (m : QueueMove) → is_told (note_in w m) ≡ can_move w m
told-can w (world.Receive q s) = told_at rx_can rx_note_of (slice_get w.receive q) s
told-can w (world.Transmit q s) = told_at tx_can tx_note_of (slice_get w.transmit q) s

made_note : (told : Option Note) (t : Note) → Ok t ≡ ok_or told refusal.NotEnabled → told ≡ Some t
made_note None t e = let bad : ⊥ = cc e in absurd bad
made_note (Some u) t e = let same : u ≡ t = cc e in ap Some same

refused_note : (told : Option Note) (why : MachineError) → Err why ≡ ok_or told refusal.NotEnabled → told ≡ None
refused_note None why e = refl
refused_note (Some u) why e = let bad : ⊥ = cc e in absurd bad

-- a note was answered: it is the world's, and the move happened
pub did-made : (w : World) (m : QueueMove) (t : Note) (later : World) (old new : QueueParts) → Did QueuesAgree (note_in w m) later (Ok t) old new → (note_in w m ≡ Some t) × (can_move w m ≡ true)
did-made w m t later old new d = let made = made_note (note_in w m) t d.answer in (made, sym (told-can w m) ∙ ap is_told made)

-- the move was refused: the world has no such step
pub did-refused : (w : World) (m : QueueMove) (why : MachineError) (later : World) (old new : QueueParts) → Did QueuesAgree (note_in w m) later (Err why) old new → (note_in w m ≡ None) × (can_move w m ≡ false)
did-refused w m why later old new d = let none = refused_note (note_in w m) why d.answer in (none, sym (told-can w m) ∙ ap is_told none)

queues_run-one : (a b : QueueParts) (m : Move) (told : Note) → QueuesFollow a m (Ok told) b → QueuesRun a (m ∷ []) 1 b
unfolding QueuesFollow QueuesRun
queues_run-one a b m told follows pairs n w e g = let d = follows pairs n w e g in let t = did-made w (queue_move m) told (next can_move after_move w (queue_move m)) a b d in (d.agrees, sym (ap (λ (happens : Bool). if happens then suc 0 else 0) t.1))

queues_run-refused : (a b : QueueParts) (m : Move) (why : MachineError) → QueuesFollow a m (Err why) b → QueuesRun a (m ∷ []) 0 b
unfolding QueuesFollow QueuesRun
queues_run-refused a b m why follows pairs n w e g = let d = follows pairs n w e g in let t = did-refused w (queue_move m) why (next can_move after_move w (queue_move m)) a b d in (d.agrees, sym (ap (λ (happens : Bool). if happens then suc 0 else 0) t.1))

-- whatever a move answers, it is a schedule of one move, which is counted where it was made
pub queues_run-answer : (a b : QueueParts) (m : Move) (told : Result Note MachineError) → QueuesFollow a m told b → QueuesRun a (m ∷ []) (count_of told) b
queues_run-answer a b m (Ok note) follows = queues_run-one a b m note follows
queues_run-answer a b m (Err why) follows = queues_run-refused a b m why follows

pub queues_run-nil : (a : QueueParts) → QueuesRun a [] 0 a
unfolding QueuesRun
queues_run-nil a pairs n w e g = (g, refl)

-- one schedule after another
pub queues_run-append : (a b c : QueueParts) (ms more : List Move) (x y : ℕ) → QueuesRun a ms x b → QueuesRun b more y c → QueuesRun a (ms ++ more) (x + y) c
unfolding QueuesRun
queues_run-append a b c ms more x y f g pairs n w e h = let first = f pairs n w e h in let second = g pairs n (after_moves w (map queue_move ms)) (reached_world pairs n w (map queue_move ms) e) first.0 in
    rw (map-append queue_move ms more) (joined can_move after_move QueuesAgree c w (map queue_move ms) (map queue_move more) x y first.1 second)
