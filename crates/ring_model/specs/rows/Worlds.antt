-- Worked rows of two pairs side by side: the queue of each step, and its note.
use Rattle.std.specs.Prelude.{◌≡◌, ℕ, true, false, List, [], ◌∷◌, map, length, Option, None}
use Rattle.ring_model.specs.declared.steps.ControlStep.TheVariants.{AskEnable, LookAsked, Answer}
use Rattle.ring_model.specs.declared.steps.RxStep.TheVariants as rx
use Rattle.ring_model.specs.declared.steps.TxStep.TheVariants as tx
use Rattle.ring_model.specs.declared.states.Completion.TheVariants as by
use Rattle.ring_model.specs.declared.notes.Note.{Note}
use Rattle.ring_model.specs.shared.Schedules.{next}
use Rattle.ring_model.specs.rows.Told.{place, tail, head, buffer, control}
use Rattle.ring_model.specs.receive.Ring.{RxRing}
use Rattle.ring_model.specs.rows.Receive.{free, fetched, taken, nothing}
use Rattle.ring_model.specs.transmit.Ring.{TxRing}
use Rattle.ring_model.specs.rows.Transmit.{frame, ready, sending, reported}
use Rattle.ring_model.specs.Worlds.{QueueMove, Receive, Transmit, World, after_move, after_moves, can_move, moves_happened, note_in, opening_world}

abbrev two_pairs : World
two_pairs = opening_world 2 8 (record { enabled = true; completion = by.Status })

abbrev two_off : World
two_off = opening_world 2 8 (record { enabled = false; completion = by.Head })

abbrev notes_in : World → List QueueMove → List (Option Note)
notes_in w [] = []
notes_in w (m ∷ ms) = note_in w m ∷ notes_in (next can_move after_move w m) ms

-- A frame into each receive queue and one out of transmit queue 1, with the steps of all four queues mixed. There is no
-- third pair.
abbrev mixed : List QueueMove
mixed = Receive 0 (rx.Post 5) ∷ Receive 1 (rx.Post 6) ∷ Transmit 1 (tx.Post (frame 7 true)) ∷ Receive 1 (rx.Post 8) ∷ Receive 0 rx.Publish ∷ Transmit 0 tx.Publish ∷ Receive 1 rx.Publish ∷ Transmit 1 tx.Publish
    ∷ Receive 2 (rx.Post 9) ∷ Transmit 2 tx.Publish ∷ Receive 1 rx.Look ∷ Receive 0 rx.Look ∷ Receive 0 rx.Fetch ∷ Receive 0 rx.Fetch ∷ Receive 1 rx.Fetch ∷ Receive 1 (rx.Store 61 true) ∷ Receive 1 rx.Head
    ∷ Receive 0 rx.Take ∷ Receive 0 (rx.Store 60 false) ∷ Transmit 0 tx.Look ∷ Transmit 1 tx.Look ∷ Transmit 0 tx.Fetch ∷ Transmit 1 tx.Fetch ∷ Receive 0 rx.Take ∷ Receive 1 rx.Take ∷ Transmit 1 tx.Send
    ∷ Transmit 1 tx.Report ∷ Transmit 0 (tx.Post (frame 4 true)) ∷ Transmit 1 tx.LoadReport ∷ Transmit 1 tx.Clean ∷ Receive 1 rx.Take ∷ Receive 0 rx.Take ∷ []

-- One queue of each direction is enabled, and the others are not.
abbrev enabling : List QueueMove
enabling = Receive 1 (rx.Control AskEnable) ∷ Transmit 0 (tx.Control AskEnable) ∷ Receive 0 (rx.Control LookAsked) ∷ Receive 1 (rx.Control LookAsked) ∷ Receive 0 (rx.Control Answer) ∷ Receive 1 (rx.Control Answer)
    ∷ Transmit 1 (tx.Control LookAsked) ∷ Transmit 0 (tx.Control LookAsked) ∷ Transmit 1 (tx.Control Answer) ∷ Transmit 0 (tx.Control Answer) ∷ Receive 0 rx.Look ∷ Receive 1 rx.Look ∷ Transmit 1 tx.Look ∷ Transmit 0 tx.Look ∷ []

pub record WorldRows : Type 0 where
  pub mixed_notes : notes_in two_pairs mixed
      ≡ place 0 ∷ place 0 ∷ place 0 ∷ place 1 ∷ tail 1 ∷ tail 0 ∷ tail 2 ∷ tail 1 ∷ None ∷ None ∷ free 2 ∷ free 1 ∷ fetched 0 5 ∷ None ∷ fetched 0 6 ∷ place 0 ∷ head 1
      ∷ nothing ∷ place 0 ∷ ready 0 ∷ ready 1 ∷ None ∷ sending 0 7 true ∷ taken 5 60 false ∷ taken 6 61 true ∷ head 1 ∷ place 0 ∷ place 0 ∷ reported 0 ∷ buffer 7 ∷ nothing ∷ None ∷ []
  -- Of the 32 moves, two have no queue and three cannot happen.
  pub mixed_count : moves_happened two_pairs mixed ≡ 27
  pub sizes : map (λ (r : TxRing ℕ). r.size) two_pairs.transmit ≡ 8 ∷ 8 ∷ []
  pub posted : map (λ (r : RxRing ℕ). length r.ledger.posted) (after_moves two_pairs mixed).receive ≡ 1 ∷ 2 ∷ []
  pub taken_lengths : map (λ (r : RxRing ℕ). length r.ledger.reaped) (after_moves two_pairs mixed).receive ≡ 1 ∷ 1 ∷ []
  pub sent : map (λ (r : TxRing ℕ). length r.ledger.completed) (after_moves two_pairs mixed).transmit ≡ 0 ∷ 1 ∷ []
  pub enabling_notes : notes_in two_off enabling
      ≡ control 1 ∷ control 1 ∷ control 0 ∷ control 1 ∷ None ∷ control 2 ∷ control 0 ∷ control 1 ∷ None ∷ control 2 ∷ None ∷ free 0 ∷ None ∷ ready 0 ∷ []
