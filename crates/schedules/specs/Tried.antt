-- The moves that a search tries in each state.
use Rattle.std.specs.Prelude.{◌≡◌, ℕ, Bool, true, false, List, [], ◌∷◌, All, IsTrue}
use Rattle.ring_model.specs.declared.states.Completion.{Completion}
use Rattle.ring_model.specs.declared.states.Completion.TheVariants.{Status}
use Rattle.ring_model.specs.declared.steps.ControlStep.TheVariants as control
use Rattle.ring_model.specs.declared.steps.RxStep.{RxStep}
use Rattle.ring_model.specs.declared.steps.RxStep.TheVariants as rx
use Rattle.ring_model.specs.declared.steps.TxStep.{TxStep}
use Rattle.ring_model.specs.declared.steps.TxStep.TheVariants as tx
use Rattle.ring_model.specs.transmit.Ring.{Posting, new_posting}
use Rattle.ring_machine.specs.declared.moves.Move.{Move}
use Rattle.ring_machine.specs.declared.moves.Move.TheVariants.{Receive, Transmit}
use Rattle.schedules.specs.declared.covering.tried.Scope.{Scope}
use Rattle.schedules.specs.declared.covering.tried.SearchedQueue.{SearchedQueue}
use Rattle.schedules.specs.declared.covering.tried.SearchedQueue.TheVariants as side

abbrev pub completion_of : SearchedQueue → Completion
completion_of side.Receive = Status
completion_of (side.Transmit by) = by

-- kinds A: descriptors, buffers, head and tail
abbrev pub rx_is_data : RxStep ℕ → Bool
rx_is_data (rx.Post b) = true
rx_is_data rx.Publish = true
rx_is_data rx.Look = true
rx_is_data rx.Fetch = true
rx_is_data (rx.Store len eop) = true
rx_is_data rx.Take = true
rx_is_data rx.Head = true
rx_is_data _ = false

-- kinds B
abbrev pub tx_is_data : TxStep (Posting ℕ) → Bool
tx_is_data (tx.Post p) = true
tx_is_data tx.Publish = true
tx_is_data tx.Look = true
tx_is_data tx.Fetch = true
tx_is_data tx.Send = true
tx_is_data tx.Report = true
tx_is_data tx.LoadReport = true
tx_is_data tx.Clean = true
tx_is_data _ = false

-- a controller of silicon and its driver make it too
abbrev pub is_data : Move → Bool
is_data (Receive q s) = rx_is_data s
is_data (Transmit q s) = tx_is_data s

-- where the scope has only data, all of them are such moves
abbrev pub InScope : Scope → List Move → Type 0
InScope s moves = s.device_only ≡ true → All (λ m. IsTrue (is_data m)) moves

-- every kind of move of receive queue q, with one buffer's number and one length, and with both values of EOP
abbrev pub receive_moves : ℕ → ℕ → List Move
receive_moves q len =
    Receive q (rx.Post 0) ∷ Receive q rx.Publish ∷ Receive q rx.Look ∷ Receive q rx.Fetch ∷ Receive q (rx.Store len true) ∷ Receive q (rx.Store len false)
    ∷ Receive q rx.Take ∷ Receive q rx.Head ∷ Receive q (rx.Control control.AskEnable) ∷ Receive q (rx.Control control.LookAsked)
    ∷ Receive q (rx.Control control.Answer) ∷ Receive q (rx.Control control.LookAnswered) ∷ Receive q (rx.Control control.AskDisable)
    ∷ Receive q rx.Reclaim ∷ Receive q rx.StoreQuiet ∷ Receive q rx.LoadQuiet ∷ Receive q rx.ClearHead ∷ Receive q rx.ClearTail
    ∷ Receive q rx.ClearQuiet ∷ []

-- every kind of move of transmit queue q, with these postings
abbrev pub transmit_moves : ℕ → Posting ℕ → Posting ℕ → Posting ℕ → List Move
transmit_moves q inner last asking =
    Transmit q (tx.Post inner) ∷ Transmit q (tx.Post last) ∷ Transmit q (tx.Post asking) ∷ Transmit q tx.Publish ∷ Transmit q tx.Look
    ∷ Transmit q tx.Fetch ∷ Transmit q tx.Send ∷ Transmit q tx.Report ∷ Transmit q tx.LoadReport ∷ Transmit q tx.Clean
    ∷ Transmit q (tx.Control control.AskEnable) ∷ Transmit q (tx.Control control.LookAsked) ∷ Transmit q (tx.Control control.Answer)
    ∷ Transmit q (tx.Control control.LookAnswered) ∷ Transmit q (tx.Control control.AskDisable) ∷ Transmit q tx.Reclaim
    ∷ Transmit q tx.ClearHead ∷ Transmit q tx.ClearTail ∷ Transmit q tx.ClearReport ∷ []

-- of queue 0: postings are in the middle of a frame, at its end, and at its end with RS
abbrev pub tried_on : SearchedQueue → List Move
tried_on side.Receive = receive_moves 0 60
tried_on (side.Transmit by) = transmit_moves 0 (new_posting 0 60 false false 60) (new_posting 0 60 true false 60) (new_posting 0 60 true true 60)
