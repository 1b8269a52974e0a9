-- The text of moves.
use Rattle.std.specs.Prelude.{ℕ, ◌<◌, ◌≤◌, ◌^◌, List, [], ◌∷◌, ◌++◌, codes, decimal}
use Rattle.std.specs.List.{flat_map}
use Rattle.limits.specs.declared.profile.TheConstants.{BUFFER_BYTES, MOST_PAIRS}
use Rattle.ring_machine.specs.declared.moves.Move.{Move}
use Rattle.ring_machine.specs.declared.moves.Move.TheVariants.{Receive, Transmit}
use Rattle.ring_model.specs.declared.steps.ControlStep.{ControlStep}
use Rattle.ring_model.specs.declared.steps.ControlStep.TheVariants.{AskEnable, LookAsked, Answer, LookAnswered, AskDisable}
use Rattle.ring_model.specs.declared.steps.RxStep.{RxStep}
use Rattle.ring_model.specs.declared.steps.RxStep.TheVariants as rx
use Rattle.ring_model.specs.declared.steps.TxStep.{TxStep}
use Rattle.ring_model.specs.declared.steps.TxStep.TheVariants as tx
use Rattle.ring_model.specs.shared.Agreement.{bit}
use Rattle.ring_machine.specs.text.Arguments.{IsDescriptor}
use Rattle.ring_model.specs.transmit.Ring.{Posting}

-- The names of the kinds.
abbrev pub control_kind : ControlStep → List ℕ
control_kind AskEnable = codes "C1"
control_kind LookAsked = codes "C2"
control_kind Answer = codes "C3"
control_kind LookAnswered = codes "C4"
control_kind AskDisable = codes "C5"

abbrev pub rx_kind : RxStep ℕ → List ℕ
rx_kind (rx.Post b) = codes "A1"
rx_kind rx.Publish = codes "A2"
rx_kind rx.Look = codes "A3"
rx_kind rx.Fetch = codes "A4"
rx_kind (rx.Store len eop) = codes "A5"
rx_kind rx.Take = codes "A6"
rx_kind rx.Head = codes "A7"
rx_kind (rx.Control c) = control_kind c
rx_kind rx.Reclaim = codes "C6"
rx_kind rx.StoreQuiet = codes "C7"
rx_kind rx.LoadQuiet = codes "C8"
rx_kind rx.ClearHead = codes "C9"
rx_kind rx.ClearTail = codes "C10"
rx_kind rx.ClearQuiet = codes "C11"

abbrev pub tx_kind : TxStep (Posting ℕ) → List ℕ
tx_kind (tx.Post p) = codes "B1"
tx_kind tx.Publish = codes "B2"
tx_kind tx.Look = codes "B3"
tx_kind tx.Fetch = codes "B4"
tx_kind tx.Send = codes "B5"
tx_kind tx.Report = codes "B6"
tx_kind tx.LoadReport = codes "B7"
tx_kind tx.Clean = codes "B8"
tx_kind (tx.Control c) = control_kind c
tx_kind tx.Reclaim = codes "C6"
tx_kind tx.ClearHead = codes "C9"
tx_kind tx.ClearTail = codes "C10"
tx_kind tx.ClearReport = codes "C12"

-- The arguments, in the order of the text.
abbrev pub rx_arguments : RxStep ℕ → List ℕ
rx_arguments (rx.Post b) = b ∷ []
rx_arguments (rx.Store len eop) = len ∷ bit eop ∷ []
rx_arguments s = []

abbrev pub tx_arguments : TxStep (Posting ℕ) → List ℕ
tx_arguments (tx.Post p) = p.number ∷ p.payload ∷ bit p.eop ∷ bit p.rs ∷ p.paylen ∷ []
tx_arguments s = []

abbrev pub queue_of : Move → List ℕ
queue_of (Receive q s) = codes "r" ++ decimal q
queue_of (Transmit q s) = codes "t" ++ decimal q

abbrev pub kind_of : Move → List ℕ
kind_of (Receive q s) = rx_kind s
kind_of (Transmit q s) = tx_kind s

abbrev pub arguments_of : Move → List ℕ
arguments_of (Receive q s) = rx_arguments s
arguments_of (Transmit q s) = tx_arguments s

-- Queue and kind, for example "r0 A1".
abbrev pub name_of : Move → List ℕ
name_of m = queue_of m ++ codes " " ++ kind_of m

-- A move's line: its name, and each argument after a space.
abbrev pub text_of : Move → List ℕ
text_of m = name_of m ++ flat_map (λ n. codes " " ++ decimal n) (arguments_of m)

-- The arguments are in range.
abbrev pub IsRxInRange : RxStep ℕ → Type 0
IsRxInRange (rx.Post b) = b < 2 ^ 16
IsRxInRange (rx.Store len eop) = (0 < len) × (len ≤ BUFFER_BYTES)
IsRxInRange s = Unit {0}

abbrev pub IsTxInRange : TxStep (Posting ℕ) → Type 0
IsTxInRange (tx.Post p) = (p.number < 2 ^ 16) × IsDescriptor p.payload p.eop p.rs p.paylen
IsTxInRange s = Unit {0}

abbrev pub IsInRange : Move → Type 0
IsInRange (Receive q s) = (q < MOST_PAIRS) × IsRxInRange s
IsInRange (Transmit q s) = (q < MOST_PAIRS) × IsTxInRange s
