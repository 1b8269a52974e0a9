-- The fields of a move's line, as the reader sees them.
use Rattle.std.specs.Prelude.{◌≡◌, ◌<◌, ◌^◌, ℕ, List, Option}
use Rattle.std.specs.Borrow.{Bor}
use Rattle.std.specs.List.{AllByRecursion}
use Rattle.text_lines.specs.Parts.{later_parts, parts}
use Rattle.ring_machine.specs.declared.moves.Move.{Move}
use Rattle.ring_model.specs.declared.steps.RxStep.{RxStep}
use Rattle.ring_model.specs.declared.steps.TxStep.{TxStep}
use Rattle.ring_model.specs.transmit.Ring.{Posting}
use Rattle.ring_machine.specs.text.Moves.{IsInRange, IsRxInRange, IsTxInRange, arguments_of, kind_of, queue_of, rx_arguments, rx_kind, tx_arguments, tx_kind}

-- The text between spaces.
abbrev pub fields_in : List ℕ → List (List ℕ)
fields_in line = parts 32 line

-- The fields after a space, if there was one.
abbrev pub later_fields : Option (Bor (List ℕ)) → List (List ℕ)
later_fields rest = later_parts 32 rest

-- The step is in range, and these are the name of its kind and its arguments.
pub record SpellsRx (name numbers : List ℕ) (s : RxStep ℕ) : Type 0 where
  pub in_range : IsRxInRange s
  pub kind : name ≡ rx_kind s
  pub arguments : numbers ≡ rx_arguments s

pub record SpellsTx (name numbers : List ℕ) (s : TxStep (Posting ℕ)) : Type 0 where
  pub in_range : IsTxInRange s
  pub kind : name ≡ tx_kind s
  pub arguments : numbers ≡ tx_arguments s

-- The same for a move, with its queue.
pub record Spells (first name numbers : List ℕ) (m : Move) : Type 0 where
  pub in_range : IsInRange m
  pub queue : first ≡ queue_of m
  pub kind : name ≡ kind_of m
  pub arguments : numbers ≡ arguments_of m

-- Numbers that fit 16 bits.
abbrev pub AreSmall : List ℕ → Type 0
AreSmall ns = AllByRecursion (λ n. n < 2 ^ 16) ns
