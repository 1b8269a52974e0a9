-- The printed text of a queue's registers.
use Rattle.std.specs.Prelude.{ℕ, Bool, List, ◌++◌, codes, decimal}
use Rattle.ring_model.specs.shared.Agreement.{bit}
use Rattle.ring_machine.specs.declared.registers.Registers.{Registers}
use Rattle.ring_machine.specs.declared.registers.QueueKind.{QueueKind}
use Rattle.ring_machine.specs.declared.registers.QueueKind.TheVariants.{Receive, Transmit}

abbrev pub text_by : QueueKind → ℕ → ℕ → Bool → List ℕ
text_by Receive head tail enable = codes "RDH " ++ (decimal head ++ (codes " RDT " ++ (decimal tail ++ (codes " RXDCTL.ENABLE " ++ decimal (bit enable)))))
text_by Transmit head tail enable = codes "TDH " ++ (decimal head ++ (codes " TDT " ++ (decimal tail ++ (codes " TXDCTL.ENABLE " ++ decimal (bit enable)))))

abbrev pub registers_text : Registers → List ℕ
registers_text r = text_by r.kind r.head r.tail r.enable
