-- The words of a ring's table that are not descriptors, and their values in a queue.
use Rattle.std.specs.Prelude.{◌≡◌, ℕ, ◌+◌, ◌%◌, List, slice_index}
use Rattle.ring_model.specs.shared.Queue.{Queue}

-- The indexes of these words in the table of a ring of `n` places, after the descriptors' words. The datasheet's names:
--
--   index         word     receive ring                        transmit ring
--   n             head     RDH                                 TDH
--   n + 1         tail     RDT                                 TDT
--   n + 2         control  RXDCTL.ENABLE, asked and answered   TXDCTL.ENABLE, asked and answered
--   n + 3         quiet    (none: nothing more is stored)      (none, and unused)
--   n + 4         report   (none)                              the head write-back, if reports use it
abbrev pub head_index : ℕ → ℕ
head_index n = n

abbrev pub tail_index : ℕ → ℕ
tail_index n = n + 1

abbrev pub control_index : ℕ → ℕ
control_index n = n + 2

abbrev pub quiet_index : ℕ → ℕ
quiet_index n = n + 3

abbrev pub report_index : ℕ → ℕ
report_index n = n + 4

-- The values of the words that every ring has.
pub record Registers : Type 0 where
  pub head : ℕ
  pub tail : ℕ
  pub control : ℕ
  pub quiet : ℕ

abbrev pub registers_of : {Posted Completed Reaped : Type 0} → Queue Posted Completed Reaped → ℕ → Registers
registers_of q quiet = record { head = q.head; tail = q.published % q.size; control = q.handshake.control; quiet = quiet }

pub record HasRegisters (n : ℕ) (g : Registers) (words : List ℕ) : Type 0 where
  pub head : slice_index words (head_index n) ≡ g.head
  pub tail : slice_index words (tail_index n) ≡ g.tail
  pub control : slice_index words (control_index n) ≡ g.control
  pub quiet : slice_index words (quiet_index n) ≡ g.quiet
