-- The contents of a receive ring's words and slots.
use Rattle.std.specs.Prelude.{ℕ, ◌+◌, ◌*◌, ◌^◌, Bool, Option, Some, None}
use Rattle.ring_model.specs.shared.Agreement.{bit}
use Rattle.ring_model.specs.shared.Segments.{Segment}

-- The second word of a write-back (82599 datasheet, 7.1.6.2): DD in bit 0, EOP in bit 1, the length in bits 47:32.
abbrev pub rx_word : ℕ → Bool → ℕ
rx_word len eop = 1 + 2 * bit eop + len * 2 ^ 32

-- `size` counts a payload's bytes. `fresh` is the posted buffer with a number; `filled` is that buffer with a payload.
module _ {Payload Buffer : Type 0} (size : Payload → ℕ) (fresh : ℕ → Buffer) (filled : ℕ → Payload → Buffer) where
  -- The word at the place of an item: 0 once posted, the write-back once the segment is stored.
  abbrev pub rx_word_of_item : ℕ → Option ℕ → Option (Segment Payload) → ℕ
  rx_word_of_item k posted None = 0
  rx_word_of_item k posted (Some s) = rx_word (size s.payload) s.eop

  -- The item's buffer, with the payload once it is stored.
  -- No worked row decides where the number comes from; in a lawful ring both are the same.
  abbrev pub rx_buffer_of_item : Option ℕ → Option (Segment Payload) → Option Buffer
  rx_buffer_of_item None completed = None
  rx_buffer_of_item (Some b) None = Some (fresh b)
  rx_buffer_of_item (Some b) (Some s) = Some (filled s.number s.payload)
