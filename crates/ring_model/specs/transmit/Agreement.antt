-- The contents of a transmit ring's words and slots, for both ways to report.
use Rattle.std.specs.Prelude.{ℕ, ◌+◌, ◌*◌, ◌^◌, Bool, not, ◌&&◌, nat_lt, Option, Some, None, if◌then◌else◌}
use Rattle.ring_model.specs.shared.Agreement.{bit}
use Rattle.ring_model.specs.transmit.Ring.{Posting, TxRing}
use Rattle.ring_model.specs.transmit.Steps.{by_head}

-- The second word of a transmit descriptor (82599 datasheet, 7.2.3.2.4): DTALEN in bits 15:0, DTYP 3 in 23:20, EOP in
-- 24, IFCS in 25, RS in 27, DEXT in 29, PAYLEN in 63:46.
abbrev pub tx_word : ℕ → Bool → Bool → ℕ → ℕ
tx_word len eop rs paylen = len + 3 * 2 ^ 20 + 2 ^ 25 + 2 ^ 29 + bit eop * 2 ^ 24 + bit rs * 2 ^ 27 + paylen * 2 ^ 46

-- The second word of a transmit write-back: DD in bit 32.
abbrev pub done_word : ℕ
done_word = 2 ^ 32

-- Whether item `k` is reported in its descriptor, if it asks for a report.
abbrev pub is_told : {Payload : Type 0} → TxRing Payload → ℕ → Bool
is_told r k = not (by_head r.completion) && nat_lt k r.reported

-- `size` counts a payload's bytes, and `filled` is the buffer with the posted contents.
module _ {Payload Buffer : Type 0} (size : Payload → ℕ) (filled : Posting Payload → Buffer) where
  -- The word of an item: the write-back if the item is reported in its descriptor and asks for it, else the posted
  -- word.
  abbrev pub posting_word : Bool → Posting Payload → ℕ
  posting_word reported p = if reported && p.rs then done_word else tx_word (size p.payload) p.eop p.rs p.paylen

  abbrev pub tx_word_of_item : (ℕ → Bool) → ℕ → Option (Posting Payload) → Option (Posting Payload) → ℕ
  tx_word_of_item told k None sent = 0
  tx_word_of_item told k (Some p) sent = posting_word (told k) p

  abbrev pub tx_buffer_of_item : Option (Posting Payload) → Option (Posting Payload) → Option Buffer
  tx_buffer_of_item None sent = None
  tx_buffer_of_item (Some p) sent = Some (filled p)
