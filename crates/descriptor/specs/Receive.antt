-- The two forms of a receive descriptor (82599 datasheet, 7.1.6 Advanced Receive Descriptors).
-- Each field is annotated with the datasheet's name and its bits, the highest first.
use Rattle.std.specs.Prelude.{ℕ, Bool, List, [], ◌∷◌}
use Rattle.limits.specs.declared.profile.TheConstants.{BUFFER_BYTES}
use Rattle.descriptor.specs.declared.rx_back.RxBack.{RxBack}
use Rattle.descriptor.specs.declared.rx_read.RxRead.{RxRead}
use Rattle.descriptor.specs.Address.{address_fields}
use Rattle.descriptor.specs.Layout.{Name, BufferNumber, HeaderAddress, DescriptorDone, RssType, PacketType, RscCount, HeaderLength, SplitHeader, RssHash, EndOfPacket, ExtendedStatus, ExtendedError, PacketLength, VlanTag, fixed, flag, range, field, bit, WordLayout, first_word, second_word, bytes_of}

-- ---- 7.1.6.1, read format

abbrev pub rx_read_form : WordLayout
rx_read_form = record {
  first = address_fields;  -- Packet Buffer Address, 63:1, and A0/NSE, 0
  second =
      field DescriptorDone 0 1 (fixed 0)  -- DD, 0
      ∷ field HeaderAddress 1 63 (fixed 0)  -- Header Buffer Address, 63:1
      ∷ [];
}

abbrev pub rx_read_numbers : ℕ → Name → ℕ
rx_read_numbers number BufferNumber = number
rx_read_numbers number _ = 0

-- A descriptor's two words, and its bytes.
abbrev pub rx_read_first : RxRead → ℕ
rx_read_first d = first_word rx_read_form (rx_read_numbers d.number)

abbrev pub rx_read_second : RxRead → ℕ
rx_read_second d = second_word rx_read_form (rx_read_numbers d.number)

abbrev pub rx_read_bytes : RxRead → List ℕ
rx_read_bytes d = bytes_of (rx_read_first d) (rx_read_second d)

-- ---- 7.1.6.2, write-back format

abbrev pub rx_back_form : WordLayout
rx_back_form = record {
  first =
      field RssType 0 4 (fixed 0)  -- RSS Type, 3:0
      ∷ field PacketType 4 13 (fixed 0)  -- Packet Type, 16:4
      ∷ field RscCount 17 4 (fixed 0)  -- RSCCNT, 20:17
      ∷ field HeaderLength 21 10 (fixed 0)  -- HDR_LEN, 30:21
      ∷ field SplitHeader 31 1 (fixed 0)  -- SPH, 31
      ∷ field RssHash 32 32 (fixed 0)  -- RSS Hash, 63:32
      ∷ [];
  second =
      field DescriptorDone 0 1 (fixed 1)  -- Extended Status: DD, 0
      ∷ field EndOfPacket 1 1 flag  -- Extended Status: EOP, 1
      ∷ field ExtendedStatus 2 18 (fixed 0)  -- Extended Status: all others, 19:2
      ∷ field ExtendedError 20 12 (fixed 0)  -- Extended Error, 31:20
      ∷ field PacketLength 32 16 (range 1 BUFFER_BYTES)  -- PKT_LEN, 47:32
      ∷ field VlanTag 48 16 (fixed 0)  -- VLAN Tag, 63:48
      ∷ [];
}

abbrev pub rx_back_numbers : ℕ → Bool → Name → ℕ
rx_back_numbers len eop PacketLength = len
rx_back_numbers len eop EndOfPacket = bit eop
rx_back_numbers len eop _ = 0

abbrev pub rx_back_first : RxBack → ℕ
rx_back_first d = first_word rx_back_form (rx_back_numbers d.len d.eop)

abbrev pub rx_back_second : RxBack → ℕ
rx_back_second d = second_word rx_back_form (rx_back_numbers d.len d.eop)

abbrev pub rx_back_bytes : RxBack → List ℕ
rx_back_bytes d = bytes_of (rx_back_first d) (rx_back_second d)
