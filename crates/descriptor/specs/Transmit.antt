-- The two forms of a transmit descriptor (82599 datasheet, 7.2.3.2.4 Advanced Transmit Data Descriptor).
-- Each field is annotated with the datasheet's name and its bits, the highest first.
use Rattle.std.specs.Prelude.{ℕ, ◌/◌, ◌%◌, ◌^◌, Bool, List, [], ◌∷◌, ◌==◌}
use Rattle.limits.specs.declared.profile.TheConstants.{BUFFER_BYTES, LEAST_FRAME, MOST_FRAME}
use Rattle.descriptor.specs.declared.tx_back.TxBack.{TxBack}
use Rattle.descriptor.specs.declared.tx_read.TxRead.{TxRead}
use Rattle.descriptor.specs.Address.{address_fields}
use Rattle.descriptor.specs.Layout.{Name, BufferNumber, DataLength, MacOptions, DescriptorType, EndOfPacket, InsertFcs, ReportStatus, DescriptorExtension, VlanEnable, SegmentationEnable, Status, ContextIndex, CheckContext, PacketOptions, PayloadLength, DescriptorDone, Rsv, fixed, kind, flag, flag_under, range, field, bit, WordLayout, first_word, second_word, bytes_of}

-- ---- read format

abbrev pub tx_read_form : WordLayout
tx_read_form = record {
  first = address_fields;  -- Address, 63:0
  second =
      field DataLength 0 16 (range 1 BUFFER_BYTES)  -- DTALEN, 15:0
      ∷ field Rsv 16 2 (fixed 0)  -- RSV, 17:16
      ∷ field MacOptions 18 2 (fixed 0)  -- MAC, 19:18
      ∷ field DescriptorType 20 4 (kind 3)  -- DTYP, 23:20
      ∷ field EndOfPacket 24 1 flag  -- DCMD: EOP, 24
      ∷ field InsertFcs 25 1 (fixed 1)  -- DCMD: IFCS, 25
      ∷ field Rsv 26 1 (fixed 0)  -- DCMD: RSV, 26
      ∷ field ReportStatus 27 1 (flag_under 24)  -- DCMD: RS, 27, in this profile only beside EOP
      ∷ field Rsv 28 1 (fixed 0)  -- DCMD: RSV, 28
      ∷ field DescriptorExtension 29 1 (kind 1)  -- DCMD: DEXT, 29
      ∷ field VlanEnable 30 1 (fixed 0)  -- DCMD: VLE, 30
      ∷ field SegmentationEnable 31 1 (fixed 0)  -- DCMD: TSE, 31
      ∷ field Status 32 4 (fixed 0)  -- STA, 35:32
      ∷ field ContextIndex 36 3 (fixed 0)  -- IDX, 38:36
      ∷ field CheckContext 39 1 (fixed 0)  -- CC, 39
      ∷ field PacketOptions 40 6 (fixed 0)  -- POPTS, 45:40
      ∷ field PayloadLength 46 18 (range LEAST_FRAME MOST_FRAME)  -- PAYLEN, 63:46
      ∷ [];
}

abbrev pub tx_read_numbers : ℕ → ℕ → Bool → Bool → ℕ → Name → ℕ
tx_read_numbers number len eop rs paylen BufferNumber = number
tx_read_numbers number len eop rs paylen DataLength = len
tx_read_numbers number len eop rs paylen EndOfPacket = bit eop
tx_read_numbers number len eop rs paylen ReportStatus = bit rs
tx_read_numbers number len eop rs paylen PayloadLength = paylen
tx_read_numbers number len eop rs paylen _ = 0

-- A descriptor's two words, and its bytes.
abbrev pub tx_read_first : TxRead → ℕ
tx_read_first d = first_word tx_read_form (tx_read_numbers d.number d.len d.eop d.rs d.paylen)

abbrev pub tx_read_second : TxRead → ℕ
tx_read_second d = second_word tx_read_form (tx_read_numbers d.number d.len d.eop d.rs d.paylen)

abbrev pub tx_read_bytes : TxRead → List ℕ
tx_read_bytes d = bytes_of (tx_read_first d) (tx_read_second d)

-- ---- the fields of a second word in read format

abbrev pub len_of : ℕ → ℕ
len_of word = word % 2 ^ 16

abbrev pub eop_of : ℕ → Bool
eop_of word = word / 2 ^ 24 % 2 == 1

abbrev pub rs_of : ℕ → Bool
rs_of word = word / 2 ^ 27 % 2 == 1

abbrev pub paylen_of : ℕ → ℕ
paylen_of word = word / 2 ^ 46

-- ---- write-back format

abbrev pub tx_back_form : WordLayout
tx_back_form = record {
  first = field Rsv 0 64 (fixed 0) ∷ [];  -- RSV, 63:0
  second =
      field Rsv 0 32 (fixed 0)  -- RSV, 31:0
      ∷ field DescriptorDone 32 1 (fixed 1)  -- STA: DD, 32
      ∷ field Status 33 3 (fixed 0)  -- STA: all others, 35:33
      ∷ field Rsv 36 28 (fixed 0)  -- RSV, 63:36
      ∷ [];
}

abbrev pub no_numbers : Name → ℕ
no_numbers _ = 0

abbrev pub tx_back_first : TxBack → ℕ
tx_back_first _ = first_word tx_back_form no_numbers

abbrev pub tx_back_second : TxBack → ℕ
tx_back_second _ = second_word tx_back_form no_numbers

abbrev pub tx_back_bytes : TxBack → List ℕ
tx_back_bytes d = bytes_of (tx_back_first d) (tx_back_second d)
