-- A descriptor in the datasheet's layout: two words of 64 bits, each divided into adjacent fields.
use Rattle.std.specs.Prelude.{◌≡◌, ℕ, ◌+◌, ◌*◌, ◌/◌, ◌%◌, ◌^◌, ◌<◌, ◌≤◌, ⊤, Bool, true, false, List, [], ◌∷◌, ◌++◌, length, drop}
use Rattle.byteorder.specs.Endian.{little_bytes, little_number}
use Rattle.refusals.specs.declared.errors.DescError.{DescError}
use Rattle.refusals.specs.declared.errors.DescError.TheVariants.{Length, Reserved, Kind, Size}

-- ---- fields

-- The field names in the datasheet's figures.
pub data Name : Type 0 where
  -- Fields of an address, in this profile's three parts.
  BufferOffset : Name
  BufferNumber : Name
  AddressTop : Name
  -- Fields of a receive descriptor.
  HeaderAddress : Name
  DescriptorDone : Name
  RssType : Name
  PacketType : Name
  RscCount : Name
  HeaderLength : Name
  SplitHeader : Name
  RssHash : Name
  EndOfPacket : Name
  ExtendedStatus : Name
  ExtendedError : Name
  PacketLength : Name
  VlanTag : Name
  -- Fields of a transmit descriptor.
  DataLength : Name
  MacOptions : Name
  DescriptorType : Name
  InsertFcs : Name
  ReportStatus : Name
  DescriptorExtension : Name
  VlanEnable : Name
  SegmentationEnable : Name
  Status : Name
  ContextIndex : Name
  CheckContext : Name
  PacketOptions : Name
  PayloadLength : Name
  -- Bits that the figure leaves unnamed.
  Rsv : Name

-- What the profile allows in a field.
pub data Content : Type 0 where
  fixed : ℕ → Content  -- this number alone
  kind : ℕ → Content  -- this number alone, which tells the kind of descriptor
  flag : Content  -- 0 or 1
  flag_under : ℕ → Content  -- 0 or 1, and 0 where the word's bit with this number is 0
  range : ℕ → ℕ → Content  -- the numbers from the first to the second

pub record Field : Type 0 where
  pub name : Name
  pub first : ℕ  -- the place of its lowest bit
  pub width : ℕ  -- how many bits it has
  pub content : Content

abbrev pub field : Name → ℕ → ℕ → Content → Field
field name first width content = record { name = name; first = first; width = width; content = content }

-- A flag as a number.
abbrev pub bit : Bool → ℕ
bit true = 1
bit false = 0

-- ---- the word of a descriptor

-- A fixed or kind field has its own number, any other field the descriptor's.
abbrev pub filled : Content → ℕ → ℕ
filled (fixed m) _ = m
filled (kind m) _ = m
filled _ n = n

abbrev pub number_in : (Name → ℕ) → Field → ℕ
number_in numbers f = filled f.content (numbers f.name)

-- The sum of the fields' numbers, each shifted to its field's lowest bit.
abbrev pub word_of : (Field → ℕ) → List Field → ℕ
word_of n [] = 0
word_of n (f ∷ fs) = n f * 2 ^ f.first + word_of n fs

pub record WordLayout : Type 0 where
  pub first : List Field
  pub second : List Field

-- The two words of a form with a descriptor's numbers.
abbrev pub first_word : WordLayout → (Name → ℕ) → ℕ
first_word form numbers = word_of (number_in numbers) form.first

abbrev pub second_word : WordLayout → (Name → ℕ) → ℕ
second_word form numbers = word_of (number_in numbers) form.second

-- Two words as 16 bytes, each with its lowest byte first.
abbrev pub bytes_of : ℕ → ℕ → List ℕ
bytes_of first second = little_bytes 8 first ++ little_bytes 8 second

-- The words, or the bytes, are those of a form with a descriptor's numbers.
abbrev pub AreWords : WordLayout → (Name → ℕ) → ℕ → ℕ → Type 0
AreWords form numbers first second = (first ≡ first_word form numbers) × (second ≡ second_word form numbers)

abbrev pub AreBytes : WordLayout → (Name → ℕ) → List ℕ → Type 0
AreBytes form numbers bytes = bytes ≡ bytes_of (first_word form numbers) (second_word form numbers)

-- 16 bytes, and the two words in them.
pub record HasWords (bytes : List ℕ) (first second : ℕ) : Type 0 where
  pub sixteen : length bytes ≡ 16
  pub first_is : first ≡ little_number 8 bytes
  pub second_is : second ≡ little_number 8 (drop 8 bytes)
  pub whole : bytes ≡ bytes_of first second

-- ---- the rules for a word

-- The number in a field of a word.
abbrev pub read : ℕ → Field → ℕ
read word f = word / 2 ^ f.first % 2 ^ f.width

-- The number `n` in a field of the word keeps the rule whose violation is the refusal. `Length` concerns no field.
abbrev pub Keeps : DescError → ℕ → Content → ℕ → Type 0
Keeps Reserved word (fixed m) n = n ≡ m
Keeps Reserved word (flag_under place) n = word / 2 ^ place % 2 ≡ 0 → n ≡ 0
Keeps Kind word (kind m) n = n ≡ m
Keeps Size word (range low high) n = (low ≤ n) × (n ≤ high)
Keeps _ _ _ _ = ⊤

abbrev pub KeepsField : DescError → ℕ → Field → Type 0
KeepsField e word f = Keeps e word f.content (read word f)

abbrev pub EachField : (Field → Type 0) → List Field → Type 0
EachField P [] = ⊤
EachField P (f ∷ fs) = P f × EachField P fs

-- Both words keep the rule in each of their fields.
pub record KeepsWords (form : WordLayout) (first second : ℕ) (e : DescError) : Type 0 where
  pub in_first : EachField (KeepsField e first) form.first
  pub in_second : EachField (KeepsField e second) form.second

-- The same for bytes. For `Length`, there are 16 of them.
abbrev pub KeepsBytes : WordLayout → List ℕ → DescError → Type 0
KeepsBytes form bytes Length = length bytes ≡ 16
KeepsBytes form bytes e = KeepsWords form (little_number 8 bytes) (little_number 8 (drop 8 bytes)) e
