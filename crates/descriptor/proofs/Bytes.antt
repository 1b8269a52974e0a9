-- A descriptor's bytes and its two words.
use Rattle.std.proofs.Common.{◌≡◌, ℕ, ◌+◌, ◌-◌, ◌<◌, ◌≤◌, ◌^◌, List, [], ◌++◌, length, get_or, take, drop, refl, sym, ap, ◌∙◌, arith, length-drop, inl, inr}
use Rattle.std.proofs.lemmas.Bool.{cases_lt}
use Rattle.std.proofs.lemmas.List.{get_or-take, get_or-drop, get_or_past, length-take, take-append-drop, take_all}
use Rattle.std.proofs.lemmas.Nat.{le_bytes_8}
use Rattle.byteorder.specs.Endian.{little_bytes, little_number}
use Rattle.byteorder.specs.Numbers.{little_number-reads_back, little_from-append}
use Rattle.descriptor.specs.Layout.{HasWords, bytes_of}

pub first-read : (a b : ℕ) → a < 2 ^ 64 → little_number 8 (bytes_of a b) ≡ a
first-read a b h = little_number-reads_back 8 a (little_bytes 8 b) h

pub second-read : (a b : ℕ) → b < 2 ^ 64 → little_number 8 (drop 8 (bytes_of a b)) ≡ b
second-read a b h = little_number-reads_back 8 b [] h

pub length-bytes_of : (a b : ℕ) → length (bytes_of a b) ≡ 16
length-bytes_of a b = refl

small-take : (n : ℕ) (bytes : List ℕ) → ((i : ℕ) → get_or bytes i 0 < 256) → (i : ℕ) → get_or (take n bytes) i 0 < 256
small-take n bytes small i =
    elim (cases_lt i n) [
      | inl below ↦ rw (get_or-take n bytes i 0 below) (small i)
      | inr above ↦
          let past : length (take n bytes) ≤ i = omega (arith, length-take n bytes) in
          rw (get_or_past (take n bytes) i 0 past) (omega arith)
    ]

small-drop : (n : ℕ) (bytes : List ℕ) → ((i : ℕ) → get_or bytes i 0 < 256) → (i : ℕ) → get_or (drop n bytes) i 0 < 256
small-drop n bytes small i = rw (get_or-drop n bytes i 0) (small (n + i))

number-bytes : (bytes : List ℕ) → length bytes ≡ 8 → ((i : ℕ) → get_or bytes i 0 < 256) → little_bytes 8 (little_number 8 bytes) ≡ bytes
number-bytes bytes len small = le_bytes_8 bytes (little_number 8 bytes) len small (omega arith)

pub bytes-back : (bytes : List ℕ) → length bytes ≡ 16 → ((i : ℕ) → get_or bytes i 0 < 256)
    → bytes ≡ bytes_of (little_number 8 bytes) (little_number 8 (drop 8 bytes))
bytes-back bytes len small =
    let front : List ℕ = take 8 bytes in
    let back : List ℕ = drop 8 bytes in
    let whole = take-append-drop 8 bytes in
    let eight : length front ≡ 8 = omega (arith, length-take 8 bytes) in
    let rest : length back ≡ 8 = omega (arith, length-drop 8 bytes) in
    let same : little_number 8 bytes ≡ little_number 8 front =
    ap (little_number 8) (sym whole) ∙ little_from-append 8 front back (omega arith) in
    let one : little_bytes 8 (little_number 8 bytes) ≡ front =
    ap (little_bytes 8) same ∙ number-bytes front eight (small-take 8 bytes small) in
    let two = number-bytes back rest (small-drop 8 bytes small) in
    sym (ap (λ (xs : List ℕ). xs ++ little_bytes 8 (little_number 8 back)) one ∙ ap (λ (xs : List ℕ). front ++ xs) two ∙ whole)

-- the two words that a program reads of 16 bytes
pub words-read : (bytes : List ℕ) → length bytes ≡ 16 → ((i : ℕ) → get_or bytes i 0 < 256)
    → (first second : ℕ) → first ≡ little_number 8 bytes → second ≡ little_number 8 (take (length bytes - 8) (drop 8 bytes))
    → HasWords bytes first second
words-read bytes len small first second one two =
    let rest : take (length bytes - 8) (drop 8 bytes) ≡ drop 8 bytes = grind (arith, take_all, length-drop) in
    let two' : second ≡ little_number 8 (drop 8 bytes) = two ∙ ap (little_number 8) rest in
    record { sixteen = len; first_is = one; second_is = two'; whole = rw (one, two') (bytes-back bytes len small) }
