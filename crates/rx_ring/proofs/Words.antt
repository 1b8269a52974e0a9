-- The write-back's word: odd, with the EOP that was written.
use Rattle.std.proofs.Common.{◌≡◌, ℕ, ◌+◌, ◌*◌, ◌/◌, ◌%◌, ◌<◌, Bool, true, false, length, Option, Some, None, sym, refl, ap, ◌∙◌, ⊎_elim, arith, mod-lt}
use Rattle.std.specs.Prelude.{◌==◌, ◌^◌}
use Rattle.std.proofs.lemmas.Option.{none-some, same_Some}
use Rattle.std.proofs.lemmas.Bool.{cases_eq, eq-eqb, eqb-true, false≢true, false_from_ne_true}
use Rattle.buffer_pool.specs.Buffer.{Buffer, buffer}
use Rattle.descriptor.specs.Layout.{bit as descriptor_bit}
use Rattle.ring_model.specs.shared.Agreement.{bit}
use Rattle.ring_model.specs.shared.Frames.{Bytes}
use Rattle.ring_model.specs.receive.Agreement.{rx_word}
use Rattle.ring_model.specs.shared.Segments.{Segment}
use Rattle.rx_ring.specs.Ends.{number_in}
use Rattle.rx_ring.specs.Records.{eop_of, segment_of}

pub rx_word-odd : (len : ℕ) (eop : Bool) → rx_word len eop % 2 ≡ 1
rx_word-odd len eop = odd len (bit eop)
  where
    odd : (len b : ℕ) → (1 + 2 * b + len * 4294967296) % 2 ≡ 1
    odd len b = omega arith

half : (len b : ℕ) → (1 + 2 * b + len * 4294967296) / 2 ≡ b + len * 2147483648
half len b = omega arith

eop_of-bit : (len : ℕ) (eop : Bool) (w : ℕ) → w ≡ 1 + 2 * bit eop + len * 4294967296 → (w / 2) % 2 ≡ bit eop
eop_of-bit len true w e = let h : w / 2 ≡ 1 + len * 2147483648 = ap (λ (v : ℕ). v / 2) e ∙ half len 1 in omega arith
eop_of-bit len false w e = let h : w / 2 ≡ 0 + len * 2147483648 = ap (λ (v : ℕ). v / 2) e ∙ half len 0 in omega arith

bit-eop : (eop : Bool) → (bit eop == 1) ≡ eop
bit-eop true = refl
bit-eop false = refl

pub eop_of-rx_word : (len : ℕ) (eop : Bool) → eop_of (rx_word len eop) ≡ eop
eop_of-rx_word len eop = ap (λ (v : ℕ). v == 1) (eop_of-bit len eop (rx_word len eop) refl) ∙ bit-eop eop

pub segment-taken : (s : Segment Bytes) (r : ℕ) → r ≡ rx_word (length s.payload) s.eop → segment_of r (buffer s.number s.payload) ≡ s
segment-taken s r word = ap (λ (e : Bool). let x : Segment Bytes = record { number = s.number; payload = s.payload; eop = e } in x) (ap eop_of word ∙ eop_of-rx_word (length s.payload) s.eop)

-- what the tests of a status word say, as the definitions read it
pub even-word : (b : Bool) (w : ℕ) → b ≡ false → (w % 2 ≡ 1 → b ≡ true) → w % 2 ≡ 0
even-word b w clear odd = ⊎_elim (λ e. absurd (false≢true (sym clear ∙ odd e))) (λ ne. let h : w % 2 < 2 = mod-lt w (omega arith) in omega arith) (cases_eq (w % 2) 1)

pub eop-word : (b : Bool) (w : ℕ) → (b ≡ true → (w / 2) % 2 ≡ 1) → ((w / 2) % 2 ≡ 1 → b ≡ true) → b ≡ eop_of w
eop-word true w word_of_item from = sym (eq-eqb ((w / 2) % 2) 1 (word_of_item refl))
eop-word false w word_of_item from = sym (false_from_ne_true ((w / 2) % 2 == 1) (λ e. false≢true (from (eqb-true ((w / 2) % 2) 1 e))))

-- the second word of a descriptor is the write-back of its bytes
same-word : (e : Bool) (len w : ℕ) → w ≡ 1 + 2 * descriptor_bit e + len * 2 ^ 32 → w ≡ rx_word len e
same-word true len w h = h
same-word false len w h = h

pub word-is : (eop e : Bool) (len n : ℕ) → e ≡ eop → n ≡ len → (w : ℕ) → w ≡ 1 + 2 * descriptor_bit e + n * 2 ^ 32 → w ≡ rx_word len eop
word-is eop e len n same count w h = same-word e n w h ∙ ap (λ (b : Bool). rx_word n b) same ∙ ap (λ (k : ℕ). rx_word k eop) count

-- a number that is held is that of a buffer
pub number-none : (o : Option Buffer) → number_in o ≡ None → o ≡ None
number-none None e = refl
number-none (Some b) e = absurd (none-some b.number (sym e))

pub number-some : (o : Option Buffer) (k : ℕ) → number_in o ≡ Some k → (b : Buffer) × ((o ≡ Some b) × (b.number ≡ k))
number-some None k e = absurd (none-some k e)
number-some (Some b) k e = (b, (refl, same_Some b.number k e))
