-- The second words of transmit descriptors: what was written is read back, and DD is in the write-back alone.
use Rattle.std.proofs.Common.{◌≡◌, ℕ, ◌+◌, ◌*◌, ◌/◌, ◌%◌, ◌^◌, ◌≤◌, Bool, true, false, length, refl, ap, ◌∙◌, arith}
use Rattle.std.specs.Prelude.{◌==◌}
use Rattle.std.proofs.lemmas.Bool.{eq-eqb, eqb-true, false≢true, false_from_ne_true}
use Rattle.descriptor.specs.Layout.{bit as descriptor_bit}
use Rattle.descriptor.specs.declared.tx_read.TxRead.{TxRead}
use Rattle.ring_model.specs.shared.Agreement.{bit}
use Rattle.ring_model.specs.transmit.Agreement.{tx_word, done_word}
use Rattle.ring_model.specs.transmit.Ring.{new_posting}
use Rattle.descriptor.specs.Transmit.{eop_of, rs_of, paylen_of}
use Rattle.tx_ring.specs.Records.{Posting, posting_of}
use Rattle.tx_ring.specs.Rule.{filled, word_of}
use Rattle.tx_ring.specs.Plays.{is_done}

bit-is : (b : Bool) → (bit b == 1) ≡ b
bit-is true = refl
bit-is false = refl

bit-few : (b : Bool) → bit b ≤ 1
bit-few true = omega arith
bit-few false = omega arith

eop-bits : (len e r pay : ℕ) → len ≤ 2048 → e ≤ 1 → ((len + 3145728 + 33554432 + 536870912 + e * 16777216 + r * 134217728 + pay * 70368744177664) / 16777216) % 2 ≡ e
eop-bits len e r pay h f = omega arith

rs-bits : (len e r pay : ℕ) → len ≤ 2048 → e ≤ 1 → r ≤ 1 → ((len + 3145728 + 33554432 + 536870912 + e * 16777216 + r * 134217728 + pay * 70368744177664) / 134217728) % 2 ≡ r
rs-bits len e r pay h f g = omega arith

paylen-bits : (len e r pay : ℕ) → len ≤ 2048 → e ≤ 1 → r ≤ 1 → (len + 3145728 + 33554432 + 536870912 + e * 16777216 + r * 134217728 + pay * 70368744177664) / 70368744177664 ≡ pay
paylen-bits len e r pay h f g = omega arith

done-bits : (len e r pay : ℕ) → len ≤ 2048 → e ≤ 1 → r ≤ 1 → ((len + 3145728 + 33554432 + 536870912 + e * 16777216 + r * 134217728 + pay * 70368744177664) / 4294967296) % 2 ≡ 0
done-bits len e r pay h f g = omega arith

module _ (len : ℕ) (eop rs : Bool) (paylen : ℕ) (small : len ≤ 2048) where
  pub eop_of-tx_word : eop_of (tx_word len eop rs paylen) ≡ eop
  eop_of-tx_word = ap (λ (v : ℕ). v == 1) (eop-bits len (bit eop) (bit rs) paylen small (bit-few eop)) ∙ bit-is eop

  pub rs_of-tx_word : rs_of (tx_word len eop rs paylen) ≡ rs
  rs_of-tx_word = ap (λ (v : ℕ). v == 1) (rs-bits len (bit eop) (bit rs) paylen small (bit-few eop) (bit-few rs)) ∙ bit-is rs

  pub paylen_of-tx_word : paylen_of (tx_word len eop rs paylen) ≡ paylen
  paylen_of-tx_word = paylen-bits len (bit eop) (bit rs) paylen small (bit-few eop) (bit-few rs)

  -- a descriptor that was posted has no DD
  pub undone-tx_word : is_done (tx_word len eop rs paylen) ≡ false
  undone-tx_word = ap (λ (v : ℕ). v == 1) (done-bits len (bit eop) (bit rs) paylen small (bit-few eop) (bit-few rs))

pub done-done_word : is_done done_word ≡ true
done-done_word = refl

-- the posting that a descriptor and its buffer say
pub posting-posted : (p : Posting) → length p.payload ≤ 2048 → posting_of (word_of p) (filled p) ≡ p
posting-posted p small =
    ap (λ (e : Bool). let x : Posting = new_posting p.number p.payload e (rs_of (word_of p)) (paylen_of (word_of p)) in x) (eop_of-tx_word (length p.payload) p.eop p.rs p.paylen small)
    ∙ ap (λ (e : Bool). let x : Posting = new_posting p.number p.payload p.eop e (paylen_of (word_of p)) in x) (rs_of-tx_word (length p.payload) p.eop p.rs p.paylen small)
    ∙ ap (λ (v : ℕ). let x : Posting = new_posting p.number p.payload p.eop p.rs v in x) (paylen_of-tx_word (length p.payload) p.eop p.rs p.paylen small)

-- the second word of a descriptor with these fields
bit-same : (b : Bool) → descriptor_bit b ≡ bit b
bit-same true = refl
bit-same false = refl

pub word-is : (eop rs : Bool) (paylen len : ℕ) (d : TxRead) → d.len ≡ len → d.eop ≡ eop → d.rs ≡ rs → d.paylen ≡ paylen → (w : ℕ)
    → w ≡ d.len + 3 * 2 ^ 20 + 2 ^ 25 + 2 ^ 29 + descriptor_bit d.eop * 2 ^ 24 + descriptor_bit d.rs * 2 ^ 27 + d.paylen * 2 ^ 46 → w ≡ tx_word len eop rs paylen
word-is eop rs paylen len d a b c e w h = h
    ∙ ap (λ (x : ℕ). d.len + 3 * 2 ^ 20 + 2 ^ 25 + 2 ^ 29 + x * 2 ^ 24 + descriptor_bit d.rs * 2 ^ 27 + d.paylen * 2 ^ 46) (bit-same d.eop)
    ∙ ap (λ (x : ℕ). d.len + 3 * 2 ^ 20 + 2 ^ 25 + 2 ^ 29 + bit d.eop * 2 ^ 24 + x * 2 ^ 27 + d.paylen * 2 ^ 46) (bit-same d.rs)
    ∙ ap (λ (x : ℕ). tx_word x d.eop d.rs d.paylen) a ∙ ap (λ (x : Bool). tx_word len x d.rs d.paylen) b ∙ ap (λ (x : Bool). tx_word len eop x d.paylen) c ∙ ap (λ (x : ℕ). tx_word len eop rs x) e

-- what the test of a status word says, as the definitions read it
pub done-word : (b : Bool) (w : ℕ) → (b ≡ true → (w / 2 ^ 32) % 2 ≡ 1) → ((w / 2 ^ 32) % 2 ≡ 1 → b ≡ true) → is_done w ≡ b
done-word true w word_of_item from = eq-eqb ((w / 2 ^ 32) % 2) 1 (word_of_item refl)
done-word false w word_of_item from = false_from_ne_true ((w / 2 ^ 32) % 2 == 1) (λ e. false≢true (from (eqb-true ((w / 2 ^ 32) % 2) 1 e)))
