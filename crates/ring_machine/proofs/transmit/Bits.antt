-- What the words of transmit descriptors tell of what was posted.
use Rattle.std.proofs.Common.{◌≡◌, ℕ, zero, suc, ◌+◌, ◌-◌, ◌/◌, ◌%◌, ◌^◌, ◌<◌, Bool, true, false, ◌&&◌, ◌||◌, List, Option, Some, None, sym, refl, ap, ◌∙◌, arith, if◌then◌else◌, mod-lt}
use Rattle.std.specs.Prelude.{slice_get, ◌==◌}
use Rattle.std.proofs.lemmas.Bool.{and_parts, eqb-true, eq-eqb, ne_eqb, or_left}
use Rattle.std.proofs.lemmas.Option.{same_Some, none-some}
use Rattle.ring_model.specs.transmit.Ring.{Posting}
use Rattle.ring_model.specs.transmit.Steps.{asks_report, first_report, is_there}
use Rattle.ring_model.specs.transmit.Agreement.{done_word, posting_word, tx_word}
use Rattle.ring_laws.specs.Places.{next_place}
use Rattle.ring_machine.specs.code.Words.{place_before, word_asks, word_eop, word_len, word_rs}

-- a descriptor's bits
pub len_told : (len : ℕ) (eop rs : Bool) (paylen : ℕ) → len < 2 ^ 16 → word_len (tx_word len eop rs paylen) ≡ len
len_told len true true paylen h = omega arith
len_told len true false paylen h = omega arith
len_told len false true paylen h = omega arith
len_told len false false paylen h = omega arith

pub eop_told : (len : ℕ) (eop rs : Bool) (paylen : ℕ) → len < 2 ^ 16 → word_eop (tx_word len eop rs paylen) ≡ eop
eop_told len true true paylen h = eq-eqb (tx_word len true true paylen / 2 ^ 24 % 2) 1 (omega arith)
eop_told len true false paylen h = eq-eqb (tx_word len true false paylen / 2 ^ 24 % 2) 1 (omega arith)
eop_told len false true paylen h = ne_eqb (tx_word len false true paylen / 2 ^ 24 % 2) 1 (λ e. absurd (omega arith))
eop_told len false false paylen h = ne_eqb (tx_word len false false paylen / 2 ^ 24 % 2) 1 (λ e. absurd (omega arith))

pub rs_told : (len : ℕ) (eop rs : Bool) (paylen : ℕ) → len < 2 ^ 16 → word_rs (tx_word len eop rs paylen) ≡ rs
rs_told len true true paylen h = eq-eqb (tx_word len true true paylen / 2 ^ 27 % 2) 1 (omega arith)
rs_told len false true paylen h = eq-eqb (tx_word len false true paylen / 2 ^ 27 % 2) 1 (omega arith)
rs_told len true false paylen h = ne_eqb (tx_word len true false paylen / 2 ^ 27 % 2) 1 (λ e. absurd (omega arith))
rs_told len false false paylen h = ne_eqb (tx_word len false false paylen / 2 ^ 27 % 2) 1 (λ e. absurd (omega arith))

not_done : (len : ℕ) (eop rs : Bool) (paylen : ℕ) → len < 2 ^ 16 → (tx_word len eop rs paylen == done_word) ≡ false
not_done len true true paylen h = ne_eqb (tx_word len true true paylen) done_word (λ e. absurd (omega arith))
not_done len true false paylen h = ne_eqb (tx_word len true false paylen) done_word (λ e. absurd (omega arith))
not_done len false true paylen h = ne_eqb (tx_word len false true paylen) done_word (λ e. absurd (omega arith))
not_done len false false paylen h = ne_eqb (tx_word len false false paylen) done_word (λ e. absurd (omega arith))

-- whether a posted word is done, and whether it asked for a report
pub posted_done : (told : Bool) (p : Posting ℕ) → p.payload < 2 ^ 16 → (posting_word {Payload = ℕ} {Buffer = ℕ} (λ len. len) (λ b. b.number) told p == done_word) ≡ (told && p.rs)
posted_done told p h = by_case (told && p.rs) refl
  where
    by_case : (b : Bool) → (told && p.rs) ≡ b → ((if b then done_word else tx_word p.payload p.eop p.rs p.paylen) == done_word) ≡ b
    by_case true e = eq-eqb done_word done_word refl
    by_case false e = not_done p.payload p.eop p.rs p.paylen h

pub posted_asks : (told : Bool) (p : Posting ℕ) → p.payload < 2 ^ 16 → word_asks (posting_word {Payload = ℕ} {Buffer = ℕ} (λ len. len) (λ b. b.number) told p) ≡ p.rs
posted_asks told p h = by_case (told && p.rs) refl
  where
    by_case : (b : Bool) → (told && p.rs) ≡ b → word_asks (if b then done_word else tx_word p.payload p.eop p.rs p.paylen) ≡ p.rs
    by_case true e = let t = and_parts told p.rs e in or_left (done_word == done_word) (word_rs done_word) (eq-eqb done_word done_word refl) ∙ sym t.1
    by_case false e = ap (λ (b : Bool). b || word_rs (tx_word p.payload p.eop p.rs p.paylen)) (not_done p.payload p.eop p.rs p.paylen h) ∙ rs_told p.payload p.eop p.rs p.paylen h

-- the place of an item, if there is one
abbrev pub placed : ℕ → Option ℕ → Option ℕ
placed n None = None
placed n (Some j) = Some (j % n)

pub there_placed : (n : ℕ) (o : Option ℕ) → is_there (placed n o) ≡ is_there o
there_placed n None = refl
there_placed n (Some j) = refl

-- the report that is found is of an item in the range, and that item asks for it
at_found : (ps : List (Posting ℕ)) (k more j : ℕ) (asks : Bool) → asks_report (slice_get ps k) ≡ asks → (first_report ps (k + 1) more ≡ Some j → (j < k + 1 + more) × (asks_report (slice_get ps j) ≡ true))
    → (if asks then Some k else first_report ps (k + 1) more) ≡ Some j → (j < k + suc more) × (asks_report (slice_get ps j) ≡ true)
at_found ps k more j true a rest e = let s = same_Some k j e in (omega arith, ap (λ (i : ℕ). asks_report (slice_get ps i)) (sym s) ∙ a)
at_found ps k more j false a rest e = let t = rest e in let u = t.0 in (omega arith, t.1)

pub first_report-at : (ps : List (Posting ℕ)) (k count j : ℕ) → first_report ps k count ≡ Some j → (j < k + count) × (asks_report (slice_get ps j) ≡ true)
first_report-at ps k zero j e = absurd (none-some j e)
first_report-at ps k (suc more) j e = at_found ps k more j (asks_report (slice_get ps k)) refl (first_report-at ps (k + 1) more j) e

before_from : (n s x : ℕ) (last : Bool) → x < n → ((x + 1) == n) ≡ last → (if last then 0 else (x + 1)) ≡ s → place_before n s ≡ x
before_from n s x true h t e = let w = eqb-true (x + 1) n t in let z = eq-eqb s 0 (sym e) in rw z (omega arith)
before_from n s x false h t e = let z = ne_eqb s 0 (λ z. absurd (omega arith)) in rw z (omega arith)

-- the place before that of item s is that of the item before it
pub before_is : (n s : ℕ) → 1 < n → 0 < s → place_before n (s % n) ≡ (s - 1) % n
before_is n s some pos = let e : s - 1 + 1 ≡ s = omega arith in let below = mod-lt (s - 1) (let z : 0 < n = omega arith in z) in
    before_from n (s % n) ((s - 1) % n) (((s - 1) % n + 1) == n) below refl (next_place n (s - 1) some ∙ ap (λ (j : ℕ). j % n) e)
