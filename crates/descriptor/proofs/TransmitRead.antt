-- The read format of a transmit descriptor, and its descriptors.
use Rattle.std.proofs.Common.{◌≡◌, ℕ, ◌+◌, ◌*◌, ◌/◌, ◌%◌, ◌<◌, ◌≤◌, ◌^◌, IsTrue, Bool, true, false, Result, Ok, Err, refl, ap, subst, ◌∙◌, arith, rules}
use Rattle.std.proofs.Props.{props}
use Rattle.limits.specs.declared.profile.TheConstants.{BUFFER_BYTES, LEAST_FRAME, MOST_FRAME}
use Rattle.refusals.specs.declared.errors.DescError.{DescError}
use Rattle.refusals.specs.declared.errors.DescError.TheVariants.{Length, Reserved, Kind, Size}
use Rattle.descriptor.specs.declared.tx_read.TxRead.{TxRead}
use Rattle.descriptor.specs.Address.{address_fields}
use Rattle.descriptor.specs.Refusal.{IsLowest}
use Rattle.descriptor.specs.Layout.{KeepsField, KeepsWords, EachField, bit}
use Rattle.descriptor.specs.Transmit.{tx_read_form, tx_read_numbers, tx_read_first, tx_read_second}
use Rattle.descriptor.proofs.BufferAddress.{address-tiles, address-kept}
use Rattle.descriptor.specs.Bounds.{bit_lt}
use Rattle.descriptor.proofs.Bits.{bit-same}
use Rattle.descriptor.proofs.Codec.{IsCodec, lowest-reserved, lowest-kind, lowest-size, words-accepted, words-refused}
use Rattle.descriptor.proofs.Fields.{Tiles, IsNarrow, IsKept, AreSame, word_of-settled}
use Rattle.descriptor.proofs.Refusals.{Decodes}

tx_read-tiles : Tiles 0 tx_read_form.second
tx_read-tiles = search rules

-- ---- the fixed bits of the second word

fixed-sum : (w : ℕ) → w < 2 ^ 64 → EachField (KeepsField Reserved w) tx_read_form.second
    → w ≡ w / 2 ^ 0 % 2 ^ 16 + w / 2 ^ 20 % 2 ^ 4 * 2 ^ 20 + w / 2 ^ 24 % 2 ^ 1 * 2 ^ 24 + 2 ^ 25 + w / 2 ^ 27 % 2 ^ 1 * 2 ^ 27 + w / 2 ^ 29 % 2 ^ 1 * 2 ^ 29 + w / 2 ^ 46 % 2 ^ 18 * 2 ^ 46
fixed-sum w h keeps =
    let sum = word_of-settled w h tx_read_form.second tx_read-tiles keeps in
    omega arith

-- ---- the form and its descriptors

tx_read-narrow : (d : TxRead) → IsNarrow tx_read_form (tx_read_numbers d.number d.len d.eop d.rs d.paylen)
tx_read-narrow d =
    let some = d.fits in
    let most = d.short_enough in
    let few : d.len < 2 ^ 16 = omega arith in
    let short : d.paylen < 2 ^ 18 = omega arith in
    record {
      first = (omega arith, (d.in_range, (omega arith, tt)));
      second = (
        few,
        (
          omega arith,
          (
            omega arith,
            (
              omega arith,
              (
                bit_lt d.eop,
                (
                  omega arith,
                  (
                    omega arith,
                    (
                      bit_lt d.rs,
                      (omega arith, (omega arith, (omega arith, (omega arith, (omega arith, (omega arith, (omega arith, (omega arith, (short, tt))))))))),
                    ),
                  ),
                ),
              ),
            ),
          ),
        ),
      );
    }

-- RS is 0 where EOP is
reports : (rs eop : Bool) (w : ℕ) → (IsTrue rs → IsTrue eop) → w / 2 ^ 24 % 2 ^ 1 ≡ bit eop → w / 2 ^ 24 % 2 ≡ 0 → bit rs ≡ 0
reports false eop w h e zero = refl
reports true true w h e zero = absurd (omega arith)
reports true false w h e zero = absurd (let other : false ≡ true = h refl in cc)

tx_read-kept : (d : TxRead) (e : DescError) → IsKept tx_read_form (tx_read_numbers d.number d.len d.eop d.rs d.paylen) e
tx_read-kept d Length = record { first = λ w made. search rules; second = λ w made. search rules }
tx_read-kept d Reserved = record {
  first = λ w made. search rules;
  second = λ w made. (tt, (refl, (refl, (tt, (tt, (refl, (refl, (reports d.rs d.eop w d.reports_end made.1.1.1.1.0, (refl, (tt, (refl, (refl, (refl, (refl, (refl, (refl, (tt, tt)))))))))))))))));
}
tx_read-kept d Kind = record { first = λ w made. search rules; second = λ w made. search rules }
tx_read-kept d Size = record {
  first = λ w made. let h = d.in_range in (tt, ((omega arith, omega arith), (tt, tt)));
  second = λ w made. (
    (d.some_data, d.fits),
    (tt, (tt, (tt, (tt, (tt, (tt, (tt, (tt, (tt, (tt, (tt, (tt, (tt, (tt, (tt, ((d.long_enough, d.short_enough), tt)))))))))))))))),
  );
}

made : (number len : ℕ) (eop rs : Bool) (paylen : ℕ) → number < 2 ^ 16 → 1 ≤ len → len ≤ BUFFER_BYTES → (IsTrue rs → IsTrue eop) → LEAST_FRAME ≤ paylen → paylen ≤ MOST_FRAME → TxRead
made number len eop rs paylen a b c d e f = record {
  number = number;
  len = len;
  eop = eop;
  rs = rs;
  paylen = paylen;
  in_range = a;
  some_data = b;
  fits = c;
  reports_end = d;
  long_enough = e;
  short_enough = f;
}

-- the facts of a descriptor are no part of what it is
same-facts : (t : TxRead) (a : t.number < 2 ^ 16) (b : 1 ≤ t.len) (c : t.len ≤ BUFFER_BYTES) (d : IsTrue t.rs → IsTrue t.eop) (e : LEAST_FRAME ≤ t.paylen) (f : t.paylen ≤ MOST_FRAME)
    → t ≡ made t.number t.len t.eop t.rs t.paylen a b c d e f
unfolding made
same-facts t a b c d e f =
    let pa : IsProp (t.number < 2 ^ 16) = hlevel props in
    let pb : IsProp (1 ≤ t.len) = hlevel props in
    let pc : IsProp (t.len ≤ BUFFER_BYTES) = hlevel props in
    let pd : IsProp ((IsTrue t.rs → IsTrue t.eop)) = hlevel props in
    let pe : IsProp (LEAST_FRAME ≤ t.paylen) = hlevel props in
    let pf : IsProp (t.paylen ≤ MOST_FRAME) = hlevel props in
    ap (λ (x : t.number < 2 ^ 16). made t.number t.len t.eop t.rs t.paylen x t.some_data t.fits t.reports_end t.long_enough t.short_enough) (pa t.in_range a)
    ∙ ap (λ (x : 1 ≤ t.len). made t.number t.len t.eop t.rs t.paylen a x t.fits t.reports_end t.long_enough t.short_enough) (pb t.some_data b)
    ∙ ap (λ (x : t.len ≤ BUFFER_BYTES). made t.number t.len t.eop t.rs t.paylen a b x t.reports_end t.long_enough t.short_enough) (pc t.fits c)
    ∙ ap (λ (x : IsTrue t.rs → IsTrue t.eop). made t.number t.len t.eop t.rs t.paylen a b c x t.long_enough t.short_enough) (pd t.reports_end d)
    ∙ ap (λ (x : LEAST_FRAME ≤ t.paylen). made t.number t.len t.eop t.rs t.paylen a b c d x t.short_enough) (pe t.long_enough e)
    ∙ ap (λ (x : t.paylen ≤ MOST_FRAME). made t.number t.len t.eop t.rs t.paylen a b c d e x) (pf t.short_enough f)

same-made : (t : TxRead) (number len : ℕ) (eop rs : Bool) (paylen : ℕ) → t.number ≡ number → t.len ≡ len → t.eop ≡ eop → t.rs ≡ rs → t.paylen ≡ paylen
    → (a : number < 2 ^ 16) (b : 1 ≤ len) (c : len ≤ BUFFER_BYTES) (d : IsTrue rs → IsTrue eop) (e : LEAST_FRAME ≤ paylen) (f : paylen ≤ MOST_FRAME)
    → t ≡ made number len eop rs paylen a b c d e f
same-made t number len eop rs paylen is_number is_len is_eop is_rs is_paylen =
    let One : ℕ → Type 0 = λ n. (a : n < 2 ^ 16) (b : 1 ≤ t.len) (c : t.len ≤ BUFFER_BYTES) (d : IsTrue t.rs → IsTrue t.eop) (e : LEAST_FRAME ≤ t.paylen) (f : t.paylen ≤ MOST_FRAME)
    → t ≡ made n t.len t.eop t.rs t.paylen a b c d e f in
    let Two : ℕ → Type 0 = λ l. (a : number < 2 ^ 16) (b : 1 ≤ l) (c : l ≤ BUFFER_BYTES) (d : IsTrue t.rs → IsTrue t.eop) (e : LEAST_FRAME ≤ t.paylen) (f : t.paylen ≤ MOST_FRAME)
    → t ≡ made number l t.eop t.rs t.paylen a b c d e f in
    let Three : Bool → Type 0 = λ x. (a : number < 2 ^ 16) (b : 1 ≤ len) (c : len ≤ BUFFER_BYTES) (d : IsTrue t.rs → IsTrue x) (e : LEAST_FRAME ≤ t.paylen) (f : t.paylen ≤ MOST_FRAME)
    → t ≡ made number len x t.rs t.paylen a b c d e f in
    let Four : Bool → Type 0 = λ x. (a : number < 2 ^ 16) (b : 1 ≤ len) (c : len ≤ BUFFER_BYTES) (d : IsTrue x → IsTrue eop) (e : LEAST_FRAME ≤ t.paylen) (f : t.paylen ≤ MOST_FRAME)
    → t ≡ made number len eop x t.paylen a b c d e f in
    let Five : ℕ → Type 0 = λ p. (a : number < 2 ^ 16) (b : 1 ≤ len) (c : len ≤ BUFFER_BYTES) (d : IsTrue rs → IsTrue eop) (e : LEAST_FRAME ≤ p) (f : p ≤ MOST_FRAME)
    → t ≡ made number len eop rs p a b c d e f in
    subst Five is_paylen (subst Four is_rs (subst Three is_eop (subst Two is_len (subst One is_number (same-facts t)))))

tx_read-alone : (d other : TxRead)
    → AreSame tx_read_form (tx_read_numbers d.number d.len d.eop d.rs d.paylen) (tx_read_numbers other.number other.len other.eop other.rs other.paylen) → d ≡ other
unfolding made
tx_read-alone d other h =
    same-made d other.number other.len other.eop other.rs other.paylen
    h.first.1.0 h.second.0 (bit-same d.eop other.eop h.second.1.1.1.1.0) (bit-same d.rs other.rs h.second.1.1.1.1.1.1.1.0)
    h.second.1.1.1.1.1.1.1.1.1.1.1.1.1.1.1.1.0
    other.in_range other.some_data other.fits other.reports_end other.long_enough other.short_enough

pub tx_read-codec : IsCodec {D = TxRead} tx_read_form (λ d. tx_read_numbers d.number d.len d.eop d.rs d.paylen)
tx_read-codec = record {
  whole = record { first = address-tiles; second = tx_read-tiles };
  narrow = tx_read-narrow;
  kept = tx_read-kept;
  alone = tx_read-alone;
}

-- ---- what a call that decodes answers

abbrev pub TxReadDecodes : ℕ → ℕ → Result TxRead DescError → Type 0
TxReadDecodes first second r = Decodes (λ d. (first ≡ tx_read_first d) × (second ≡ tx_read_second d)) (KeepsWords tx_read_form first second) r

tx_read-refused : (first second : ℕ) (e : DescError) → IsLowest (KeepsWords tx_read_form first second) e → TxReadDecodes first second (Err e)
tx_read-refused first second e lowest =
    words-refused tx_read_form (λ d. tx_read_numbers d.number d.len d.eop d.rs d.paylen) tx_read-codec first second e lowest

pub tx_read-first_refused : (first second : ℕ) → ¬ EachField (KeepsField Reserved first) address_fields → TxReadDecodes first second (Err Reserved)
tx_read-first_refused first second other =
    tx_read-refused first second Reserved (lowest-reserved tx_read_form first second (λ keeps. other keeps.in_first))

pub tx_read-second_refused : (first second : ℕ) → ¬ EachField (KeepsField Reserved second) tx_read_form.second → TxReadDecodes first second (Err Reserved)
tx_read-second_refused first second other =
    tx_read-refused first second Reserved (lowest-reserved tx_read_form first second (λ keeps. other keeps.in_second))

reserved : (first second number : ℕ) → number < 2 ^ 16 → first ≡ 2048 * number → EachField (KeepsField Reserved second) tx_read_form.second
    → KeepsWords tx_read_form first second Reserved
reserved first second number h one keeps = record { in_first = address-kept first number h one; in_second = keeps }

pub tx_read-kind_refused : (first second number : ℕ) → number < 2 ^ 16 → first ≡ 2048 * number → EachField (KeepsField Reserved second) tx_read_form.second
    → ¬ EachField (KeepsField Kind second) tx_read_form.second → TxReadDecodes first second (Err Kind)
tx_read-kind_refused first second number h one keeps other =
    tx_read-refused first second Kind
    (lowest-kind tx_read_form first second (reserved first second number h one keeps) (λ kinds. other kinds.in_second))

pub tx_read-size_refused : (first second number : ℕ) → number < 2 ^ 16 → first ≡ 2048 * number → EachField (KeepsField Reserved second) tx_read_form.second
    → EachField (KeepsField Kind second) tx_read_form.second → ¬ EachField (KeepsField Size second) tx_read_form.second → TxReadDecodes first second (Err Size)
tx_read-size_refused first second number h one keeps kinds other =
    let both : KeepsWords tx_read_form first second Kind = record { in_first = search rules; in_second = kinds } in
    tx_read-refused first second Size
    (lowest-size tx_read_form first second (reserved first second number h one keeps) both (λ sizes. other sizes.in_second))

pub tx_read-accepted : (first second : ℕ) (d : TxRead) → second < 2 ^ 64 → first ≡ 2048 * d.number
    → EachField (KeepsField Reserved second) tx_read_form.second → EachField (KeepsField Kind second) tx_read_form.second
    → d.len ≡ second / 2 ^ 0 % 2 ^ 16 → bit d.eop ≡ second / 2 ^ 24 % 2 → bit d.rs ≡ second / 2 ^ 27 % 2 → d.paylen ≡ second / 2 ^ 46 % 2 ^ 18
    → TxReadDecodes first second (Ok d)
tx_read-accepted first second d h one keeps kinds is_len is_eop is_rs is_paylen =
    let sum = fixed-sum second h keeps in
    let data_kind = kinds.1.1.1.0 in
    let extended = kinds.1.1.1.1.1.1.1.1.1.0 in
    words-accepted tx_read_form (λ d. tx_read_numbers d.number d.len d.eop d.rs d.paylen) tx_read-codec first second d (omega arith, omega arith)
