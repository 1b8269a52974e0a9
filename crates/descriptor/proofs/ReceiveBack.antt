-- The receive write-back's form and its descriptors.
use Rattle.std.proofs.Common.{◌≡◌, ◌≢◌, ℕ, ◌+◌, ◌*◌, ◌/◌, ◌%◌, ◌<◌, ◌≤◌, ◌^◌, Bool, Result, Ok, Err, refl, sym, ap, subst, ◌∙◌, arith, rules}
use Rattle.std.proofs.Props.{props}
use Rattle.limits.specs.declared.profile.TheConstants.{BUFFER_BYTES}
use Rattle.refusals.specs.declared.errors.DescError.{DescError}
use Rattle.refusals.specs.declared.errors.DescError.TheVariants.{Length, Reserved, Kind, Size}
use Rattle.descriptor.specs.declared.rx_back.RxBack.{RxBack}
use Rattle.descriptor.specs.Layout.{KeepsWords, word_of, bit}
use Rattle.descriptor.specs.Receive.{rx_back_form, rx_back_numbers, rx_back_first, rx_back_second}
use Rattle.descriptor.proofs.Fields.{IsWhole, IsNarrow, IsKept, AreSame, settled, word_of-settled}
use Rattle.descriptor.proofs.Codec.{IsCodec, lowest-reserved, words-accepted, words-refused}
use Rattle.descriptor.proofs.Refusals.{Decodes}
use Rattle.descriptor.specs.Bounds.{bit_lt}
use Rattle.descriptor.proofs.Bits.{bit-same}

rx_back-whole : IsWhole rx_back_form
rx_back-whole = record { first = (refl, (refl, (refl, (refl, (refl, (refl, refl)))))); second = (refl, (refl, (refl, (refl, (refl, (refl, refl)))))) }

rx_back-narrow : (len : ℕ) (eop : Bool) → len < 2 ^ 16 → IsNarrow rx_back_form (rx_back_numbers len eop)
rx_back-narrow len eop h = record {
  first = search rules;
  second = (omega arith, (bit_lt eop, (omega arith, (omega arith, (h, (omega arith, tt))))));
}

rx_back-reserved : (len : ℕ) (eop : Bool) → IsKept rx_back_form (rx_back_numbers len eop) Reserved
rx_back-reserved len eop = record { first = λ w made. search rules; second = λ w made. search rules }

rx_back-kept : (d : RxBack) (e : DescError) → IsKept rx_back_form (rx_back_numbers d.len d.eop) e
rx_back-kept d Length = record { first = λ w made. search rules; second = λ w made. search rules }
rx_back-kept d Reserved = rx_back-reserved d.len d.eop
rx_back-kept d Kind = record { first = λ w made. search rules; second = λ w made. search rules }
rx_back-kept d Size = record { first = λ w made. search rules; second = λ w made. search rules }

made : (len : ℕ) (eop : Bool) → 1 ≤ len → len ≤ BUFFER_BYTES → RxBack
made len eop low high = record { len = len; eop = eop; some_data = low; fits = high }

same-made : (d : RxBack) (len : ℕ) → d.len ≡ len → (eop : Bool) → d.eop ≡ eop → (low : 1 ≤ len) (high : len ≤ BUFFER_BYTES) → d ≡ made len eop low high
unfolding made
same-made d len e eop e' low high =
    let one : IsProp (1 ≤ d.len) = hlevel props in
    let two : IsProp (d.len ≤ BUFFER_BYTES) = hlevel props in
    let here : (l : 1 ≤ d.len) (h : d.len ≤ BUFFER_BYTES) → d ≡ made d.len d.eop l h = λ l h.
    ap (λ (x : 1 ≤ d.len). made d.len d.eop x d.fits) (one d.some_data l) ∙ ap (λ (y : d.len ≤ BUFFER_BYTES). made d.len d.eop l y) (two d.fits h) in
    let P : ℕ → Type 0 = λ n. (l : 1 ≤ n) (h : n ≤ BUFFER_BYTES) → d ≡ made n d.eop l h in
    let Q : Bool → Type 0 = λ b. d ≡ made len b low high in
    subst Q e' (subst P e here low high)

rx_back-alone : (d other : RxBack) → AreSame rx_back_form (rx_back_numbers d.len d.eop) (rx_back_numbers other.len other.eop) → d ≡ other
unfolding made
rx_back-alone d other h =
    same-made d other.len h.second.1.1.1.1.0 other.eop (bit-same d.eop other.eop h.second.1.0) other.some_data other.fits

pub rx_back-codec : IsCodec {D = RxBack} rx_back_form (λ d. rx_back_numbers d.len d.eop)
rx_back-codec = record {
  whole = rx_back-whole;
  narrow = λ d. rx_back-narrow d.len d.eop (omega (arith, d.fits));
  kept = rx_back-kept;
  alone = rx_back-alone;
}

-- ---- what a call that decodes answers

abbrev pub RxBackDecodes : ℕ → ℕ → Result RxBack DescError → Type 0
RxBackDecodes first second r = Decodes (λ d. (first ≡ rx_back_first d) × (second ≡ rx_back_second d)) (KeepsWords rx_back_form first second) r

pub rx_back-first_refused : (first second : ℕ) → first < 2 ^ 64 → first ≢ 0 → RxBackDecodes first second (Err Reserved)
rx_back-first_refused first second h other =
    words-refused rx_back_form (λ d. rx_back_numbers d.len d.eop) rx_back-codec first second Reserved
    (lowest-reserved rx_back_form first second
    (λ keeps. other (sym (word_of-settled first h rx_back_form.first rx_back-whole.first keeps.in_first))))

-- the second word as its fields have it
settled-second : (second : ℕ) → word_of (settled second) rx_back_form.second ≡ 1 + 2 * (second / 2 ^ 1 % 2 ^ 1) + second / 2 ^ 32 % 2 ^ 16 * 2 ^ 32
settled-second second = omega arith

pub rx_back-second_refused : (first second len : ℕ) (eop : Bool) → second < 2 ^ 64 → len ≡ second / 2 ^ 32 % 2 ^ 16 → bit eop ≡ second / 2 ^ 1 % 2 ^ 1
    → second ≢ 1 + 2 * bit eop + len * 2 ^ 32 → RxBackDecodes first second (Err Reserved)
rx_back-second_refused first second len eop h is_len is_eop other =
    words-refused rx_back_form (λ d. rx_back_numbers d.len d.eop) rx_back-codec first second Reserved
    (lowest-reserved rx_back_form first second
    (λ keeps.
    let sum = word_of-settled second h rx_back_form.second rx_back-whole.second keeps.in_second in
    let fields = settled-second second in
    other (omega arith)))

pub rx_back-accepted : (first second : ℕ) (d : RxBack) → first ≡ 0 → second ≡ 1 + 2 * bit d.eop + d.len * 2 ^ 32 → RxBackDecodes first second (Ok d)
rx_back-accepted first second d one two =
    words-accepted rx_back_form (λ d. rx_back_numbers d.len d.eop) rx_back-codec first second d (one, omega arith)
