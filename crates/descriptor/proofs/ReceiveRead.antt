-- The read format of a receive descriptor, and its descriptors.
use Rattle.std.proofs.Common.{◌≡◌, ℕ, ◌*◌, ◌<◌, ◌^◌, Result, Ok, refl, ap, subst, arith, rules}
use Rattle.std.proofs.Props.{props}
use Rattle.refusals.specs.declared.errors.DescError.{DescError}
use Rattle.refusals.specs.declared.errors.DescError.TheVariants.{Length, Reserved, Kind, Size}
use Rattle.descriptor.specs.declared.rx_read.RxRead.{RxRead}
use Rattle.descriptor.specs.Layout.{KeepsWords}
use Rattle.descriptor.specs.Receive.{rx_read_form, rx_read_numbers, rx_read_first, rx_read_second}
use Rattle.descriptor.proofs.BufferAddress.{address-tiles}
use Rattle.descriptor.proofs.Codec.{IsCodec, words-accepted}
use Rattle.descriptor.proofs.Fields.{IsWhole, IsNarrow, IsKept, AreSame}
use Rattle.descriptor.proofs.Refusals.{Decodes}

rx_read-whole : IsWhole rx_read_form
rx_read-whole = record { first = address-tiles; second = (refl, (refl, refl)) }

rx_read-narrow : (number : ℕ) → number < 2 ^ 16 → IsNarrow rx_read_form (rx_read_numbers number)
rx_read-narrow number h = record {
  first = (omega arith, (h, (omega arith, tt)));
  second = search rules;
}

rx_read-kept : (number : ℕ) → number < 2 ^ 16 → (e : DescError) → IsKept rx_read_form (rx_read_numbers number) e
rx_read-kept number h Length = record { first = λ w made. search rules; second = λ w made. search rules }
rx_read-kept number h Reserved = record { first = λ w made. search rules; second = λ w made. search rules }
rx_read-kept number h Kind = record { first = λ w made. search rules; second = λ w made. search rules }
rx_read-kept number h Size = record { first = λ w made. (tt, ((omega arith, omega arith), (tt, tt))); second = λ w made. search rules }

made : (number : ℕ) → number < 2 ^ 16 → RxRead
made number h = record { number = number; in_range = h }

same-made : (d : RxRead) (number : ℕ) → d.number ≡ number → (h : number < 2 ^ 16) → d ≡ made number h
unfolding made
same-made d number e h =
    let one : IsProp (d.number < 2 ^ 16) = hlevel props in
    let here : (l : d.number < 2 ^ 16) → d ≡ made d.number l = λ l. ap (λ (x : d.number < 2 ^ 16). made d.number x) (one d.in_range l) in
    let P : ℕ → Type 0 = λ n. (l : n < 2 ^ 16) → d ≡ made n l in
    subst P e here h

rx_read-alone : (d other : RxRead) → AreSame rx_read_form (rx_read_numbers d.number) (rx_read_numbers other.number) → d ≡ other
unfolding made
rx_read-alone d other h = same-made d other.number h.first.1.0 other.in_range

pub rx_read-codec : IsCodec {D = RxRead} rx_read_form (λ d. rx_read_numbers d.number)
rx_read-codec = record {
  whole = rx_read-whole;
  narrow = λ d. rx_read-narrow d.number d.in_range;
  kept = λ d. rx_read-kept d.number d.in_range;
  alone = rx_read-alone;
}

-- ---- what a call that decodes answers

abbrev pub RxReadDecodes : ℕ → ℕ → Result RxRead DescError → Type 0
RxReadDecodes first second r = Decodes (λ d. (first ≡ rx_read_first d) × (second ≡ rx_read_second d)) (KeepsWords rx_read_form first second) r

pub rx_read-accepted : (first second : ℕ) (d : RxRead) → first ≡ 2048 * d.number → second ≡ 0 → RxReadDecodes first second (Ok d)
rx_read-accepted first second d one two =
    words-accepted rx_read_form (λ d. rx_read_numbers d.number) rx_read-codec first second d (omega arith, omega arith)
