-- Lists that are repeated, and where one stands in them.
use Rattle.std.proofs.Common.{◌≡◌, ◌≢◌, ◌∙◌, ◌⊎◌, ⊎_elim, inl, inr, ℕ, zero, suc, ◌+◌, ◌-◌, ◌*◌, ◌<◌, ◌≤◌, List, [], ◌∷◌, ◌++◌, length, ap, sym, refl, arith, get_or, length-append}
use Rattle.std.specs.Prelude.{slice_get, None, Some}
use Rattle.std.proofs.Math.Arith.{lt_of_le-ne}
use Rattle.std.proofs.lemmas.List.{length-map}
use Rattle.std.proofs.lemmas.Option.{slice_get_past, slice_get_read}
use Rattle.ring_model.specs.shared.Frames.{Bytes}
use Rattle.wire_script.specs.Frame.{Frame}
use Rattle.flows.specs.Keys.{bytes_at, frames_at, repeated}
use Rattle.flows.specs.Offering.{IsWithin, Offering, offering}

more-times : (n k : ℕ) → suc n * k ≡ n * k + k
more-times n k = omega arith

module _ {X : Type 0} where
  pub length-repeated : (n : ℕ) (xs : List X) → length (repeated n xs) ≡ n * length xs
  length-repeated zero xs = let e : 0 ≡ 0 * length xs = omega arith in e
  length-repeated (suc n) xs = let rest = length-repeated n xs in let sum = length-append xs (repeated n xs) in let more = more-times n (length xs) in omega (arith, rest, sum, more)

  get-left : (xs ys : List X) (i : ℕ) → i < length xs → slice_get (xs ++ ys) i ≡ slice_get xs i
  get-left [] ys i low = absurd (omega (arith, low))
  get-left (x ∷ xs) ys zero low = refl
  get-left (x ∷ xs) ys (suc i) low = get-left xs ys i (omega (arith, low))

  get-right : (xs ys : List X) (i : ℕ) → slice_get (xs ++ ys) (length xs + i) ≡ slice_get ys i
  get-right [] ys i = let e : 0 + i ≡ i = omega arith in ap (slice_get ys) e
  get-right (x ∷ xs) ys i = let e : suc (length xs) + i ≡ suc (length xs + i) = omega arith in ap (slice_get (x ∷ xs ++ ys)) e ∙ get-right xs ys i

  -- in each round the items are those of the list
  get-round : (n r i : ℕ) (xs : List X) → r < n → i < length xs → slice_get (repeated n xs) (r * length xs + i) ≡ slice_get xs i
  get-round zero r i xs low within = absurd (omega (arith, low))
  get-round (suc n) zero i xs low within = let at : 0 * length xs + i ≡ i = omega arith in ap (slice_get (xs ++ repeated n xs)) at ∙ get-left xs (repeated n xs) i within
  get-round (suc n) (suc r) i xs low within =
      let more = more-times r (length xs) in
      let at : suc r * length xs + i ≡ length xs + (r * length xs + i) = omega (arith, more) in
      ap (slice_get (repeated (suc n) xs)) at ∙ get-right xs (repeated n xs) (r * length xs + i) ∙ get-round n r i xs (omega (arith, low)) within

rounds-left : (repeat rounds k : ℕ) → rounds ≤ repeat → repeat * k ≡ (repeat - rounds) * k + rounds * k
rounds-left repeat zero k few = let e : repeat - 0 ≡ repeat = omega arith in ap (λ n. n * k) (sym e) ∙ omega arith
rounds-left (suc repeat) (suc rounds) k few =
    let rest = rounds-left repeat rounds k (omega (arith, few)) in
    let more = more-times repeat k in let fewer = more-times rounds k in
    let e : suc repeat - suc rounds ≡ repeat - rounds = omega arith in
    let same = ap (λ n. n * k) e in
    omega (arith, rest, more, fewer, same)
rounds-left zero (suc rounds) k few = absurd (omega (arith, few))

-- the frame that was read at a place of the script
at-place : (script : List Frame) (places : List ℕ) (at : ℕ) (f : Frame) → at < length places → slice_get script (get_or places at 0) ≡ Some f → slice_get (frames_at script places) at ≡ Some f.bytes
at-place script [] at f low e = absurd (omega (arith, low))
at-place script (k ∷ ks) zero f low e = ap (λ o. Some (bytes_at o)) e
at-place script (k ∷ ks) (suc at) f low e = at-place script ks at f (omega (arith, low)) e

read-at : (script : List Frame) (places : List ℕ) (at : ℕ) (f : Frame) → at < length places → get_or places at 0 < length script
    → f ≡ get_or script (get_or places at 0) f → slice_get (frames_at script places) at ≡ Some f.bytes
read-at script places at f low within is = at-place script places at f low (slice_get_read script (length script) (get_or places at 0) f refl within is)

-- there are as many frames as places
pub as-many : (script : List Frame) (places : List ℕ) → length (frames_at script places) ≡ length places
as-many script places = length-map places (λ k. bytes_at (slice_get script k))

zero-or-more : (n : ℕ) → (n ≡ 0) ⊎ (0 < n)
zero-or-more zero = inl refl
zero-or-more (suc n) = inr (omega arith)

-- ---- the frames at some places of a script, repeated

module _ (script : List Frame) (places : List ℕ) (repeat rounds at : ℕ) (w : IsWithin (length places) repeat rounds at) where
  abbrev fs : List Bytes
  fs = frames_at script places

  abbrev state : Offering
  state = offering fs repeat rounds at

  long : length state.frames ≡ (repeat - rounds) * length fs + rounds * length fs
  long = length-repeated repeat fs ∙ rounds-left repeat rounds (length fs) w.few

  -- none is left
  pub no-next : rounds ≡ 0 → slice_get state.frames state.next ≡ None
  no-next none =
      let h = long in let start = w.none none in let no : rounds * length fs ≡ 0 = ap (λ n. n * length fs) none ∙ omega arith in
      slice_get_past state.frames state.next (omega (arith, h, start, no))

  pub is-left : state.next < length state.frames → 0 < rounds
  is-left low = ⊎_elim
      (λ (none : rounds ≡ 0). let h = long in let no : rounds * length fs ≡ 0 = ap (λ n. n * length fs) none ∙ omega arith in absurd (omega (arith, h, no, low)))
      (λ (some : 0 < rounds). some) (zero-or-more rounds)

  module _ (some : 0 < rounds) where
    pub next-is : (f : Frame) → get_or places at 0 < length script → f ≡ get_or script (get_or places at 0) f → slice_get state.frames state.next ≡ Some f.bytes
    next-is f within is =
        let few = w.few in let low = w.some some in let same = as-many script places in
        get-round repeat (repeat - rounds) at fs (omega (arith, few, some)) (omega (arith, low, same)) ∙ read-at script places at f low within is

    -- one more, in the same round
    pub goes-on : at + 1 ≢ length places → IsWithin (length places) repeat rounds (at + 1)
    goes-on more = let low = w.some some in record { few = w.few; none = λ e. absurd (omega (arith, e, some)); some = λ h. lt_of_le-ne (omega (arith, low)) more }

    -- and the last of a round
    pub next-anew : at + 1 ≡ length places → (offering fs repeat (rounds - 1) 0).next ≡ state.next + 1
    next-anew last =
        let few = w.few in let same = as-many script places in
        let e : repeat - (rounds - 1) ≡ suc (repeat - rounds) = omega (arith, few, some) in
        let more = ap (λ n. n * length fs) e ∙ more-times (repeat - rounds) (length fs) in
        omega (arith, more, last, same)
