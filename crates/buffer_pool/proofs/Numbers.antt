-- The numbers in a stock, as buffers come and go.
use Rattle.std.proofs.Common.{◌≡◌, ◌≢◌, ℕ, zero, suc, ◌+◌, ◌-◌, ◌<◌, ◌≤◌, List, ◌∷◌, ◌++◌, length, get_or, All, AllPairs, Contains, nat_eq, true, sym, ◌∙◌, ap, subst, arith, length-append}
use Rattle.std.specs.List.{range_with_len}
use Rattle.std.specs.Set.{is_member}
use Rattle.std.proofs.lemmas.List.{get_or_default, get_or_append_left}
use Rattle.std.proofs.lemmas.List.Elements.{All-tail}
use Rattle.std.proofs.lemmas.List.FromFn.{length-range_with_len, get_or-range_with_len}
use Rattle.std.proofs.lemmas.List.Kept.{AllPairs-cons}
use Rattle.std.proofs.lemmas.List.Sorted.{IsPermutation-sym, IsPermutation-trans, IsPermutation-middle, All-permutation}
use Rattle.std.proofs.lemmas.Bool.Decides.{Decides-eqb}
use Rattle.std.proofs.lemmas.Cmp.{nat_eq_equiv}
use Rattle.std.proofs.lemmas.Map.Keys.{IsDistinct-IsPermutation}
use Rattle.std.proofs.lemmas.Map.Made.{IsDistinct-from_AllPairs, AllPairs-from_IsDistinct, is_member-Decides, length-le_from_is_member}
use Rattle.std.proofs.Math.Seq.{get_or-append_seam}
use Rattle.buffer_pool.specs.Stocked.{Stocked, full_stock, with_number, IsNumberOf, IsStock, IsOut, Shares}

All-cons : (P : ℕ → Type 0) (x : ℕ) (xs : List ℕ) → P x → All P xs → All P (x ∷ xs)
All-cons P x xs p ps zero d h = p
All-cons P x xs p ps (suc k) d h = ps k d (omega arith)

-- ---- the buffer on top leaves

AllPairs-tail : (R : ℕ → ℕ → Type 0) (x : ℕ) (xs : List ℕ) → AllPairs R (x ∷ xs) → AllPairs R xs
AllPairs-tail R x xs r i j d h l = r (suc i) (suc j) d (omega arith) (omega arith)

pub IsStock-rest : (s : Stocked) (number : ℕ) → IsStock (with_number s number) → IsStock s
IsStock-rest s number h = record {
  of_range = All-tail (IsNumberOf s) number s.numbers h.of_range;
  once = AllPairs-tail (λ one other. one ≢ other) number s.numbers h.once;
}

pub IsOut-taken : (s : Stocked) (number : ℕ) → IsStock (with_number s number) → IsOut s number
IsOut-taken s number h = record {
  of_range = h.of_range 0 number (omega arith);
  absent = λ (k, l, e). h.once 0 (suc k) number (omega arith) (omega arith) (sym e);
}

-- ---- a buffer comes back

pub IsStock-with_number : (s : Stocked) (number : ℕ) → IsStock s → IsOut s number → IsStock (with_number s number)
IsStock-with_number s number h out = record {
  of_range = All-cons (IsNumberOf s) number s.numbers out.of_range h.of_range;
  once = AllPairs-cons (λ one other. one ≢ other) number s.numbers
      (λ k d l e. out.absent (k, l, get_or_default s.numbers k number d l ∙ sym e)) h.once;
}

-- ---- never more numbers than the range has

Contains-range : (first count number : ℕ) → first ≤ number → number < first + count → Contains (range_with_len first count) number
Contains-range first count number low high =
    let place : number - first < count = omega arith in (
      number - first,
      omega (arith, length-range_with_len first count),
      get_or-range_with_len first count (number - first) number place ∙ omega arith,
    )

range-has : (s : Stocked) (q : ℕ) → IsNumberOf s q → is_member nat_eq (range_with_len s.first s.count) q ≡ true
range-has s q h = (is_member-Decides Decides-eqb (range_with_len s.first s.count) q).1 (Contains-range s.first s.count q h.0 h.1)

member-in_range : (s : Stocked) (q : ℕ) → IsStock s → is_member nat_eq s.numbers q ≡ true
    → is_member nat_eq (range_with_len s.first s.count) q ≡ true
member-in_range s q h m =
    let found : Contains s.numbers q = (is_member-Decides Decides-eqb s.numbers q).0 m in
    range-has s q (subst (IsNumberOf s) found.2 (h.of_range found.0 q found.1))

length-le_count : (s : Stocked) → IsStock s → length s.numbers ≤ s.count
length-le_count s h =
    let once = IsDistinct-from_AllPairs Decides-eqb s.numbers h.once in
    omega (
      arith,
      length-range_with_len s.first s.count,
      length-le_from_is_member nat_eq_equiv s.numbers (range_with_len s.first s.count) once (λ q m. member-in_range s q h m),
    )

pub length-lt_count : (s : Stocked) (number : ℕ) → IsStock s → IsOut s number → length s.numbers < s.count
length-lt_count s number h out = omega (arith, length-le_count (with_number s number) (IsStock-with_number s number h out))

-- ---- a full stock

range-at : (first count k d : ℕ) → k < length (range_with_len first count) → get_or (range_with_len first count) k d ≡ first + k
range-at first count k d h = get_or-range_with_len first count k d (omega (arith, length-range_with_len first count))

pub IsStock-full_stock : (first count : ℕ) → IsStock (full_stock first count)
IsStock-full_stock first count = record {
  of_range = λ k d h. omega (arith, range-at first count k d h, length-range_with_len first count);
  once = λ i j d h l e.
      let before : i < length (range_with_len first count) = omega arith in
      omega (arith, range-at first count i d before, range-at first count j d l);
}

-- the range from one number earlier on
pub range_with_len-before : (number past : ℕ) → 0 < number → number ≤ past
    → range_with_len (number - 1) (past - (number - 1)) ≡ (number - 1) ∷ range_with_len number (past - number)
range_with_len-before number past low high =
    let longer : past - (number - 1) ≡ suc (past - number) = omega arith in
    let next : number - 1 + 1 ≡ number = omega arith in
    ap (range_with_len (number - 1)) longer
    ∙ ap (λ (from : ℕ). (number - 1) ∷ range_with_len from (past - number)) next

-- ---- in the stock or out

pub Shares-taken : (s : Stocked) (number : ℕ) (out : List ℕ) → Shares (with_number s number) out → Shares s (number ∷ out)
Shares-taken s number out h =
    let on_top : List ℕ = number ∷ (s.numbers ++ out) in
    let outside : List ℕ = s.numbers ++ number ∷ out in
    let moved = IsPermutation-sym outside on_top (IsPermutation-middle s.numbers number out) in
    IsPermutation-trans (range_with_len s.first s.count) on_top outside h moved

pub Shares-given : (s : Stocked) (number : ℕ) (out : List ℕ) → Shares s (number ∷ out) → Shares (with_number s number) out
Shares-given s number out h =
    let moved = IsPermutation-middle s.numbers number out in
    IsPermutation-trans (range_with_len s.first s.count) (s.numbers ++ number ∷ out) (number ∷ (s.numbers ++ out)) h moved

-- a number that is out may come back
pub IsOut-from_Shares : (s : Stocked) (number : ℕ) (out : List ℕ) → Shares s (number ∷ out) → IsOut s number
IsOut-from_Shares s number out h =
    let range : List ℕ = range_with_len s.first s.count in
    let all : List ℕ = s.numbers ++ number ∷ out in
    let full : IsStock (full_stock s.first s.count) = IsStock-full_stock s.first s.count in
    let of_range : All (IsNumberOf s) all = All-permutation (IsNumberOf s) range all h full.of_range in
    let in_range = IsDistinct-from_AllPairs Decides-eqb range full.once in
    let distinct = IsDistinct-IsPermutation nat_eq nat_eq_equiv.symm range all h in_range in
    let once = AllPairs-from_IsDistinct Decides-eqb all distinct in
    let place : length s.numbers < length all = omega (arith, length-append s.numbers (number ∷ out)) in
    let here : get_or all (length s.numbers) number ≡ number = get_or-append_seam s.numbers number out number in
    record {
      of_range = subst (IsNumberOf s) here (of_range (length s.numbers) number place);
      absent = λ (k, l, e).
          let there = get_or_append_left s.numbers (number ∷ out) number k l in
          once k (length s.numbers) number l place (there ∙ e ∙ sym here);
    }
