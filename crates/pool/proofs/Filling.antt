-- A queue as it is filled with the buffers of a full stock.
use Rattle.std.proofs.Common.{◌≡◌, ℕ, suc, ◌+◌, ◌-◌, ◌≤◌, List, [], ◌∷◌, ◌++◌, length, Option, Some, sym, ap, ◌∙◌, subst, arith}
use Rattle.std.specs.List.{range_with_len}
use Rattle.std.proofs.lemmas.List.FromFn.{length-range_with_len}
use Rattle.buffer_pool.specs.Buffer.{Buffer}
use Rattle.buffer_pool.specs.Stocked.{Stocked, full_stock, with_number}
use Rattle.pool.specs.declared.hand.Hand.{Hand}
use Rattle.pool.specs.declared.hand.TheConstants.{WHOLE_SHARE}
use Rattle.pool.specs.Hands.{hand, fresh_hand}
use Rattle.pool.specs.Plays.{Added}
use Rattle.pool.proofs.Rules.{range-last}

-- where the stock stands as the loop comes to the buffer i
pub record IsLeft (s : Stocked) (count : ℕ) : Type 0 where
  pub some : length s.numbers ≤ count
  pub numbers : s.numbers ≡ range_with_len (count - length s.numbers) (length s.numbers)

pub left-first : (s : Stocked) → s ≡ full_stock 0 s.count → IsLeft s s.count × (s.count - length s.numbers ≡ 0)
left-first s e =
    let all : length s.numbers ≡ s.count = ap (λ (x : Stocked). length x.numbers) e ∙ length-range_with_len 0 s.count in
    let none : s.count - length s.numbers ≡ 0 = omega arith in
    (record { some = omega arith; numbers = rw (none, all) (ap (λ (x : Stocked). x.numbers) e) }, none)

-- the next buffer is the one with the next number
pub record IsNext (s after : Stocked) (count number : ℕ) : Type 0 where
  pub is : number ≡ count - length s.numbers
  pub below : number + 1 ≡ count - length after.numbers
  pub less : number + 1 ≤ count
  pub left : IsLeft after count

next-numbers : (count x : ℕ) (xs : List ℕ) → suc (length xs) ≤ count → x ∷ xs ≡ range_with_len (count - suc (length xs)) (suc (length xs))
    → (x ≡ count - suc (length xs)) × (xs ≡ range_with_len (count - length xs) (length xs))
next-numbers count x xs some e =
    let next : count - suc (length xs) + 1 ≡ count - length xs = omega arith in
    (cc, (let rest : xs ≡ range_with_len (count - suc (length xs) + 1) (length xs) = cc in rw (← next) rest))

pub left-next : (s after : Stocked) (count number : ℕ) → IsLeft s count → s ≡ with_number after number → IsNext s after count number
left-next s after count number left e =
    let numbers : s.numbers ≡ number ∷ after.numbers = ap (λ (x : Stocked). x.numbers) e in
    let long = ap (length {A = ℕ}) numbers in
    let here = next-numbers count number after.numbers (omega arith)
    (subst (λ (ns : List ℕ). ns ≡ range_with_len (count - length ns) (length ns)) numbers left.numbers) in
    record {
      is = omega (arith, here.0);
      below = omega (arith, here.0);
      less = omega (arith, here.0);
      left = record { some = omega arith; numbers = here.1 };
    }

hand-same : (w : Hand) (share count : ℕ) (held : List ℕ) (queued : Option (List ℕ)) → w.share ≡ share → w.count ≡ count → w.held ≡ held → w.queued ≡ queued
    → w ≡ hand share count held queued
hand-same w share count held queued a b c d = λ i. hand (a i) (b i) (c i) (d i)

pub added-fresh : (v w : Hand) (b : Buffer) (i : ℕ) → v ≡ fresh_hand i → b.number ≡ i → Added v b w → w ≡ fresh_hand (i + 1)
added-fresh v w b i e number added =
    let a : Added (fresh_hand i) b w = subst (λ (x : Hand). Added x b w) e added in
    hand-same w WHOLE_SHARE (i + 1) [] (Some (range_with_len 0 (i + 1))) a.share a.count a.held
    (a.queued ∙ ap (λ (n : ℕ). Some (range_with_len 0 i ++ n ∷ [])) number ∙ ap (λ (q : List ℕ). Some q) (sym (range-last i)))
