-- What bulk calls move, one buffer after another.
use Rattle.std.proofs.Common.{◌≡◌, ℕ, zero, suc, ◌+◌, ◌-◌, ◌<◌, ◌≤◌, List, [], ◌∷◌, ◌++◌, length, take, drop, Option, Some, None, IfSome, Contains, IsPermutation, refl, sym, ap, ◌∙◌, subst, arith, append_assoc, length-append}
use Rattle.std.specs.List.{sum_by}
use Rattle.std.proofs.lemmas.List.{reverse-append, append-nil}
use Rattle.std.proofs.lemmas.List.Sums.{sum_by-cons}
use Rattle.std.proofs.lemmas.List.Sorted.{IsPermutation-sym, Contains-permutation, sum_by-IsPermutation}
use Rattle.pool.specs.declared.hand.Hand.{Hand}
use Rattle.pool.specs.Bulk.{Refilled}
use Rattle.pool.specs.Hands.{total, without, without_all, HoldsAll, Took, Gave}
use Rattle.pool.proofs.Rules.{IfSome-map}
use Rattle.pool.proofs.Totals.{total-without}
use Rattle.pool.proofs.Accounts.{same-members}

-- ---- taking

taken-none : (o : Option (List ℕ)) → IfSome o (λ q. (rest : List ℕ) × (q ≡ [] ++ rest) × (o ≡ Some rest))
taken-none None = tt
taken-none (Some q) = (q, refl, refl)

pub refilled-none : (v : Hand) (stash : List ℕ) → Refilled v stash 0 v stash
refilled-none v stash = record {
  numbers = [];
  as_many = refl;
  took = record { share = refl; count = refl; held = refl; queued = taken-none v.queued };
  stashed = refl;
}

took-more : (v w x : Hand) (ns : List ℕ) (n : ℕ) → Took v ns w → Took w (n ∷ []) x → Took v (ns ++ n ∷ []) x
took-more v w x ns n a b = record {
  share = b.share ∙ a.share;
  count = b.count ∙ a.count;
  held = b.held ∙ ap (λ (xs : List ℕ). n ∷ xs) a.held ∙ ap (λ (xs : List ℕ). xs ++ v.held) (sym (reverse-append ns (n ∷ [])));
  queued = IfSome-map
      (λ q. (rest : List ℕ) × (q ≡ ns ++ rest) × (w.queued ≡ Some rest))
      (λ q. (rest : List ℕ) × (q ≡ (ns ++ n ∷ []) ++ rest) × (x.queued ≡ Some rest))
      v.queued
      (λ q h.
      let then = subst (λ (o : Option (List ℕ)). IfSome o (λ r. (rest : List ℕ) × (r ≡ (n ∷ []) ++ rest) × (x.queued ≡ Some rest))) h.2 b.queued in
      (then.0, h.1 ∙ ap (λ (r : List ℕ). ns ++ r) then.1 ∙ sym (append_assoc ns (n ∷ []) then.0), then.2))
      a.queued;
}

pub refilled-more : (v : Hand) (stash : List ℕ) (moved : ℕ) (w : Hand) (now : List ℕ) (n : ℕ) (x : Hand) (after : List ℕ)
    → Refilled v stash moved w now → Took w (n ∷ []) x → after ≡ n ∷ now → Refilled v stash (moved + 1) x after
refilled-more v stash moved w now n x after r took put = record {
  numbers = r.numbers ++ n ∷ [];
  as_many = simp length-append (omega (arith, r.as_many));
  took = took-more v w x r.numbers n r.took took;
  stashed = put ∙ ap (λ (xs : List ℕ). n ∷ xs) r.stashed ∙ ap (λ (xs : List ℕ). xs ++ stash) (sym (reverse-append r.numbers (n ∷ [])));
}

-- ---- giving

gave-none : (v : Hand) → Gave v [] v
gave-none v = record { share = refl; count = refl; held = refl; queued = given-none v.queued }
  where
    given-none : (o : Option (List ℕ)) → IfSome o (λ q. o ≡ Some (q ++ []))
    given-none None = tt
    given-none (Some q) = ap (λ (r : List ℕ). Some r) (sym (append-nil q))

without_all-more : (ns : List ℕ) (n : ℕ) (xs : List ℕ) → without_all (ns ++ n ∷ []) xs ≡ without n (without_all ns xs)
without_all-more [] n xs = refl
without_all-more (m ∷ ns) n xs = without_all-more ns n (without m xs)

gave-more : (v w x : Hand) (ns : List ℕ) (n : ℕ) → Gave v ns w → Gave w (n ∷ []) x → Gave v (ns ++ n ∷ []) x
gave-more v w x ns n a b = record {
  share = b.share ∙ a.share;
  count = b.count ∙ a.count;
  held = b.held ∙ ap (without n) a.held ∙ sym (without_all-more ns n v.held);
  queued = IfSome-map (λ q. w.queued ≡ Some (q ++ ns)) (λ q. x.queued ≡ Some (q ++ (ns ++ n ∷ []))) v.queued
      (λ q h. subst (λ (o : Option (List ℕ)). IfSome o (λ r. x.queued ≡ Some (r ++ n ∷ []))) h b.queued
      ∙ ap (λ (r : List ℕ). Some r) (append_assoc q ns (n ∷ []))) a.queued;
}

total-is : (h : ℕ → ℕ) (xs : List ℕ) → total h xs ≡ sum_by h xs
total-is h [] = refl
total-is h (x ∷ xs) = ap (λ (s : ℕ). h x + s) (total-is h xs) ∙ sym (sum_by-cons h x xs)

pub total-shuffled : (h : ℕ → ℕ) (xs ys : List ℕ) → IsPermutation xs ys → total h ys ≡ total h xs
total-shuffled h xs ys p = total-is h ys ∙ sum_by-IsPermutation h xs ys p ∙ sym (total-is h xs)

pub held-first : (held : List ℕ) (n : ℕ) (ns : List ℕ) → HoldsAll held (n ∷ ns) → Contains held n
held-first held n ns (rest, p) = Contains-permutation (n ∷ ns ++ rest) held n (IsPermutation-sym held (n ∷ ns ++ rest) p) (0, omega arith, refl)

-- what is held but for a number that is given, and but for all that are
pub given-left : (held : List ℕ) (n : ℕ) (rest : List ℕ) → IsPermutation held (n ∷ rest) → IsPermutation (without n held) rest
given-left held n rest p = same-members (without n held) rest
    (λ h. omega (arith, total-without h n held (held-first held n [] (rest, p)), total-shuffled h held (n ∷ rest) p))

pub all-left : (ns held rest : List ℕ) → IsPermutation held (ns ++ rest) → IsPermutation (without_all ns held) rest
all-left [] held rest p = p
all-left (n ∷ ns) held rest p = all-left ns (without n held) rest (given-left held n (ns ++ rest) p)

held-rest : (held : List ℕ) (n : ℕ) (ns : List ℕ) → HoldsAll held (n ∷ ns) → HoldsAll (without n held) ns
held-rest held n ns (rest, p) = (rest, given-left held n (ns ++ rest) p)

-- where a loop stands that has given so many of these numbers, of k at most
pub record IsGiving (k moved : ℕ) (v : Hand) (all : List ℕ) (w : Hand) (now : List ℕ) : Type 0 where
  pub some : moved ≤ k
  pub long : moved + length now ≡ length all
  pub left : now ≡ drop moved all
  pub gave : Gave v (take moved all) w
  pub held : HoldsAll w.held (take (k - moved) now)

pub giving-none : (k : ℕ) (v : Hand) (all : List ℕ) → HoldsAll v.held (take k all) → IsGiving k 0 v all v all
giving-none k v all held = record {
  some = omega arith;
  long = omega arith;
  left = refl;
  gave = gave-none v;
  held = subst (λ (j : ℕ). HoldsAll v.held (take j all)) (omega arith) held;
}

take-more : (xs : List ℕ) (m n : ℕ) (rest : List ℕ) → n ∷ rest ≡ drop m xs → (take (m + 1) xs ≡ take m xs ++ n ∷ []) × (rest ≡ drop (m + 1) xs)
take-more [] zero n rest e = cc
take-more [] (suc m) n rest e = cc
take-more (x ∷ xs) zero n rest e = let same : n ≡ x = cc in (ap (λ (y : ℕ). y ∷ []) (sym same), cc)
take-more (x ∷ xs) (suc m) n rest e =
    let r = take-more xs m n rest e in
    let longer : suc m + 1 ≡ suc (m + 1) = omega arith in
    rw longer (ap (λ (ys : List ℕ). x ∷ ys) r.0, r.1)

pub giving-first : (k moved : ℕ) (v : Hand) (all : List ℕ) (w : Hand) (n : ℕ) (rest : List ℕ) → IsGiving k moved v all w (n ∷ rest) → moved < k
    → HoldsAll w.held (n ∷ take (k - (moved + 1)) rest)
giving-first k moved v all w n rest g less =
    let more : k - moved ≡ suc (k - (moved + 1)) = omega arith in
    subst (λ (j : ℕ). HoldsAll w.held (take j (n ∷ rest))) more g.held

pub giving-more : (k moved : ℕ) (v : Hand) (all : List ℕ) (w : Hand) (n : ℕ) (rest : List ℕ) (x : Hand)
    → IsGiving k moved v all w (n ∷ rest) → moved < k → Gave w (n ∷ []) x → IsGiving k (moved + 1) v all x rest
giving-more k moved v all w n rest x g less gave =
    let more = take-more all moved n rest g.left in
    record {
      some = omega arith;
      long = omega (arith, g.long);
      left = more.1;
      gave = rw more.0 (gave-more v w x (take moved all) n g.gave gave);
      held = rw gave.held (held-rest w.held n (take (k - (moved + 1)) rest) (giving-first k moved v all w n rest g less));
    }
