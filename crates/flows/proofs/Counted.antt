-- What an output knows of the frames that were sent.
use Rattle.std.proofs.Common.{◌≡◌, ◌∙◌, ⊎_elim, inl, inr, ℕ, ◌+◌, ◌-◌, ◌^◌, ◌<◌, ◌≤◌, true, false, List, [], ◌∷◌, ◌++◌, ap, sym, refl, arith, length, map, length-append, append_assoc, append-nil}
use Rattle.std.specs.Prelude.{◌%◌, slice_index, sum_by}
use Rattle.std.proofs.Math.Nat.{min-eq_left, min-eq_right}
use Rattle.std.proofs.lemmas.Bool.{cases_lt, false≢true}
use Rattle.std.proofs.lemmas.List.{length-set}
use Rattle.std.proofs.lemmas.List.Sums.{sum_by-append, sum_by-cons}
use Rattle.ring_model.specs.shared.Frames.{Bytes}
use Rattle.ring_model.specs.shared.Lists.{IsBeginning}
use Rattle.forwarding.specs.Touching.{touch}
use Rattle.flows.specs.Outputs.{Chosen}
use Rattle.flows.specs.Sent.{HasSent, Holds, shown}
use Rattle.flows.specs.declared.output.Output.{Output}

-- a sum of which one part is shown already
pub shown-sum : (a b : ℕ) → shown (shown a + b) ≡ shown (a + b)
shown-sum a b = ⊎_elim
    (λ (low : a < 2 ^ 64 - 1). ap (λ (m : ℕ). shown (m + b)) (min-eq_left {n = a} {m = 2 ^ 64 - 1} (omega (arith, low))))
    (λ (high : 2 ^ 64 - 1 ≤ a).
    ap (λ (m : ℕ). shown (m + b)) (min-eq_right {n = 2 ^ 64 - 1} {m = a} high)
    ∙ min-eq_right {n = 2 ^ 64 - 1} {m = 2 ^ 64 - 1 + b} (omega arith) ∙ sym (min-eq_right {n = 2 ^ 64 - 1} {m = a + b} (omega (arith, high))))
    (cases_lt a (2 ^ 64 - 1))

pub shown-few : (n : ℕ) → n ≤ 2 ^ 64 - 1 → shown n ≡ n
shown-few n few = min-eq_left {n = n} {m = 2 ^ 64 - 1} few

-- a frame more is on the wire
pub holds-more : (o o' : Output) (all all' : List Bytes) (f : Bytes) → Holds o all → all' ≡ all ++ f ∷ [] → o'.wire ≡ o.wire ++ f ∷ [] → o'.keep ≡ o.keep → o'.frames ≡ o.frames → o'.bytes ≡ o.bytes → Holds o' all'
holds-more o o' all all' f h grew wire keep frames bytes = record {
  removed = h.removed;
  are = grew ∙ (ap (λ (l : List Bytes). l ++ f ∷ []) h.are ∙ (append_assoc h.removed o.wire (f ∷ []) ∙ ap (λ (l : List Bytes). h.removed ++ l) (sym wire)));
  kept = λ e. h.kept (sym keep ∙ e);
  frames = frames ∙ h.frames;
  bytes = bytes ∙ h.bytes;
}

module _ (o : Output) (all : List Bytes) (h : Holds o all) where
  many : length all ≡ length h.removed + length o.wire
  many = ap length h.are ∙ length-append h.removed o.wire

  large : sum_by length all ≡ sum_by length h.removed + sum_by length o.wire
  large = ap (sum_by length) h.are ∙ sum_by-append length h.removed o.wire

  pub all-frames : (n : ℕ) → n ≡ shown (o.frames + length o.wire) → n ≡ shown (length all)
  all-frames n is = is ∙ (ap (λ (k : ℕ). shown (k + length o.wire)) h.frames ∙ (shown-sum (length h.removed) (length o.wire) ∙ ap shown (sym many)))

  pub all-bytes : (n : ℕ) → n ≡ shown (o.bytes + sum_by length o.wire) → n ≡ shown (sum_by length all)
  all-bytes n is = is ∙ (ap (λ (k : ℕ). shown (k + sum_by length o.wire)) h.bytes ∙ (shown-sum (sum_by length h.removed) (sum_by length o.wire) ∙ ap shown (sym large)))

  -- all are removed
  pub holds-none : (o' : Output) → o.keep ≡ false → o'.keep ≡ o.keep → o'.wire ≡ [] → o'.frames ≡ shown (o.frames + length o.wire) → o'.bytes ≡ shown (o.bytes + sum_by length o.wire) → Holds o' all
  holds-none o' unkept same none frames bytes = record {
    removed = all;
    are = sym (append-nil all) ∙ ap (λ (l : List Bytes). all ++ l) (sym none);
    kept = λ e. absurd (false≢true (sym unkept ∙ (sym same ∙ e)));
    frames = all-frames o'.frames frames;
    bytes = all-bytes o'.bytes bytes;
  }

  -- the wire has all frames, if they are kept
  pub kept-all : o.keep ≡ true → o.wire ≡ all
  kept-all keeps = sym (h.are ∙ ap (λ (l : List Bytes). l ++ o.wire) (h.kept keeps))

  pub sends : (wire : List Bytes) (sent bytes : ℕ) → (o.keep ≡ true → wire ≡ o.wire) → (o.keep ≡ false → wire ≡ []) → sent ≡ shown (o.frames + length o.wire) → bytes ≡ shown (o.bytes + sum_by length o.wire) → HasSent o.keep all wire sent bytes
  sends wire sent bytes kept unkept frames bytes_are = record {
    kept = λ e. kept e ∙ kept-all e;
    unkept = unkept;
    frames = all-frames sent frames;
    bytes = all-bytes bytes bytes_are;
  }

-- the bytes of frames some of which are left out
pub chosen-bytes : (xs ys : List Bytes) → Chosen xs ys → sum_by length xs ≤ sum_by length ys
chosen-bytes [] ys c = omega arith
chosen-bytes (x ∷ xs) [] c = absurd c
chosen-bytes (x ∷ xs) (y ∷ ys) (inl c) = let h = chosen-bytes xs ys c.1 in let e = ap length c.0 in let a = sum_by-cons length x xs in let b = sum_by-cons length y ys in omega (arith, h, e, a, b)
chosen-bytes (x ∷ xs) (y ∷ ys) (inr c) = let h = chosen-bytes (x ∷ xs) ys c in let b = sum_by-cons length y ys in omega (arith, h, b)

touched-bytes : (xs : List Bytes) → sum_by length (map touch xs) ≡ sum_by length xs
touched-bytes [] = refl
touched-bytes (x ∷ xs) = let h = touched-bytes xs in let e = length-set x 1 ((slice_index x 1 + 1) % 256) in let a = sum_by-cons length (touch x) (map touch xs) in let b = sum_by-cons length x xs in omega (arith, h, e, a, b)

beginning-bytes : (xs ys : List Bytes) → IsBeginning xs ys → sum_by length xs ≤ sum_by length ys
beginning-bytes xs ys b = let sum = sum_by-append length xs b.0 in let e = ap (sum_by length) b.1 in omega (arith, sum, e)

-- the bytes of sent frames are no more than those of stored ones
pub few-sent : (sent posted taken stored : List Bytes) → IsBeginning sent posted → Chosen posted (map touch taken) → IsBeginning taken stored → sum_by length sent ≤ sum_by length stored
few-sent sent posted taken stored first relayed took =
    let a = beginning-bytes sent posted first in let b = chosen-bytes posted (map touch taken) relayed in let c = touched-bytes taken in let d = beginning-bytes taken stored took in
    omega (arith, a, b, c, d)
