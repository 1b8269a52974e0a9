-- Frames one behind another in one block: what more bytes, and one more end, make of them.
use Rattle.std.proofs.Common.{◌≡◌, ℕ, zero, suc, ◌+◌, ◌-◌, ◌<◌, ◌≤◌, List, [], ◌∷◌, ◌++◌, length, take, drop, get_or, Some, sym, refl, ap, subst, ◌∙◌, arith, length-drop}
use Rattle.std.specs.Prelude.{slice_get, sum_by}
use Rattle.std.proofs.lemmas.List.{length-take-le, take-append-le, drop-append-le, drop-drop}
use Rattle.std.proofs.lemmas.List.Sums.{sum_by-cons}
use Rattle.std.proofs.lemmas.Option.{none-some, same_Some, slice_get-get_or}
use Rattle.ring_model.specs.shared.Frames.{Bytes}
use Rattle.controller.specs.Laid.{frames_from, behind, AreEnds}

ends_within : (start past : ℕ) (es : List ℕ) → AreEnds start past es → start ≤ past
ends_within start past [] a = a
ends_within start past (e ∷ es) a = let first = a.0 in let others = ends_within e past es a.1 in omega arith

-- what is behind the first frame
next_span : (start past e : ℕ) (bytes : Bytes) (es : List ℕ) → past ≡ start + length bytes → AreEnds start past (e ∷ es) → (past ≡ e + length (drop (e - start) bytes)) × (e - start ≤ length bytes)
next_span start past e bytes es all a = let first = a.0 in let others = ends_within e past es a.1 in let left = length-drop (e - start) bytes in (omega arith, omega arith)

pub frames-append : (start past : ℕ) (bytes more : Bytes) (es : List ℕ) → past ≡ start + length bytes → AreEnds start past es → frames_from start (bytes ++ more) es ≡ frames_from start bytes es
frames-append start past bytes more [] all a = refl
frames-append start past bytes more (e ∷ es) all a = let next = next_span start past e bytes es all a in
    ap (λ (f : Bytes). f ∷ frames_from e (drop (e - start) (bytes ++ more)) es) (take-append-le (e - start) bytes more next.1)
    ∙ ap (λ (l : List Bytes). take (e - start) bytes ∷ l) (ap (λ (b : Bytes). frames_from e b es) (drop-append-le (e - start) bytes more next.1) ∙ frames-append e past (drop (e - start) bytes) more es next.0 a.1)

pub behind-append : (start past : ℕ) (bytes more : Bytes) (es : List ℕ) → past ≡ start + length bytes → AreEnds start past es → behind start (bytes ++ more) es ≡ behind start bytes es ++ more
behind-append start past bytes more [] all a = refl
behind-append start past bytes more (e ∷ es) all a = let next = next_span start past e bytes es all a in
    ap (λ (b : Bytes). behind e b es) (drop-append-le (e - start) bytes more next.1) ∙ behind-append e past (drop (e - start) bytes) more es next.0 a.1

pub ends-later : (start past more : ℕ) (es : List ℕ) → AreEnds start past es → past ≤ more → AreEnds start more es
ends-later start past more [] a h = omega arith
ends-later start past more (e ∷ es) a h = (a.0, ends-later e past more es a.1 h)

pub ends-snoc : (start past : ℕ) (es : List ℕ) → AreEnds start past es → AreEnds start past (es ++ past ∷ [])
ends-snoc start past [] a = (a, omega arith)
ends-snoc start past (e ∷ es) a = (a.0, ends-snoc e past es a.1)

take_all : (n : ℕ) (xs : Bytes) → n ≡ length xs → take n xs ≡ xs
take_all n xs e = ap (λ (k : ℕ). take k xs) e ∙ all_of xs
  where
    all_of : (xs : Bytes) → take (length xs) xs ≡ xs
    all_of [] = refl
    all_of (x ∷ xs) = ap (λ (l : Bytes). x ∷ l) (all_of xs)

drop_all : (n : ℕ) (xs : Bytes) → n ≡ length xs → drop n xs ≡ []
drop_all n xs e = ap (λ (k : ℕ). drop k xs) e ∙ none_of xs
  where
    none_of : (xs : Bytes) → drop (length xs) xs ≡ []
    none_of [] = refl
    none_of (x ∷ xs) = none_of xs

pub frames-snoc : (start past : ℕ) (bytes : Bytes) (es : List ℕ) → past ≡ start + length bytes → AreEnds start past es → frames_from start bytes (es ++ past ∷ []) ≡ frames_from start bytes es ++ behind start bytes es ∷ []
frames-snoc start past bytes [] all a = ap (λ (f : Bytes). f ∷ []) (take_all (past - start) bytes (omega arith))
frames-snoc start past bytes (e ∷ es) all a = let next = next_span start past e bytes es all a in
    ap (λ (l : List Bytes). take (e - start) bytes ∷ l) (frames-snoc e past (drop (e - start) bytes) es next.0 a.1)

pub behind-snoc : (start past : ℕ) (bytes : Bytes) (es : List ℕ) → past ≡ start + length bytes → AreEnds start past es → behind start bytes (es ++ past ∷ []) ≡ []
behind-snoc start past bytes [] all a = drop_all (past - start) bytes (omega arith)
behind-snoc start past bytes (e ∷ es) all a = let next = next_span start past e bytes es all a in behind-snoc e past (drop (e - start) bytes) es next.0 a.1

pub length-frames : (start : ℕ) (bytes : Bytes) (es : List ℕ) → length (frames_from start bytes es) ≡ length es
length-frames start bytes [] = refl
length-frames start bytes (e ∷ es) = ap suc (length-frames e (drop (e - start) bytes) es)

-- all bytes are those of the frames, and those behind them
pub lengths-frames : (start past : ℕ) (bytes : Bytes) (es : List ℕ) → past ≡ start + length bytes → AreEnds start past es → sum_by length (frames_from start bytes es) + length (behind start bytes es) ≡ length bytes
lengths-frames start past bytes [] all a = omega arith
lengths-frames start past bytes (e ∷ es) all a =
    let next = next_span start past e bytes es all a in
    let front = length-take-le (e - start) bytes next.1 in
    let left = length-drop (e - start) bytes in
    let others = lengths-frames e past (drop (e - start) bytes) es next.0 a.1 in
    let first = sum_by-cons length (take (e - start) bytes) (frames_from e (drop (e - start) bytes) es) in
    let below = next.1 in omega arith

-- where frame i begins
abbrev pub start_of : ℕ → List ℕ → ℕ → ℕ
start_of start es zero = start
start_of start [] (suc i) = start
start_of start (e ∷ es) (suc i) = start_of e es i

-- frame i lies between where it begins and where it ends
pub record LiesAt (start past : ℕ) (bytes : Bytes) (es : List ℕ) (i s e : ℕ) : Type 0 where
  pub after : start ≤ s
  pub order : s ≤ e
  pub within : e ≤ past
  pub frame : slice_get (frames_from start bytes es) i ≡ Some (take (e - s) (drop (s - start) bytes))

lies_first : (start past e : ℕ) (bytes : Bytes) (es : List ℕ) → AreEnds start past (e ∷ es) → LiesAt start past bytes (e ∷ es) 0 start e
lies_first start past e bytes es a = let none : 0 ≡ start - start = omega arith in record {
  after = omega arith;
  order = a.0;
  within = ends_within e past es a.1;
  frame = ap (λ (k : ℕ). Some (take (e - start) (drop k bytes))) none;
}

lies_next : (start past x s e i : ℕ) (bytes : Bytes) (es : List ℕ) → start ≤ x → LiesAt x past (drop (x - start) bytes) es i s e → LiesAt start past bytes (x ∷ es) (suc i) s e
lies_next start past x s e i bytes es first l = let next = l.after in let far : x - start + (s - x) ≡ s - start = omega arith in record {
  after = omega arith;
  order = l.order;
  within = l.within;
  frame = l.frame ∙ ap (λ (b : Bytes). Some (take (e - s) b)) (drop-drop (s - x) (x - start) bytes ∙ ap (λ (k : ℕ). drop k bytes) far);
}

pub lies_at : (start past : ℕ) (bytes : Bytes) (es : List ℕ) (i e : ℕ) → past ≡ start + length bytes → AreEnds start past es → slice_get es i ≡ Some e → LiesAt start past bytes es i (start_of start es i) e
lies_at start past bytes [] i e all a at = absurd (none-some e at)
lies_at start past bytes (x ∷ es) zero e all a at = subst (λ (y : ℕ). LiesAt start past bytes (x ∷ es) 0 start y) (same_Some x e at) (lies_first start past x bytes es a)
lies_at start past bytes (x ∷ es) (suc i) e all a at = let next = next_span start past x bytes es all a in
    lies_next start past x (start_of x es i) e i bytes es a.0 (lies_at x past (drop (x - start) bytes) es i e next.0 a.1 at)

-- a frame behind another begins where that ends
pub start_next : (start e i : ℕ) (es : List ℕ) → slice_get es i ≡ Some e → start_of start es (suc i) ≡ e
start_next start e i [] at = absurd (none-some e at)
start_next start e zero (x ∷ es) at = same_Some x e at
start_next start e (suc i) (x ∷ es) at = start_next x e i es at

-- the same as code finds it
pub starts_behind : (i : ℕ) (es : List ℕ) → ¬ (i ≡ 0) → i < length es → start_of 0 es i ≡ get_or es (i - 1) 0
starts_behind zero es some h = absurd (some refl)
starts_behind (suc j) es some h = let back : j ≡ suc j - 1 = omega arith in
    start_next 0 (get_or es j 0) j es (slice_get-get_or es j 0 (omega arith)) ∙ ap (λ (k : ℕ). get_or es k 0) back

-- frame i among all bytes
pub record LiesBetween (bytes : Bytes) (es : List ℕ) (i s e : ℕ) : Type 0 where
  pub order : s ≤ e
  pub within : e ≤ length bytes
  pub frame : slice_get (frames_from 0 bytes es) i ≡ Some (take (e - s) (drop s bytes))

pub lies_between : (bytes : Bytes) (es : List ℕ) (i start : ℕ) → AreEnds 0 (length bytes) es → i < length es → start ≡ start_of 0 es i → LiesBetween bytes es i start (get_or es i 0)
lies_between bytes es i start a h e =
    let l = lies_at 0 (length bytes) bytes es i (get_or es i 0) (omega arith) a (slice_get-get_or es i 0 h) in
    let all : start_of 0 es i - 0 ≡ start_of 0 es i = omega arith in
    subst (λ (s : ℕ). LiesBetween bytes es i s (get_or es i 0)) (sym e) (record {
      order = l.order;
      within = l.within;
      frame = l.frame ∙ ap (λ (k : ℕ). Some (take (get_or es i 0 - start_of 0 es i) (drop k bytes))) all;
    })

-- the frames from one on are that one and those from the next on
pub drop_next : {X : Type 0} → (xs : List X) (i next : ℕ) (x : X) → next ≡ i + 1 → slice_get xs i ≡ Some x → drop i xs ≡ x ∷ drop next xs
drop_next [] i next x e at = absurd (none-some x at)
drop_next (y ∷ ys) zero next x e at = ap (λ z. z ∷ ys) (same_Some y x at) ∙ ap (λ (k : ℕ). x ∷ drop k (y ∷ ys)) (sym e)
drop_next (y ∷ ys) (suc i) next x e at = drop_next ys i (i + 1) x refl at ∙ ap (λ (k : ℕ). x ∷ drop k (y ∷ ys)) (let one : suc (i + 1) ≡ next = omega arith in one)
