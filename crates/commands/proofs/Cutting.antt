-- A text's first list.
use Rattle.std.proofs.Common.{◌≡◌, ◌∙◌, ℕ, ◌==◌, Bool, true, false, List, [], ◌∷◌, ◌++◌, length, Option, Some, None, Bor, refl, sym, ap, ap₂, subst, append_assoc, cond, arith, take, ◌+◌, ◌-◌, ◌<◌, length-append}
use Rattle.std.specs.Prelude.{All, IfSome, ◌||◌, if◌then◌else◌}
use Rattle.std.specs.List.{filter, list_any, join_with_byte, slice_split, onto_first}
use Rattle.std.proofs.lemmas.List.{append-nil, take_at}
use Rattle.std.proofs.lemmas.List.Elements.{All-append, All-cons, All-nil, filter-append}
use Rattle.std.proofs.lemmas.List.Folds.{list_any-append}
use Rattle.std.proofs.lemmas.List.Splits.{join_with_byte-slice_split, slice_split_at}
use Rattle.text_lines.specs.Parts.{later_parts, lines_of, says_something}
use Rattle.commands.specs.Lists.{IsListCut, ends_list, lists_from, lists_of}

abbrev pub IsPlain : List ℕ → Type 0
IsPlain line = All (λ b. (b == 10) ≡ false) line

-- ---- a line and what is behind it

-- a line has no LF
plain-onto : (x : ℕ) (ls : List (List ℕ)) (l : List ℕ) (rest : List (List ℕ)) → (x == 10) ≡ false → onto_first x ls ≡ l ∷ rest
    → ((l1 : List ℕ) (r1 : List (List ℕ)) → ls ≡ l1 ∷ r1 → IsPlain l1) → IsPlain l
plain-onto x [] l rest plain is later =
    let same : x ∷ [] ≡ l = cc is in
    subst IsPlain same (All-cons (λ b. (b == 10) ≡ false) x [] plain (All-nil (λ b. (b == 10) ≡ false)))
plain-onto x (l1 ∷ r1) l rest plain is later =
    let same : x ∷ l1 ≡ l = cc is in
    subst IsPlain same (All-cons (λ b. (b == 10) ≡ false) x l1 plain (later l1 r1 refl))

plain-by : (x : ℕ) (ls : List (List ℕ)) (b : Bool) (l : List ℕ) (rest : List (List ℕ)) → (x == 10) ≡ b → cond b ([] ∷ ls) (onto_first x ls) ≡ l ∷ rest
    → ((l1 : List ℕ) (r1 : List (List ℕ)) → ls ≡ l1 ∷ r1 → IsPlain l1) → IsPlain l
plain-by x ls true l rest e is later = let same : [] ≡ l = cc is in subst IsPlain same (All-nil (λ b. (b == 10) ≡ false))
plain-by x ls false l rest e is later = plain-onto x ls l rest e is later

first-plain : (xs l : List ℕ) (rest : List (List ℕ)) → lines_of xs ≡ l ∷ rest → IsPlain l
first-plain [] l rest is = let same : [] ≡ l = cc is in subst IsPlain same (All-nil (λ b. (b == 10) ≡ false))
first-plain (x ∷ xs) l rest is = plain-by x (lines_of xs) (x == 10) l rest refl is (λ l1 r1 e. first-plain xs l1 r1 e)

onto-some : (x : ℕ) (ls : List (List ℕ)) → onto_first x ls ≡ [] → ⊥
onto-some x [] e = let bad : ⊥ = cc e in bad
onto-some x (l ∷ ls) e = let bad : ⊥ = cc e in bad

some-by : (x : ℕ) (ls : List (List ℕ)) (b : Bool) → cond b ([] ∷ ls) (onto_first x ls) ≡ [] → ⊥
some-by x ls true e = let bad : ⊥ = cc e in bad
some-by x ls false e = onto-some x ls e

lines-some : (xs : List ℕ) → lines_of xs ≡ [] → ⊥
lines-some [] e = let bad : ⊥ = cc e in bad
lines-some (x ∷ xs) e = some-by x (lines_of xs) (x == 10) e

join-more : (line : List ℕ) (ls : List (List ℕ)) → (ls ≡ [] → ⊥) → join_with_byte 10 (line ∷ ls) ≡ line ++ 10 ∷ join_with_byte 10 ls
join-more line [] some = absurd (some refl)
join-more line (l ∷ ls) some = refl

-- a text, from its first line and the rest
text-of : (text line rest : List ℕ) → lines_of text ≡ line ∷ lines_of rest → text ≡ line ++ 10 ∷ rest
text-of text line rest is =
    sym (join_with_byte-slice_split 10 text) ∙ ap (join_with_byte 10) is ∙ join-more line (lines_of rest) (lines-some rest)
    ∙ ap (λ (t : List ℕ). line ++ 10 ∷ t) (join_with_byte-slice_split 10 rest)

-- ---- so many lines are read, of which none ends the list

-- the text of these lines stands before what is left
pub record Begins (text : List ℕ) (before : List (List ℕ)) (left : List ℕ) : Type 0 where
  pub head : List ℕ
  pub text_is : head ++ left ≡ text
  pub lines : (q : List ℕ) → lines_of (head ++ q) ≡ before ++ lines_of q

pub record CutSoFar (text : List ℕ) (has_moves : Bool) (rest : Option (Bor (List ℕ))) : Type 0 where
  pub before : List (List ℕ)
  pub split : before ++ later_parts 10 rest ≡ lines_of text
  pub lists : lists_of (lines_of text) ≡ lists_from before (later_parts 10 rest)
  pub moves : has_moves ≡ list_any says_something before
  pub begins : IfSome rest (λ left. Begins text before left.now)

pub cut-first : (text : Bor (List ℕ)) → CutSoFar text.now false (Some text)
cut-first text = record { before = []; split = refl; lists = refl; moves = refl; begins = record { head = []; text_is = refl; lines = λ q. refl } }

begins-next : (text : List ℕ) (before : List (List ℕ)) (left line : List ℕ) (after : Option (Bor (List ℕ))) → lines_of left ≡ line ∷ later_parts 10 after
    → Begins text before left → IfSome after (λ rest. Begins text (before ++ line ∷ []) rest.now)
begins-next text before left line None is b = tt
begins-next text before left line (Some rest) is b =
    let left_is : left ≡ line ++ 10 ∷ rest.now = text-of left line rest.now is in
    let plain = first-plain left line (lines_of rest.now) is in
    record {
      head = b.head ++ (line ++ 10 ∷ []);
      text_is = append_assoc b.head (line ++ 10 ∷ []) rest.now ∙ ap (λ (t : List ℕ). b.head ++ t) (append_assoc line (10 ∷ []) rest.now ∙ sym left_is) ∙ b.text_is;
      lines = λ q.
          ap lines_of (append_assoc b.head (line ++ 10 ∷ []) q) ∙ b.lines ((line ++ 10 ∷ []) ++ q)
          ∙ ap (λ (ls : List (List ℕ)). before ++ ls) (ap lines_of (append_assoc line (10 ∷ []) q) ∙ slice_split_at (λ b. b == 10) line 10 q plain refl)
          ∙ sym (append_assoc before (line ∷ []) (lines_of q));
    }

lists-by : (begun : List (List ℕ)) (line : List ℕ) (lines : List (List ℕ)) → ends_list line ≡ false → lists_from begun (line ∷ lines) ≡ lists_from (begun ++ line ∷ []) lines
lists-by begun line lines e = rw e refl

lists-ended : (begun : List (List ℕ)) (line : List ℕ) (lines : List (List ℕ)) → ends_list line ≡ true → lists_from begun (line ∷ lines) ≡ begun ∷ lists_of lines
lists-ended begun line lines e = rw e refl

says-more : (before : List (List ℕ)) (line : List ℕ) (b says : Bool) → b ≡ list_any says_something before → says ≡ says_something line
    → (b || says) ≡ list_any says_something (before ++ line ∷ [])
says-more before line b says is says_is =
    ap₂ (λ (x y : Bool). x || y) is (says_is ∙ sym (or-false (says_something line))) ∙ sym (list_any-append says_something before (line ∷ []))
  where
    or-false : (b : Bool) → (b || false) ≡ b
    or-false true = refl
    or-false false = refl

pub cut-next : (text line : List ℕ) (b says : Bool) (rest : Bor (List ℕ)) (after : Option (Bor (List ℕ))) → lines_of rest.now ≡ line ∷ later_parts 10 after → ends_list line ≡ false
    → says ≡ says_something line → CutSoFar text b (Some rest) → CutSoFar text (b || says) after
cut-next text line b says rest after is other says_is s = record {
  before = s.before ++ line ∷ [];
  split = append_assoc s.before (line ∷ []) (later_parts 10 after) ∙ ap (λ (ls : List (List ℕ)). s.before ++ ls) (sym is) ∙ s.split;
  lists = s.lists ∙ ap (lists_from s.before) is ∙ lists-by s.before line (later_parts 10 after) other;
  moves = says-more s.before line b says s.moves says_is;
  begins = begins-next text s.before rest.now line after is s.begins;
}

-- the text before what is left
pub before-left : (head left text : List ℕ) → head ++ left ≡ text → take (length text - length left) text ≡ head
before-left head left text is =
    let long : length text ≡ length head + length left = ap length (sym is) ∙ length-append head left in
    ap (take (length text - length left)) (sym is) ∙ take_at head left (length text - length left) (omega (arith, long))

-- a line that ends the list, of whose text nothing but an empty line is behind its lines
pub cut-ended : (text line list : List ℕ) (b : Bool) (rest : Bor (List ℕ)) (after : Option (Bor (List ℕ))) → lines_of rest.now ≡ line ∷ later_parts 10 after → ends_list line ≡ true
    → CutSoFar text b (Some rest) → ((head : List ℕ) → head ++ rest.now ≡ text → list ≡ head) → IsListCut text list true after
cut-ended text line list b rest after is ends s list_is =
    let head = s.begins.head in
    let lines_are : lines_of list ≡ s.before ++ [] ∷ [] = ap lines_of (list_is head s.begins.text_is ∙ sym (append-nil head)) ∙ s.begins.lines [] in
    record {
      lines = s.before;
      lists = s.lists ∙ ap (lists_from s.before) is ∙ lists-ended s.before line (later_parts 10 after) ends;
      same_moves = ap (filter says_something) lines_are ∙ filter-append says_something s.before ([] ∷ []) ∙ append-nil (filter says_something s.before);
      between = line ∷ [];
      split = ap (λ (ls : List (List ℕ)). s.before ++ ls) (sym is) ∙ s.split;
    }

-- what is behind a line is shorter than the text
pub still-shorter : (text : List ℕ) (b : Bool) (left : Bor (List ℕ)) (after : Option (Bor (List ℕ))) → IfSome after (λ rest. length rest.now < length left.now) → CutSoFar text b (Some left)
    → IfSome after (λ rest. length rest.now < length text)
still-shorter text b left None shorter s = tt
still-shorter text b left (Some rest) shorter s =
    let long : length text ≡ length s.begins.head + length left.now = ap length (sym s.begins.text_is) ∙ length-append s.begins.head left.now in
    omega (arith, long, shorter)

whole-by : (b : Bool) (before : List (List ℕ)) → b ≡ list_any says_something before → lists_from before [] ≡ (if b then before ∷ [] else []) ++ lists_of []
whole-by b before e = sym (ap (λ (x : Bool). (if x then before ∷ [] else []) ++ []) e ∙ append-nil (if list_any says_something before then before ∷ [] else []))

pub cut-whole : (text : List ℕ) (b : Bool) (rest : Option (Bor (List ℕ))) → rest ≡ None → CutSoFar text b rest → IsListCut text text b None
cut-whole text b None e s =
    let same : s.before ≡ lines_of text = sym (append-nil s.before) ∙ s.split in
    record {
      lines = s.before;
      lists = s.lists ∙ whole-by b s.before s.moves;
      same_moves = ap (filter says_something) (sym same);
      between = [];
      split = s.split;
    }
cut-whole text b (Some rest) e s = let bad : ⊥ = cc e in absurd bad
