-- A cut text, and the text that its parts came from.
use Rattle.std.proofs.Common.{◌≡◌, ◌∙◌, ℕ, ◌^◌, ◌<◌, ◌==◌, true, false, List, [], ◌∷◌, ◌++◌, length, Bor, Option, Some, None, ◌↔◌, refl, sym, ap, ap₂, subst, arith}
use Rattle.std.specs.Prelude.{IsSomeAnd, codes, decimal, not, option_map, ◌&&◌}
use Rattle.std.specs.Char.{is_ascii_digit}
use Rattle.std.specs.List.{AllByRecursion, join_with_byte, list_all}
use Rattle.std.proofs.lemmas.Bool.{and_parts}
use Rattle.std.proofs.lemmas.Bool.Decides.{nat_tests}
use Rattle.std.proofs.lemmas.List.Elements.{All-from_recursion}
use Rattle.std.proofs.lemmas.List.Splits.{join_with_byte-slice_split, length-slice_split, slice_split_at}
use Rattle.settings.specs.Thresholds.{HasValue, HaveThresholds, IsThresholds, field_text}
use Rattle.settings.specs.declared.thresholds.Thresholds.{Thresholds}
use Rattle.text_lines.proofs.Decimals.{decimal_digits}
use Rattle.text_lines.specs.Parts.{later_parts, parts}

-- ---- joined again

join-more : (mark : ℕ) (first : List ℕ) (ps : List (List ℕ)) → 0 < length ps → join_with_byte mark (first ∷ ps) ≡ first ++ mark ∷ join_with_byte mark ps
join-more mark first [] some = absurd (omega arith)
join-more mark first (p ∷ ps) some = refl

parts-some : (mark : ℕ) (text : List ℕ) → 0 < length (parts mark text)
parts-some mark text = omega (arith, length-slice_split (λ b. b == mark) text)

joined : (mark : ℕ) (text : List ℕ) → join_with_byte mark (parts mark text) ≡ text
joined mark text = join_with_byte-slice_split mark text

-- A text, from its first part and the rest.
pub text-of : (mark : ℕ) (text first rest : List ℕ) → parts mark text ≡ first ∷ parts mark rest → text ≡ first ++ mark ∷ rest
text-of mark text first rest is =
    sym (joined mark text) ∙ ap (join_with_byte mark) is ∙ join-more mark first (parts mark rest) (parts-some mark rest)
    ∙ ap (λ (t : List ℕ). first ++ mark ∷ t) (joined mark rest)

-- ---- cut again

-- no such byte is among these
abbrev pub IsWithout : ℕ → List ℕ → Type 0
IsWithout mark text = list_all (λ b. not (b == mark)) text ≡ true

unequal : (b mark : ℕ) → not (b == mark) ≡ true → (b == mark) ≡ false
unequal b mark is = grind (arith, nat_tests)

without-each : (mark : ℕ) (text : List ℕ) → IsWithout mark text → AllByRecursion (λ b. (b == mark) ≡ false) text
without-each mark [] without = tt
without-each mark (b ∷ bs) without =
    let each = and_parts (not (b == mark)) (list_all (λ x. not (x == mark)) bs) without in (unequal b mark each.0, without-each mark bs each.1)

same-mark : (mark : ℕ) → (mark == mark) ≡ true
same-mark mark = grind (arith, nat_tests)

-- The first cut of a text that has such a byte gives what is before it and what is behind it.
pub cut-again : (mark : ℕ) (text first rest before : List ℕ) (later : Option (Bor (List ℕ))) → IsWithout mark first → text ≡ first ++ mark ∷ rest
    → parts mark text ≡ before ∷ later_parts mark later → (before ≡ first) × IsSomeAnd later (λ r. r.now ≡ rest)
cut-again mark text first rest before later without text_is is =
    both later (sym is ∙ ap (parts mark) text_is ∙ slice_split_at (λ b. b == mark) first mark rest (All-from_recursion (λ b. (b == mark) ≡ false) first (without-each mark first without)) (same-mark mark))
  where
    both : (later : Option (Bor (List ℕ))) → before ∷ later_parts mark later ≡ first ∷ parts mark rest → (before ≡ first) × IsSomeAnd later (λ r. r.now ≡ rest)
    both None is =
        let none : parts mark rest ≡ [] = cc in
        let few : 0 < length (parts mark rest) = parts-some mark rest in absurd (omega (arith, ap length none))
    both (Some r) is =
        let same : parts mark r.now ≡ parts mark rest = cc in
        (cc, sym (joined mark r.now) ∙ ap (join_with_byte mark) same ∙ joined mark rest)

-- ---- digits

digit-plain : (mark b : ℕ) → is_ascii_digit mark ≡ false → is_ascii_digit b ≡ true → not (b == mark) ≡ true
digit-plain mark b other digit = grind (arith, nat_tests)

digits-plain : (mark : ℕ) (text : List ℕ) → is_ascii_digit mark ≡ false → list_all is_ascii_digit text ≡ true → IsWithout mark text
digits-plain mark [] other digits = refl
digits-plain mark (b ∷ bs) other digits =
    let each = and_parts (is_ascii_digit b) (list_all is_ascii_digit bs) digits in
    ap (λ t. t && list_all (λ x. not (x == mark)) bs) (digit-plain mark b other each.0) ∙ digits-plain mark bs other each.1

pub decimal-plain : (n : ℕ) → n < 10 ^ 5 → IsWithout 44 (decimal n)
decimal-plain n small = digits-plain 44 (decimal n) refl (decimal_digits n small)

-- ---- a field `NAME=VALUE`

-- The name of a field has no `=`.
pub field-cut : (field name before : List ℕ) (value : Option (Bor (List ℕ))) (n : ℕ) → IsWithout 61 name → parts 61 field ≡ before ∷ later_parts 61 value
    → HasValue field name n → (before ≡ name) × IsSomeAnd value (λ v. v.now ≡ decimal n)
field-cut field name before value n without cut has = cut-again 61 field name (decimal n) before value without has.text_is cut

pub value-missing : (field name before : List ℕ) (value : Option (Bor (List ℕ))) (n : ℕ) → IsWithout 61 name → parts 61 field ≡ before ∷ later_parts 61 value
    → value ≡ None → HasValue field name n → ⊥
value-missing field name before value n without cut none has =
    subst (λ (o : Option (Bor (List ℕ))). IsSomeAnd o (λ v. v.now ≡ decimal n)) none (field-cut field name before value n without cut has).1

pub value-found : (field name before : List ℕ) (value : Option (Bor (List ℕ))) (v : Bor (List ℕ)) (found : Option ℕ) (n : ℕ) → IsWithout 61 name
    → parts 61 field ≡ before ∷ later_parts 61 value → before ≡ name → value ≡ Some v → (found ≡ Some n) ↔ ((n < 10 ^ 5) × (v.now ≡ decimal n))
    → (found ≡ Some n) ↔ HasValue field name n
value-found field name before value v found n without cut named some reads =
    let whole : parts 61 field ≡ name ∷ parts 61 v.now = cut ∙ ap₂ (λ (x : List ℕ) (o : Option (Bor (List ℕ))). x ∷ later_parts 61 o) named some in (
      λ is.
          let read = reads.0 is in
          record { text_is = text-of 61 field name v.now whole ∙ ap (λ (t : List ℕ). name ++ 61 ∷ t) read.1; few_digits = read.0 },
      λ has.
          let same = subst (λ (o : Option (Bor (List ℕ))). IsSomeAnd o (λ w. w.now ≡ decimal n)) some (field-cut field name before value n without cut has).1 in
          reads.1 (has.few_digits, same),
    )

-- ---- the text of three fields

-- A field with a value has no comma if its name has none.
name-plain : (name : List ℕ) (n : ℕ) → IsWithout 44 name → n < 10 ^ 5 → IsWithout 44 (field_text name n)
name-plain [] n without small = decimal-plain n small
name-plain (b ∷ bs) n without small =
    let each = and_parts (not (b == 44)) (list_all (λ x. not (x == 44)) bs) without in
    ap₂ (λ x y. x && y) each.0 (name-plain bs n each.1 small)

abbrev later_text : Thresholds → List ℕ
later_text t = field_text (codes "report") t.report ++ 44 ∷ field_text (codes "clean") t.clean

pub first-cut : (text refill : List ℕ) (rest : Option (Bor (List ℕ))) (t : Thresholds) → parts 44 text ≡ refill ∷ later_parts 44 rest → IsThresholds text t
    → (refill ≡ field_text (codes "refill") t.refill) × IsSomeAnd rest (λ r. r.now ≡ later_text t)
first-cut text refill rest t cut is = cut-again 44 text (field_text (codes "refill") t.refill) (later_text t) refill rest (name-plain (codes "refill") t.refill refl is.refill) is.text_is cut

pub second-cut : (text report : List ℕ) (rest : Option (Bor (List ℕ))) (t : Thresholds) → parts 44 text ≡ report ∷ later_parts 44 rest → t.report < 10 ^ 5 → text ≡ later_text t
    → (report ≡ field_text (codes "report") t.report) × IsSomeAnd rest (λ r. r.now ≡ field_text (codes "clean") t.clean)
second-cut text report rest t cut small is =
    cut-again 44 text (field_text (codes "report") t.report) (field_text (codes "clean") t.clean) report rest (name-plain (codes "report") t.report refl small) is cut

pub one-field : (text refill : List ℕ) (rest : Option (Bor (List ℕ))) (t : Thresholds) → parts 44 text ≡ refill ∷ later_parts 44 rest → rest ≡ None → IsThresholds text t → ⊥
one-field text refill rest t cut none is =
    subst (λ (o : Option (Bor (List ℕ))). IsSomeAnd o (λ r. r.now ≡ later_text t)) none (first-cut text refill rest t cut is).1

-- The second cut is that of the rest.
rest-is : (text refill : List ℕ) (rest : Option (Bor (List ℕ))) (r : Bor (List ℕ)) (t : Thresholds) → parts 44 text ≡ refill ∷ later_parts 44 rest → rest ≡ Some r → IsThresholds text t
    → r.now ≡ later_text t
rest-is text refill rest r t cut some is =
    subst (λ (o : Option (Bor (List ℕ))). IsSomeAnd o (λ x. x.now ≡ later_text t)) some (first-cut text refill rest t cut is).1

pub two-fields : (text refill report : List ℕ) (rest clean : Option (Bor (List ℕ))) (r : Bor (List ℕ)) (t : Thresholds) → parts 44 text ≡ refill ∷ later_parts 44 rest → rest ≡ Some r
    → parts 44 r.now ≡ report ∷ later_parts 44 clean → clean ≡ None → IsThresholds text t → ⊥
two-fields text refill report rest clean r t cut some again none is =
    subst (λ (o : Option (Bor (List ℕ))). IsSomeAnd o (λ x. x.now ≡ field_text (codes "clean") t.clean)) none
    (second-cut r.now report clean t again is.report (rest-is text refill rest r t cut some is)).1

pub three-fields : (text refill report : List ℕ) (rest clean : Option (Bor (List ℕ))) (r c : Bor (List ℕ)) (t : Thresholds) → parts 44 text ≡ refill ∷ later_parts 44 rest → rest ≡ Some r
    → parts 44 r.now ≡ report ∷ later_parts 44 clean → clean ≡ Some c → HaveThresholds refill report c.now t ↔ IsThresholds text t
three-fields text refill report rest clean r c t cut some again more = (
  λ have.
      let front : text ≡ refill ++ 44 ∷ r.now = text-of 44 text refill r.now (cut ∙ ap (λ (o : Option (Bor (List ℕ))). refill ∷ later_parts 44 o) some) in
      let behind : r.now ≡ report ++ 44 ∷ c.now = text-of 44 r.now report c.now (again ∙ ap (λ (o : Option (Bor (List ℕ))). report ∷ later_parts 44 o) more) in
      record {
        text_is = front ∙ ap₂ (λ (x y : List ℕ). x ++ 44 ∷ y) have.refill_is.text_is (behind ∙ ap₂ (λ (x y : List ℕ). x ++ 44 ∷ y) have.report_is.text_is have.clean_is.text_is);
        refill = have.refill_is.few_digits;
        report = have.report_is.few_digits;
        clean = have.clean_is.few_digits;
      },
  λ is.
      let second = second-cut r.now report clean t again is.report (rest-is text refill rest r t cut some is) in
      let last = subst (λ (o : Option (Bor (List ℕ))). IsSomeAnd o (λ x. x.now ≡ field_text (codes "clean") t.clean)) more second.1 in
      record {
        refill_is = record { text_is = (first-cut text refill rest t cut is).0; few_digits = is.refill };
        report_is = record { text_is = second.0; few_digits = is.report };
        clean_is = record { text_is = last; few_digits = is.clean };
      },
)

-- ---- the values of three fields

abbrev pub Reads : List ℕ → List ℕ → ℕ → Type 0
Reads field name value = (n : ℕ) → (Some value ≡ Some n) ↔ HasValue field name n

same-values : (f r k : ℕ) (t : Thresholds) → f ≡ t.refill → r ≡ t.report → k ≡ t.clean → ◌≡◌ {A = Thresholds} (record { refill = f; report = r; clean = k }) t
same-values f r k t refill_is report_is clean_is = rw (refill_is, report_is, clean_is) refl

pub three-values : (refill report clean : List ℕ) (f r k : ℕ) (t : Thresholds) → Reads refill (codes "refill") f → Reads report (codes "report") r → Reads clean (codes "clean") k
    → (Some (record { refill = f; report = r; clean = k }) ≡ Some t) ↔ HaveThresholds refill report clean t
three-values refill report clean f r k t reads_refill reads_report reads_clean = (
  λ is. record {
    refill_is = (reads_refill t.refill).0 (ap (λ (o : Option Thresholds). option_map (λ x. x.refill) o) is);
    report_is = (reads_report t.report).0 (ap (λ (o : Option Thresholds). option_map (λ x. x.report) o) is);
    clean_is = (reads_clean t.clean).0 (ap (λ (o : Option Thresholds). option_map (λ x. x.clean) o) is);
  },
  λ have.
      let refill_is : Some f ≡ Some t.refill = (reads_refill t.refill).1 have.refill_is in
      let report_is : Some r ≡ Some t.report = (reads_report t.report).1 have.report_is in
      let clean_is : Some k ≡ Some t.clean = (reads_clean t.clean).1 have.clean_is in
      ap (λ (x : Thresholds). Some x) (same-values f r k t (cc) (cc) (cc)),
)
