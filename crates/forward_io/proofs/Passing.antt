-- A text whose lines of flows are passed over, line by line.
use Rattle.std.proofs.Common.{◌≡◌, ◌∙◌, ap, sym, subst, refl, ℕ, suc, Bool, true, false, ◌&&◌, ◌==◌, List, [], ◌∷◌, codes, length, map, take, eqb-true}
use Rattle.std.specs.Prelude.{if◌then◌else◌}
use Rattle.std.specs.List.{onto_first}
use Rattle.std.specs.Str.{bytes_eq}
use Rattle.std.proofs.lemmas.List.Splits.{slice_split-cons_no, slice_split-cons_yes}
use Rattle.text_lines.specs.Parts.{lines_of}
use Rattle.forward_io.specs.Flows.{passed_line, tells_of_flow, without_flows}

-- the first line of some
abbrev first_line : List (List ℕ) → List ℕ
first_line [] = []
first_line (line ∷ lines) = line

-- a byte that begins no line stands before the first
first-onto : (x : ℕ) (lines : List (List ℕ)) → first_line (onto_first x lines) ≡ x ∷ first_line lines
first-onto x [] = refl
first-onto x (line ∷ lines) = refl

-- a word without LF
abbrev IsPlain : List ℕ → Type 0
IsPlain [] = Unit {0}
IsPlain (c ∷ word) = ((10 == c) ≡ false) × IsPlain word

-- it begins a text where it begins its first line
same-begin : (word text : List ℕ) → IsPlain word
    → bytes_eq (take (length word) text) word ≡ bytes_eq (take (length word) (first_line (lines_of text))) word
same-begin [] text plain = refl
same-begin (c ∷ word) [] plain = refl
same-begin (c ∷ word) (x ∷ text) plain = by-end (same-begin word text plain.1) (x == 10) refl
  where
    by-end : bytes_eq (take (length word) text) word ≡ bytes_eq (take (length word) (first_line (lines_of text))) word → (b : Bool) → (x == 10) ≡ b
        → bytes_eq (x ∷ take (length word) text) (c ∷ word) ≡ bytes_eq (take (suc (length word)) (first_line (lines_of (x ∷ text)))) (c ∷ word)
    by-end later true ends =
        let line : first_line (lines_of (x ∷ text)) ≡ [] = ap first_line (slice_split-cons_yes (λ b. b == 10) x text ends) in
        let other : (x == c) ≡ false = subst (λ (y : ℕ). (y == c) ≡ false) (sym (eqb-true x 10 ends)) plain.0 in
        ap (λ (b : Bool). b && bytes_eq (take (length word) text) word) other
        ∙ sym (ap (λ (l : List ℕ). bytes_eq (take (suc (length word)) l) (c ∷ word)) line)
    by-end later false inner =
        let line : first_line (lines_of (x ∷ text)) ≡ x ∷ first_line (lines_of text) =
        ap first_line (slice_split-cons_no (λ b. b == 10) x text inner) ∙ first-onto x (lines_of text) in
        ap (λ (b : Bool). (x == c) && b) later
        ∙ sym (ap (λ (l : List ℕ). bytes_eq (take (suc (length word)) l) (c ∷ word)) line)

same-flow : (text : List ℕ) → tells_of_flow text ≡ tells_of_flow (first_line (lines_of text))
same-flow text = same-begin (codes "flow ") text (refl, (refl, (refl, (refl, (refl, record {})))))

-- lines of which the first begins a line, or does not
abbrev passed_from : Bool → List (List ℕ) → List (List ℕ)
passed_from true lines = map passed_line lines
passed_from false [] = []
passed_from false (line ∷ lines) = line ∷ map passed_line lines

-- the byte that stands for the first of these
abbrev byte_for : Bool → ℕ → List ℕ → ℕ
byte_for begins x text = if begins && tells_of_flow (x ∷ text) then 35 else x

-- an LF stays
lf-stays : (begins : Bool) (x : ℕ) (text : List ℕ) → (x == 10) ≡ true → byte_for begins x text ≡ x
lf-stays begins x text ends =
    let is : x ≡ 10 = eqb-true x 10 ends in
    subst (λ (y : ℕ). byte_for begins y text ≡ y) (sym is) (at-10 begins)
  where
    at-10 : (b : Bool) → byte_for b 10 text ≡ 10
    at-10 true = refl
    at-10 false = refl

-- and no other byte becomes one
no-lf : (begins : Bool) (x : ℕ) (text : List ℕ) → (x == 10) ≡ false → (byte_for begins x text == 10) ≡ false
no-lf begins x text inner = by-test (begins && tells_of_flow (x ∷ text))
  where
    by-test : (b : Bool) → ((if b then 35 else x) == 10) ≡ false
    by-test true = refl
    by-test false = inner

-- a byte within a line, before the lines that the rest makes
put-before : (begins : Bool) (x : ℕ) (text : List ℕ) (lines : List (List ℕ)) → tells_of_flow (x ∷ text) ≡ tells_of_flow (x ∷ first_line lines)
    → onto_first (byte_for begins x text) (passed_from false lines) ≡ passed_from begins (onto_first x lines)
put-before false x text [] same = refl
put-before false x text (line ∷ lines) same = refl
put-before true x text [] same = ap (λ b. ((if b then 35 else x) ∷ []) ∷ []) same ∙ by-test (tells_of_flow (x ∷ []))
  where
    by-test : (b : Bool) → ((if b then 35 else x) ∷ []) ∷ [] ≡ (if b then 35 ∷ [] else x ∷ []) ∷ []
    by-test true = refl
    by-test false = refl
put-before true x text (line ∷ lines) same = ap (λ b. ((if b then 35 else x) ∷ line) ∷ map passed_line lines) same ∙ by-test (tells_of_flow (x ∷ line))
  where
    by-test : (b : Bool) → ((if b then 35 else x) ∷ line) ∷ map passed_line lines ≡ (if b then 35 ∷ line else x ∷ line) ∷ map passed_line lines
    by-test true = refl
    by-test false = refl

-- an empty line before others
empty-first : (begins : Bool) (lines : List (List ℕ)) → [] ∷ map passed_line lines ≡ passed_from begins ([] ∷ lines)
empty-first true lines = refl
empty-first false lines = refl

-- the lines of the text that is left are the text's, each passed over that tells of a flow
lines-are : (begins : Bool) (text : List ℕ) → lines_of (without_flows begins text) ≡ passed_from begins (lines_of text)
lines-are true [] = refl
lines-are false [] = refl
lines-are begins (x ∷ text) = by-end (λ b. lines-are b text) (x == 10) refl
  where
    by-end : ((b : Bool) → lines_of (without_flows b text) ≡ passed_from b (lines_of text)) → (b : Bool) → (x == 10) ≡ b
        → lines_of (byte_for begins x text ∷ without_flows (x == 10) text) ≡ passed_from begins (lines_of (x ∷ text))
    by-end later true ends =
        let stays = lf-stays begins x text ends in
        let left : lines_of (byte_for begins x text ∷ without_flows (x == 10) text) ≡ [] ∷ lines_of (without_flows (x == 10) text) =
        slice_split-cons_yes (λ b. b == 10) (byte_for begins x text) (without_flows (x == 10) text) (ap (λ y. y == 10) stays ∙ ends) in
        left ∙ (ap (λ b. [] ∷ lines_of (without_flows b text)) ends ∙ (ap (λ ls. [] ∷ ls) (later true)
        ∙ (empty-first begins (lines_of text) ∙ sym (ap (passed_from begins) (slice_split-cons_yes (λ b. b == 10) x text ends)))))
    by-end later false inner =
        let left : lines_of (byte_for begins x text ∷ without_flows (x == 10) text) ≡ onto_first (byte_for begins x text) (lines_of (without_flows (x == 10) text)) =
        slice_split-cons_no (λ b. b == 10) (byte_for begins x text) (without_flows (x == 10) text) (no-lf begins x text inner) in
        let line : lines_of (x ∷ text) ≡ onto_first x (lines_of text) = slice_split-cons_no (λ b. b == 10) x text inner in
        let same : tells_of_flow (x ∷ text) ≡ tells_of_flow (x ∷ first_line (lines_of text)) =
        same-flow (x ∷ text) ∙ ap tells_of_flow (ap first_line line ∙ first-onto x (lines_of text)) in
        left ∙ (ap (λ b. onto_first (byte_for begins x text) (lines_of (without_flows b text))) inner
        ∙ (ap (onto_first (byte_for begins x text)) (later false)
        ∙ (put-before begins x text (lines_of text) same ∙ sym (ap (passed_from begins) line))))

pub lines_passed : (text : List ℕ) → lines_of (without_flows true text) ≡ map passed_line (lines_of text)
lines_passed text = lines-are true text
