-- A move's line and its fields.
use Rattle.std.proofs.Common.{◌≡◌, ◌↔◌, ℕ, ◌^◌, ◌<◌, ◌≤◌, Bool, true, false, nat_eq, List, [], ◌∷◌, ◌++◌, length, map, codes, Bor, Option, Some, refl, sym, ap, ◌∙◌, append_assoc, arith}
use Rattle.std.specs.Prelude.{decimal}
use Rattle.std.specs.List.{AllByRecursion, flat_map, join_with_byte, list_all}
use Rattle.std.specs.Char.{is_ascii_digit}
use Rattle.std.proofs.lemmas.Bool.{and_parts}
use Rattle.std.proofs.lemmas.Bool.Decides.{nat_tests}
use Rattle.std.proofs.lemmas.Fmt.{decimal_injective}
use Rattle.std.proofs.lemmas.List.{append-nil}
use Rattle.std.proofs.lemmas.List.Elements.{All-from_recursion}
use Rattle.std.proofs.lemmas.List.Splits.{join_with_byte-slice_split, slice_split_at, slice_split_none}
use Rattle.ring_machine.specs.declared.moves.fields.TheConstants.{MOST_ARGUMENTS}
use Rattle.ring_machine.specs.declared.moves.Move.{Move}
use Rattle.ring_machine.specs.declared.moves.Move.TheVariants.{Receive, Transmit}
use Rattle.ring_model.specs.declared.steps.ControlStep.{ControlStep}
use Rattle.ring_model.specs.declared.steps.ControlStep.TheVariants.{AskEnable, LookAsked, Answer, LookAnswered, AskDisable}
use Rattle.ring_model.specs.declared.steps.RxStep.{RxStep}
use Rattle.ring_model.specs.declared.steps.RxStep.TheVariants as rx
use Rattle.ring_model.specs.declared.steps.TxStep.{TxStep}
use Rattle.ring_model.specs.declared.steps.TxStep.TheVariants as tx
use Rattle.ring_machine.specs.code.Fields.{AreSmall, Spells, fields_in, later_fields}
use Rattle.ring_machine.specs.text.Moves.{IsInRange, IsRxInRange, IsTxInRange, arguments_of, control_kind, kind_of, queue_of, rx_arguments, rx_kind, text_of, tx_arguments, tx_kind}
use Rattle.ring_model.specs.shared.Agreement.{bit}
use Rattle.ring_model.specs.transmit.Ring.{Posting}
use Rattle.text_lines.proofs.Decimals.{decimal_digits}

-- no space
abbrev IsPlain : List ℕ → Type 0
IsPlain field = AllByRecursion (λ b. nat_eq b 32 ≡ false) field

-- kinds
control_plain : (c : ControlStep) → IsPlain (control_kind c)
control_plain AskEnable = (refl, (refl, tt))
control_plain LookAsked = (refl, (refl, tt))
control_plain Answer = (refl, (refl, tt))
control_plain LookAnswered = (refl, (refl, tt))
control_plain AskDisable = (refl, (refl, tt))

rx_plain : (s : RxStep ℕ) → IsPlain (rx_kind s)
rx_plain (rx.Post b) = (refl, (refl, tt))
rx_plain rx.Publish = (refl, (refl, tt))
rx_plain rx.Look = (refl, (refl, tt))
rx_plain rx.Fetch = (refl, (refl, tt))
rx_plain (rx.Store len eop) = (refl, (refl, tt))
rx_plain rx.Take = (refl, (refl, tt))
rx_plain rx.Head = (refl, (refl, tt))
rx_plain (rx.Control c) = control_plain c
rx_plain rx.Reclaim = (refl, (refl, tt))
rx_plain rx.StoreQuiet = (refl, (refl, tt))
rx_plain rx.LoadQuiet = (refl, (refl, tt))
rx_plain rx.ClearHead = (refl, (refl, tt))
rx_plain rx.ClearTail = (refl, (refl, (refl, tt)))
rx_plain rx.ClearQuiet = (refl, (refl, (refl, tt)))

tx_plain : (s : TxStep (Posting ℕ)) → IsPlain (tx_kind s)
tx_plain (tx.Post p) = (refl, (refl, tt))
tx_plain tx.Publish = (refl, (refl, tt))
tx_plain tx.Look = (refl, (refl, tt))
tx_plain tx.Fetch = (refl, (refl, tt))
tx_plain tx.Send = (refl, (refl, tt))
tx_plain tx.Report = (refl, (refl, tt))
tx_plain tx.LoadReport = (refl, (refl, tt))
tx_plain tx.Clean = (refl, (refl, tt))
tx_plain (tx.Control c) = control_plain c
tx_plain tx.Reclaim = (refl, (refl, tt))
tx_plain tx.ClearHead = (refl, (refl, tt))
tx_plain tx.ClearTail = (refl, (refl, (refl, tt)))
tx_plain tx.ClearReport = (refl, (refl, (refl, tt)))

kind_plain : (m : Move) → IsPlain (kind_of m)
kind_plain (Receive q s) = rx_plain s
kind_plain (Transmit q s) = tx_plain s

-- numbers
digit_plain : (b : ℕ) → is_ascii_digit b ≡ true → nat_eq b 32 ≡ false
digit_plain b digit = grind (arith, nat_tests)

digits_plain : (field : List ℕ) → list_all is_ascii_digit field ≡ true → IsPlain field
digits_plain [] digits = tt
digits_plain (b ∷ bs) digits =
    let parts = and_parts (is_ascii_digit b) (list_all is_ascii_digit bs) digits in
    (digit_plain b parts.0, digits_plain bs parts.1)

decimals_plain : (ns : List ℕ) → AreSmall ns → AllByRecursion IsPlain (map decimal ns)
decimals_plain [] small = tt
decimals_plain (n ∷ ns) small = (digits_plain (decimal n) (decimal_digits n (omega (arith, small.0))), decimals_plain ns small.1)

queue_plain : (m : Move) → IsInRange m → IsPlain (queue_of m)
queue_plain (Receive q s) r = (refl, digits_plain (decimal q) (decimal_digits q (omega (arith, r.0))))
queue_plain (Transmit q s) r = (refl, digits_plain (decimal q) (decimal_digits q (omega (arith, r.0))))

-- arguments
bit_small : (b : Bool) → bit b < 2 ^ 16
bit_small true = omega arith
bit_small false = omega arith

-- numbers of 16 bits, no more than a move may have
abbrev AreArguments : List ℕ → Type 0
AreArguments ns = AreSmall ns × (length ns ≤ MOST_ARGUMENTS)

rx_fits : (s : RxStep ℕ) → IsRxInRange s → AreArguments (rx_arguments s)
rx_fits (rx.Post b) r = ((r, tt), omega arith)
rx_fits (rx.Store len eop) r = ((omega (arith, r.1), (bit_small eop, tt)), omega arith)
rx_fits _ r = (tt, omega arith)

tx_fits : (s : TxStep (Posting ℕ)) → IsTxInRange s → AreArguments (tx_arguments s)
tx_fits (tx.Post p) r =
    ((r.0, (omega (arith, r.1.few_bytes), (bit_small p.eop, (bit_small p.rs, (omega (arith, r.1.most), tt))))), omega arith)
tx_fits _ r = (tt, omega arith)

pub arguments_fit : (m : Move) → IsInRange m → AreArguments (arguments_of m)
arguments_fit (Receive q s) r = rx_fits s r.1
arguments_fit (Transmit q s) r = tx_fits s r.1

-- a line of fields
join_again : (f : List ℕ) (fs : List (List ℕ)) → IsPlain f → AllByRecursion IsPlain fs
    → fields_in (join_with_byte 32 (f ∷ fs)) ≡ f ∷ fs
join_again f [] p q = slice_split_none (λ b. nat_eq b 32) f (All-from_recursion (λ b. nat_eq b 32 ≡ false) f p)
join_again f (g ∷ fs) p q =
    let none = All-from_recursion (λ b. nat_eq b 32 ≡ false) f p in
    slice_split_at (λ b. nat_eq b 32) f 32 (join_with_byte 32 (g ∷ fs)) none refl
    ∙ ap (λ fields. f ∷ fields) (join_again g fs q.0 q.1)

-- each argument after a space
join_said : (k : List ℕ) (ns : List ℕ)
    → k ++ flat_map (λ n. codes " " ++ decimal n) ns ≡ join_with_byte 32 (k ∷ map decimal ns)
join_said k [] = append-nil k
join_said k (n ∷ ns) = ap (λ rest. k ++ 32 ∷ rest) (join_said (decimal n) ns)

-- the fields of a move
abbrev fields_of : Move → List (List ℕ)
fields_of m = queue_of m ∷ kind_of m ∷ map decimal (arguments_of m)

grouped : (queue kind rest : List ℕ) → (queue ++ codes " " ++ kind) ++ rest ≡ queue ++ 32 ∷ (kind ++ rest)
grouped queue kind rest = simp append_assoc

text_said : (m : Move) → text_of m ≡ join_with_byte 32 (fields_of m)
text_said m =
    grouped (queue_of m) (kind_of m) (flat_map (λ n. codes " " ++ decimal n) (arguments_of m))
    ∙ ap (λ rest. queue_of m ++ 32 ∷ rest) (join_said (kind_of m) (arguments_of m))

pub fields_said : (line : List ℕ) (m : Move) → IsInRange m → line ≡ text_of m → fields_in line ≡ fields_of m
fields_said line m r same =
    let numbers = decimals_plain (arguments_of m) (arguments_fit m r).0 in
    ap fields_in (same ∙ text_said m)
    ∙ join_again (queue_of m) (kind_of m ∷ map decimal (arguments_of m)) (queue_plain m r) (kind_plain m, numbers)

pub line_said : (line : List ℕ) (m : Move) → fields_in line ≡ fields_of m → line ≡ text_of m
line_said line m same = sym (join_with_byte-slice_split 32 line) ∙ ap (join_with_byte 32) same ∙ sym (text_said m)

-- equal texts of numbers
decimals_injective : (ms ns : List ℕ) → AreSmall ms → AreSmall ns → map decimal ms ≡ map decimal ns → ms ≡ ns
decimals_injective [] [] a b same = refl
decimals_injective [] (n ∷ ns) a b same = cc
decimals_injective (m ∷ ms) [] a b same = cc
decimals_injective (m ∷ ms) (n ∷ ns) a b same =
    let here : decimal m ≡ decimal n = cc in
    let later : map decimal ms ≡ map decimal ns = cc in
    let first = decimal_injective m n (omega (arith, a.0)) (omega (arith, b.0)) here in
    let rest = decimals_injective ms ns a.1 b.1 later in
    cc

-- what a line's fields spell is the line's move
pub spelled : (line queue name : List ℕ) (ns : List ℕ) (m : Move)
    → fields_in line ≡ queue ∷ name ∷ map decimal ns → AreSmall ns
    → Spells queue name ns m ↔ (IsInRange m × (line ≡ text_of m))
spelled line queue name ns m cut small = (
  λ s. (s.in_range, line_said line m (cut ∙ (rw (s.queue, s.kind, s.arguments) refl))),
  λ h.
      let same : queue ∷ name ∷ map decimal ns ≡ fields_of m = sym cut ∙ fields_said line m h.0 h.1 in
      let values : map decimal ns ≡ map decimal (arguments_of m) = cc in
      let numbers = decimals_injective ns (arguments_of m) small (arguments_fit m h.0).0 values in
      record { in_range = h.0; queue = cc; kind = cc; arguments = numbers },
)

-- the first two fields and the others
pub two_fields : (line queue name : List ℕ) (more : List (List ℕ)) (rest : Option (Bor (List ℕ))) (left : Bor (List ℕ))
    → fields_in line ≡ queue ∷ later_fields rest → rest ≡ Some left → fields_in left.now ≡ name ∷ more
    → fields_in line ≡ queue ∷ name ∷ more
two_fields line queue name more rest left first is second =
    first ∙ ap (λ fields. queue ∷ fields) (ap later_fields is ∙ second)

-- fewer fields than two are no move
pub one_field : (line queue : List ℕ) (m : Move) → fields_in line ≡ queue ∷ [] → IsInRange m → line ≡ text_of m → ⊥
one_field line queue m cut r same = cc (sym cut ∙ fields_said line m r same)

-- other fields than numbers are no arguments
pub no_arguments : (line queue name : List ℕ) (more : List (List ℕ)) (m : Move) → fields_in line ≡ queue ∷ name ∷ more
    → ((ns : List ℕ) → AreSmall ns → length ns ≤ MOST_ARGUMENTS → more ≡ map decimal ns → ⊥)
    → IsInRange m → line ≡ text_of m → ⊥
no_arguments line queue name more m cut none r same =
    let fields : queue ∷ name ∷ more ≡ fields_of m = sym cut ∙ fields_said line m r same in
    let later : more ≡ map decimal (arguments_of m) = cc in
    none (arguments_of m) (arguments_fit m r).0 (arguments_fit m r).1 later
