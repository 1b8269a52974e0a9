use Rattle.std.proofs.Common.{◌≡◌, ℕ, List, true, false, None, Some, ap, ◌∙◌, refl, arith, rules}
use Rattle.std.specs.Str.Parse.{digits_value}
use Rattle.std.proofs.lemmas.List.{take_all}
use Rattle.text_lines.specs.Numbers.{is_number}
use Rattle.text_lines.proofs.Decimals.{digits_step, number_found}
use Rattle.text_lines.proofs.numbers.number_in.Goals as goal

pub loop-digit-preserved : goal.loop-digit-preserved
loop-digit-preserved c =
    let number : is_number c.args.field.now ≡ true = search rules in
    let before = c.loop-digit.invariant in
    let step = digits_step c.args.field.now c.loop-digit.digit-index c.loop-digit.value c.from.result
    number c.loop-digit-test.true c.from.ensures before.value before.bound in
    record { value = step.0; bound = step.1 }

pub returns-then-not-is_number-clause-text : goal.returns-then-not-is_number-clause-text
returns-then-not-is_number-clause-text c =
    let no : is_number c.args.field.now ≡ false = search rules in
    number_found c.args.field.now None (rw no refl)

pub returns-clause-text : goal.returns-clause-text
returns-clause-text c =
    let field : List ℕ = c.args.field.now in
    let number : is_number field ≡ true = search rules in
    let whole : c.loop-digit.value ≡ digits_value 10 field =
    c.loop-digit.invariant.value ∙ ap (digits_value 10) (take_all c.loop-digit.digit-index field (omega arith)) in
    number_found field (Some c.loop-digit.value) (rw (number, whole) refl)
