use Rattle.std.proofs.Common.{arith, sym}
use Rattle.std.proofs.lemmas.Bool.Decides.{nat_tests}
use Rattle.wire_script.proofs.FieldLemmas.{digit_below-other, digit_below-one}
use Rattle.wire_script.proofs.field.digit_below.Goals as goal

pub returns-in_default-clause-value : goal.returns-in_default-clause-value
returns-in_default-clause-value c = sym (digit_below-other c.args.count c.args.field.now (λ one. omega arith))

pub returns-in_default-2-clause-value : goal.returns-in_default-2-clause-value
returns-in_default-2-clause-value c = sym (digit_below-other c.args.count c.args.field.now (λ one. omega arith))

pub returns-then-byte-lt48-clause-value : goal.returns-then-byte-lt48-clause-value
returns-then-byte-lt48-clause-value c =
    let e = digit_below-one c.args.count c.args.field.now (omega arith) in
    grind (arith, nat_tests, e)

pub returns-clause-value : goal.returns-clause-value
returns-clause-value c =
    let e = digit_below-one c.args.count c.args.field.now (omega arith) in
    grind (arith, nat_tests, e)
