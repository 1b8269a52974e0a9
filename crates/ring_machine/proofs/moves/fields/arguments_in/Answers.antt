use Rattle.std.proofs.Common.{◌≡◌, ◌++◌, List, ℕ, map, length, Some, None, sym, ap, ◌∙◌, rules, arith}
use Rattle.std.specs.Prelude.{decimal}
use Rattle.std.proofs.lemmas.Bool.{eqb-true}
use Rattle.std.proofs.lemmas.List.{append-nil}
use Rattle.ring_machine.specs.code.Fields.{later_fields}
use Rattle.ring_machine.proofs.text.ArgumentFields.{less_left, next_field, no_number, one_more, small_more, too_many}
use Rattle.ring_machine.proofs.moves.fields.arguments_in.Goals as goal

pub returns-in_err-number-clause-none : goal.returns-in_err-number-clause-none
returns-in_err-number-clause-none c =
    let got : List ℕ = c.loop-rest.arguments.items in
    let none : c.from_residual.result ≡ None = search rules in
    let missing : c.number_of.result ≡ None = search rules in
    let before = next_field got _ _ _ _ c.loop-rest.invariant.read c.in-Some.is c.cut.ensures.parts in
    rw none (λ ns fit few same.
    no_number got ns c.cut.result.0.now (later_fields c.cut.result.1)
    (λ n small is. cc (missing, (c.number_of.ensures n).1 (small, is))) fit (sym before ∙ same))

pub returns-then-is_full-clause-none : goal.returns-then-is_full-clause-none
returns-then-is_full-clause-none c =
    let got : List ℕ = c.loop-rest.arguments.items in
    let before = next_field got _ _ _ _ c.loop-rest.invariant.read c.in-Some.is c.cut.ensures.parts in
    let full : length got ≡ 5 = eqb-true (length got) 5 (sym c.is_full.ensures.value ∙ c.if-is_full.true) in
    λ ns fit few same.
    too_many got ns c.cut.result.0.now (later_fields c.cut.result.1) (omega (arith, few, full)) (sym before ∙ same)

pub loop-rest-preserved : goal.loop-rest-preserved
loop-rest-preserved c =
    let got : List ℕ = c.loop-rest.arguments.items in
    let later = later_fields c.cut.result.1 in
    let before = next_field got _ _ _ _ c.loop-rest.invariant.read c.in-Some.is c.cut.ensures.parts in
    let read : c.number_of.result ≡ Some c.in_ok-number.number = search rules in
    let said = (c.number_of.ensures c.in_ok-number.number).0 read in
    record {
      read = one_more got c.in_ok-number.number c.cut.result.0.now later (later_fields c.args.rest) said.1 before
          ∙ ap (λ items. map decimal items ++ later) (sym c.push.ensures.items);
      small = rw c.push.ensures.items (small_more got c.in_ok-number.number c.loop-rest.invariant.small said.0);
    }

pub loop-rest-smaller : goal.loop-rest-smaller
loop-rest-smaller c =
    rw c.in-Some.is (less_left (length c.in-Some.left.now) c.cut.result.1 c.cut.ensures.shorter)

pub returns-clause-found : goal.returns-clause-found
returns-clause-found c =
    let got : List ℕ = c.loop-rest.arguments.items in
    c.loop-rest.invariant.read
    ∙ ap (λ rest. map decimal got ++ later_fields rest) c.in_default.is
    ∙ append-nil (map decimal got)
