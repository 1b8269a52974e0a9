use Rattle.std.proofs.Common.{◌≡◌, ◌∷◌, List, ℕ, Some, None, sym, ap, subst, ◌∙◌, map, rules}
use Rattle.std.specs.Prelude.{decimal}
use Rattle.ring_machine.specs.code.Fields.{AreSmall, later_fields}
use Rattle.ring_machine.proofs.text.MoveLines.{no_arguments, one_field, spelled, two_fields}
use Rattle.ring_machine.proofs.moves.reading.read.Goals as goal

pub returns-in_err-rest : goal.returns-in_err-rest
returns-in_err-rest c =
    let none : c.from_residual.result ≡ None = search rules in
    let missing : c.cut.result.1 ≡ None = search rules in
    let cut = c.cut.ensures.parts ∙ ap (λ rest. c.cut.result.0.now ∷ later_fields rest) missing in
    λ m. (λ e. cc (none), λ h. absurd (one_field c.args.line.now c.cut.result.0.now m cut h.0 h.1))

pub returns-in_err-arguments : goal.returns-in_err-arguments
returns-in_err-arguments c =
    let queue : List ℕ = c.cut.result.0.now in
    let kind : List ℕ = c.cut-2.result.0.now in
    let none : c.from_residual-in_err-arguments.result ≡ None = search rules in
    let more : c.cut.result.1 ≡ Some c.in_ok-rest.field-0 = search rules in
    let cut = two_fields c.args.line.now queue kind _ _ _ c.cut.ensures.parts more c.cut-2.ensures.parts in
    λ m. (
      λ e. cc (none),
      λ h.
          let none_read = c.in_err-arguments.ensures.none in
          absurd (no_arguments c.args.line.now queue kind (later_fields c.cut-2.result.1) m cut none_read h.0 h.1),
    )

pub returns : goal.returns
returns c = λ m.
    let queue : List ℕ = c.cut.result.0.now in
    let kind : List ℕ = c.cut-2.result.0.now in
    let more : c.cut.result.1 ≡ Some c.in_ok-rest.field-0 = search rules in
    let cut = two_fields c.args.line.now queue kind _ _ _ c.cut.ensures.parts more c.cut-2.ensures.parts in
    let numbers = c.in_ok-arguments.ensures.found ∙ ap (map decimal) (sym c.deref.ensures.0) in
    let small = subst AreSmall (sym c.deref.ensures.0) c.in_ok-arguments.ensures.small in
    let fields = cut ∙ ap (λ more. queue ∷ kind ∷ more) numbers in
    let whole = spelled c.args.line.now queue kind c.deref.result.now m fields small in
    (λ e. whole.0 ((c.move_of.ensures m).0 e), λ h. (c.move_of.ensures m).1 (whole.1 h))
