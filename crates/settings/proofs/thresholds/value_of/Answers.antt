-- The name of a field has no `=`, so the first one is behind it.
use Rattle.std.proofs.Common.{◌≡◌, ◌∙◌, sym, Some, None, false, true}
use Rattle.std.proofs.lemmas.Slice.Eq.{bytes_eq-Decides}
use Rattle.settings.proofs.Fields.{field-cut, value-found, value-missing}
use Rattle.settings.proofs.thresholds.value_of.Goals as goal

pub returns-in_err-value : goal.returns-in_err-value
returns-in_err-value c n = (
  λ is. let none : None ≡ Some n = sym c.from_residual.ensures ∙ is in cc,
  λ has. absurd (value-missing _ _ _ _ n c.requires c.cut.ensures.parts c.in_err-value.was has),
)

pub returns-in_ok-value : goal.returns-in_ok-value
returns-in_ok-value c n =
    let named = (bytes_eq-Decides c.cut.result.0.now c.args.name.now).0 (sym c.eq.ensures ∙ c.if-eq.true) in
    value-found _ _ _ _ _ _ n c.requires c.cut.ensures.parts named c.in_ok-value.was (c.number_in.ensures.text n)

pub returns-else-eq : goal.returns-else-eq
returns-else-eq c n = (
  λ is. cc,
  λ has.
      let named = (field-cut _ _ _ c.cut.result.1 n c.requires c.cut.ensures.parts has).0 in
      let same : true ≡ false = sym ((bytes_eq-Decides c.cut.result.0.now c.args.name.now).1 named) ∙ (sym c.eq.ensures ∙ c.if-eq.false) in
      cc,
)
