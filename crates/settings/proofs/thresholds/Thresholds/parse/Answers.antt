-- Each cut takes off one field, since no field has a comma.
use Rattle.std.proofs.Common.{◌≡◌, ◌∙◌, ap, sym, Some, None}
use Rattle.settings.proofs.Fields.{one-field, three-fields, two-fields}
use Rattle.settings.proofs.thresholds.Thresholds.parse.Goals as goal
use Rattle.text_lines.specs.Parts.{parts}

pub returns-in_err-rest : goal.returns-in_err-rest
returns-in_err-rest c = record {
  text = λ t.
      let cut = ap (parts 44) (sym c.as_bytes.ensures.value) ∙ c.cut.ensures.parts in (
        λ is. let none : None ≡ Some t = sym c.from_residual.ensures ∙ is in cc,
        λ is. absurd (one-field _ _ _ t cut c.in_err-rest.was is),
      );
}

pub returns-in_err-rest-2 : goal.returns-in_err-rest-2
returns-in_err-rest-2 c = record {
  text = λ t.
      let cut = ap (parts 44) (sym c.as_bytes.ensures.value) ∙ c.cut.ensures.parts in (
        λ is. let none : None ≡ Some t = sym c.from_residual-in_err-rest-2.ensures ∙ is in cc,
        λ is. absurd (two-fields _ _ _ _ _ _ t cut c.in_ok-rest.was c.cut-2.ensures.parts c.in_err-rest-2.was is),
      );
}

pub returns : goal.returns
returns c = record {
  text = λ t.
      let cut = ap (parts 44) (sym c.as_bytes.ensures.value) ∙ c.cut.ensures.parts in
      let all = three-fields _ _ _ _ _ _ _ t cut c.in_ok-rest.was c.cut-2.ensures.parts c.in_ok-rest-2.was in
      let read = c.thresholds_of.ensures t in
      (λ is. all.0 (read.0 is), λ is. read.1 (all.1 is));
}
