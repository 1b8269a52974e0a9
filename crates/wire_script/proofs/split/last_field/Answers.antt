use Rattle.std.proofs.Common.{◌≡◌, true, is_some, rules, ap, ◌∙◌}
use Rattle.wire_script.specs.Split.{is_last}
use Rattle.wire_script.proofs.SplitLemmas.{not_last}
use Rattle.wire_script.proofs.split.last_field.Goals as goal

pub returns-then-is_some-clause-none : goal.returns-then-is_some-clause-none
returns-then-is_some-clause-none c =
    let more : is_some c.cut.result.1 ≡ true = search rules in
    ap is_last c.cut.ensures.parts ∙ not_last c.cut.result.0.now c.cut.result.1 more
