use Rattle.std.proofs.Common.{◌≡◌, ◌∙◌, ap, ap₂, Option, Some}
use Rattle.clap.specs.Words.{Rule, rule_of}
use Rattle.clap.specs.declared.builder.value_parser.ValueParser.{ValueParser}
use Rattle.clap.specs.declared.builder.value_parser.ValueParser.TheVariants.{Names}
use Rattle.command_line.proofs.arguments.choice.Goals as goal

pub returns-clause-rule : goal.returns-clause-rule
returns-clause-rule c =
    let parser : c.value_parser.result.value_parser ≡ Some (Names c.args.words) = c.value_parser.ensures.given.1 ∙ ap (λ (p : ValueParser). Some p) c.value_parser.ensures.given.2 in
    let parsed : rule_of c.value_parser.result ≡ record (rule_of c.required.result) { parser = c.value_parser.result.value_parser } = ap rule_of c.value_parser.ensures.others in
    parsed ∙ ap₂ (λ (r : Rule) (p : Option ValueParser). record r { parser = p }) c.required.ensures.rule parser
