use Rattle.std.proofs.Common.{◌∙◌, ap}
use Rattle.text_lines.specs.Parts.{lines_of}
use Rattle.forward_io.proofs.Passing.{lines_passed}
use Rattle.forward_io.proofs.piped.flow_lines.pass_flows.Goals as goal

pub returns : goal.returns
returns c = ap lines_of c.comment_flows.ensures ∙ lines_passed c.args.text.now
