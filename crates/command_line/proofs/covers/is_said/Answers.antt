use Rattle.std.proofs.Common.{◌∙◌}
use Rattle.clap.specs.Words.{found_of}
use Rattle.command_line.proofs.CommandLine.{said_is}
use Rattle.command_line.proofs.covers.is_said.Goals as goal

pub returns : goal.returns
returns c = c.by_words.ensures ∙ said_is (found_of c.args.matches.now) c.args.id.now c.value_source.result c.value_source.ensures
