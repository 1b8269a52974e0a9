use Rattle.clap.specs.Words.{found_of}
use Rattle.command_line.proofs.CommandLine.{word_is}
use Rattle.command_line.proofs.reading.word_in.Goals as goal

pub returns : goal.returns
returns c text said = word_is (found_of c.args.matches.now) c.args.id.now text c.get_str.result c.get_str.ensures said
