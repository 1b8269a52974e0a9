use Rattle.clap.specs.Words.{found_of}
use Rattle.command_line.proofs.CommandLine.{number_is}
use Rattle.command_line.proofs.reading.number_in.Goals as goal

pub returns : goal.returns
returns c n has = number_is (found_of c.args.matches.now) c.args.id.now n c.get_one.result has c.get_one.ensures.value
