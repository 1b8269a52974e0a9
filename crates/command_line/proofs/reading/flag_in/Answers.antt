use Rattle.clap.specs.Words.{found_of}
use Rattle.command_line.proofs.CommandLine.{flag_is}
use Rattle.command_line.proofs.reading.flag_in.Goals as goal

pub returns : goal.returns
returns c stands has = flag_is (found_of c.args.matches.now) c.args.id.now stands c.get_flag.result has c.get_flag.ensures.value c.get_flag.ensures.other
