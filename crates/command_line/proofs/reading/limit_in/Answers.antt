use Rattle.clap.specs.Words.{found_of}
use Rattle.command_line.proofs.CommandLine.{limit_is}
use Rattle.command_line.proofs.reading.limit_in.Goals as goal

pub returns : goal.returns
returns c limit has fits = limit_is (found_of c.args.matches.now) c.args.id.now limit c.get_one.result has fits c.get_one.ensures.none c.get_one.ensures.value
