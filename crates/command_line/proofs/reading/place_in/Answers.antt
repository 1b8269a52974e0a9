use Rattle.clap.specs.Words.{found_of}
use Rattle.command_line.proofs.CaptureWords.{place_is}
use Rattle.command_line.proofs.reading.place_in.Goals as goal

pub returns : goal.returns
returns c n has = place_is (found_of c.args.matches.now) c.args.id.now n c.get_one.result has c.get_one.ensures.value
