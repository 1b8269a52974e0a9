use Rattle.command_line.proofs.Limits.{reading_is}
use Rattle.command_line.proofs.reading.reading_in.Goals as goal

pub returns : goal.returns
returns c reading has = reading_is reading _ _ (c.flag_in-skip.ensures reading.skip has.skip) (c.limit_in-limit.ensures reading.limit has.limit has.fits)
