use Rattle.text_lines.proofs.Places.{place_is}
use Rattle.text_lines.proofs.cutting.place_of.Goals as goal

pub returns : goal.returns
returns c = place_is c.args.wanted c.args.bytes.now c.memchr.result c.memchr.ensures
