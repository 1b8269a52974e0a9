use Rattle.std.proofs.Common.{sym}
use Rattle.controller.proofs.Cutting.{one_piece}
use Rattle.controller.proofs.storing.descriptors.Goals as goal

pub returns-then-len-bsize : goal.returns-then-len-bsize
returns-then-len-bsize c = sym (one_piece c.args.bsize c.args.len c.requires.some_bytes c.if-len-bsize.true)
