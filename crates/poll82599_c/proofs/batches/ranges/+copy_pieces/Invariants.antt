use Rattle.std.proofs.Common.{length}
use Rattle.poll82599_c.proofs.batches.ranges.+copy_pieces.Given as goal

abbrev pub decreases-copy_pieces : goal.decreases-copy_pieces
decreases-copy_pieces l = length l.segments
