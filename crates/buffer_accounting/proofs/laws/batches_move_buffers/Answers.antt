use Rattle.buffer_accounting.proofs.Batches.{batches-move}
use Rattle.buffer_accounting.proofs.laws.batches_move_buffers.Goals as goal

pub returns : goal.returns
returns c = batches-move
