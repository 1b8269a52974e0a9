use Rattle.buffer_accounting.proofs.Returns.{reclaiming-moves}
use Rattle.buffer_accounting.proofs.laws.reclaiming_moves_buffers.Goals as goal

pub returns : goal.returns
returns c = reclaiming-moves
