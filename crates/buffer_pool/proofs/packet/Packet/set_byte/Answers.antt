-- A packet has no blank.
use Rattle.buffer_pool.proofs.Chains.{chain-real}
use Rattle.buffer_pool.proofs.packet.Packet.set_byte.Goals as goal

pub returns-clause-real : goal.returns-clause-real
returns-clause-real c = chain-real c.set_byte.new.self
