use Rattle.std.proofs.Common.{length, ap, arith}
use Rattle.buffer_pool.specs.Buffer.{Buffer}
use Rattle.buffer_pool.proofs.Chains.{chain-fits}
use Rattle.buffer_pool.proofs.packet.Packet.push_front.Goals as goal

pub overflow_add-self : goal.overflow_add-self
overflow_add-self c = omega (
  arith,
  chain-fits c.self.inside.chain c.self.invariant.chain,
  ap (length {A = Buffer}) c.self.view_is,
)
