use Rattle.std.proofs.Common.{List, [], ◌∷◌, length, ap, arith, length-append}
use Rattle.buffer_pool.specs.Buffer.{Buffer}
use Rattle.buffer_pool.specs.Chain.{chained}
use Rattle.buffer_pool.specs.Packed.{bytes_of}
use Rattle.buffer_pool.proofs.Chains.{chain-fits, bytes_of-append}
use Rattle.buffer_pool.proofs.packet.Packet.push_back.Goals as goal

pub overflow_add-self : goal.overflow_add-self
overflow_add-self c = omega (
  arith,
  chain-fits c.self.inside.chain c.self.invariant.chain,
  ap (length {A = Buffer}) c.self.view_is,
)

pub invariant_of-self : goal.invariant_of-self
invariant_of-self c =
    let before : List Buffer = chained c.self.inside.chain in
    let bytes = ap bytes_of c.push.ensures.bufs in
    let segments = ap (length {A = Buffer}) c.push.ensures.bufs in
    record {
      chain = c.push.ensures.chain;
      segments = omega (arith, length-append before (c.args.buf ∷ []), segments);
      len = rw (bytes, bytes_of-append) (simp length-append (omega arith));
      few = omega (arith, ap (length {A = Buffer}) c.self.view_is);
    }
