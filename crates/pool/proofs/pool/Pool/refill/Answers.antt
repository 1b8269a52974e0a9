use Rattle.std.proofs.Common.{arith}
use Rattle.pool.proofs.Moving.{refilled-more}
use Rattle.pool.proofs.pool.Pool.refill.Goals as goal

pub loop-moved-preserved : goal.loop-moved-preserved
loop-moved-preserved g c = record {
  pool = c.take.ensures.pool;
  some = omega arith;
  moved = refilled-more _ _ _ _ _ c.in-Ok.buf.number _ _ c.loop-moved.invariant.moved c.in-Ok.ensures.taken c.push.ensures;
}
