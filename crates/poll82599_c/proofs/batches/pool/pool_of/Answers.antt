use Rattle.std.proofs.Common.{List, ℕ, arith, rules, subst, sym}
use Rattle.buffer_pool.specs.Stocked.{Shares}
use Rattle.poll82599_c.specs.declared.batches.pool.TheConstants.{POOL_BUFFERS}
use Rattle.poll82599_c.proofs.Stashes.{room_left, shared_behind}
use Rattle.poll82599_c.proofs.batches.pool.pool_of.Goals as goal

pub put-requires-clause-room : goal.put-requires-clause-room
put-requires-clause-room c =
    let l = c.loop-buf in let count = l.invariant.count in let few = c.in_ok-stock.ensures.few in
    room_left POOL_BUFFERS l.stock c.take.new.self c.in-Some.buf.number l.pool c.in-Some.ensures.left l.invariant.shared (omega (arith, count, few))

pub loop-buf-preserved : goal.loop-buf-preserved
loop-buf-preserved c = record {
  first = search rules;
  count = search rules;
  shared = subst (λ (pool : List ℕ). Shares c.take.new.self pool) (sym c.put.ensures)
      (shared_behind c.take.new.self c.in-Some.buf.number c.loop-buf.pool (c.in-Some.ensures.shared c.loop-buf.pool c.loop-buf.invariant.shared));
}
