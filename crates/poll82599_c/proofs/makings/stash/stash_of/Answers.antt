use Rattle.std.proofs.Common.{arith}
use Rattle.poll82599_c.proofs.Stashes.{room_left}
use Rattle.poll82599_c.proofs.makings.stash.stash_of.Goals as goal

pub push-requires-clause-room : goal.push-requires-clause-room
push-requires-clause-room c =
    let l = c.loop-buf in let count = l.invariant.count in let few = c.if-buffers-gt-MOST_BUFFERS.false in
    room_left 256 l.stock c.take.new.self c.in-Some.buf.number l.stash c.in-Some.ensures.left l.invariant.shared (omega (arith, count, few))
