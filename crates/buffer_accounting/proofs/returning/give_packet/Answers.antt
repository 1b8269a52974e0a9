-- The buffer that comes next is held.
use Rattle.std.proofs.Common.{List, subst}
use Rattle.buffer_pool.specs.Buffer.{Buffer}
use Rattle.driver.specs.receive.Returns.{numbers_of}
use Rattle.pool.specs.Hands.{HoldsAll}
use Rattle.pool.proofs.Moving.{held-first}
use Rattle.buffer_accounting.proofs.Giving.{holds-on}
use Rattle.buffer_accounting.proofs.returning.give_packet.Goals as goal

pub give-requires-clause-held : goal.give-requires-clause-held
give-requires-clause-held g c =
    held-first c.loop-buf.pass.hand.held c.in-Some.buf.number (numbers_of c.pop_front.new.self)
    (subst (λ (l : List Buffer). HoldsAll c.loop-buf.pass.hand.held (numbers_of l)) c.in-Some.ensures.rest
    (holds-on c.args.pass.now.hand.held (numbers_of c.args.packet) c.loop-buf.pass.hand.held (numbers_of c.loop-buf.packet) c.loop-buf.invariant.given c.requires.held))
