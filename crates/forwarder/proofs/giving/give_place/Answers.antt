use Rattle.std.proofs.Common.{rules, ◌≡◌, [], Option, Some, subst}
use Rattle.buffer_pool.specs.Buffer.{Buffer}
use Rattle.pool.specs.Hands.{HoldsAll}
use Rattle.pool.proofs.Moving.{held-first}
use Rattle.shared_ring.specs.Meeting.{number_at}
use Rattle.forwarder.proofs.giving.give_place.Goals as goal

pub give-requires-clause-held : goal.give-requires-clause-held
give-requires-clause-held g c =
    let held = c.args.pass.now.hand.held in
    let is : c.args.place ≡ Some c.in-Some.buf = search rules in
    held-first held c.in-Some.buf.number [] (subst (λ (o : Option Buffer). HoldsAll held (number_at o)) is c.requires.held)
