use Rattle.std.proofs.Common.{[], ◌++◌, IsPermutation, append-nil, sym, subst}
use Rattle.ring_model.specs.transmit.Ring.{number_of_posting}
use Rattle.driver.specs.Reclaiming.{out_of}
use Rattle.driver.specs.receive.Batches.{itself}
use Rattle.driver.specs.receive.Returns.{numbers_of}
use Rattle.driver.specs.transmit.Frames.{numbers_in}
use Rattle.shared_ring.specs.Meeting.{numbers_at}
use Rattle.forwarder.proofs.Stopped.{at-hand-first, holds-none, places-first}
use Rattle.forwarder.proofs.abort.close_flow.Goals as goal
use Rattle.forwarder.proofs.abort.close_flow.Goals.{After-close-received, After-close-posted}

-- once what is at hand was given, the pass holds what lay in the places of the one ring, and what is out in the other
received-first : (g : _) (c : After-close-received g) → IsPermutation c.give_at_hand.new.pass.hand.held (numbers_at c.close-received.result.items ++ out_of number_of_posting c.args.driver.tx)
received-first g c =
    let d = c.args.driver in
    let received = out_of itself d.rx in
    let posted = out_of number_of_posting d.tx in
    let all = at-hand-first d.pass.hand.held d.stash received (numbers_of d.chain) (numbers_in d.packets.items) posted c.requires.held in
    places-first c.give_at_hand.new.pass.hand.held received posted (numbers_at c.close-received.result.items) _ c.requires.unheld.0
    (c.give_at_hand.ensures.given (received ++ posted) all) c.close-received.ensures.once

-- and then what lay in the places of the other
posted-first : (g : _) (c : After-close-posted g) → IsPermutation c.give_at_hand.new.pass.hand.held (numbers_at c.close-received.result.items ++ out_of number_of_posting c.args.driver.tx)
    → IsPermutation c.give_places.new.pass.hand.held (numbers_at c.close-posted.result.items ++ [])
posted-first g c before =
    let held = c.give_places.new.pass.hand.held in
    let posted = out_of number_of_posting c.args.driver.tx in
    places-first held posted [] (numbers_at c.close-posted.result.items) _ c.requires.unheld.1
    (subst (IsPermutation held) (sym (append-nil posted)) (c.give_places.ensures.given posted before)) c.close-posted.ensures.once

pub give_at_hand-requires-clause-held : goal.give_at_hand-requires-clause-held
give_at_hand-requires-clause-held g c =
    let d = c.args.driver in
    let received = out_of itself d.rx in
    let posted = out_of number_of_posting d.tx in
    (received ++ posted, at-hand-first d.pass.hand.held d.stash received (numbers_of d.chain) (numbers_in d.packets.items) posted c.requires.held)

pub give_places-requires-clause-held : goal.give_places-requires-clause-held
give_places-requires-clause-held g c = (out_of number_of_posting c.args.driver.tx, received-first g (goal.at.give_places-requires-clause-held g c).After-close-received)

pub give_places-requires-2-clause-held : goal.give_places-requires-2-clause-held
give_places-requires-2-clause-held g c =
    let at = goal.at.give_places-requires-2-clause-held g c in
    ([], posted-first g at.After-close-posted (received-first g at.After-close-received))

pub returns-clause-none : goal.returns-clause-none
returns-clause-none g c =
    let at = goal.at.returns-clause-none g c in
    holds-none c.give_places-2.new.pass.hand.held (c.give_places-2.ensures.given [] (posted-first g at.After-close-posted (received-first g at.After-close-received)))
