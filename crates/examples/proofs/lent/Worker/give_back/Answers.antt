-- What the pass holds goes back part by part, until nothing is held.
use Rattle.driver.specs.transmit.Frames.{numbers_in}
use Rattle.buffer_accounting.specs.Lent.{with_receiver, with_transmitter}
use Rattle.examples.proofs.Moving.{received-held, sent-held, waiting-held, none-held}
use Rattle.examples.proofs.lent.Worker.give_back.Goals as goal

pub give_disabled-requires-clause-held : goal.give_disabled-requires-clause-held
give_disabled-requires-clause-held g c =
    let s = c.args.self in received-held s.pass.hand.held s.stash (with_receiver s.rx) (numbers_in s.packets.items) (with_transmitter s.tx) s.lent

pub give_disabled-requires-2-clause-held : goal.give_disabled-requires-2-clause-held
give_disabled-requires-2-clause-held g c =
    let s = c.args.self in let r = c.give_disabled in
    sent-held s.pass.hand.held s.stash (with_receiver s.rx) (numbers_in s.packets.items) (with_transmitter s.tx) s.lent r.new.pass.hand.held r.new.stash r.ensures.given r.ensures.stash

pub give_packets-requires-clause-held : goal.give_packets-requires-clause-held
give_packets-requires-clause-held g c =
    let s = c.args.self in let r = c.give_disabled in let t = c.give_disabled-2 in
    waiting-held s.pass.hand.held s.stash (with_receiver s.rx) (numbers_in s.packets.items) (with_transmitter s.tx) s.lent r.new.pass.hand.held r.new.stash r.ensures.given r.ensures.stash
    t.new.pass.hand.held t.ensures.given

pub returns-clause-none : goal.returns-clause-none
returns-clause-none g c =
    let s = c.args.self in let r = c.give_disabled in let t = c.give_disabled-2 in
    none-held s.pass.hand.held s.stash (with_receiver s.rx) (numbers_in s.packets.items) (with_transmitter s.tx) s.lent r.new.pass.hand.held r.new.stash r.ensures.given r.ensures.stash
    t.new.pass.hand.held t.ensures.given c.give_packets.new.pass.hand.held c.give_packets.ensures.given
