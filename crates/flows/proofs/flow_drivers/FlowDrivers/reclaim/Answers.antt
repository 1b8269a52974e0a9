use Rattle.std.proofs.Common.{rules, ◌∙◌, ap, sym, length, arith}
use Rattle.std.specs.Prelude.{Some}
use Rattle.std.proofs.lemmas.Bool.{false≢true}
use Rattle.ring_model.specs.transmit.Ring.{number_of_posting}
use Rattle.rx_ring.specs.Ends as receive
use Rattle.tx_ring.specs.Ends as transmit
use Rattle.driver.specs.Reclaiming.{CameBack}
use Rattle.driver.specs.receive.Receiver.{Receiver}
use Rattle.driver.specs.receive.Returns.{GaveBack, IsEmptied}
use Rattle.driver.specs.transmit.Returns as sent
use Rattle.driver.specs.transmit.Transmitter.{Transmitter}
use Rattle.forwarding.specs.Driving.{driving}
use Rattle.flows.specs.Driven.{IsClosing, driving_of}
use Rattle.flows.proofs.FlowDrivers.{back-rx, back-tx, all-back}
use Rattle.flows.proofs.Closing.{closing-rx, closing-tx, closing-still}
use Rattle.flows.proofs.flow_drivers.FlowDrivers.reclaim.Goals as goal

pub returns-then-is_err : goal.returns-then-is_err
returns-then-is_err g c =
    let k = c.args.flow_spec.now in let old = driving_of c.args.self.now in let h = c.give_at_hand in let d = driving_of h.new.self in let r = c.reclaim_into in let left = c.args.left in
    let at : IsClosing k d c.args.counts left.ended (Some left.untaken) (Some left.unsent) = closing-still k old d c.args.counts left.ended (Some left.untaken) (Some left.unsent) h.ensures.drivers.0 h.ensures.drivers.1 c.requires.at in
    let back : GaveBack d.rx d.stash r.new.self r.new.stash = r.ensures.back at.rx_stands.0 in record {
      equipped = back-rx k h.new.self.pass d r.new.self r.new.stash h.ensures.equipped r.ensures.ring back;
      at = closing-rx k d c.args.counts left.ended left.untaken left.unsent r.new.self d.stash r.new.stash d.packets at r.ensures.ring back;
      few = (let was = c.requires.few in let less = h.ensures.held in omega (arith, was, less));
      exact = λ e. absurd (false≢true (sym e));
      given_back = λ e. absurd (false≢true e);
    }

pub returns-then-is_err-2 : goal.returns-then-is_err-2
returns-then-is_err-2 g c =
    let k = c.args.flow_spec.now in let old = driving_of c.args.self.now in let h = c.give_at_hand in let d = driving_of h.new.self in let r = c.reclaim_into in let s = c.reclaim_into-2 in let left = c.args.left in
    let at : IsClosing k d c.args.counts left.ended (Some left.untaken) (Some left.unsent) = closing-still k old d c.args.counts left.ended (Some left.untaken) (Some left.unsent) h.ensures.drivers.0 h.ensures.drivers.1 c.requires.at in
    let back : GaveBack d.rx d.stash r.new.self r.new.stash = r.ensures.back at.rx_stands.0 in
    let e = driving r.new.self d.tx r.new.stash d.packets in
    let came : CameBack number_of_posting d.tx.end r.new.stash s.new.self.end s.new.stash = (s.ensures.back at.tx_stands.0).ring in record {
      equipped = back-tx k h.new.self.pass e s.new.self s.new.stash (back-rx k h.new.self.pass d r.new.self r.new.stash h.ensures.equipped r.ensures.ring back) s.ensures.ring came;
      at = closing-tx k e c.args.counts left.ended left.untaken left.unsent s.new.self e.stash s.new.stash e.packets (closing-rx k d c.args.counts left.ended left.untaken left.unsent r.new.self d.stash r.new.stash d.packets at r.ensures.ring back) s.ensures.ring s.ensures.known came;
      few = (let was = c.requires.few in let less = h.ensures.held in omega (arith, was, less));
      exact = λ e. absurd (false≢true (sym e));
      given_back = λ e. absurd (false≢true e);
    }

pub give_at_hand-requires-2-clause-equipped : goal.give_at_hand-requires-2-clause-equipped
give_at_hand-requires-2-clause-equipped g c =
    let k = c.args.flow_spec.now in let old = driving_of c.args.self.now in let h = c.give_at_hand in let d = driving_of h.new.self in let r = c.reclaim_into in let s = c.reclaim_into-2 in let left = c.args.left in
    let at : IsClosing k d c.args.counts left.ended (Some left.untaken) (Some left.unsent) = closing-still k old d c.args.counts left.ended (Some left.untaken) (Some left.unsent) h.ensures.drivers.0 h.ensures.drivers.1 c.requires.at in
    let back : GaveBack d.rx d.stash r.new.self r.new.stash = r.ensures.back at.rx_stands.0 in
    let e = driving r.new.self d.tx r.new.stash d.packets in
    let came : CameBack number_of_posting d.tx.end r.new.stash s.new.self.end s.new.stash = (s.ensures.back at.tx_stands.0).ring in
    back-tx k h.new.self.pass e s.new.self s.new.stash (back-rx k h.new.self.pass d r.new.self r.new.stash h.ensures.equipped r.ensures.ring back) s.ensures.ring came

pub returns : goal.returns
returns g c =
    let k = c.args.flow_spec.now in let old = driving_of c.args.self.now in let h = c.give_at_hand in let d = driving_of h.new.self in let r = c.reclaim_into in let s = c.reclaim_into-2 in let left = c.args.left in
    let at : IsClosing k d c.args.counts left.ended (Some left.untaken) (Some left.unsent) = closing-still k old d c.args.counts left.ended (Some left.untaken) (Some left.unsent) h.ensures.drivers.0 h.ensures.drivers.1 c.requires.at in
    let back : GaveBack d.rx d.stash r.new.self r.new.stash = r.ensures.back at.rx_stands.0 in
    let e = driving r.new.self d.tx r.new.stash d.packets in
    let came : CameBack number_of_posting d.tx.end r.new.stash s.new.self.end s.new.stash = (s.ensures.back at.tx_stands.0).ring in
    let f = driving r.new.self s.new.self s.new.stash d.packets in
    let at' : IsClosing k f c.args.counts left.ended (Some left.untaken) (Some left.unsent)
    = closing-tx k e c.args.counts left.ended left.untaken left.unsent s.new.self e.stash s.new.stash e.packets (closing-rx k d c.args.counts left.ended left.untaken left.unsent r.new.self d.stash r.new.stash d.packets at r.ensures.ring back) s.ensures.ring s.ensures.known came in
    let last = c.give_at_hand-2 in let done = driving_of last.new.self in
    let emptied : IsEmptied r.new.self = search rules in
    let emptied' : sent.IsEmptied s.new.self = search rules in
    let rx_is = last.ensures.drivers.0 in let tx_is = last.ensures.drivers.1 in record {
      equipped = last.ensures.equipped;
      at = closing-still k f done c.args.counts left.ended (Some left.untaken) (Some left.unsent) rx_is tx_is at';
      few = (let was = c.requires.few in let less = h.ensures.held in let fewer = last.ensures.held in omega (arith, was, less, fewer));
      exact = λ e. absurd (false≢true (sym e));
      given_back = λ _. all-back k last.new.self.pass done last.ensures.equipped last.ensures.none.0 last.ensures.none.1 (ap (λ (x : Receiver). x.chain) rx_is ∙ emptied.no_chain)
          (ap (λ (x : Receiver). receive.returned x.end) rx_is ∙ (emptied.none_out ∙ ap (λ (x : Receiver). length (receive.posted x.end)) (sym rx_is)))
          (ap (λ (x : Transmitter). transmit.returned x.end) tx_is ∙ (emptied'.none_out ∙ ap (λ (x : Transmitter). length (transmit.posted x.end)) (sym tx_is)));
    }
