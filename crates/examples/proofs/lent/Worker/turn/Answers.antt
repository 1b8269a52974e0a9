-- Both calls leave what the pass holds just what the worker has.
use Rattle.buffer_accounting.specs.Lent.{lent}
use Rattle.buffer_accounting.proofs.Giving.{lent-refilled}
use Rattle.examples.proofs.Moving.{same-trans}
use Rattle.examples.proofs.lent.Worker.turn.Goals as goal

pub invariant_of-self : goal.invariant_of-self
invariant_of-self g c =
    let s = c.args.self.now in
    let held = c.refill.new.pass.hand.held in
    let refilled = lent-refilled s.rx s.tx s.stash s.packets.items s.pass.hand c.refill.new.pass.hand c.refill.result c.refill.new.stash s.lent c.refill.ensures.moved in
    record {
      shares = c.refill.ensures.pool;
      receives = c.forward.ensures.receives;
      sends = c.forward.ensures.sends;
      whole = c.forward.ensures.whole;
      lent = same-trans held (lent s.rx s.tx c.refill.new.stash s.packets.items) (lent c.forward.new.rx c.forward.new.tx c.forward.new.stash c.forward.new.packets.items) refilled c.forward.ensures.moved;
    }
