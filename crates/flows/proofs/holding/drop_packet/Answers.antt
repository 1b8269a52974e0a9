use Rattle.std.proofs.Common.{◌∙◌, ◌++◌, List, ap, refl, arith}
use Rattle.buffer_pool.specs.Buffer.{Buffer}
use Rattle.driver.specs.receive.Returns.{numbers_of}
use Rattle.flows.proofs.Holds.{keeps-on, holds-on, is-held, gave-less, gave-one, moved-one}
use Rattle.flows.proofs.holding.drop_packet.Goals as goal

pub give-requires-clause-held : goal.give-requires-clause-held
give-requires-clause-held g c =
    let l = c.loop-buf in let now = l.stash ++ numbers_of l.packet in
    is-held l.pass.hand.held now c.in-Some.buf.number l.stash (numbers_of c.pop_front.new.self) (ap (λ (p : List Buffer). l.stash ++ numbers_of p) c.in-Some.ensures.rest)
    (holds-on c.args.pass.now.hand.held (c.args.stash.now ++ numbers_of c.args.packet) l.pass.hand.held now c.requires.held l.invariant.kept)

pub overflow_add-short : goal.overflow_add-short
overflow_add-short g c =
    let l = c.loop-buf in let held = c.args.pass.now.hand.held in let had = c.args.stash.now ++ numbers_of c.args.packet in let now = l.stash ++ numbers_of l.packet in
    let new = c.give.new.pass.hand.held in let rest = l.stash ++ numbers_of c.pop_front.new.self in let n = c.in-Some.buf.number in
    let first = ap (λ (p : List Buffer). l.stash ++ numbers_of p) c.in-Some.ensures.rest in
    let holds = holds-on held had l.pass.hand.held now c.requires.held l.invariant.kept in
    let gave = gave-one l.pass.hand.held now new rest n l.stash (numbers_of c.pop_front.new.self) first refl holds c.give.ensures.given.held in
    let less = gave-less l.pass.hand.held now new rest n l.stash (numbers_of c.pop_front.new.self) first refl gave in
    let so_far = l.invariant.held in let few = c.requires.few in omega (arith, less, so_far, few)

pub loop-buf-preserved-then-is_full : goal.loop-buf-preserved-then-is_full
loop-buf-preserved-then-is_full g c =
    let l = c.loop-buf in let held = c.args.pass.now.hand.held in let had = c.args.stash.now ++ numbers_of c.args.packet in let now = l.stash ++ numbers_of l.packet in
    let new = c.give.new.pass.hand.held in let rest = l.stash ++ numbers_of c.pop_front.new.self in let n = c.in-Some.buf.number in
    let first = ap (λ (p : List Buffer). l.stash ++ numbers_of p) c.in-Some.ensures.rest in
    let holds = holds-on held had l.pass.hand.held now c.requires.held l.invariant.kept in
    let gave = gave-one l.pass.hand.held now new rest n l.stash (numbers_of c.pop_front.new.self) first refl holds c.give.ensures.given.held in record {
      pool = c.give.ensures.pool;
      share = c.give.ensures.given.share ∙ l.invariant.share;
      held = (let less = gave-less l.pass.hand.held now new rest n l.stash (numbers_of c.pop_front.new.self) first refl gave in let so_far = l.invariant.held in omega (arith, less, so_far));
      kept = keeps-on held had l.pass.hand.held now new rest l.invariant.kept gave;
    }

pub loop-buf-preserved : goal.loop-buf-preserved
loop-buf-preserved g c =
    let l = c.loop-buf in let held = c.args.pass.now.hand.held in let had = c.args.stash.now ++ numbers_of c.args.packet in let now = l.stash ++ numbers_of l.packet in record {
      pool = l.invariant.pool;
      share = l.invariant.share;
      held = l.invariant.held;
      kept = keeps-on held had l.pass.hand.held now l.pass.hand.held (c.push.new.self ++ numbers_of c.pop_front.new.self) l.invariant.kept
          (moved-one l.pass.hand.held now (c.push.new.self ++ numbers_of c.pop_front.new.self) c.in-Some.buf.number l.stash (numbers_of c.pop_front.new.self)
          (ap (λ (p : List Buffer). l.stash ++ numbers_of p) c.in-Some.ensures.rest) (ap (λ l. l ++ numbers_of c.pop_front.new.self) c.push.ensures));
    }
