-- One frame more is posted, until none is left.
use Rattle.std.proofs.Common.{◌≡◌, ◌-◌, List, length, take, ap, sym, refl, ◌∙◌, arith, subst, rules}
use Rattle.std.specs.Prelude.{◌==◌, ◌||◌}
use Rattle.std.proofs.lemmas.Grind.{common_steps}
use Rattle.std.proofs.lemmas.List.{length-take-le}
use Rattle.std.proofs.lemmas.List.Elements.{All-take}
use Rattle.arrayvec.specs.Iter.{drain_items}
use Rattle.buffer_pool.specs.Buffer.{Buffer}
use Rattle.buffer_pool.specs.Packed.{IsPacket}
use Rattle.ring_model.specs.shared.Handshakes.{is_open}
use Rattle.tx_ring.proofs.Whole.{whole-rest}
use Rattle.tx_ring.specs.Ends.{DriverSide, posted}
use Rattle.tx_ring.specs.Records.{TxDriven}
use Rattle.driver.specs.transmit.Frames.{is_none}
use Rattle.driver.proofs.transmit.Fronts.{FramesPosted, none_posted, one_posted, next_count, asks_multiple, asks_last}
use Rattle.driver.proofs.tx_driver.posting.post_front.Goals as goal
use Rattle.driver.proofs.tx_driver.posting.post_front.Goals.{then-frames-eq0, else-frames-eq0}

pub loop-packet-init : goal.loop-packet-init
loop-packet-init c =
    let first = none_posted c.args.every c.args.before (take c.args.count c.args.packets.now.items) c.args.driver.now c.requires.whole c.requires.counted (All-take IsPacket c.args.count c.args.packets.now.items c.requires.packets) in
    let items : drain_items c.into_iter-packet-iterator.result ≡ take c.args.count c.args.packets.now.items = grind (arith, common_steps) in
    record {
      next = search rules;
      finite = tt;
      keeps = (refl, refl);
      own = c.requires.own;
      opened = c.requires.open;
      posted = subst (λ (ps : List (List Buffer)). FramesPosted c.args.every c.args.before (take c.args.count c.args.packets.now.items) c.args.driver.now c.args.before ps c.args.driver.now) (sym items) first;
      left = sym (ap (λ (ps : List (List Buffer)). length ps) items ∙ length-take-le c.args.count c.args.packets.now.items c.requires.count);
    }

pub post_frame-requires-clause-whole : goal.post_frame-requires-clause-whole
post_frame-requires-clause-whole c = whole-rest (posted c.loop-packet.driver) c.loop-packet.invariant.posted.whole

pub loop-packet-preserved : goal.loop-packet-preserved
loop-packet-preserved c =
    let i = c.loop-packet.invariant in
    let steps = c.in-Some.ensures.steps in
    let fewer = ap (λ (ps : List (List Buffer)). length ps) steps.0 in
    let h = subst (λ (ps : List (List Buffer)). FramesPosted c.args.every c.args.before (take c.args.count c.args.packets.now.items) c.args.driver.now c.loop-packet.frames ps c.loop-packet.driver) steps.0 i.posted in
    let rest = drain_items c.next.new.self in
    let rs : c.if-frames-eq0.post_frame ≡ (c.place_after-frames.result == 0 || is_none rest) =
    elim c.if-frames-eq0.branch [
      | then-frames-eq0 w ↦ asks_multiple c.place_after-frames.result c.if-frames-eq0.post_frame rest w.if-frames-eq0.true w.post_frame-is
      | else-frames-eq0 w ↦ asks_last c.place_after-frames.result (c.loop-packet.left - 1) c.if-frames-eq0.post_frame rest w.if-frames-eq0.false (omega (arith, i.left, fewer)) w.post_frame-is
    ] in
    let went = c.post_frame.ensures.went in
    record {
      next = search rules;
      finite = tt;
      keeps = (steps.1.0 ∙ i.keeps.0, steps.1.1 ∙ i.keeps.1);
      own = ap (λ (d : DriverSide). d.table) went.runs.step ∙ i.own;
      opened = ap (λ (x : TxDriven). is_open x.state) went.did ∙ i.opened;
      posted = one_posted c.in-Some.packet rest c.place_after-frames.result c.if-frames-eq0.post_frame c.post_frame.new.driver h
          (c.place_after-frames.ensures.value ∙ next_count c.args.every c.loop-packet.frames h.below) c.place_after-frames.ensures.below rs went c.post_frame.ensures.whole;
      left = omega (arith, i.left, fewer);
    }
