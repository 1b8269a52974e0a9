use Rattle.std.proofs.Common.{◌≡◌, ◌∙◌, ℕ, ◌∷◌, true, length, ap, sym, refl, subst, arith}
use Rattle.buffer_pool.specs.Buffer.{Buffer}
use Rattle.buffer_pool.specs.Stocked.{Shares, with_number}
use Rattle.limits.specs.RingLength.{IsRingLength}
use Rattle.ring_model.specs.transmit.Ring.{carried}
use Rattle.tx_ring.specs.Calls.{item_of}
use Rattle.tx_ring.specs.Ends.{DriverSide, driver_size, driver_record, posted}
use Rattle.tx_ring.specs.Records.{TxDriven}
use Rattle.ring_bench.proofs.Copies.{none_unfinished}
use Rattle.ring_bench.specs.Sending.{Progress}
use Rattle.ring_bench.proofs.Sent.{frame_follows, posted_whole, under_way-post}
use Rattle.ring_bench.proofs.tx.posting.post_more.Goals as goal

pub post-requires-clause-follows : goal.post-requires-clause-follows
post-requires-clause-follows c =
    let run = c.loop.invariant.run in let can = run.can in let did = can.did in let size = c.size-size.ensures in
    let none = none_unfinished carried c.args.frame.now (posted c.loop.driver) did.copies in
    frame_follows (driver_size c.loop.driver) c.args.frame.now (posted c.loop.driver) (item_of c.fill.new.self true c.next-asks.result (length c.args.frame.now))
    (subst IsRingLength size.value size.lawful) c.requires.frame (record { bytes = ap (λ (b : Buffer). b.bytes) c.fill.ensures; last = refl }) refl none

pub loop-preserved : goal.loop-preserved
loop-preserved c =
    let kept = c.loop.invariant in let took = c.in-Some.ensures in let next = c.next-asks.ensures in let did = c.post.ensures in let left = c.take.new.self in
    let number : c.fill.new.self.number ≡ c.in-Some.buf.number = ap (λ (b : Buffer). b.number) c.fill.ensures in record {
      run = under_way-post c.args.ring.now c.args.frame.now c.loop.driver c.post.new.self c.loop.stock left c.loop.course c.next-asks.new.self
          (item_of c.fill.new.self true c.next-asks.result (length c.args.frame.now))
          kept.run (record { bytes = ap (λ (b : Buffer). b.bytes) c.fill.ensures; last = refl }) next.asks next.one
          (took.left ∙ ap (with_number left) (sym number)) (λ out h. subst (λ (k : ℕ). Shares left (k ∷ out)) (sym number) (took.shared out h))
          (ap (λ (d : DriverSide). d.table) did.step) (ap (λ (d : DriverSide). d.completion) did.step) did.record;
      plan = ap (λ (p : Progress). p.plan) next.one ∙ kept.plan;
      count = omega (arith, ap (λ (p : Progress). p.posted) next.one);
      cleaned = ap (λ (x : TxDriven). x.reaped) did.record ∙ kept.cleaned;
    }

pub publish-requires-clause-whole : goal.publish-requires-clause-whole
publish-requires-clause-whole c = let kept = c.loop.invariant in let run = kept.run in let can = run.can in posted_whole c.loop.course.plan c.args.frame.now (driver_record c.loop.driver) can.did
