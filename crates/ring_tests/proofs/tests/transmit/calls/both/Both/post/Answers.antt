use Rattle.std.proofs.Common.{rules, ◌∙◌, ◌+◌, length, ap, refl}
use Rattle.ring_model.specs.shared.Frames.{join}
use Rattle.ring_model.specs.transmit.Ring.{carried}
use Rattle.tx_ring.specs.Records.{TxDriven}
use Rattle.ring_tests.proofs.Growing.{begun_ends, begun_count, begun_bytes}
use Rattle.ring_tests.proofs.Begun.{none_of_frame, same_frame, frame_grows}
use Rattle.ring_tests.proofs.tests.transmit.calls.both.Both.post.Goals as goal

pub invariant_of-self-then-eop-clause-counts : goal.invariant_of-self-then-eop-clause-counts
invariant_of-self-then-eop-clause-counts c = ap length (begun_ends carried _ _ _ (ap (λ (x : TxDriven). x.posted) c.post.ensures.record) c.if-eop.true)

pub invariant_of-self-then-eop-clause-adds : goal.invariant_of-self-then-eop-clause-adds
invariant_of-self-then-eop-clause-adds c = ap (λ l. length (join carried l)) (begun_ends carried _ _ _ (ap (λ (x : TxDriven). x.posted) c.post.ensures.record) c.if-eop.true)

pub invariant_of-self-then-eop-clause-of_frame : goal.invariant_of-self-then-eop-clause-of_frame
invariant_of-self-then-eop-clause-of_frame c = none_of_frame _ _ (begun_ends carried _ _ _ (ap (λ (x : TxDriven). x.posted) c.post.ensures.record) c.if-eop.true)

pub invariant_of-self-else-eop-clause-counts : goal.invariant_of-self-else-eop-clause-counts
invariant_of-self-else-eop-clause-counts c = begun_count carried _ _ _ _ (ap (λ (x : TxDriven). x.posted) c.post.ensures.record) c.if-eop.false c.args.self.now.counts

pub invariant_of-self-else-eop-clause-adds : goal.invariant_of-self-else-eop-clause-adds
invariant_of-self-else-eop-clause-adds c =
    begun_bytes carried _ _ _ _ (ap (λ (x : TxDriven). x.posted) c.post.ensures.record) c.if-eop.false c.args.self.now.adds
    ∙ ap (λ k. c.args.self.now.begun.bytes + k) (c.filled-buf.ensures.len ∙ search rules)

pub invariant_of-self-else-eop-clause-of_frame : goal.invariant_of-self-else-eop-clause-of_frame
invariant_of-self-else-eop-clause-of_frame c =
    frame_grows _ _ _ (ap (λ (x : TxDriven). x.posted) c.post.ensures.record) c.if-eop.false
    (same_frame _ _ _ _ _ c.args.self.now.counts c.args.self.now.of_frame (c.if-not-may_follow.ensures.same refl) c.paylen-paylen.ensures)
