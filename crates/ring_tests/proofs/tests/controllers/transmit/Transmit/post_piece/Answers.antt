use Rattle.std.proofs.Common.{◌∙◌, ◌+◌, length, ap, refl}
use Rattle.buffer_pool.specs.Buffer.{Buffer}
use Rattle.ring_model.specs.shared.Frames.{join}
use Rattle.ring_model.specs.transmit.Ring.{carried}
use Rattle.tx_ring.specs.Records.{TxDriven}
use Rattle.ring_tests.proofs.Growing.{begun_ends, begun_count, begun_bytes}
use Rattle.ring_tests.proofs.Begun.{none_of_frame, same_frame, frame_grows}
use Rattle.ring_tests.proofs.tests.controllers.transmit.Transmit.post_piece.Goals as goal

pub invariant_of-self-then-eop-2-clause-counts : goal.invariant_of-self-then-eop-2-clause-counts
invariant_of-self-then-eop-2-clause-counts c = ap length (begun_ends carried _ _ _ (ap (λ (x : TxDriven). x.posted) c.post.ensures.record) c.if-eop-2.true)

pub invariant_of-self-then-eop-2-clause-adds : goal.invariant_of-self-then-eop-2-clause-adds
invariant_of-self-then-eop-2-clause-adds c = ap (λ l. length (join carried l)) (begun_ends carried _ _ _ (ap (λ (x : TxDriven). x.posted) c.post.ensures.record) c.if-eop-2.true)

pub invariant_of-self-then-eop-2-clause-of_frame : goal.invariant_of-self-then-eop-2-clause-of_frame
invariant_of-self-then-eop-2-clause-of_frame c = none_of_frame _ _ (begun_ends carried _ _ _ (ap (λ (x : TxDriven). x.posted) c.post.ensures.record) c.if-eop-2.true)

pub invariant_of-self-else-eop-2-clause-counts : goal.invariant_of-self-else-eop-2-clause-counts
invariant_of-self-else-eop-2-clause-counts c = begun_count carried _ _ _ _ (ap (λ (x : TxDriven). x.posted) c.post.ensures.record) c.if-eop-2.false c.args.self.now.counts

pub invariant_of-self-else-eop-2-clause-adds : goal.invariant_of-self-else-eop-2-clause-adds
invariant_of-self-else-eop-2-clause-adds c =
    begun_bytes carried _ _ _ _ (ap (λ (x : TxDriven). x.posted) c.post.ensures.record) c.if-eop-2.false c.args.self.now.adds
    ∙ ap (λ k. c.args.self.now.begun.bytes + k) (ap (λ (b : Buffer). length b.bytes) c.fill.ensures)

pub invariant_of-self-else-eop-2-clause-of_frame : goal.invariant_of-self-else-eop-2-clause-of_frame
invariant_of-self-else-eop-2-clause-of_frame c =
    frame_grows _ _ _ (ap (λ (x : TxDriven). x.posted) c.post.ensures.record) c.if-eop-2.false
    (same_frame _ _ _ _ _ c.args.self.now.counts c.args.self.now.of_frame (c.if-not-is_one_frame.ensures refl) refl)
