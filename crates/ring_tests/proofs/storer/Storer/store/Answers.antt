use Rattle.std.proofs.Common.{rules, ◌∙◌, ◌+◌, length, ap}
use Rattle.ring_model.specs.shared.Segments.{piece_of}
use Rattle.ring_model.specs.shared.Frames.{join, unfinished}
use Rattle.rx_ring.specs.Records.{RxControlled}
use Rattle.ring_tests.proofs.Growing.{begun_ends, begun_count, begun_bytes}
use Rattle.ring_tests.proofs.storer.Storer.store.Goals as goal

pub invariant_of-self-then-eop-clause-counts : goal.invariant_of-self-then-eop-clause-counts
invariant_of-self-then-eop-clause-counts c = ap length (begun_ends piece_of _ _ _ (ap (λ (x : RxControlled). x.completed) c.write_back.ensures.record) c.if-eop.true)

pub invariant_of-self-then-eop-clause-adds : goal.invariant_of-self-then-eop-clause-adds
invariant_of-self-then-eop-clause-adds c = ap (λ l. length (join piece_of l)) (begun_ends piece_of _ _ _ (ap (λ (x : RxControlled). x.completed) c.write_back.ensures.record) c.if-eop.true)

pub invariant_of-self-else-eop-clause-counts : goal.invariant_of-self-else-eop-clause-counts
invariant_of-self-else-eop-clause-counts c =
    begun_count piece_of _ _ _ _ (ap (λ (x : RxControlled). x.completed) c.write_back.ensures.record) c.if-eop.false
    (ap (λ (x : RxControlled). length (unfinished piece_of x.completed)) c.fetch-buf.ensures.same ∙ (ap (λ (x : RxControlled). length (unfinished piece_of x.completed)) c.look.ensures.step.same ∙ c.args.self.now.counts))

pub invariant_of-self-else-eop-clause-adds : goal.invariant_of-self-else-eop-clause-adds
invariant_of-self-else-eop-clause-adds c =
    begun_bytes piece_of _ _ _ _ (ap (λ (x : RxControlled). x.completed) c.write_back.ensures.record) c.if-eop.false
    (ap (λ (x : RxControlled). length (join piece_of (unfinished piece_of x.completed))) c.fetch-buf.ensures.same ∙ (ap (λ (x : RxControlled). length (join piece_of (unfinished piece_of x.completed))) c.look.ensures.step.same ∙ c.args.self.now.adds))
    ∙ ap (λ k. c.args.self.now.bytes + k) (search rules)
