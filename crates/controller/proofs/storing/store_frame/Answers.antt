use Rattle.std.proofs.Common.{arith, ap, ◌∙◌}
use Rattle.ring_model.specs.shared.Segments.{piece_of}
use Rattle.ring_laws.specs.Frames.{whole-unfinished}
use Rattle.rx_ring.specs.Records.{RxControlled}
use Rattle.rx_ring.specs.Ends.{stored}
use Rattle.controller.proofs.Cutting.{can_cut}
use Rattle.controller.proofs.Growing.{begins, goes_on, can_go_on, can_end, ends_frame_with}
use Rattle.controller.proofs.storing.store_frame.Goals as goal

pub loop-rest-init : goal.loop-rest-init
loop-rest-init c = let r = c.requires in let least = r.frame.0 in begins _ _ _ r.idle.unheld (whole-unfinished piece_of (stored c.args.end.now) r.idle.at_frame_end) (omega arith)

pub store-requires-clause-free : goal.store-requires-clause-free
store-requires-clause-free c = let r = c.requires in
    let next = can_go_on _ _ _ _ _ (can_cut _ _ _ r.least r.most r.frame r.fits) r.free c.loop-rest.invariant c.loop-rest-test.true in next.free

pub store-requires-clause-follows : goal.store-requires-clause-follows
store-requires-clause-follows c = let r = c.requires in
    let next = can_go_on _ _ _ _ _ (can_cut _ _ _ r.least r.most r.frame r.fits) r.free c.loop-rest.invariant c.loop-rest-test.true in rw c.split_at.ensures.front next.follows

pub loop-rest-preserved : goal.loop-rest-preserved
loop-rest-preserved c = let r = c.requires in
    goes_on _ _ _ _ _ _ _ _ (omega arith) c.loop-rest.invariant c.loop-rest-test.true c.split_at.ensures.front c.split_at.ensures.back c.store.ensures

pub store-requires-2-clause-free : goal.store-requires-2-clause-free
store-requires-2-clause-free c = let r = c.requires in
    let next = can_end _ _ _ _ _ (can_cut _ _ _ r.least r.most r.frame r.fits) r.free c.loop-rest.invariant c.loop-rest-test.false in next.free

pub store-requires-2-clause-follows : goal.store-requires-2-clause-follows
store-requires-2-clause-follows c = let r = c.requires in
    let next = can_end _ _ _ _ _ (can_cut _ _ _ r.least r.most r.frame r.fits) r.free c.loop-rest.invariant c.loop-rest-test.false in next.follows

pub returns-clause-stored : goal.returns-clause-stored
returns-clause-stored c = let r = c.requires in let least = r.frame.0 in
    let done = ends_frame_with _ _ _ _ _ _ _ (omega arith) (omega arith) (whole-unfinished piece_of (stored c.args.end.now) r.idle.at_frame_end) c.loop-rest.invariant c.loop-rest-test.false c.store-2.ensures c.set_head.ensures.step c.set_head.ensures.record in done.0

pub returns-clause-idle : goal.returns-clause-idle
returns-clause-idle c = let r = c.requires in let least = r.frame.0 in
    let done = ends_frame_with _ _ _ _ _ _ _ (omega arith) (omega arith) (whole-unfinished piece_of (stored c.args.end.now) r.idle.at_frame_end) c.loop-rest.invariant c.loop-rest-test.false c.store-2.ensures c.set_head.ensures.step c.set_head.ensures.record in done.1

pub returns-clause-own : goal.returns-clause-own
returns-clause-own c = let r = c.requires in let least = r.frame.0 in
    let done = ends_frame_with _ _ _ _ _ _ _ (omega arith) (omega arith) (whole-unfinished piece_of (stored c.args.end.now) r.idle.at_frame_end) c.loop-rest.invariant c.loop-rest-test.false c.store-2.ensures c.set_head.ensures.step c.set_head.ensures.record in done.2

pub returns-clause-state : goal.returns-clause-state
returns-clause-state c = ap (λ (x : RxControlled). x.state) c.set_head.ensures.record ∙ (ap (λ (x : RxControlled). x.state) c.store-2.ensures.stored_as.grew ∙ ap (λ (x : RxControlled). x.state) c.loop-rest.invariant.grew)

pub returns-clause-seen : goal.returns-clause-seen
returns-clause-seen c = ap (λ (x : RxControlled). x.seen) c.set_head.ensures.record ∙ (ap (λ (x : RxControlled). x.seen) c.store-2.ensures.stored_as.grew ∙ ap (λ (x : RxControlled). x.seen) c.loop-rest.invariant.grew)

pub returns-clause-quiet : goal.returns-clause-quiet
returns-clause-quiet c = ap (λ (x : RxControlled). x.barred) c.set_head.ensures.record ∙ (ap (λ (x : RxControlled). x.barred) c.store-2.ensures.stored_as.grew ∙ ap (λ (x : RxControlled). x.barred) c.loop-rest.invariant.grew)
