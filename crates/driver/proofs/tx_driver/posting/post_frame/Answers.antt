-- The only segment ends the frame.
use Rattle.std.proofs.Common.{ℕ, List, true, length, ap, ◌∙◌, arith, subst, refl}
use Rattle.buffer_pool.specs.Buffer.{Buffer}
use Rattle.ring_model.specs.transmit.Ring.{are_whole}
use Rattle.tx_ring.specs.Calls.{item_of}
use Rattle.tx_ring.specs.Ends.{posted}
use Rattle.tx_ring.specs.Records.{TxDriven}
use Rattle.driver.specs.transmit.Frames.{postings_of}
use Rattle.driver.specs.transmit.Going.{PostedAll}
use Rattle.driver.proofs.transmit.Posting.{as_posted, begun_none, last_follows, last_posted, whole_after}
use Rattle.driver.proofs.tx_driver.posting.post_frame.Goals as goal

pub post-requires-clause-follows : goal.post-requires-clause-follows
post-requires-clause-follows c =
    let r = c.requires in
    let taken = c.first_of-only.ensures in
    let fewer = ap (λ (l : List Buffer). length l) taken.rest in
    last_follows c.first_of-only.result r.packet c.len-paylen.ensures r.short taken.few c.args.packet c.first_of-only.new.packet taken.rest (omega (arith, fewer, c.if-segments-gt1.false, c.segments.ensures.value))
    (begun_none c.len-paylen.result c.args.rs c.args.packet c.args.driver.now c.len-paylen.ensures r.packet r.whole)

pub returns-clause-went : goal.returns-clause-went
returns-clause-went c =
    let r = c.requires in
    let taken = c.first_of-only.ensures in
    let posts = c.post.ensures in
    let fewer = ap (λ (l : List Buffer). length l) taken.rest in
    subst (λ (n : ℕ). PostedAll c.args.driver.now (postings_of n c.args.rs c.args.packet) c.post.new.self) c.len-paylen.ensures
    (last_posted c.first_of-only.result c.post.new.self posts.known c.args.packet c.first_of-only.new.packet taken.rest (omega (arith, fewer, c.if-segments-gt1.false, c.segments.ensures.value))
    (begun_none c.len-paylen.result c.args.rs c.args.packet c.args.driver.now c.len-paylen.ensures r.packet r.whole)
    (as_posted c.args.driver.now c.first_of-only.result c.post.new.self true c.args.rs c.len-paylen.result taken.real posts.step) posts.record)

pub returns-clause-whole : goal.returns-clause-whole
returns-clause-whole c = ap (λ (x : TxDriven). are_whole x.posted) c.post.ensures.record ∙ whole_after (posted c.args.driver.now) (item_of c.first_of-only.result true c.args.rs c.len-paylen.result) refl
