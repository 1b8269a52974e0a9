-- The next segment follows, and the last ends the frame.
use Rattle.std.proofs.Common.{ℕ, List, true, false, length, ap, sym, ◌∙◌, arith, subst, refl}
use Rattle.buffer_pool.specs.Buffer.{Buffer}
use Rattle.ring_model.specs.shared.Handshakes.{is_open}
use Rattle.ring_model.specs.transmit.Ring.{are_whole}
use Rattle.tx_ring.specs.Calls.{item_of}
use Rattle.tx_ring.specs.Ends.{DriverSide, posted}
use Rattle.tx_ring.specs.Records.{TxDriven}
use Rattle.driver.specs.transmit.Frames.{postings_of}
use Rattle.driver.specs.transmit.Going.{PostedAll}
use Rattle.driver.proofs.transmit.Posting.{as_posted, next_follows, next_posted, last_posted, whole_after}
use Rattle.driver.proofs.tx_driver.posting.post_segments.Goals as goal

pub post-requires-clause-follows : goal.post-requires-clause-follows
post-requires-clause-follows c =
    let i = c.loop.invariant in
    let taken = c.first_of-buf.ensures in
    let fewer = ap (λ (l : List Buffer). length l) taken.rest in
    let size = ap (λ t. t.slots) (i.own ∙ sym c.requires.own) in
    next_follows c.first_of-buf.result c.requires.packet c.len-paylen.ensures (omega (arith, c.requires.short, size)) taken.few c.loop.packet c.first_of-buf.new.packet taken.rest
    (omega (arith, fewer, i.count, c.loop-test.true, c.segments-end.ensures.value)) i.begun

pub loop-preserved : goal.loop-preserved
loop-preserved c =
    let i = c.loop.invariant in
    let taken = c.first_of-buf.ensures in
    let posts = c.post.ensures in
    let fewer = ap (λ (l : List Buffer). length l) taken.rest in
    record {
      own = ap (λ (d : DriverSide). d.table) posts.step ∙ i.own;
      opened = ap (λ (x : TxDriven). is_open x.state) posts.record ∙ i.opened;
      begun = next_posted c.first_of-buf.result c.post.new.self posts.known c.loop.packet c.first_of-buf.new.packet taken.rest
          (omega (arith, fewer, i.count, c.loop-test.true, c.segments-end.ensures.value)) i.begun (as_posted c.loop.driver c.first_of-buf.result c.post.new.self false false c.len-paylen.result taken.real posts.step) posts.record;
      count = omega (arith, fewer, i.count);
    }

pub returns-clause-went : goal.returns-clause-went
returns-clause-went c =
    let i = c.loop.invariant in
    let taken = c.first_of-buf-2.ensures in
    let posts = c.post-2.ensures in
    let fewer = ap (λ (l : List Buffer). length l) taken.rest in
    subst (λ (n : ℕ). PostedAll c.args.driver.now (postings_of n c.args.rs c.args.packet) c.post-2.new.self) c.len-paylen.ensures
    (last_posted c.first_of-buf-2.result c.post-2.new.self posts.known c.loop.packet c.first_of-buf-2.new.packet taken.rest
    (omega (arith, fewer, i.count, c.loop-test.false, c.segments-end.ensures.value, c.requires.packet.some_segment)) i.begun
    (as_posted c.loop.driver c.first_of-buf-2.result c.post-2.new.self true c.args.rs c.len-paylen.result taken.real posts.step) posts.record)

pub returns-clause-whole : goal.returns-clause-whole
returns-clause-whole c = ap (λ (x : TxDriven). are_whole x.posted) c.post-2.ensures.record ∙ whole_after (posted c.loop.driver) (item_of c.first_of-buf-2.result true c.args.rs c.len-paylen.result) refl
