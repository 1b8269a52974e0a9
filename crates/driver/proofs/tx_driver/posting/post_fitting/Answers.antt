-- So many packets are posted and published.
use Rattle.std.proofs.Common.{sym, ◌∙◌, subst, ◌-◌, ◌≤◌, length, take, drop, List}
use Rattle.buffer_pool.specs.Buffer.{Buffer}
use Rattle.driver.specs.transmit.Frames.{segment_count, NeedsMore}
use Rattle.driver.proofs.transmit.Batching.{posted_front}
use Rattle.driver.proofs.tx_driver.posting.post_fitting.Goals as goal

pub returns-clause-posts : goal.returns-clause-posts
returns-clause-posts c =
    let fits = c.fitting-count.ensures in
    let slice = c.as_slice.ensures.value in
    let front = c.post_front-frames.ensures in
    let publishes = c.publish.ensures in
    posted_front c.args.every c.args.before c.args.packets.now.items c.args.driver.now c.publish.new.self c.post_front-frames.new.packets.items c.room.result
    c.fitting-count.result c.post_front-frames.new.driver c.if-count-eq0.false front.went publishes.step publishes.record c.room.ensures.value
    (subst (λ (ps : List (List Buffer)). c.fitting-count.result ≤ length ps) slice fits.within) front.stays (sym c.is_on.ensures ∙ c.if-not-is_on.false)
    (subst (λ (ps : List (List Buffer)). NeedsMore (c.room.result - segment_count (take c.fitting-count.result ps)) (drop c.fitting-count.result ps)) slice fits.stays)
    c.room.ensures.most publishes.known
