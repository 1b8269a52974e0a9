use Rattle.std.proofs.Common.{◌≡◌, ◌∙◌, ◌<◌, ◌≤◌, false, length, sym, subst, arith}
use Rattle.ring_model.specs.shared.Handshakes.{is_open}
use Rattle.rx_ring.specs.Ends.{driver_state}
use Rattle.limits.specs.declared.profile.TheConstants.{MOST_BATCH}
use Rattle.driver.specs.receive.Receiver.{Receiver, hands}
use Rattle.driver.specs.receive.Batches.{Hands, at, Batched}
use Rattle.driver.proofs.receive.Batching.{batched-published, batched-unpublished, batched-shut}
use Rattle.driver.proofs.rx_driver.RxDriver.rx_batch.Goals as goal

pub returns-then-len-had-clause-done : goal.returns-then-len-had-clause-done
returns-then-len-had-clause-done c =
    let old : Hands = at c.self.inside.end c.self.inside.chain c.args.stash.now c.args.packets.now.items in
    let polled : Hands = at c.take-count.new.driver c.take-count.new.chain c.take-count.new.stash c.take-count.new.packets.items in
    let new : Hands = at c.publish.new.self c.take-count.new.chain c.fill.new.stash c.take-count.new.packets.items in
    let fewer : length c.fill.new.stash < length c.args.stash.now = omega arith in
    let took = c.take-count.ensures in let stored = c.publish.ensures in
    subst (λ (r : Receiver). Batched r.batch MOST_BATCH c.take-count.result (hands r c.args.stash.now c.args.packets.now.items) new) c.self.view_is
    (batched-published c.self.inside.batch MOST_BATCH c.take-count.result old polled took.polled took.few took.stopped took.all c.fill.new.driver c.fill.new.stash c.fill.ensures.posted (λ _. c.fill.ensures.filled) c.publish.new.self fewer stored.step stored.record stored.known)

pub returns-else-len-had-clause-done : goal.returns-else-len-had-clause-done
returns-else-len-had-clause-done c =
    let old : Hands = at c.self.inside.end c.self.inside.chain c.args.stash.now c.args.packets.now.items in
    let polled : Hands = at c.take-count.new.driver c.take-count.new.chain c.take-count.new.stash c.take-count.new.packets.items in
    let new : Hands = at c.fill.new.driver c.take-count.new.chain c.fill.new.stash c.take-count.new.packets.items in
    let more : length c.args.stash.now ≤ length c.fill.new.stash = omega arith in
    let took = c.take-count.ensures in
    subst (λ (r : Receiver). Batched r.batch MOST_BATCH c.take-count.result (hands r c.args.stash.now c.args.packets.now.items) new) c.self.view_is
    (batched-unpublished c.self.inside.batch MOST_BATCH c.take-count.result old polled took.polled took.few took.stopped took.all c.fill.new.driver c.fill.new.stash c.fill.ensures.posted (λ _. c.fill.ensures.filled) more)

pub returns-else-is_open-clause-done : goal.returns-else-is_open-clause-done
returns-else-is_open-clause-done c =
    let old : Hands = at c.self.inside.end c.self.inside.chain c.args.stash.now c.args.packets.now.items in
    let polled : Hands = at c.take-count.new.driver c.take-count.new.chain c.take-count.new.stash c.take-count.new.packets.items in
    let shut : is_open (driver_state c.take-count.new.driver) ≡ false = sym c.is_open.ensures ∙ c.if-is_open.false in
    let took = c.take-count.ensures in
    subst (λ (r : Receiver). Batched r.batch MOST_BATCH c.take-count.result (hands r c.args.stash.now c.args.packets.now.items) polled) c.self.view_is
    (batched-shut c.self.inside.batch MOST_BATCH c.take-count.result old polled took.polled took.few took.stopped took.all shut)
