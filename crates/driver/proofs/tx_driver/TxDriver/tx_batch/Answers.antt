-- The batch is a cleaning and a posting.
use Rattle.std.proofs.Common.{◌≡◌, ◌++◌, map, take, List, subst, sym, ◌∙◌, ap, arith}
use Rattle.std.proofs.lemmas.List.Elements.{All-take}
use Rattle.buffer_pool.specs.Packed.{IsPacket, bytes_of}
use Rattle.ring_model.specs.shared.Frames.{frames}
use Rattle.ring_model.specs.shared.Handshakes.{is_answered}
use Rattle.ring_model.specs.transmit.Ring.{carried}
use Rattle.tx_ring.specs.Ends.{posted, reclaimed, driver_state}
use Rattle.tx_ring.specs.Records.{Posting}
use Rattle.driver.specs.transmit.Batches.{Batched}
use Rattle.driver.specs.transmit.Transmitter.{Transmitter, sending}
use Rattle.driver.proofs.transmit.Batching.{batched}
use Rattle.driver.proofs.transmit.Wholes.{frames_posted}
use Rattle.driver.proofs.tx_driver.TxDriver.tx_batch.Goals as goal
use Rattle.driver.proofs.tx_driver.TxDriver.tx_batch.Goals.{After-post_fitting-count}

-- what the call did, in the driver's fields
did : (c : After-post_fitting-count) → Batched c.post_fitting-count.result.0
    (sending (record { end = c.self.inside.end; every = c.self.inside.every; frames = c.self.inside.frames }) c.args.stash.now c.args.packets.now.items)
    (sending (record { end = c.post_fitting-count.new.driver; every = c.self.inside.every; frames = c.post_fitting-count.result.1 }) c.clean_all.new.stash c.post_fitting-count.new.packets.items)
did c = let i = c.self.inside in
    batched c.post_fitting-count.result.0 i.every i.frames c.post_fitting-count.result.1 i.end c.clean_all.new.driver c.post_fitting-count.new.driver c.args.stash.now c.clean_all.new.stash
    c.args.packets.now.items c.post_fitting-count.new.packets.items c.clean_all.ensures c.post_fitting-count.ensures.posts c.post_fitting-count.ensures.counted

pub returns-clause-done : goal.returns-clause-done
returns-clause-done c =
    let new = sending (record { end = c.post_fitting-count.new.driver; every = c.self.inside.every; frames = c.post_fitting-count.result.1 }) c.clean_all.new.stash c.post_fitting-count.new.packets.items in
    subst (λ (t : Transmitter). Batched c.post_fitting-count.result.0 (sending t c.args.stash.now c.args.packets.now.items) new) c.self.view_is (did (goal.at.returns-clause-done c).After-post_fitting-count)

pub returns-clause-frames : goal.returns-clause-frames
returns-clause-frames c =
    let i = c.self.inside in
    let count = c.post_fitting-count.result.0 in
    let batch = did (goal.at.returns-clause-frames c).After-post_fitting-count in
    subst (λ (t : Transmitter). frames carried (posted c.post_fitting-count.new.driver) ≡ frames carried (posted t.end) ++ map bytes_of (take count c.args.packets.now.items)) c.self.view_is
    (ap (λ (xs : List Posting). frames carried xs) batch.posts ∙ frames_posted i.every i.frames (posted i.end) (take count c.args.packets.now.items) c.self.invariant.whole (All-take IsPacket count c.args.packets.now.items c.requires.packets))

pub invariant_of-self-2 : goal.invariant_of-self-2
invariant_of-self-2 c =
    let batch = did (goal.at.invariant_of-self-2 c).After-post_fitting-count in
    record {
      whole = c.post_fitting-count.ensures.whole;
      none_back = λ going. batch.none_back ∙ c.self.invariant.none_back (ap is_answered (sym batch.state) ∙ going);
      counted = omega (arith, c.post_fitting-count.ensures.counted, c.self.invariant.counted);
      few = c.self.invariant.few;
    }

pub returns-clause-state : goal.returns-clause-state
returns-clause-state c =
    let batch = did (goal.at.returns-clause-state c).After-post_fitting-count in
    subst (λ (t : Transmitter). driver_state c.post_fitting-count.new.driver ≡ driver_state t.end) c.self.view_is batch.state

pub returns-clause-none_back : goal.returns-clause-none_back
returns-clause-none_back c =
    let batch = did (goal.at.returns-clause-none_back c).After-post_fitting-count in
    subst (λ (t : Transmitter). reclaimed c.post_fitting-count.new.driver ≡ reclaimed t.end) c.self.view_is batch.none_back
