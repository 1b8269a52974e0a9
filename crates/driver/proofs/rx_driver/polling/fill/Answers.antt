use Rattle.std.proofs.Common.{◌≡◌, ◌∙◌, ◌+◌, ◌≤◌, true, [], ◌∷◌, length, ap, arith, length-append}
use Rattle.buffer_pool.specs.Buffer.{Buffer}
use Rattle.shared_ring.specs.declared.events.DriverEvent.TheVariants as driver
use Rattle.ring_model.specs.shared.Handshakes.{is_open}
use Rattle.rx_ring.specs.Records.{RxDriven}
use Rattle.rx_ring.specs.Ends.{driver_state, posted, returned, fill_place, driver_grown}
use Rattle.driver.proofs.receive.Growing.{filled-one, filled-trans}
use Rattle.driver.proofs.rx_driver.polling.fill.Goals as goal

pub loop-preserved : goal.loop-preserved
loop-preserved c =
    let before = c.loop.invariant.filled in
    let did = c.post.ensures.record in
    let opened : is_open (driver_state c.loop.driver) ≡ true = ap (λ (x : RxDriven). is_open x.state) before.did ∙ c.requires.open in
    let grew = ap (λ (x : RxDriven). length x.posted) did ∙ length-append (posted c.loop.driver) (c.in-Some.buf.number ∷ []) in
    let count = c.loop.invariant.count in
    let same = ap (λ (x : RxDriven). length x.reaped + x.reclaimed) before.did in
    let within : returned c.loop.driver ≤ length (posted c.loop.driver) = let most = c.room-end.ensures.most in let room = c.room-end.ensures.value in omega arith in
    let step = c.post.ensures.step ∙ ap (λ (b : Buffer). driver_grown c.loop.driver (driver.Posted (fill_place c.loop.driver) 0 b)) c.in-Some.ensures.empty in record {
      filled = filled-trans _ _ _ _ _ _ before
          (filled-one c.loop.driver c.post.new.self c.loop.stash c.take.new.self c.in-Some.buf.number opened within step did c.post.ensures.known c.in-Some.ensures.left);
      count = omega arith;
    }
