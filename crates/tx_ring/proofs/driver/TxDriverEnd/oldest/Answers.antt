-- The first of those not seen reported that asked for a report.
use Rattle.std.proofs.Common.{◌≡◌, ◌+◌, Some, ap, sym, ◌∙◌, subst}
use Rattle.std.specs.Box.{boxed_slice_items}
use Rattle.tx_ring.specs.Ends.{DriverSide, outstanding, seen_reported}
use Rattle.shared_ring.specs.Ends.{driver_of}
use Rattle.tx_ring.specs.Form.{tx}
use Rattle.tx_ring.proofs.DriverCalls.{from-first, ahead-first, ahead-next, ahead-below, found-ahead, further-ahead, none-ahead}
use Rattle.tx_ring.proofs.driver.TxDriverEnd.oldest.Goals as goal

pub loop-ahead-init : goal.loop-ahead-init
loop-ahead-init c = let i = c.self.inside in let d = driver_of tx i.seat in let there = ahead-first d i.at i.seen i.done i.unseen i.whole (boxed_slice_items i.asks) i.passed c.self.invariant c.args.self.now c.self.view_is c.place_ahead-place.result c.place_ahead-place.ensures in record {
  rest = from-first d i.at i.seen i.done i.unseen i.whole (boxed_slice_items i.asks) i.passed c.self.invariant c.args.self.now c.self.view_is;
  there = there;
  below = ahead-below d i.at i.seen i.done i.unseen i.whole (boxed_slice_items i.asks) i.passed c.self.invariant c.args.self.now c.self.view_is i.passed c.place_ahead-place.result there;
}

pub loop-ahead-preserved : goal.loop-ahead-preserved
loop-ahead-preserved c = let i = c.self.inside in let d = driver_of tx i.seat in let v = c.loop-ahead.invariant in
    let there = ahead-next d i.at i.seen i.done i.unseen i.whole (boxed_slice_items i.asks) i.passed c.self.invariant c.args.self.now c.self.view_is c.loop-ahead.ahead c.loop-ahead.place c.place_after-place.result v.there c.place_after-place.ensures.value in record {
      rest = further-ahead d i.at i.seen i.done i.unseen i.whole (boxed_slice_items i.asks) i.passed c.self.invariant c.args.self.now c.self.view_is c.loop-ahead.ahead c.loop-ahead.place c.index.result.now _ v.rest v.there c.loop-ahead-test.true c.index.ensures c.if-index.false;
      there = there;
      below = ahead-below d i.at i.seen i.done i.unseen i.whole (boxed_slice_items i.asks) i.passed c.self.invariant c.args.self.now c.self.view_is (c.loop-ahead.ahead + 1) c.place_after-place.result there;
    }

pub returns-then-index : goal.returns-then-index
returns-then-index c = let i = c.self.inside in let v = c.loop-ahead.invariant in subst (λ (s : DriverSide). outstanding s ≡ Some (seen_reported s + c.loop-ahead.ahead)) c.self.view_is
    (found-ahead (driver_of tx i.seat) i.at i.seen i.done i.unseen i.whole (boxed_slice_items i.asks) i.passed c.self.invariant c.args.self.now c.self.view_is c.loop-ahead.ahead c.loop-ahead.place c.index.result.now _ v.rest v.there c.loop-ahead-test.true c.index.ensures c.if-index.true)

pub returns : goal.returns
returns c = let i = c.self.inside in ap (λ (s : DriverSide). outstanding s) (sym c.self.view_is) ∙ none-ahead (driver_of tx i.seat) i.at i.seen i.done i.unseen i.whole (boxed_slice_items i.asks) i.passed c.self.invariant c.args.self.now c.self.view_is c.loop-ahead.ahead c.loop-ahead.invariant.rest c.loop-ahead-test.false
