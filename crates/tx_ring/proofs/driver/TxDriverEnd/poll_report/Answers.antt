-- The oldest outstanding report is looked for at its place; where it is made, all up to it is seen reported.
use Rattle.std.proofs.Common.{◌+◌, inl, Some, ap, sym, ◌∙◌, subst, arith, if◌then◌else◌}
use Rattle.std.specs.Prelude.{◌==◌}
use Rattle.std.specs.Box.{boxed_slice_items}
use Rattle.tx_ring.specs.Ends.{DriverSide}
use Rattle.tx_ring.specs.Calls.{OldestAhead}
use Rattle.shared_ring.specs.Ends.{driver_of}
use Rattle.tx_ring.specs.Form.{tx}
use Rattle.tx_ring.proofs.DriverCalls.{few-ahead, ahead-fits, oldest-at, unseen-keeps, saw-nothing, seen-keeps, saw-report}
use Rattle.tx_ring.proofs.driver.TxDriverEnd.poll_report.Goals as goal

pub place_ahead-place-requires-clause-ahead : goal.place_ahead-place-requires-clause-ahead
place_ahead-place-requires-clause-ahead c = let i = c.self.inside in ahead-fits (driver_of tx i.seat) i.at i.seen i.done i.unseen i.whole (boxed_slice_items i.asks) i.passed c.self.invariant c.args.self.now c.self.view_is c.in-Some.ahead (subst (λ (s : DriverSide). OldestAhead s (Some c.in-Some.ahead)) (sym c.self.view_is) c.in-Some.ensures)

pub overflow_add-self : goal.overflow_add-self
overflow_add-self c = let i = c.self.inside in let t = few-ahead (driver_of tx i.seat) i.at i.seen i.done i.unseen i.whole (boxed_slice_items i.asks) i.passed c.self.invariant c.args.self.now c.self.view_is c.in-Some.ahead (subst (λ (s : DriverSide). OldestAhead s (Some c.in-Some.ahead)) (sym c.self.view_is) c.in-Some.ensures) in let a = t.0 in let b = t.1 in let d = t.2 in omega arith

pub overflow_add-self-2 : goal.overflow_add-self-2
overflow_add-self-2 c = let i = c.self.inside in let t = few-ahead (driver_of tx i.seat) i.at i.seen i.done i.unseen i.whole (boxed_slice_items i.asks) i.passed c.self.invariant c.args.self.now c.self.view_is c.in-Some.ahead (subst (λ (s : DriverSide). OldestAhead s (Some c.in-Some.ahead)) (sym c.self.view_is) c.in-Some.ensures) in let a = t.0 in let b = t.1 in let d = t.2 in omega arith

pub overflow_add-self-3 : goal.overflow_add-self-3
overflow_add-self-3 c = let i = c.self.inside in let t = few-ahead (driver_of tx i.seat) i.at i.seen i.done i.unseen i.whole (boxed_slice_items i.asks) i.passed c.self.invariant c.args.self.now c.self.view_is c.in-Some.ahead (subst (λ (s : DriverSide). OldestAhead s (Some c.in-Some.ahead)) (sym c.self.view_is) c.in-Some.ensures) in let a = t.0 in let b = t.1 in let d = t.2 in omega arith

pub overflow_sub-self : goal.overflow_sub-self
overflow_sub-self c = let i = c.self.inside in let t = few-ahead (driver_of tx i.seat) i.at i.seen i.done i.unseen i.whole (boxed_slice_items i.asks) i.passed c.self.invariant c.args.self.now c.self.view_is c.in-Some.ahead (subst (λ (s : DriverSide). OldestAhead s (Some c.in-Some.ahead)) (sym c.self.view_is) c.in-Some.ensures) in let a = t.0 in omega arith

pub find_report-requires-clause-oldest : goal.find_report-requires-clause-oldest
find_report-requires-clause-oldest c = let i = c.self.inside in oldest-at (driver_of tx i.seat) i.at i.seen i.done i.unseen i.whole (boxed_slice_items i.asks) i.passed c.self.invariant c.args.self.now c.self.view_is c.in-Some.ahead c.place_ahead-place.result i.at.size (subst (λ (s : DriverSide). OldestAhead s (Some c.in-Some.ahead)) (sym c.self.view_is) c.in-Some.ensures) c.self.invariant.size_is c.place_ahead-place.ensures

pub invariant_of-self : goal.invariant_of-self
invariant_of-self c = let i = c.self.inside in unseen-keeps (driver_of tx i.seat) i.at i.seen i.done i.unseen i.whole (boxed_slice_items i.asks) i.passed c.self.invariant c.args.self.now c.self.view_is c.in-Some.ahead c.place_ahead-place.result i.at.size (subst (λ (s : DriverSide). OldestAhead s (Some c.in-Some.ahead)) (sym c.self.view_is) c.in-Some.ensures) c.self.invariant.size_is c.place_ahead-place.ensures (sym c.if-not-is_live.ensures) (driver_of tx c.find_report.new.seat) c.find_report.result c.if-not-find_report.true c.find_report.ensures

pub returns-then-not-find_report-clause-found : goal.returns-then-not-find_report-clause-found
returns-then-not-find_report-clause-found c = let i = c.self.inside in inl (saw-nothing (driver_of tx i.seat) i.at i.seen i.done i.unseen i.whole (boxed_slice_items i.asks) i.passed c.self.invariant c.args.self.now c.self.view_is c.in-Some.ahead c.place_ahead-place.result i.at.size (subst (λ (s : DriverSide). OldestAhead s (Some c.in-Some.ahead)) (sym c.self.view_is) c.in-Some.ensures) c.self.invariant.size_is c.place_ahead-place.ensures (sym c.if-not-is_live.ensures) (driver_of tx c.find_report.new.seat) c.find_report.result c.if-not-find_report.true c.find_report.ensures)

pub invariant_of-self-2 : goal.invariant_of-self-2
invariant_of-self-2 c = let i = c.self.inside in seen-keeps (driver_of tx i.seat) i.at i.seen i.done i.unseen i.whole (boxed_slice_items i.asks) i.passed c.self.invariant c.args.self.now c.self.view_is c.in-Some.ahead c.place_ahead-place.result i.at.size (subst (λ (s : DriverSide). OldestAhead s (Some c.in-Some.ahead)) (sym c.self.view_is) c.in-Some.ensures) c.self.invariant.size_is c.place_ahead-place.ensures (sym c.if-not-is_live.ensures) (driver_of tx c.find_report.new.seat) c.find_report.result c.place_after-self-inside.result c.if-not-find_report.false c.find_report.ensures
    (c.place_after-self-inside.ensures.value ∙ ap (λ n. if (c.place_ahead-place.result + 1) == n then 0 else (c.place_ahead-place.result + 1)) c.self.invariant.size_is)

pub returns-clause-found : goal.returns-clause-found
returns-clause-found c = let i = c.self.inside in saw-report (driver_of tx i.seat) i.at i.seen i.done i.unseen i.whole (boxed_slice_items i.asks) i.passed c.self.invariant c.args.self.now c.self.view_is c.in-Some.ahead c.place_ahead-place.result i.at.size (subst (λ (s : DriverSide). OldestAhead s (Some c.in-Some.ahead)) (sym c.self.view_is) c.in-Some.ensures) c.self.invariant.size_is c.place_ahead-place.ensures (sym c.if-not-is_live.ensures) (driver_of tx c.find_report.new.seat) c.find_report.result c.if-not-find_report.false c.find_report.ensures
