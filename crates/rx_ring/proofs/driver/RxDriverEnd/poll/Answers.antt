-- What was found at the next descriptor, and what became of the end.
use Rattle.std.proofs.Common.{◌+◌, ap, sym, ◌∙◌, if◌then◌else◌}
use Rattle.std.specs.Prelude.{◌==◌}
use Rattle.shared_ring.specs.Ends.{driver_of}
use Rattle.rx_ring.specs.Form.{rx}
use Rattle.rx_ring.proofs.DriverCalls.{none-keeps, none-seen, segment-keeps, segment-taken}
use Rattle.rx_ring.proofs.driver.RxDriverEnd.poll.Goals as goal

pub invariant_of-self : goal.invariant_of-self
invariant_of-self c = let i = c.self.inside in none-keeps (driver_of rx i.seat) i.at c.self.invariant c.args.self.now c.self.view_is (sym c.if-not-is_live.ensures) c.if-self-eq0.false (driver_of rx c.take.new.seat) c.in-None.ensures

pub invariant_of-self-in-Some : goal.invariant_of-self-in-Some
invariant_of-self-in-Some c = let i = c.self.inside in let f = c.in-Some.ensures in segment-keeps (driver_of rx i.seat) i.at c.self.invariant c.args.self.now c.self.view_is (sym c.if-not-is_live.ensures) c.if-self-eq0.false (driver_of rx c.take.new.seat) c.in-Some.buf c.in-Some.eop c.place_after-self-inside.result c.in-Some.ensures
    (c.place_after-self-inside.ensures.value ∙ ap (λ n. if (i.at.next + 1) == n then 0 else (i.at.next + 1)) (c.self.invariant.size_is))

pub returns-in-None-clause-found : goal.returns-in-None-clause-found
returns-in-None-clause-found c = let i = c.self.inside in none-seen (driver_of rx i.seat) i.at c.self.invariant c.args.self.now c.self.view_is (sym c.if-not-is_live.ensures) c.if-self-eq0.false (driver_of rx c.take.new.seat) c.in-None.ensures

pub returns-in-Some-clause-found : goal.returns-in-Some-clause-found
returns-in-Some-clause-found c = let i = c.self.inside in segment-taken (driver_of rx i.seat) i.at c.self.invariant c.args.self.now c.self.view_is (sym c.if-not-is_live.ensures) c.if-self-eq0.false (driver_of rx c.take.new.seat) c.in-Some.buf c.in-Some.eop c.in-Some.ensures
