-- Three steps, after which a new epoch begins.
use Rattle.std.proofs.Common.{ap, sym, subst}
use Rattle.shared_ring.specs.Ends.{driver_of}
use Rattle.rx_ring.specs.Form.{rx}
use Rattle.shared_ring.specs.declared.ends.DriverPlaces.{DriverPlaces}
use Rattle.rx_ring.specs.Calls.{IsDriverEnd}
use Rattle.rx_ring.proofs.DriverCalls.{renew-cleared, renew-tailed, renew-place, renew-back, renew-keeps, renewed}
use Rattle.rx_ring.proofs.driver.RxDriverEnd.renew.Goals as goal

pub clear_tail-requires-clause-cleared : goal.clear_tail-requires-clause-cleared
clear_tail-requires-clause-cleared c = let i = c.self.inside in renew-cleared (driver_of rx i.seat) i.at c.self.invariant c.args.self.now c.self.view_is (driver_of rx c.clear_head.new.self) (ap (driver_of rx) c.clear_head.ensures)

pub clear_quiet-requires-clause-place : goal.clear_quiet-requires-clause-place
clear_quiet-requires-clause-place c = let i = c.self.inside in renew-place (driver_of rx i.seat) i.at c.self.invariant c.args.self.now c.self.view_is (driver_of rx c.clear_head.new.self) (driver_of rx c.clear_tail.new.self) (driver_of rx c.clear_tail.new.self) (ap (driver_of rx) c.clear_head.ensures) (ap (driver_of rx) c.clear_tail.ensures) c.requires.back

pub clear_quiet-requires-clause-tailed : goal.clear_quiet-requires-clause-tailed
clear_quiet-requires-clause-tailed c = let i = c.self.inside in renew-tailed (driver_of rx i.seat) i.at c.self.invariant c.args.self.now c.self.view_is (driver_of rx c.clear_head.new.self) (driver_of rx c.clear_tail.new.self) (driver_of rx c.clear_tail.new.self) (ap (driver_of rx) c.clear_head.ensures) (ap (driver_of rx) c.clear_tail.ensures) c.requires.back

pub clear_quiet-requires-clause-back : goal.clear_quiet-requires-clause-back
clear_quiet-requires-clause-back c = let i = c.self.inside in renew-back (driver_of rx i.seat) i.at c.self.invariant c.args.self.now c.self.view_is (driver_of rx c.clear_head.new.self) (driver_of rx c.clear_tail.new.self) (driver_of rx c.clear_tail.new.self) (ap (driver_of rx) c.clear_head.ensures) (ap (driver_of rx) c.clear_tail.ensures) c.requires.back

pub invariant_of-self : goal.invariant_of-self
invariant_of-self c = let i = c.self.inside in subst (λ (p : DriverPlaces). IsDriverEnd (driver_of rx c.clear_quiet.new.seat) p) (sym c.new-self-inside.ensures) (renew-keeps (driver_of rx i.seat) i.at c.self.invariant c.args.self.now c.self.view_is (driver_of rx c.clear_head.new.self) (driver_of rx c.clear_tail.new.self) (driver_of rx c.clear_quiet.new.seat) (ap (driver_of rx) c.clear_head.ensures) (ap (driver_of rx) c.clear_tail.ensures) c.requires.back c.clear_quiet.ensures)

pub returns : goal.returns
returns c = let i = c.self.inside in renewed (driver_of rx i.seat) i.at c.self.invariant c.args.self.now c.self.view_is (driver_of rx c.clear_head.new.self) (driver_of rx c.clear_tail.new.self) (driver_of rx c.clear_quiet.new.seat) (ap (driver_of rx) c.clear_head.ensures) (ap (driver_of rx) c.clear_tail.ensures) c.requires.back c.clear_quiet.ensures
