-- After the words are cleared a new epoch begins.
use Rattle.shared_ring.specs.Ends.{driver_of}
use Rattle.tx_ring.specs.Form.{tx}
use Rattle.std.proofs.Common.{true, sym, subst}
use Rattle.std.specs.Box.{boxed_slice_items}
use Rattle.shared_ring.specs.declared.ends.DriverPlaces.{DriverPlaces}
use Rattle.tx_ring.specs.Calls.{IsDriverEnd}
use Rattle.tx_ring.proofs.DriverCalls.{gone-keeps, gone}
use Rattle.tx_ring.proofs.driver.TxDriverEnd.renew.Goals as goal

pub invariant_of-self : goal.invariant_of-self
invariant_of-self c = let i = c.self.inside in subst (λ (p : DriverPlaces). IsDriverEnd (driver_of tx c.go_over.new.seat) p 0 0 0 true (boxed_slice_items i.asks) 0) (sym c.new-self-inside.ensures) (gone-keeps (driver_of tx i.seat) i.at i.seen i.done i.unseen i.whole (boxed_slice_items i.asks) i.passed c.self.invariant c.args.self.now c.self.view_is (driver_of tx c.go_over.new.seat) c.go_over.ensures)

pub returns : goal.returns
returns c = let i = c.self.inside in gone (driver_of tx i.seat) i.at i.seen i.done i.unseen i.whole (boxed_slice_items i.asks) i.passed c.self.invariant c.args.self.now c.self.view_is (driver_of tx c.go_over.new.seat) c.go_over.ensures
