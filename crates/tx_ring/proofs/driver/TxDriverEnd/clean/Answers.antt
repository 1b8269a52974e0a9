-- The oldest buffer that is reported came back.
use Rattle.std.proofs.Common.{◌+◌, ap, ◌∙◌, if◌then◌else◌}
use Rattle.std.specs.Prelude.{◌==◌}
use Rattle.std.specs.Box.{boxed_slice_items}
use Rattle.shared_ring.specs.Ends.{driver_of}
use Rattle.tx_ring.specs.Form.{tx}
use Rattle.tx_ring.proofs.DriverCalls.{clean-keeps, cleaned-one}
use Rattle.tx_ring.proofs.driver.TxDriverEnd.clean.Goals as goal

pub invariant_of-self : goal.invariant_of-self
invariant_of-self c = let i = c.self.inside in let f = c.clean-buf.ensures in clean-keeps (driver_of tx i.seat) i.at i.seen i.done i.unseen i.whole (boxed_slice_items i.asks) i.passed c.self.invariant c.args.self.now c.self.view_is c.requires.live c.requires.reported (driver_of tx c.clean-buf.new.seat) c.clean-buf.result c.place_after-self-inside.result c.clean-buf.ensures (c.place_after-self-inside.ensures.value ∙ ap (λ n. if (i.at.next + 1) == n then 0 else (i.at.next + 1)) (c.self.invariant.size_is))

pub returns : goal.returns
returns c = let i = c.self.inside in cleaned-one (driver_of tx i.seat) i.at i.seen i.done i.unseen i.whole (boxed_slice_items i.asks) i.passed c.self.invariant c.args.self.now c.self.view_is c.requires.live c.requires.reported (driver_of tx c.clean-buf.new.seat) c.clean-buf.result c.clean-buf.ensures
