-- The record has one more event, and the fields follow it.
use Rattle.std.proofs.Common.{◌+◌, ap, ◌∙◌, if◌then◌else◌}
use Rattle.std.specs.Prelude.{◌==◌}
use Rattle.std.specs.Box.{boxed_slice_items}
use Rattle.shared_ring.specs.Ends.{driver_of}
use Rattle.tx_ring.specs.Form.{tx}
use Rattle.tx_ring.proofs.DriverCalls.{post-keeps, post-record, post-known}
use Rattle.tx_ring.proofs.driver.TxDriverEnd.post.Goals as goal

pub invariant_of-self : goal.invariant_of-self
invariant_of-self c = let i = c.self.inside in post-keeps (driver_of tx i.seat) i.at i.seen i.done i.unseen i.whole (boxed_slice_items i.asks) i.passed c.self.invariant c.args.self.now c.self.view_is c.args.buf c.args.eop c.args.rs c.args.paylen c.requires.real c.requires.follows (driver_of tx c.post.new.seat) c.post.ensures c.place_after-self-inside.result c.requires.open c.requires.room (c.place_after-self-inside.ensures.value ∙ ap (λ n. if (i.at.fill + 1) == n then 0 else (i.at.fill + 1)) (c.self.invariant.size_is))

pub returns-clause-record : goal.returns-clause-record
returns-clause-record c = let i = c.self.inside in post-record (driver_of tx i.seat) i.at i.seen i.done i.unseen i.whole (boxed_slice_items i.asks) i.passed c.self.invariant c.args.self.now c.self.view_is c.args.buf c.args.eop c.args.rs c.args.paylen c.requires.real c.requires.follows (driver_of tx c.post.new.seat) c.post.ensures

pub returns-clause-known : goal.returns-clause-known
returns-clause-known c = let i = c.self.inside in post-known (driver_of tx i.seat) i.at i.seen i.done i.unseen i.whole (boxed_slice_items i.asks) i.passed c.self.invariant c.args.self.now c.self.view_is c.args.buf c.args.eop c.args.rs c.args.paylen c.requires.real c.requires.follows (driver_of tx c.post.new.seat) c.post.ensures
