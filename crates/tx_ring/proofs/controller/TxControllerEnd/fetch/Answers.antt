-- The next buffer came out, and its descriptor's word is read.
use Rattle.std.proofs.Common.{◌∙◌}
use Rattle.shared_ring.specs.Ends.{controller_of}
use Rattle.tx_ring.specs.Form.{tx}
use Rattle.tx_ring.proofs.ControllerEnds.{fetch-keeps, fetched}
use Rattle.tx_ring.proofs.controller.TxControllerEnd.fetch.Goals as goal

pub invariant_of-self : goal.invariant_of-self
invariant_of-self c = let i = c.self.inside in fetch-keeps (controller_of tx i.seat) i.at i.last i.ends i.asks i.owed c.self.invariant c.args.self.now c.self.view_is (controller_of tx c.fetch-buf.new.self) c.fetch-buf.result.0 c.fetch-buf.result.1 c.fetch-buf.ensures c.ends_frame-self-inside.result c.asks_report-self-inside.result c.ends_frame-self-inside.ensures c.asks_report-self-inside.ensures c.requires.serving c.requires.ready

pub returns : goal.returns
returns c = let i = c.self.inside in fetched (controller_of tx i.seat) i.at i.last i.ends i.asks i.owed c.self.invariant c.args.self.now c.self.view_is (controller_of tx c.fetch-buf.new.self) c.fetch-buf.result.0 c.fetch-buf.result.1 c.fetch-buf.ensures c.new-read.result (c.new-read.ensures.number ∙ c.number.ensures) (c.new-read.ensures.len ∙ c.len.ensures.value) (c.new-read.ensures.eop ∙ c.ends_frame-self-inside.ensures) (c.new-read.ensures.rs ∙ c.asks_report-self-inside.ensures) (c.new-read.ensures.paylen ∙ c.frame_len.ensures)
