-- The report is of the last that was sent, by the head word or by its descriptor.
use Rattle.std.proofs.Common.{◌+◌}
use Rattle.ring_model.specs.transmit.Agreement.{done_word}
use Rattle.tx_ring.specs.Ends.{controller_size}
use Rattle.shared_ring.specs.Ends.{controller_of}
use Rattle.tx_ring.specs.Form.{tx}
use Rattle.tx_ring.proofs.ControllerEnds.{report-keeps, report-record}
use Rattle.tx_ring.proofs.controller.TxControllerEnd.report.Goals as goal

pub invariant_of-self : goal.invariant_of-self
invariant_of-self c = let i = c.self.inside in report-keeps (controller_of tx i.seat) i.at i.last i.ends i.asks i.owed c.self.invariant c.args.self.now c.self.view_is c.requires.owed (controller_of tx c.report_head.new.seat) (controller_size (controller_of tx i.seat) + 4) i.at.serve c.report_head.ensures

pub invariant_of-self-else-is_by_head : goal.invariant_of-self-else-is_by_head
invariant_of-self-else-is_by_head c = let i = c.self.inside in report-keeps (controller_of tx i.seat) i.at i.last i.ends i.asks i.owed c.self.invariant c.args.self.now c.self.view_is c.requires.owed (controller_of tx c.report_status.new.seat) i.last done_word c.report_status.ensures

pub returns-then-is_by_head-clause-record : goal.returns-then-is_by_head-clause-record
returns-then-is_by_head-clause-record c = let i = c.self.inside in report-record (controller_of tx i.seat) i.at i.last i.ends i.asks i.owed c.self.invariant c.args.self.now c.self.view_is c.requires.owed (controller_of tx c.report_head.new.seat) (controller_size (controller_of tx i.seat) + 4) i.at.serve c.report_head.ensures

pub returns-else-is_by_head-clause-record : goal.returns-else-is_by_head-clause-record
returns-else-is_by_head-clause-record c = let i = c.self.inside in report-record (controller_of tx i.seat) i.at i.last i.ends i.asks i.owed c.self.invariant c.args.self.now c.self.view_is c.requires.owed (controller_of tx c.report_status.new.seat) i.last done_word c.report_status.ensures
