-- A hot flow may go to another thread.
use denote.Param.Send.{IsSend}
use Rattle.atomic_table.proofs.shared.Seat.TheSendSync as Seat
use Rattle.counters.proofs.tally.Tally.TheSendSync as Tally
use Rattle.controller.proofs.wire.Wire.TheSendSync as Wire
use Rattle.flows.proofs.Sent.{rx_ring, tables, tx_ring}
use Rattle.flows.proofs.queue_phase.QueuePhase.TheSendSync as QueuePhase
use Rattle.ring_model.proofs.states.Completion.TheSendSync as Completion
use Rattle.shared_ring.proofs.ends.ControllerPlaces.TheSendSync as ControllerPlaces
use Rattle.forward_bench.proofs.pace.Pace.TheSendSync as Pace
use Rattle.forward_bench.specs.contracts.hot_flow.HotFlow as HotFlow

pub hot_flow : (l : _) → IsSend (HotFlow.the_row l)
hot_flow l = search (tables, rx_ring, tx_ring, Seat.the_send, Completion.the_field_send, Tally.the_field_send, QueuePhase.the_field_send, ControllerPlaces.the_field_send, Wire.the_send, Pace.the_send) depth 60 fits 20000
