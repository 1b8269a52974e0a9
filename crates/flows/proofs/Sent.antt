-- Both sides of a flow may go to another thread.
use denote.Param.Send.{IsSend, IsSync, sendable}
use Rattle.std.proofs.Crossing.{crosses}
use Rattle.buffer_pool.proofs.chain.Chain.TheLaws.TheKnot as Chain
use Rattle.std.proofs.alloc.Global.TheSendSync as Global
use Rattle.std.proofs.boxed.Box.TheSendSync as Box
use Rattle.std.proofs.collections.LinkedList.TheSendSync as LinkedList
use Rattle.std.proofs.marker.PhantomData.TheSendSync as PhantomData
use Rattle.std.proofs.option.Option.TheSendSync as Option
use Rattle.std.proofs.rt.Memory.TheSendSync as Memory
use Rattle.std.proofs.vec.Vec.TheSendSync as Vec
use Rattle.atomic_table.proofs.owned.Table.TheSendSync as Table
use Rattle.atomic_table.proofs.send_lease.SendLease.TheSendSync as SendLease
use Rattle.atomic_table.proofs.shared.Seat.TheSendSync as Seat
use Rattle.atomic_table.proofs.shared.Shared.TheSendSync as Shared
use Rattle.crossbeam_queue.proofs.array_queue.Slotted.TheSendSync as Slotted
use Rattle.buffer_pool.proofs.chain.Room.TheSendSync as Room
use Rattle.ring_model.proofs.states.Completion.TheSendSync as Completion
use Rattle.counters.proofs.tally.Tally.TheSendSync as Tally
use Rattle.controller.proofs.wire.Wire.TheSendSync as Wire
use Rattle.flows.proofs.queue_phase.QueuePhase.TheSendSync as QueuePhase
use Rattle.counters.proofs.driven.Driven.TheSendSync as Driven
use Rattle.flows.proofs.cut_rule.CutRule.TheSendSync as CutRule
use Rattle.flows.proofs.flow_drivers.PoolPart.TheSendSync as PoolPart
use Rattle.flows.proofs.phase.Phase.TheSendSync as Phase
use Rattle.shared_ring.proofs.ends.ControllerPlaces.TheSendSync as ControllerPlaces
use Rattle.shared_ring.proofs.ends.DriverPlaces.TheSendSync as DriverPlaces
use Rattle.wire_script.proofs.frame.WireFrame.TheSendSync as WireFrame
use Rattle.rx_ring.specs.contracts.ring.RxRing as RxRing
use Rattle.tx_ring.specs.contracts.ring.TxRing as TxRing
use Rattle.pool.specs.contracts.pool.Pool as Pool
use Rattle.flows.specs.contracts.rx_source.RxSource as RxSource
use Rattle.flows.specs.contracts.tx_sink.TxSink as TxSink
use Rattle.flows.specs.contracts.flow_drivers.FlowDrivers as FlowDrivers
use Rattle.flows.specs.contracts.flow_drivers.FlowSpec as FlowSpec
use Rattle.flows.specs.contracts.driver_flow.DriverFlow as DriverFlow
use Rattle.flows.specs.contracts.controller_flow.ControllerFlow as ControllerFlow

-- what a search needs for anything with a ring in it
pub ruleset tables = (sendable, crosses, Chain.crosses, Global.the_send, Global.the_sync, Global.the_field_send, Global.the_field_sync, Box.the_send, Box.the_sync, LinkedList.the_send, LinkedList.the_sync, PhantomData.the_send, PhantomData.the_sync, PhantomData.the_field_send, PhantomData.the_field_sync, Option.the_send, Option.the_sync, Option.the_field_send, Option.the_field_sync, Memory.the_send, Memory.the_sync, Memory.the_field_send, Memory.the_field_sync, Vec.the_send, Vec.the_sync, Table.the_send, Table.the_sync, Table.the_field_send, Table.the_field_sync, SendLease.the_send, SendLease.the_sync, Shared.the_send, Shared.the_sync, Room.the_send, Room.the_sync, Room.the_field_send, Room.the_field_sync)

pub rx_ring : IsSync RxRing.the_row
rx_ring = search tables depth 60 fits 20000

pub tx_ring : IsSync TxRing.the_row
tx_ring = search tables depth 60 fits 20000

the_pool : IsSync Pool.the_row
the_pool = search (tables, Slotted.the_field_sync) depth 60 fits 20000

rx_source : (l : _) → IsSend (RxSource.the_row l)
rx_source l = search (tables, rx_ring, Seat.the_send, Completion.the_field_send, Tally.the_field_send, QueuePhase.the_field_send, ControllerPlaces.the_field_send, WireFrame.the_sync) depth 60 fits 20000

tx_sink : (l : _) → IsSend (TxSink.the_row l)
tx_sink l = search (tables, tx_ring, Seat.the_send, Completion.the_field_send, Wire.the_send, QueuePhase.the_field_send, ControllerPlaces.the_field_send) depth 60 fits 20000

flow_drivers : IsSend (FlowDrivers.the_field).row
flow_drivers = search (tables, Seat.the_send, Completion.the_field_send, DriverPlaces.the_field_send) depth 60 fits 20000

flow_spec : (l : _) → IsSend (FlowSpec.the_row l)
flow_spec l = search (sendable, rx_ring, tx_ring, the_pool, PoolPart.the_field_send, CutRule.the_field_send) depth 60 fits 20000

pub controller_flow : (l : _) → IsSend (ControllerFlow.the_row l)
controller_flow l = search (sendable, rx_source, tx_sink) depth 60 fits 20000

pub driver_flow : (l : _) → IsSend (DriverFlow.the_row l)
driver_flow l = search (sendable, flow_spec, flow_drivers, Driven.the_field_send, Phase.the_field_send) depth 60 fits 20000
