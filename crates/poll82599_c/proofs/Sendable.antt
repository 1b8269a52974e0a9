-- The objects behind the handles may go to another thread.
use denote.Enum.Declared.{shape, variants}
use denote.Enum.Enum.{Enum}
use denote.Param.Send.{EachSend, IsSend, enum_send, recorded_send, sendable}
use Rattle.arrayvec.proofs.cells.Cells.TheSendSync as cells
use Rattle.atomic_table.proofs.send_lease.SendLease.TheSendSync as lease
use Rattle.atomic_table.proofs.shared.Seat.TheSendSync as seat
use Rattle.atomic_table.proofs.shared.Shared.TheSendSync as shared
use Rattle.buffer_pool.proofs.chain.Chain.TheLaws.TheKnot.{send-Chain, sync-Chain}
use Rattle.buffer_pool.proofs.chain.Room.TheSendSync as room
use Rattle.counters.proofs.tally.Tally.TheSendSync as tally
use Rattle.counters.specs.contracts.registers.RegisterReader as RegisterReader
use Rattle.counters.specs.contracts.registers.RegisterWriter as RegisterWriter
use Rattle.core.proofs.marker.PhantomData.TheSendSync as phantom
use Rattle.core.proofs.option.Option.TheSendSync as option
use Rattle.poll82599_c.proofs.rings.partial_frame.PartialFrame.TheSendSync as begun
use Rattle.ring_model.proofs.states.Completion.TheSendSync as completion
use Rattle.shared_ring.proofs.ends.ControllerPlaces.TheSendSync as controller_places
use Rattle.shared_ring.proofs.ends.DriverPlaces.TheSendSync as driver_places
use Rattle.std.proofs.Crossing.{crosses}
use Rattle.std_heap.proofs.Global.TheSendSync as heap
use Rattle.std.proofs.vec.Vec.TheSendSync as vec
use Rattle.controller.proofs.wire.Wire.TheSendSync as wire
use Rattle.controller.specs.contracts.receiving.RxController as RxController
use Rattle.driver.specs.contracts.rx_driver.RxDriver as RxDriver
use Rattle.driver.specs.contracts.tx_driver.TxDriver as TxDriver
use Rattle.rx_ring.specs.contracts.ring.RxRing as RxRing
use Rattle.rx_ring.specs.contracts.ring.RxRingSharedRing.TheImpl as rx_ring
use Rattle.tx_ring.specs.contracts.controller.TxControllerEnd as TxControllerEnd
use Rattle.tx_ring.specs.contracts.ring.TxRing as TxRing
use Rattle.tx_ring.specs.contracts.ring.TxRingSharedRing.TheImpl as tx_ring
use Rattle.poll82599_c.specs.contracts.end.End as End
use Rattle.poll82599_c.specs.contracts.half.Half as Half
use Rattle.poll82599_c.specs.contracts.half.RxControllerOfRing.TheImpl as rx_device_of
use Rattle.poll82599_c.specs.contracts.half.RxDriverOfRing.TheImpl as rx_queue_of
use Rattle.poll82599_c.specs.contracts.half.TxControllerEndOfRing.TheImpl as tx_serving_of
use Rattle.poll82599_c.specs.contracts.half.SenderOfRing.TheImpl as tx_device_of
use Rattle.poll82599_c.specs.contracts.half.TxDriverOfRing.TheImpl as tx_queue_of
use Rattle.poll82599_c.specs.contracts.rings.driving.RxDriving as RxDriving
use Rattle.poll82599_c.specs.contracts.rings.serving.RxServing as RxServing
use Rattle.poll82599_c.specs.contracts.rings.driving.TxDriving as TxDriving
use Rattle.poll82599_c.specs.contracts.batches.packets.Packets as Packets
use Rattle.poll82599_c.specs.contracts.batches.pool.Pool as Pool
use Rattle.poll82599_c.specs.contracts.batches.tx_device.Sender as Sender

ruleset parts = (sendable, crosses, cells.the_field_send, lease.the_send, lease.the_sync, seat.the_send, shared.the_send, shared.the_sync, send-Chain, sync-Chain, room.the_field_send, room.the_field_sync, tally.the_field_send, phantom.the_field_send, option.the_send, option.the_sync, begun.the_field_send, completion.the_field_send, controller_places.the_field_send, driver_places.the_field_send, heap.the_send, heap.the_sync)

pub rx_driving : IsSend RxDriving.the_row
rx_driving = search parts depth 60

pub rx_serving : IsSend RxServing.the_row
rx_serving = search parts depth 60

pub tx_driving : IsSend TxDriving.the_row
tx_driving = search parts depth 60

pub tx_serving : IsSend (Half.the_row TxRing.the_row TxControllerEnd.the_row tx_ring.ghosts tx_serving_of.ghosts)
tx_serving = search parts depth 60

pub packets : IsSend Packets.the_row
packets = search parts depth 60

pub pool : IsSend Pool.the_row
pool = search (parts, vec.the_send) depth 60

pub counters : IsSend RegisterWriter.the_row
counters = search parts depth 60

pub counter_reader : IsSend RegisterReader.the_row
counter_reader = search parts depth 60

pub rx_device : IsSend (Half.the_row RxRing.the_row RxController.the_row rx_ring.ghosts rx_device_of.ghosts)
rx_device = search parts depth 60

pub rx_queue : IsSend (Half.the_row RxRing.the_row RxDriver.the_row rx_ring.ghosts rx_queue_of.ghosts)
rx_queue = search parts depth 60

pub tx_device : IsSend (Half.the_row TxRing.the_row Sender.the_row tx_ring.ghosts tx_device_of.ghosts)
tx_device = search (parts, vec.the_send, wire.the_send) depth 60 fits 20000

pub tx_queue : IsSend (Half.the_row TxRing.the_row TxDriver.the_row tx_ring.ghosts tx_queue_of.ghosts)
tx_queue = search parts depth 60

-- each variant by itself: one search for all of them would be too long
pub end : IsSend End.the_row
end =
    let each : EachSend (variants End.the_type) = (
      (search (sendable, crosses, rx_driving) depth 40, tt),
      ((
        (search (sendable, crosses, rx_serving) depth 40, tt),
        ((
          (search (sendable, crosses, tx_driving) depth 40, tt),
          ((
            (search (sendable, crosses, tx_serving) depth 40, tt),
            ((
              (search (sendable, crosses, rx_queue) depth 40, tt),
              ((
                (search (sendable, crosses, rx_device) depth 40, tt),
                ((
                  (search (sendable, crosses, tx_queue) depth 40, tt),
                  ((
                    (search (sendable, crosses, tx_device) depth 40, tt),
                    ((
                      (search (sendable, crosses, packets) depth 40, tt),
                      ((
                        (search (sendable, crosses, pool) depth 40, tt),
                        ((
                          (search (sendable, crosses, counters) depth 40, tt),
                          ((
                            (search (sendable, crosses, counter_reader) depth 40, tt),
                            (
                                tt),
                          )),
                        )),
                      )),
                    )),
                  )),
                )),
              )),
            )),
          )),
        )),
      )),
    )
    in recorded_send (Enum (shape End.the_type)) End.the_type.D End.the_type.to End.the_type.to_one (enum_send (shape End.the_type) each)
