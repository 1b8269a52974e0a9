-- The object of each kind that a handle may hold.
use Rattle.std.specs.Prelude.{ℕ, List, Option, Some, None}
use Rattle.rx_ring.specs.Ends as rx
use Rattle.tx_ring.specs.Ends as tx
use Rattle.driver.specs.receive.Receiver.{Receiver}
use Rattle.driver.specs.transmit.Transmitter.{Transmitter}
use Rattle.controller.specs.Receiving.{Receiving}
use Rattle.poll82599_c.specs.Counting.{Counted}
use Rattle.poll82599_c.specs.batches.Packets.{Worked}
use Rattle.poll82599_c.specs.batches.Transmitting.{SendingDevice}
use Rattle.poll82599_c.specs.declared.end.End.{End}
use Rattle.poll82599_c.specs.declared.end.End.TheVariants.{RxDriver, RxController, TxDriver, TxController, RxQueue, RxDevice, TxQueue, TxDevice, Packets, Pool, Counters, CounterReader}

-- an end of a ring, step by step

abbrev pub as_rx_driver : Option End → Option rx.DriverSide
as_rx_driver (Some (RxDriver d)) = Some d
as_rx_driver _ = None

abbrev pub as_rx_controller : Option End → Option rx.ControllerSide
as_rx_controller (Some (RxController c)) = Some c
as_rx_controller _ = None

abbrev pub as_tx_driver : Option End → Option tx.DriverSide
as_tx_driver (Some (TxDriver d)) = Some d
as_tx_driver _ = None

abbrev pub as_tx_controller : Option End → Option tx.ControllerSide
as_tx_controller (Some (TxController c)) = Some c
as_tx_controller _ = None

-- a queue's driver or its device, in batches, a worker's packets, or a pool of buffers

abbrev pub as_rx_queue : Option End → Option Receiver
as_rx_queue (Some (RxQueue q)) = Some q
as_rx_queue _ = None

abbrev pub as_rx_device : Option End → Option Receiving
as_rx_device (Some (RxDevice d)) = Some d
as_rx_device _ = None

abbrev pub as_tx_queue : Option End → Option Transmitter
as_tx_queue (Some (TxQueue q)) = Some q
as_tx_queue _ = None

abbrev pub as_tx_device : Option End → Option tx.ControllerSide
as_tx_device (Some (TxDevice d)) = Some d.end
as_tx_device _ = None

-- the same device, with the frame that waits in it
abbrev pub as_sender : Option End → Option SendingDevice
as_sender (Some (TxDevice d)) = Some d
as_sender _ = None

abbrev pub as_packets : Option End → Option Worked
as_packets (Some (Packets p)) = Some p
as_packets _ = None

abbrev pub as_pool : Option End → Option (List ℕ)
as_pool (Some (Pool p)) = Some p
as_pool _ = None

-- counters that one thread may write, and a reader of them

abbrev pub as_counters : Option End → Option Counted
as_counters (Some (Counters c)) = Some c
as_counters _ = None

abbrev pub as_counter_reader : Option End → Option Counted
as_counter_reader (Some (CounterReader r)) = Some r
as_counter_reader _ = None
