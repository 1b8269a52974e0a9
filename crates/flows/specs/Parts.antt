-- The buffers of a driver's side.
use Rattle.std.specs.Prelude.{ℕ, List, ◌++◌}
use Rattle.ring_model.specs.transmit.Ring.{number_of_posting}
use Rattle.driver.specs.Reclaiming.{out_of}
use Rattle.driver.specs.receive.Batches.{itself}
use Rattle.driver.specs.receive.Returns.{numbers_of}
use Rattle.driver.specs.transmit.Frames.{numbers_in}
use Rattle.flows.specs.declared.driver_flow.DriverParts.{DriverParts}

-- The numbers of all its buffers: in the stash, out in the receive ring, in the chain, in the waiting packets, and out
-- in the transmit ring.
abbrev pub parts_of : DriverParts → List ℕ
parts_of p = p.stash ++ ((out_of itself p.rx ++ numbers_of p.chain) ++ (numbers_in p.packets.items ++ out_of number_of_posting p.tx))
