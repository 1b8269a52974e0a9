-- Both drivers of a flow, between two turns.
use Rattle.std.specs.Prelude.{◌≡◌, All}
use Rattle.driver.specs.receive.Chains.{IsTaken}
use Rattle.forwarding.specs.Driving.{Driving}

-- the rings are of one length, and each packet that waits fits them
pub record IsRelay (d : Driving) : Type 0 where
  pub one_length : d.tx.end.table.slots ≡ d.rx.end.table.slots
  pub waiting : All (IsTaken d.rx.end.table.slots) d.packets
