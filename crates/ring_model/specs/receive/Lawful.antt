-- Lawful receive rings: their ledgers and their owner map.
use Rattle.std.specs.Prelude.{ℕ, ◌-◌, ◌≤◌, map, length}
use Rattle.ring_model.specs.shared.Lists.{IsBeginning}
use Rattle.ring_model.specs.shared.Lawful.{IsLawfulQueue}
use Rattle.ring_model.specs.receive.Ring.{RxLedger, RxRing}
use Rattle.ring_model.specs.shared.Segments.{number_of_segment}

-- The taken segments are a prefix of the stored ones, byte for byte and in order. The stored segments use the posted
-- buffers in order. The driver never has more than n - 1 buffers out.
-- No worked row decides this; `rings_are_lawful` proves it of every reachable ring.
pub record IsLawfulRxLedger (Payload : Type 0) (n : ℕ) (l : RxLedger Payload) : Type 0 where
  pub taken : IsBeginning l.reaped l.completed
  pub stored : IsBeginning (map number_of_segment l.completed) l.posted
  pub room : length l.posted - length l.reaped ≤ n - 1

abbrev pub IsLawfulRx : (Payload : Type 0) → RxRing Payload → Type 0
IsLawfulRx Payload r = IsLawfulQueue (IsLawfulRxLedger Payload) r.queue
