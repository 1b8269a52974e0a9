-- Lawful transmit rings: their ledgers and their owner map.
use Rattle.std.specs.Prelude.{ℕ, ◌-◌, ◌≤◌, map, length}
use Rattle.ring_model.specs.shared.Lists.{IsBeginning}
use Rattle.ring_model.specs.shared.Lawful.{IsLawfulQueue}
use Rattle.ring_model.specs.transmit.Ring.{TxLedger, TxRing, number_of_posting}

-- The sent segments are a prefix of the posted ones, byte for byte and in order. The driver took back the buffers of a
-- prefix of the sent segments. It never has more than n - 1 buffers out.
-- No worked row decides this; `rings_are_lawful` proves it of every reachable ring.
pub record IsLawfulTxLedger (Payload : Type 0) (n : ℕ) (l : TxLedger Payload) : Type 0 where
  pub sent : IsBeginning l.completed l.posted
  pub cleaned : IsBeginning l.reaped (map number_of_posting l.completed)
  pub room : length l.posted - length l.reaped ≤ n - 1

abbrev pub IsLawfulTx : (Payload : Type 0) → TxRing Payload → Type 0
IsLawfulTx Payload r = IsLawfulQueue (IsLawfulTxLedger Payload) r.queue
