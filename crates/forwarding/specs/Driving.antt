-- A driver's turn for one flow.
use Rattle.std.specs.Prelude.{◌≡◌, ℕ, ◌+◌, ◌⊎◌, Bool, true, false, All, List, ◌++◌, length, map, take}
use Rattle.atomic_table.specs.Seated.{TableId}
use Rattle.buffer_pool.specs.Buffer.{Buffer}
use Rattle.buffer_pool.specs.Packed.{bytes_of}
use Rattle.ring_model.specs.shared.Frames.{Bytes, frames}
use Rattle.ring_model.specs.shared.Handshakes.{is_live, is_open}
use Rattle.ring_model.specs.shared.Segments.{piece_of}
use Rattle.ring_model.specs.transmit.Ring.{carried}
use Rattle.rx_ring.specs.Ends as receive
use Rattle.tx_ring.specs.Ends as transmit
use Rattle.limits.specs.declared.profile.TheConstants.{MOST_BATCH}
use Rattle.driver.specs.receive.Chains.{IsTaken}
use Rattle.driver.specs.receive.Receiver.{Receiver, hands}
use Rattle.driver.specs.receive.Batches as received
use Rattle.driver.specs.receive.Batches.{IsFilled}
use Rattle.driver.specs.transmit.Transmitter.{Transmitter, sending}
use Rattle.driver.specs.transmit.Batches as sent
use Rattle.teams.specs.declared.gate.Who.{Who}
use Rattle.teams.specs.declared.gate.Who.TheVariants.{Driver}
use Rattle.teams.specs.declared.gate.Event.{Event}
use Rattle.teams.specs.declared.gate.Event.TheVariants.{RxBatch, TxBatch}
use Rattle.forwarding.specs.Touching.{touch, TouchedFrom}

-- the gate allowed both batches of this flow's driver
abbrev pub BothAllowed : {G : Type 0} → (G → Who → Event → Bool → Type 0) → G → ℕ → Type 0
BothAllowed answers gate flow = answers gate (Driver flow) RxBatch true × answers gate (Driver flow) TxBatch true

-- the gate refused one of them
abbrev pub OneRefused : {G : Type 0} → (G → Who → Event → Bool → Type 0) → G → ℕ → Type 0
OneRefused answers gate flow = answers gate (Driver flow) RxBatch false ⊎ answers gate (Driver flow) TxBatch false

-- both drivers of a flow, the stash at hand, and the packets that were taken and wait
pub record Driving : Type 0 where
  pub rx : Receiver
  pub tx : Transmitter
  pub stash : List ℕ
  pub packets : List (List Buffer)

abbrev pub driving : Receiver → Transmitter → List ℕ → List (List Buffer) → Driving
driving rx tx stash packets = record { rx = rx; tx = tx; stash = stash; packets = packets }

-- the drivers' rings are of one length, their queues live, and each packet that waits fits the ring
pub record CanDrive (from to : TableId) (d : Driving) : Type 0 where
  pub receives : d.rx.end.table ≡ from
  pub sends : d.tx.end.table ≡ to
  pub one_length : to.slots ≡ from.slots
  pub rx_live : is_live (receive.driver_state d.rx.end) ≡ true
  pub tx_live : is_live (transmit.driver_state d.tx.end) ≡ true
  pub waiting : All (IsTaken from.slots) d.packets

-- Both lists of frames grew: one by the frames taken, one by the frames posted. The frames that waited before, followed by
-- the touched frames that were taken, are the frames posted, followed by those that wait now.
pub record Moved (old new : Driving) : Type 0 where
  pub taken : List Bytes
  pub posted : List Bytes
  pub takes : frames piece_of (receive.taken new.rx.end) ≡ frames piece_of (receive.taken old.rx.end) ++ taken
  pub posts : frames carried (transmit.posted new.tx.end) ≡ frames carried (transmit.posted old.tx.end) ++ posted
  pub order : map bytes_of old.packets ++ map touch taken ≡ posted ++ map bytes_of new.packets

-- One receive batch, and the packets that it appended were touched
pub record Received (count : ℕ) (old : Receiver) (had : List ℕ) (waited : List (List Buffer)) (new : Receiver) (has : List ℕ) (list : List (List Buffer)) : Type 0 where
  pub untouched : List (List Buffer)
  pub batch : received.Batched old.batch MOST_BATCH count (hands old had waited) (hands new has untouched)
  pub filled : is_open (receive.driver_state old.end) ≡ true → IsFilled new.end has
  pub same : new.batch ≡ old.batch
  pub touching : TouchedFrom (length waited) untouched list

-- One transmit batch of a live queue
pub record Sent (count : ℕ) (old : Transmitter) (had : List ℕ) (waited : List (List Buffer)) (new : Transmitter) (has : List ℕ) (list : List (List Buffer)) : Type 0 where
  pub batch : sent.Batched count (sending old had waited) (sending new has list)
  pub own : new.end.table ≡ old.end.table
  pub framed : frames carried (transmit.posted new.end) ≡ frames carried (transmit.posted old.end) ++ map bytes_of (take count waited)

-- One receive batch, whose packets were touched, and then one transmit batch
pub record Drove (taken posted : ℕ) (old new : Driving) : Type 0 where
  pub stash : List ℕ
  pub packets : List (List Buffer)
  pub receiving : Received taken old.rx old.stash old.packets new.rx stash packets
  pub sending : Sent posted old.tx stash packets new.tx new.stash new.packets

-- refused between the two batches: one receive batch was made, whose packets were touched, and wait
pub record OnlyReceived (old new : Driving) : Type 0 where
  pub count : ℕ
  pub receiving : Received count old.rx old.stash old.packets new.rx new.stash new.packets
  pub unsent : new.tx ≡ old.tx

-- refused before the receive batch, or after it
abbrev pub HeldBack : Driving → Driving → Type 0
HeldBack old new = (new ≡ old) ⊎ OnlyReceived old new

-- by how many frames both lists grew
pub record Counted (taken posted : ℕ) (old new : Driving) : Type 0 where
  pub takes : length (frames piece_of (receive.taken new.rx.end)) ≡ length (frames piece_of (receive.taken old.rx.end)) + taken
  pub posts : length (frames carried (transmit.posted new.tx.end)) ≡ length (frames carried (transmit.posted old.tx.end)) + posted
