-- The knowledge of the driver's side of a flow.
use Rattle.std.specs.Prelude.{◌≡◌, ◌≢◌, ℕ, ◌+◌, ◌<◌, ◌≤◌, ◌⊎◌, Bool, true, false, All, List, [], ◌++◌, length, map, Option, Some, None}
use Rattle.buffer_pool.specs.Packed.{bytes_of}
use Rattle.ring_model.specs.declared.states.DriverState.TheVariants.{Stopping}
use Rattle.ring_model.specs.shared.Frames.{Bytes, frames}
use Rattle.ring_model.specs.shared.Handshakes.{is_new, is_on, is_open, is_stopped}
use Rattle.ring_model.specs.shared.Segments.{piece_of}
use Rattle.ring_model.specs.transmit.Ring.{carried}
use Rattle.rx_ring.specs.Ends as receive
use Rattle.rx_ring.specs.Calls as received
use Rattle.tx_ring.specs.Ends as transmit
use Rattle.tx_ring.specs.Meeting as transmitted
use Rattle.pool.specs.Owned.{Passed, IsOf}
use Rattle.driver.specs.receive.Chains.{IsTaken}
use Rattle.driver.specs.receive.Receiver.{Receiver}
use Rattle.driver.specs.transmit.Transmitter.{Transmitter}
use Rattle.forwarding.specs.Driving.{Driving, driving}
use Rattle.forwarding.specs.Touching.{touch}
use Rattle.flows.specs.Outputs.{Chosen}
use Rattle.flows.specs.Keys.{DriverKey}
use Rattle.counters.specs.Kinds.{most_exact}
use Rattle.buffer_accounting.specs.Lent.{with_receiver, with_transmitter}
use Rattle.flows.specs.Holding.{HoldsJust, all_of}
use Rattle.counters.specs.declared.driven.Driven.{Driven}
use Rattle.flows.specs.declared.flow_drivers.FlowDrivers.{FlowDrivers}
use Rattle.flows.specs.declared.phase.Phase.{Phase}
use Rattle.flows.specs.declared.phase.Phase.TheVariants.{EnablingTx, EnablingRx, Forwarding, Disabling, Reclaiming, Over}
use Rattle.forwarding.specs.declared.report.Ended.{Ended}
use Rattle.forwarding.specs.declared.report.Ended.TheVariants.{Drained, Cut}
use Rattle.flows.specs.declared.concluding.DriverDone.{DriverDone}

abbrev pub taken_frames : receive.DriverSide → List Bytes
taken_frames rx = frames piece_of (receive.taken rx)

abbrev pub posted_frames : transmit.DriverSide → List Bytes
posted_frames tx = frames carried (transmit.posted tx)

-- The counts are the numbers of frames. `waiting` is the number of frames that wait.
pub record AreExact (rx : receive.DriverSide) (tx : transmit.DriverSide) (c : Driven) (waiting : ℕ) : Type 0 where
  pub taken : c.taken ≡ length (taken_frames rx)
  pub posted : c.posted ≡ length (posted_frames tx)
  pub all : c.posted + c.tx_dropped + waiting ≡ c.taken

-- The counts are full: they stopped at their limit, and more frames than that were taken.
pub record AreFull (rx : receive.DriverSide) (c : Driven) : Type 0 where
  pub full : most_exact < c.taken
  pub many : most_exact < length (taken_frames rx)

-- The posted frames and then the waiting ones are touched copies of taken frames, in order, and the counts match. With
-- `retries`, none was dropped.
pub record Relayed (retries : Bool) (rx : receive.DriverSide) (tx : transmit.DriverSide) (c : Driven) (waiting : List Bytes) : Type 0 where
  pub chosen : Chosen (posted_frames tx ++ waiting) (map touch (taken_frames rx))
  pub counted : AreExact rx tx c (length waiting) ⊎ AreFull rx c
  pub no_more : c.posted + c.tx_dropped ≤ c.taken
  pub retried : retries ≡ true → c.tx_dropped ≡ 0

-- The queue was seen quiet, and everything stored was seen taken. No frame waits, and all postings are cleaned.
pub record HasDrained (rx : receive.DriverSide) (tx : transmit.DriverSide) (waiting : List Bytes) : Type 0 where
  pub quiet : receive.saw_quiet rx ≡ true
  pub drained : receive.is_drained rx ≡ true
  pub cleaned : length (transmit.posted tx) ≤ length (transmit.cleaned tx)
  pub none_waits : waiting ≡ []

-- A flow may be cut if it has a greatest number of turns, or if somebody may stop it.
abbrev pub MayBeCut : ℕ → Bool → Type 0
MayBeCut turns stops = (0 < turns) ⊎ (stops ≡ true)

abbrev pub EndedAs : ℕ → Bool → receive.DriverSide → transmit.DriverSide → List Bytes → Ended → Type 0
EndedAs turns stops rx tx waiting Drained = HasDrained rx tx waiting
EndedAs turns stops rx tx waiting Cut = MayBeCut turns stops

-- The end changed by posting and publishing alone.
pub record OnlyPosted (old new : receive.DriverSide) : Type 0 where
  pub own : new.table ≡ old.table
  pub taken : receive.taken new ≡ receive.taken old
  pub none_back : receive.reclaimed new ≡ receive.reclaimed old
  pub state : receive.driver_state new ≡ receive.driver_state old

-- A queue whose disabling is asked: it is not answered yet, or it is, with this number of segments left.
abbrev pub RxStands : Option ℕ → receive.DriverSide → Type 0
RxStands None d = receive.driver_state d ≡ Stopping
RxStands (Some left) d = (is_stopped (receive.driver_state d) ≡ true) × (received.told_left d ≡ Some left)

abbrev pub TxStands : Option ℕ → transmit.DriverSide → Type 0
TxStands None d = transmit.driver_state d ≡ Stopping
TxStands (Some left) d = (is_stopped (transmit.driver_state d) ≡ true) × (transmitted.told_left d ≡ Some left)

-- The lists of a queue are unchanged.
pub record RxAsBefore (old new : Receiver) : Type 0 where
  pub own : new.end.table ≡ old.end.table
  pub taken : receive.taken new.end ≡ receive.taken old.end
  pub holds : with_receiver new ≡ with_receiver old

pub record TxAsBefore (old new : Transmitter) : Type 0 where
  pub own : new.end.table ≡ old.end.table
  pub posted : transmit.posted new.end ≡ transmit.posted old.end
  pub cleaned : transmit.cleaned new.end ≡ transmit.cleaned old.end
  pub holds : with_transmitter new ≡ with_transmitter old

-- What was learned about quiet and drained is unchanged.
pub record KnowsAsBefore (old new : Receiver) : Type 0 where
  pub quiet : receive.saw_quiet new.end ≡ receive.saw_quiet old.end
  pub drained : receive.is_drained new.end ≡ receive.is_drained old.end

-- Both queues were seen disabled, and the number of segments left in each is known.
pub record HasDriven (k : DriverKey) (d : DriverDone) : Type 0 where
  pub receives : d.rx.table ≡ k.from
  pub sends : d.tx.table ≡ k.to
  pub one_length : k.to.slots ≡ k.from.slots
  pub waiting : List Bytes
  pub relayed : Relayed k.retries d.rx d.tx d.counts waiting
  pub rx_over : is_open (receive.driver_state d.rx) ≡ false
  pub tx_over : is_open (transmit.driver_state d.tx) ≡ false
  pub untaken : received.told_left d.rx ≡ Some d.untaken
  pub unsent : transmitted.told_left d.tx ≡ Some d.unsent
  pub ended : EndedAs k.turns k.stops d.rx d.tx waiting d.ended

-- The waiting frames are those of the moment when the flow ended.
pub record HasEnded (k : DriverKey) (d : Driving) (c : Driven) (ended : Ended) : Type 0 where
  pub waiting : List Bytes
  pub relayed : Relayed k.retries d.rx.end d.tx.end c waiting
  pub ended_as : EndedAs k.turns k.stops d.rx.end d.tx.end waiting ended

-- Both drivers are those of the flow's rings. The pass has its share, and holds exactly the buffers that are with the
-- drivers, in the stash and in the waiting packets.
pub record IsEquipped (k : DriverKey) (pass : Passed) (d : Driving) : Type 0 where
  pub receives : d.rx.end.table ≡ k.from
  pub sends : d.tx.end.table ≡ k.to
  pub one_length : k.to.slots ≡ k.from.slots
  pub pool : IsOf k.pool pass
  pub share : pass.hand.share ≡ k.share
  pub holds : HoldsJust pass.hand.held (all_of d)
  pub waiting : All (IsTaken k.from.slots) d.packets

abbrev pub driving_of : FlowDrivers → Driving
driving_of l = driving l.rx l.tx l.stash l.packets.items

-- What is known in each phase. Enabling the receive queue is asked only after the transmit queue was seen enabled.
pub record IsOpening (k : DriverKey) (d : Driving) (c : Driven) : Type 0 where
  pub rx_open : is_open (receive.driver_state d.rx.end) ≡ true
  pub tx_open : is_open (transmit.driver_state d.tx.end) ≡ true
  pub relayed : Relayed k.retries d.rx.end d.tx.end c (map bytes_of d.packets)

pub record IsForwarding (k : DriverKey) (d : Driving) (c : Driven) : Type 0 where
  pub rx_on : is_on (receive.driver_state d.rx.end) ≡ true
  pub tx_on : is_on (transmit.driver_state d.tx.end) ≡ true
  pub relayed : Relayed k.retries d.rx.end d.tx.end c (map bytes_of d.packets)

pub record IsClosing (k : DriverKey) (d : Driving) (c : Driven) (ended : Ended) (untaken unsent : Option ℕ) : Type 0 where
  pub rx_stands : RxStands untaken d.rx.end
  pub tx_stands : TxStands unsent d.tx.end
  pub has_ended : HasEnded k d c ended

abbrev pub IsAt : DriverKey → Driving → Driven → Phase → Type 0
IsAt k d c EnablingTx = IsOpening k d c × (is_new (receive.driver_state d.rx.end) ≡ true)
IsAt k d c EnablingRx = IsOpening k d c × (is_on (transmit.driver_state d.tx.end) ≡ true)
IsAt k d c (Forwarding made) = IsForwarding k d c × (k.turns ≢ 0 → made < k.turns)
IsAt k d c (Disabling ended untaken unsent) = IsClosing k d c ended untaken unsent
IsAt k d c (Reclaiming left) = IsClosing k d c left.ended (Some left.untaken) (Some left.unsent)
IsAt k d c (Over left) = IsClosing k d c left.ended (Some left.untaken) (Some left.unsent)

-- The phase, without its number of turns.
abbrev pub without_turns : Phase → Phase
without_turns (Forwarding made) = Forwarding 0
without_turns phase = phase

-- The turn that follows `made` others is the last: the flow may make no more, or somebody may have stopped it.
abbrev pub IsLastTurn : ℕ → Bool → ℕ → Type 0
IsLastTurn turns stops made = (made + 1 ≡ turns) ⊎ (stops ≡ true)

-- The phase after a turn of an enabled flow that made `made` turns before: the next turn, or the end. The last of its
-- turns cuts the flow.
abbrev pub GoesTo : ℕ → Bool → ℕ → Phase → Type 0
GoesTo turns stops made (Forwarding next) = ((turns ≡ 0) × (next ≡ made)) ⊎ ((made + 1 < turns) × (next ≡ made + 1))
GoesTo turns stops made (Disabling Drained untaken unsent) = (untaken ≡ None) × (unsent ≡ None)
GoesTo turns stops made (Disabling Cut untaken unsent) = IsLastTurn turns stops made × (untaken ≡ None) × (unsent ≡ None)
GoesTo turns stops made _ = ⊥

abbrev pub is_over : Phase → Bool
is_over (Over left) = true
is_over _ = false

-- The buffers go back to the pool.
abbrev pub is_returning : Phase → Bool
is_returning (Reclaiming left) = true
is_returning (Over left) = true
is_returning _ = false

-- The driver's side: its key, its pass, its drivers and their buffers, the number of buffers that it may still take, its
-- counts, and its phase.
pub record Relaying : Type 0 where
  pub key : DriverKey
  pub pass : Passed
  pub driving : Driving
  pub short : ℕ
  pub counts : Driven
  pub phase : Phase

abbrev pub relaying : DriverKey → FlowDrivers → Driven → Phase → Relaying
relaying k l c phase = record { key = k; pass = l.pass; driving = driving_of l; short = l.short; counts = c; phase = phase }

-- Before buffers go back, each one of the greatest number is held, or may still be taken.
pub record IsRelaying (r : Relaying) : Type 0 where
  pub equipped : IsEquipped r.key r.pass r.driving
  pub at : IsAt r.key r.driving r.counts r.phase
  pub few : length r.pass.hand.held + r.short ≤ r.key.most
  pub exact : is_returning r.phase ≡ false → length r.pass.hand.held + r.short ≡ r.key.most
  pub given_back : is_over r.phase ≡ true → r.pass.hand.held ≡ []
