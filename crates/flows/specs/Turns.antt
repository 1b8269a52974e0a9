-- What one turn of a flow does. `answers` are those that the gate may give, and `number` is the flow's.
use Rattle.std.specs.Prelude.{◌≡◌, ◌≢◌, ◌⊎◌, ℕ, Bool, true, false, length, slice_get, Some, Result, Ok, Err}
use Rattle.refusals.specs.declared.errors.ForwardError.{ForwardError}
use Rattle.refusals.specs.declared.errors.ForwardError.TheVariants.{Memory, Gate}
use Rattle.teams.specs.declared.flow.Progress.{Progress}
use Rattle.teams.specs.declared.flow.Progress.TheVariants.{Idle}
use Rattle.teams.specs.declared.gate.Who.{Who}
use Rattle.teams.specs.declared.gate.Who.TheVariants.{Driver, Controller}
use Rattle.teams.specs.declared.gate.Event.{Event}
use Rattle.teams.specs.declared.gate.Event.TheVariants.{Offer as OfferEvent, TxTurn, RxBatch, TxBatch}
use Rattle.ring_model.specs.shared.Frames.{Bytes}
use Rattle.controller.specs.declared.offer.Offer.{Offer}
use Rattle.shared_ring.specs.declared.control.Control.{Control}
use Rattle.controller.specs.Handshaking.{TurnedControl}
use Rattle.controller.specs.Receiving.{Offered, Finished}
use Rattle.controller.specs.Transmitting.{WasIdle, WasSent, WasRefused}
use Rattle.flows.specs.declared.queue_phase.QueuePhase.TheVariants.{Serving, Ended}
use Rattle.flows.specs.declared.phase.Phase.{Phase}
use Rattle.flows.specs.declared.phase.Phase.TheVariants.{Forwarding}
use Rattle.flows.specs.Served.{RxSource, TxSink, decides, sent_frames}
use Rattle.flows.specs.Sides.{Controlling}

-- The controller answered its driver's request, if there was one, and did nothing else. After a disabling it does nothing.
pub record RxAnswered (old new : RxSource) : Type 0 where
  pub input : new.input ≡ old.input
  pub next : new.next ≡ old.next
  pub controller : new.controller ≡ record old.controller { end = new.controller.end }
  pub over : old.queue_phase ≡ Ended → new ≡ old
  pub turned : old.queue_phase ≢ Ended → (told : Control) × TurnedControl old.controller.end told new.controller.end

pub record TxAnswered (old new : TxSink) : Type 0 where
  pub to : new.to ≡ old.to
  pub output : new.output ≡ old.output
  pub sent : sent_frames new ≡ sent_frames old
  pub over : old.queue_phase ≡ Ended → new ≡ old
  pub turned : old.queue_phase ≢ Ended → (told : Control) × TurnedControl old.controller told new.controller

module _ (answers : Who → Event → Bool → Type 0) (number : ℕ) where
  -- The gate allowed it, and the controller offered the next frame.
  pub record OfferedNext (old : RxSource) (decided : Bool) (new : RxSource) : Type 0 where
    pub allowed : answers (Controller number) OfferEvent true
    pub frame : Bytes
    pub next : slice_get old.input.frames old.next ≡ Some frame
    pub offer : Offer
    pub offered : Offered old.controller frame (Ok offer) new.controller
    pub is_decided : decided ≡ decides offer

  -- All frames were decided. The controller says that it stores no more, unless it has.
  pub record OfferedNone (old : RxSource) (decided : Bool) (new : RxSource) : Type 0 where
    pub all : old.next ≡ length old.input.frames
    pub finished : Finished old.controller.end decided new.controller.end

  -- The queue is not enabled, and nothing was done.
  pub record WasUnserved (old : RxSource) (decided : Bool) (new : RxSource) : Type 0 where
    pub unserved : old.queue_phase ≢ Serving
    pub undecided : decided ≡ false
    pub same : new ≡ old

  abbrev pub HasOfferedOne : RxSource → Result Bool ForwardError → RxSource → Type 0
  HasOfferedOne old (Ok decided) new = WasUnserved old decided new ⊎ (OfferedNone old decided new ⊎ OfferedNext old decided new)
  HasOfferedOne old (Err Gate) new = answers (Controller number) OfferEvent false × (new ≡ old)
  HasOfferedOne old (Err e) new = ⊥

  -- The gate allowed a turn of the transmit queue, unless that is not enabled. `Ok false`: there was nothing to send.
  -- `Memory`: there was, and the wire could not grow.
  abbrev pub HasSentOne : TxSink → Result Bool ForwardError → TxSink → Type 0
  HasSentOne old (Ok true) new = answers (Controller number) TxTurn true × WasSent old.controller (sent_frames old) new.controller (sent_frames new)
  HasSentOne old (Ok false) new = ((old.queue_phase ≢ Serving) × (new ≡ old)) ⊎ (answers (Controller number) TxTurn true × WasIdle old.controller (sent_frames old) new.controller (sent_frames new))
  HasSentOne old (Err Memory) new = answers (Controller number) TxTurn true × WasRefused old.controller (sent_frames old) new.controller (sent_frames new)
  HasSentOne old (Err Gate) new = answers (Controller number) TxTurn false × (new ≡ old)
  HasSentOne old (Err e) new = ⊥

  -- The second half of a controller's turn. After a refused offer it sends nothing, and an idle turn decided and sent
  -- nothing.
  abbrev pub ThenSent : Result Bool ForwardError → TxSink → Result Progress ForwardError → TxSink → Type 0
  ThenSent (Err e) old result new = (result ≡ Err e) × (new ≡ old)
  ThenSent (Ok decided) old (Ok progress) new = (sent : Bool) × HasSentOne old (Ok sent) new × (progress ≡ Idle → (decided ≡ false) × (sent ≡ false))
  ThenSent (Ok decided) old (Err e) new = HasSentOne old (Err e) new

  -- A turn of the controller's side: first both queues answer their driver, which leaves `source` and `sink`.
  pub record ControllerTurned (old : Controlling) (result : Result Progress ForwardError) (new : Controlling) : Type 0 where
    pub source : RxSource
    pub sink : TxSink
    pub receives : RxAnswered old.source source
    pub sends : TxAnswered old.sink sink
    pub offer : Result Bool ForwardError
    pub offered : HasOfferedOne source offer new.source
    pub sent : ThenSent offer sink result new.sink

  -- A turn of the driver's side: while both queues are enabled, the gate allowed both batches, or refused one of them.
  abbrev pub DriverTurned : {A : Type 0} → Phase → Result A ForwardError → Type 0
  DriverTurned (Forwarding made) (Ok x) = answers (Driver number) RxBatch true × answers (Driver number) TxBatch true
  DriverTurned phase (Ok x) = Unit {0}
  DriverTurned phase (Err e) = (e ≡ Gate) × (answers (Driver number) RxBatch false ⊎ answers (Driver number) TxBatch false)
