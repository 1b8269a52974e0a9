-- A controller's turn, from its two halves.
use Rattle.std.proofs.Common.{◌≡◌, inr, ℕ, Bool, true, false, refl}
use Rattle.std.specs.Prelude.{Some, Ok, Err, slice_get}
use Rattle.refusals.specs.declared.errors.ForwardError.{ForwardError}
use Rattle.teams.specs.declared.flow.Progress.{Progress}
use Rattle.teams.specs.declared.flow.Progress.TheVariants.{Idle}
use Rattle.teams.specs.declared.gate.Who.{Who}
use Rattle.teams.specs.declared.gate.Who.TheVariants.{Controller}
use Rattle.teams.specs.declared.gate.Event.{Event}
use Rattle.teams.specs.declared.gate.Event.TheVariants.{Offer as OfferEvent}
use Rattle.ring_model.specs.shared.Frames.{Bytes}
use Rattle.controller.specs.declared.offer.Offer.{Offer}
use Rattle.controller.specs.Receiving.{Offered}
use Rattle.flows.specs.Served.{RxSource, TxSink, decides}
use Rattle.flows.specs.Sides.{Controlling}
use Rattle.flows.specs.Turns.{ControllerTurned, HasOfferedOne, HasSentOne, RxAnswered, TxAnswered}

-- the next frame was offered
pub offers-next : (answers : Who → Event → Bool → Type 0) (number : ℕ) (old new : RxSource) (frame : Bytes) (offer : Offer) (decided : Bool) → answers (Controller number) OfferEvent true
    → slice_get old.input.frames old.next ≡ Some frame → Offered old.controller frame (Ok offer) new.controller → decided ≡ decides offer → HasOfferedOne answers number old (Ok decided) new
offers-next answers number old new frame offer decided allowed next offered is =
    inr (inr (record { allowed = allowed; frame = frame; next = next; offer = offer; offered = offered; is_decided = is }))

module _ (answers : Who → Event → Bool → Type 0) (number : ℕ) (old : Controlling) (source : RxSource) (sink : TxSink) (new : Controlling) (receives : RxAnswered old.source source) (sends : TxAnswered old.sink sink) where
  -- the offer is refused, and nothing is sent
  pub unoffered : (e : ForwardError) → HasOfferedOne answers number source (Err e) new.source → new.sink ≡ sink → ControllerTurned answers number old (Err e) new
  unoffered e offered same = record { source = source; sink = sink; receives = receives; sends = sends; offer = Err e; offered = offered; sent = (refl, same) }

  -- the sending is refused
  pub unsent : (decided : Bool) (e : ForwardError) → HasOfferedOne answers number source (Ok decided) new.source → HasSentOne answers number sink (Err e) new.sink
      → ControllerTurned answers number old (Err e) new
  unsent decided e offered sent = record { source = source; sink = sink; receives = receives; sends = sends; offer = Ok decided; offered = offered; sent = sent }

  -- neither is
  pub turned : (decided sent : Bool) (progress : Progress) → HasOfferedOne answers number source (Ok decided) new.source → HasSentOne answers number sink (Ok sent) new.sink
      → (progress ≡ Idle → (decided ≡ false) × (sent ≡ false)) → ControllerTurned answers number old (Ok progress) new
  turned decided sent progress offered goes idle = record { source = source; sink = sink; receives = receives; sends = sends; offer = Ok decided; offered = offered; sent = (sent, goes, idle) }
