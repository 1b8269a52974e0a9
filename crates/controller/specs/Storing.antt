-- Storing a frame: the effects of the parts of an offer on the end alone.
use Rattle.std.specs.Prelude.{◌≡◌, ℕ, ◌<◌, ◌≤◌, ◌⊎◌, true, false, length}
use Rattle.ring_model.specs.shared.Frames.{Bytes, piece_count}
use Rattle.rx_ring.specs.Ends.{ControllerSide, controller_size}
use Rattle.controller.specs.declared.offer.Offer.{Offer}
use Rattle.controller.specs.declared.offer.Offer.TheVariants.{Off, Oversize, Stored}
use Rattle.controller.specs.Receiving.{may_store, KnewRoom, FoundRoom, FoundNoRoom, StoredFrame}

-- The end is off.
pub record FoundOff (old : ControllerSide) (offer : Offer) (new : ControllerSide) : Type 0 where
  pub answer : offer ≡ Off
  pub off : may_store old ≡ false
  pub same : new ≡ old

-- The frame needs too many descriptors.
pub record FoundOversize (old : ControllerSide) (b : ℕ) (f : Bytes) (offer : Offer) (new : ControllerSide) : Type 0 where
  pub answer : offer ≡ Oversize
  pub on : may_store old ≡ true
  pub many : controller_size old ≤ piece_count b (length f)
  pub same : new ≡ old

-- Too few descriptors are free.
pub record FoundScarce (scarce : Offer) (old : ControllerSide) (b : ℕ) (f : Bytes) (offer : Offer) (new : ControllerSide) : Type 0 where
  pub answer : offer ≡ scarce
  pub on : may_store old ≡ true
  pub fits : piece_count b (length f) < controller_size old
  pub tail : FoundNoRoom old (piece_count b (length f)) new

-- The frame is stored.
pub record DidStore (old : ControllerSide) (b : ℕ) (f : Bytes) (offer : Offer) (new : ControllerSide) : Type 0 where
  pub answer : offer ≡ Stored
  pub on : may_store old ≡ true
  pub fits : piece_count b (length f) < controller_size old
  pub ready : ControllerSide
  pub room : KnewRoom old (piece_count b (length f)) ready ⊎ FoundRoom old (piece_count b (length f)) ready
  pub frame : StoredFrame b f ready new

abbrev pub Decided : Offer → ControllerSide → ℕ → Bytes → Offer → ControllerSide → Type 0
Decided scarce old b f offer new = FoundOff old offer new ⊎ FoundOversize old b f offer new ⊎ FoundScarce scarce old b f offer new ⊎ DidStore old b f offer new
