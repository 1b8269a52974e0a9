-- The frame that a transmit device has at hand.
use Rattle.std.proofs.Common.{◌≡◌, ◌∙◌, ◌≤◌, List, [], ◌∷◌, ◌++◌, length, ap, arith, subst, sym}
use Rattle.std.specs.Prelude.{Some, slice_get}
use Rattle.std.proofs.lemmas.Option.{none-some, same_Some}
use Rattle.ring_model.specs.shared.Frames.{Bytes, frames}
use Rattle.ring_model.specs.transmit.Ring.{carried}
use Rattle.tx_ring.specs.Ends.{ControllerSide, sent}
use Rattle.controller.specs.Transmitting.{WasSent}
use Rattle.poll82599_c.specs.batches.Transmitting.{SentWhole}

-- a wire of at most one frame is its first frame
pub only_frame : (wire : List Bytes) (frame : Bytes) → length wire ≤ 1 → slice_get wire 0 ≡ Some frame → wire ≡ frame ∷ []
only_frame [] frame few first = absurd (none-some frame first)
only_frame (f ∷ []) frame few first = ap (λ (x : Bytes). x ∷ []) (same_Some f frame first)
only_frame (f ∷ g ∷ rest) frame few first = absurd (omega (arith, few))

-- an empty wire on which a frame was sent has one
pub one_frame : (old mid : ControllerSide) (wire now : List Bytes) → wire ≡ [] → WasSent old wire mid now → length now ≡ 1
one_frame old mid wire now none was = ap length (was.on_wire ∙ ap (λ (w : List Bytes). w ++ was.frame ∷ []) none)

-- and that frame was sent whole
pub sent_whole : (old mid : ControllerSide) (wire now : List Bytes) (frame : Bytes) → wire ≡ [] → WasSent old wire mid now → now ≡ frame ∷ [] → SentWhole frame old mid
sent_whole old mid wire now frame none was one =
    let same : was.frame ∷ [] ≡ frame ∷ [] = sym (ap (λ (w : List Bytes). w ++ was.frame ∷ []) none) ∙ (sym was.on_wire ∙ one) in
    record {
      was = subst (λ (w : List Bytes). WasSent old w mid (frame ∷ [])) none (subst (λ (w : List Bytes). WasSent old wire mid w) one was);
      frames_are = was.went.frames_are ∙ (ap (λ r. frames carried r.completed ++ was.frame ∷ []) was.looked.same ∙ ap (λ (l : List Bytes). frames carried (sent old) ++ l) same);
    }
