-- What a controller's object keeps as it stores, and what a storing amounts to.
use Rattle.std.proofs.Common.{◌≡◌, ℕ, ◌+◌, Bool, true, false, List, [], ◌∷◌, ◌++◌, length, sym, ap, ◌∙◌, subst, inl, inr}
use Rattle.std.proofs.lemmas.Bool.{false≢true}
use Rattle.atomic_table.specs.Seated.{TableId}
use Rattle.ring_model.specs.shared.Frames.{Bytes, ends_frame}
use Rattle.ring_model.specs.shared.Segments.{Segment, piece_of}
use Rattle.rx_ring.specs.Calls.{FoundFree}
use Rattle.rx_ring.specs.Ends.{ControllerSide, stored}
use Rattle.rx_ring.specs.Records.{RxControlled}
use Rattle.poll82599_c.specs.rings.Following.{IsBegun}
use Rattle.poll82599_c.specs.rings.RxEnds.{IsServing, StoredOne, WroteOne}
use Rattle.poll82599_c.specs.declared.rings.partial_frame.PartialFrame.{PartialFrame}
use Rattle.poll82599_c.proofs.Following.{begun_more, ended_whole}

-- a frame is ended
pub serving_ended : (ring : TableId) (old new : ControllerSide) (s : Segment Bytes) (after : PartialFrame) → new.table ≡ ring → stored new ≡ stored old ++ s ∷ [] → s.eop ≡ true
    → IsServing ring new after
serving_ended ring old new s after own grew ends = record {
  own = own;
  begun_is = λ e. absurd (false≢true (sym e ∙ (ap (λ (l : List (Segment Bytes)). ends_frame (λ (y : Segment Bytes). (piece_of y).eop) true l) grew ∙ ended_whole piece_of (stored old) s ends)));
}

-- a frame goes on
pub serving_on : (ring : TableId) (old new : ControllerSide) (s : Segment Bytes) (begun after : PartialFrame) → new.table ≡ ring → stored new ≡ stored old ++ s ∷ [] → s.eop ≡ false
    → IsBegun piece_of (stored old) begun → after.segments ≡ begun.segments + 1 → after.bytes ≡ begun.bytes + length s.payload → IsServing ring new after
serving_on ring old new s begun after own grew goes_on h segments bytes = record {
  own = own;
  begun_is = λ e. subst (λ (l : List (Segment Bytes)). IsBegun piece_of l after) (sym grew) (begun_more piece_of (stored old) s begun after h goes_on segments bytes);
}

-- a descriptor was known to be free
pub stored_known : (bytes : Bytes) (eop : Bool) (old ready new : ControllerSide) → ready ≡ old → WroteOne bytes eop ready new → StoredOne bytes eop old new
stored_known bytes eop old ready new same w = record {
  ready = ready;
  knew = inl same;
  wrote = w;
  grew = w.grew ∙ ap (λ (c : ControllerSide). stored c ++ record { number = w.number; payload = bytes; eop = eop } ∷ []) same;
}

-- a load of the tail showed one
pub stored_found : (bytes : Bytes) (eop : Bool) (old ready new : ControllerSide) (free : ℕ) → FoundFree old free ready → WroteOne bytes eop ready new → StoredOne bytes eop old new
stored_found bytes eop old ready new free looked w = record {
  ready = ready;
  knew = inr (free, looked);
  wrote = w;
  grew = w.grew ∙ ap (λ (x : RxControlled). x.completed ++ record { number = w.number; payload = bytes; eop = eop } ∷ []) looked.same;
}
