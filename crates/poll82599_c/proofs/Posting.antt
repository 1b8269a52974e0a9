-- What a driver's object keeps as it posts.
use Rattle.std.proofs.Common.{◌≡◌, ℕ, ◌+◌, true, false, List, [], ◌∷◌, ◌++◌, length, sym, ap, ◌∙◌, subst}
use Rattle.std.proofs.lemmas.Bool.{false≢true}
use Rattle.atomic_table.specs.Seated.{TableId}
use Rattle.ring_model.specs.transmit.Ring.{are_whole, carried}
use Rattle.tx_ring.specs.Ends.{DriverSide, posted}
use Rattle.tx_ring.specs.Records.{Posting}
use Rattle.poll82599_c.specs.rings.Following.{IsPosting}
use Rattle.poll82599_c.specs.rings.TxEnds.{IsDriving}
use Rattle.poll82599_c.specs.declared.rings.partial_frame.PartialFrame.{PartialFrame}
use Rattle.poll82599_c.proofs.Following.{ended_whole, posting_more}

-- a frame is ended
pub driving_ended : (ring : TableId) (old new : DriverSide) (p : Posting) (after : PartialFrame) (paylen : ℕ) → new.table ≡ ring → posted new ≡ posted old ++ p ∷ [] → p.eop ≡ true
    → IsDriving ring new after paylen
driving_ended ring old new p after paylen own grew ends = record {
  own = own;
  begun_is = λ e. absurd (false≢true (sym e ∙ (ap (λ (l : List Posting). are_whole l) grew ∙ ended_whole carried (posted old) p ends)));
}

-- a frame goes on
pub driving_on : (ring : TableId) (old new : DriverSide) (p : Posting) (begun after : PartialFrame) (paylen : ℕ) → new.table ≡ ring → posted new ≡ posted old ++ p ∷ [] → p.eop ≡ false
    → p.paylen ≡ paylen → IsPosting (posted old) begun paylen → after.segments ≡ begun.segments + 1 → after.bytes ≡ begun.bytes + length p.payload → IsDriving ring new after paylen
driving_on ring old new p begun after paylen own grew goes_on is h segments bytes = record {
  own = own;
  begun_is = λ e. subst (λ (l : List Posting). IsPosting l after paylen) (sym grew) (posting_more (posted old) p begun after paylen h goes_on is segments bytes);
}
