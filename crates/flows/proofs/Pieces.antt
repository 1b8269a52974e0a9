-- The pieces and the bytes of the frames that a receive controller stores.
use Rattle.std.proofs.Common.{◌≡◌, ◌∙◌, ◌⊎◌, inl, inr, ℕ, ◌+◌, ◌*◌, ◌≤◌, false, List, [], ◌∷◌, ◌++◌, length, map, ap, sym, refl, subst, arith, append-nil}
use Rattle.std.specs.Prelude.{Ok, flat_map, sum_by}
use Rattle.std.proofs.lemmas.Bool.{false≢true}
use Rattle.std.proofs.lemmas.List.{map-append}
use Rattle.std.proofs.lemmas.List.Sums.{sum_by-append}
use Rattle.std.proofs.lemmas.Grind.{flat_map-append}
use Rattle.limits.specs.declared.profile.TheConstants.{MOST_FRAME}
use Rattle.ring_model.specs.shared.Frames.{Bytes, Piece, cut, frames}
use Rattle.ring_model.specs.shared.Segments.{Segment, piece_of}
use Rattle.rx_ring.specs.Records.{RxControlled}
use Rattle.rx_ring.specs.Ends.{ControllerSide, stored}
use Rattle.controller.specs.declared.offer.Offer.{Offer}
use Rattle.controller.specs.declared.offer.Offer.TheVariants.{Stored, Dropped, Oversize, Held, Off}
use Rattle.controller.specs.Receiving.{Receiving, needed, Offered, KnewRoom, FoundRoom, frames_by}
use Rattle.flows.specs.Outputs.{AreCut}
use Rattle.flows.specs.Served.{bytes_by, decides}

-- a load of the tail stores nothing
stored-ready : (old ready : ControllerSide) (count : ℕ) → KnewRoom old count ready ⊎ FoundRoom old count ready → stored ready ≡ stored old
stored-ready old ready count (inl knew) = ap stored knew.same
stored-ready old ready count (inr found) = ap (λ (x : RxControlled). x.completed) found.looked.same

module _ (b : ℕ) (old new : List (Segment Bytes)) (was : AreCut b old) where
  still-cut : new ≡ old → AreCut b new
  still-cut same = subst (AreCut b) (sym same) was

  -- more segments, which are the pieces of one frame
  more-cut : (more : List (Segment Bytes)) (f : Bytes) → new ≡ old ++ more → map piece_of more ≡ cut b f → frames piece_of new ≡ frames piece_of old ++ f ∷ [] → AreCut b new
  more-cut more f grew pieces framed =
      ap (map piece_of) grew ∙ map-append piece_of old more
      ∙ ap (λ (l : List Piece). l ++ map piece_of more) was ∙ ap (λ (l : List Piece). flat_map (cut b) (frames piece_of old) ++ l) (pieces ∙ sym (append-nil (cut b f)))
      ∙ sym (ap (flat_map (cut b)) framed ∙ flat_map-append (cut b) (frames piece_of old) (f ∷ []))

pub offers-cut : (old new : Receiving) (f : Bytes) (offer : Offer) → Offered old f (Ok offer) new → frames piece_of (stored new.end) ≡ frames piece_of (stored old.end) ++ frames_by (Ok offer) f
    → AreCut old.bsize (stored old.end) → AreCut old.bsize (stored new.end)
offers-cut old new f Stored w framed was =
    more-cut old.bsize (stored old.end) (stored new.end) was w.frame.segments f
    (ap (λ (x : RxControlled). x.completed) w.frame.grew ∙ ap (λ (l : List (Segment Bytes)). l ++ w.frame.segments) (stored-ready old.end w.ready (needed old f) w.room)) w.frame.pieces framed
offers-cut old new f Dropped w framed was = still-cut old.bsize (stored old.end) (stored new.end) was (ap (λ (x : RxControlled). x.completed) w.scarce.tail.looked.same)
offers-cut old new f Oversize w framed was = still-cut old.bsize (stored old.end) (stored new.end) was (ap (λ (r : Receiving). stored r.end) w.same)
offers-cut old new f Held w framed was = still-cut old.bsize (stored old.end) (stored new.end) was (ap (λ (x : RxControlled). x.completed) w.scarce.tail.looked.same)
offers-cut old new f Off w framed was = still-cut old.bsize (stored old.end) (stored new.end) was (ap (λ (r : Receiving). stored r.end) w.same)

bytes-of : (f : Bytes) (offer : Offer) → sum_by length (frames_by (Ok offer) f) ≡ bytes_by offer (length f)
bytes-of f Stored = let same : 0 + length f ≡ length f = omega arith in same
bytes-of f Dropped = refl
bytes-of f Oversize = refl
bytes-of f Held = refl
bytes-of f Off = refl

pub offers-bytes : (before after : List Bytes) (f : Bytes) (offer : Offer) (n : ℕ) → after ≡ before ++ frames_by (Ok offer) f → n ≡ sum_by length before → n + bytes_by offer (length f) ≡ sum_by length after
offers-bytes before after f offer n more is =
    let summed = sum_by-append length before (frames_by (Ok offer) f) in let own = bytes-of f offer in
    let total = ap (sum_by length) more in omega (arith, summed, own, total, is)

pub undecided-bytes : (before after : List Bytes) (f : Bytes) (offer : Offer) (n : ℕ) → after ≡ before ++ frames_by (Ok offer) f → n ≡ sum_by length before → decides offer ≡ false → n ≡ sum_by length after
undecided-bytes before after f Stored n more is undone = absurd (false≢true (sym undone))
undecided-bytes before after f Dropped n more is undone = absurd (false≢true (sym undone))
undecided-bytes before after f Oversize n more is undone = absurd (false≢true (sym undone))
undecided-bytes before after f Held n more is undone = is ∙ sym (ap (sum_by length) (more ∙ append-nil before))
undecided-bytes before after f Off n more is undone = is ∙ sym (ap (sum_by length) (more ∙ append-nil before))

few-by : (f : Bytes) (offer : Offer) → length f ≤ MOST_FRAME → bytes_by offer (length f) ≤ MOST_FRAME
few-by f Stored few = few
few-by f Dropped few = omega arith
few-by f Oversize few = omega arith
few-by f Held few = omega arith
few-by f Off few = omega arith

few-frame : (old new : Receiving) (f : Bytes) (offer : Offer) → Offered old f (Ok offer) new → length f ≤ MOST_FRAME
few-frame old new f Stored w = w.lawful.1
few-frame old new f Dropped w = w.scarce.lawful.1
few-frame old new f Oversize w = w.lawful.1
few-frame old new f Held w = w.scarce.lawful.1
few-frame old new f Off w = w.lawful.1

pub offers-few : (old new : Receiving) (f : Bytes) (offer : Offer) (n next : ℕ) → Offered old f (Ok offer) new → n ≤ MOST_FRAME * next → n + bytes_by offer (length f) ≤ MOST_FRAME * (next + 1)
offers-few old new f offer n next w few = let own = few-by f offer (few-frame old new f offer w) in omega (arith, own, few)
