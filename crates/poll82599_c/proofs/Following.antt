-- A frame that is begun grows by a segment, and what the counts allow may follow.
use Rattle.std.proofs.Common.{◌≡◌, ℕ, ◌+◌, Bool, true, false, List, [], ◌∷◌, ◌++◌, length, Some, slice_get, sym, ap, ◌∙◌, subst, arith, length-append, if◌then◌else◌, ⊎_elim}
use Rattle.std.proofs.lemmas.Option.{none-some}
use Rattle.ring_model.specs.shared.Frames.{Bytes, Piece, ends_frame, join, unfinished, Follows}
use Rattle.ring_model.specs.transmit.Ring.{carried}
use Rattle.ring_model.specs.transmit.Frames.{MayFollow}
use Rattle.ring_laws.specs.Frames.{length-join-snoc, unfinished-snoc, unfinished-whole}
use Rattle.ring_laws.specs.Lists.{slice_get-snoc}
use Rattle.tx_ring.specs.Records.{Posting}
use Rattle.poll82599_c.specs.rings.Following.{IsBegun, CanFollow, CanPost, IsPosting}
use Rattle.poll82599_c.specs.declared.rings.partial_frame.PartialFrame.{PartialFrame}

module _ {X : Type 0} (carries : X → Piece) where
  -- nothing is begun
  pub begun_none : (xs : List X) (b : PartialFrame) → unfinished carries xs ≡ [] → b.segments ≡ 0 → b.bytes ≡ 0 → IsBegun carries xs b
  begun_none xs b none segments bytes = record {
    segments_are = ap (length {A = X}) none ∙ sym segments;
    bytes_are = ap (λ (l : List X). length (join carries l)) none ∙ sym bytes;
  }

  -- one more segment, which does not end the frame
  pub begun_more : (xs : List X) (x : X) (b after : PartialFrame) → IsBegun carries xs b → (carries x).eop ≡ false
      → after.segments ≡ b.segments + 1 → after.bytes ≡ b.bytes + length (carries x).bytes → IsBegun carries (xs ++ x ∷ []) after
  begun_more xs x b after h goes_on segments bytes =
      let more : unfinished carries (xs ++ x ∷ []) ≡ unfinished carries xs ++ x ∷ [] = unfinished-snoc carries xs x ∙ ap (λ (e : Bool). if e then [] else unfinished carries xs ++ x ∷ []) goes_on in
      let s = h.segments_are in
      let t = h.bytes_are in
      let joined = length-join-snoc carries (unfinished carries xs) x in
      let longer = length-append (unfinished carries xs) (x ∷ []) in
      record {
        segments_are = ap (length {A = X}) more ∙ omega (arith, s, longer, segments);
        bytes_are = ap (λ (l : List X). length (join carries l)) more ∙ omega (arith, t, joined, bytes);
      }

  -- what the counts allow may follow
  pub begun_follows : (n : ℕ) (xs : List X) (b : PartialFrame) (bytes : Bytes) (eop : Bool) → IsBegun carries xs b → CanFollow n b (length bytes) eop
      → Follows carries n (unfinished carries xs) bytes eop
  begun_follows n xs b bytes eop h can =
      let s = h.segments_are in
      let t = h.bytes_are in
      let few = can.segments in
      let places = can.descriptors in
      let most = can.most in
      record {
        some_bytes = can.some_bytes;
        few_bytes = can.few_bytes;
        segments = rw s few;
        descriptors = rw s places;
        most = rw t most;
        least = λ e. let l = can.least e in rw t l;
      }

  -- a segment with EOP leaves nothing begun
  pub ended_whole : (xs : List X) (x : X) → (carries x).eop ≡ true → ends_frame (λ (y : X). (carries y).eop) true (xs ++ x ∷ []) ≡ true
  ended_whole xs x ends = unfinished-whole carries (xs ++ x ∷ [])
      (unfinished-snoc carries xs x ∙ ap (λ (e : Bool). if e then [] else unfinished carries xs ++ x ∷ []) ends)

-- nothing of a frame is posted
pub posting_none : (ps : List Posting) (b : PartialFrame) (paylen : ℕ) → unfinished carried ps ≡ [] → b.segments ≡ 0 → b.bytes ≡ 0 → IsPosting ps b paylen
posting_none ps b paylen none segments bytes = record {
  counts = begun_none carried ps b none segments bytes;
  same = λ k q e. absurd (none-some q (subst (λ (l : List Posting). slice_get l k ≡ Some q) none e));
}

-- one more posting, which does not end the frame
pub posting_more : (ps : List Posting) (p : Posting) (b after : PartialFrame) (paylen : ℕ) → IsPosting ps b paylen → p.eop ≡ false → p.paylen ≡ paylen
    → after.segments ≡ b.segments + 1 → after.bytes ≡ b.bytes + length p.payload → IsPosting (ps ++ p ∷ []) after paylen
posting_more ps p b after paylen h goes_on is segments bytes =
    let more : unfinished carried (ps ++ p ∷ []) ≡ unfinished carried ps ++ p ∷ [] = unfinished-snoc carried ps p ∙ ap (λ (e : Bool). if e then [] else unfinished carried ps ++ p ∷ []) goes_on in
    record {
      counts = begun_more carried ps p b after h.counts goes_on segments bytes;
      same = λ k q e. ⊎_elim (λ a. h.same k q a.1) (λ f. ap (λ (r : Posting). r.paylen) (sym f.1) ∙ is)
          (slice_get-snoc (unfinished carried ps) p q k (subst (λ (l : List Posting). slice_get l k ≡ Some q) more e));
    }

-- what the counts and the lengths allow may be posted
pub posting_follows : (n : ℕ) (ps : List Posting) (b : PartialFrame) (paylen : ℕ) (p : Posting) → IsPosting ps b paylen → CanPost n b (length p.payload) p.eop p.rs p.paylen
    → p.paylen ≡ paylen → MayFollow n (unfinished carried ps) p
posting_follows n ps b paylen p h can is =
    let t = h.counts.bytes_are in
    let within = can.within in
    record {
      follows = begun_follows carried n ps b p.payload p.eop h.counts can.follow;
      asks_at_end = can.asks_at_end;
      long_enough = can.long_enough;
      short_enough = can.short_enough;
      same_frame = λ k q e. h.same k q e ∙ sym is;
      within = rw t within;
      whole = λ e. let l = can.whole e in rw t l;
    }
