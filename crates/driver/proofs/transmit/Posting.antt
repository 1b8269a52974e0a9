-- Posting a frame, segment by segment.
use Rattle.std.proofs.Common.{◌≡◌, ℕ, ◌+◌, ◌<◌, ◌≤◌, Bool, true, false, List, [], ◌∷◌, ◌++◌, length, Some, ap, sym, refl, ◌∙◌, subst, append_assoc, append-nil, arith, length-append, ⊎_elim}
use Rattle.std.specs.Prelude.{All, slice_get}
use Rattle.std.proofs.lemmas.Bool.{false≢true}
use Rattle.std.proofs.lemmas.Option.{none-some}
use Rattle.std.proofs.lemmas.List.Elements.{All-head, All-tail}
use Rattle.buffer_pool.specs.Buffer.{Buffer, buffer}
use Rattle.buffer_pool.specs.Packed.{IsPacket, bytes_of}
use Rattle.limits.specs.declared.profile.TheConstants.{BUFFER_BYTES}
use Rattle.ring_model.specs.shared.Frames.{ends_frame, join, unfinished}
use Rattle.ring_model.specs.transmit.Agreement.{tx_word}
use Rattle.ring_model.specs.transmit.Frames.{MayFollow}
use Rattle.ring_model.specs.transmit.Ring.{are_whole, carried, ends_posting}
use Rattle.ring_laws.specs.Lists.{slice_get-snoc}
use Rattle.ring_laws.specs.Frames.{unfinished-snoc, length-join-snoc}
use Rattle.shared_ring.specs.declared.events.DriverEvent.TheVariants.{Posted}
use Rattle.tx_ring.specs.Calls.{item_of}
use Rattle.tx_ring.specs.Ends.{DriverSide, driver_size, driver_record, posted, cleaned, returned, known_of, fill_place, driver_grown}
use Rattle.tx_ring.specs.Records.{Posting, TxDriven, Knowing}
use Rattle.tx_ring.specs.Rule.{filled, word_of}
use Rattle.driver.specs.Steps.{is_post}
use Rattle.driver.specs.transmit.Frames.{postings_of}
use Rattle.driver.specs.transmit.Going.{PostedAll, with_posted}
use Rattle.driver.proofs.Running.{runs-one}
use Rattle.driver.proofs.transmit.Going.{none_posted_on, posted_on, with_lists}

-- One posting more
pub posted_one : (old new : DriverSide) (x : Posting) → new ≡ with_posted (x ∷ []) old → driver_record new ≡ record (driver_record old) { posted = posted old ++ x ∷ [] } → known_of new ≡ known_of old
    → PostedAll old (x ∷ []) new
posted_one old new x step same known = record {
  steps = step;
  went = record {
    runs = runs-one is_post old new (Posted (fill_place old) (word_of x) (filled x)) step refl;
    did = same ∙ with_lists (driver_record old) (posted old ++ x ∷ []) (posted old ++ x ∷ []) (cleaned old) (cleaned old ++ []) refl (sym (append-nil (cleaned old)));
    head = ap (λ (k : Knowing). k.head) known;
  };
}

-- a call that posts a buffer makes the posting of its contents
pub as_posted : (old : DriverSide) (b : Buffer) (new : DriverSide) (eop rs : Bool) (paylen : ℕ) → b ≡ buffer b.number b.bytes → new ≡ driver_grown old (Posted (fill_place old) (tx_word (length b.bytes) eop rs paylen) b)
    → new ≡ with_posted (item_of b eop rs paylen ∷ []) old
as_posted old b new eop rs paylen real step = step ∙ ap (λ (x : Buffer). driver_grown old (Posted (fill_place old) (tx_word (length b.bytes) eop rs paylen) x)) real

-- A frame of which the segments `rest` are not posted yet
pub record FrameBegun (paylen : ℕ) (rs : Bool) (packet : List Buffer) (old : DriverSide) (rest : List Buffer) (now : DriverSide) : Type 0 where
  pub begun : List Posting
  pub went : PostedAll old begun now
  pub unfinished_is : unfinished carried (posted now) ≡ begun
  pub all : begun ++ postings_of paylen rs rest ≡ postings_of paylen rs packet
  pub count : length begun + length rest ≡ length packet
  pub bytes : length (join carried begun) + length (bytes_of rest) ≡ paylen
  pub same_frame : (k : ℕ) (q : Posting) → slice_get begun k ≡ Some q → q.paylen ≡ paylen
  pub none_empty : All (λ b. 0 < length b.bytes) rest

pub begun_none : (paylen : ℕ) (rs : Bool) (packet : List Buffer) (old : DriverSide) → paylen ≡ length (bytes_of packet) → IsPacket packet → unfinished carried (posted old) ≡ [] → FrameBegun paylen rs packet old packet old
begun_none paylen rs packet old paylen_is whole none = record {
  begun = [];
  went = none_posted_on old;
  unfinished_is = none;
  all = refl;
  count = omega arith;
  bytes = omega (arith, paylen_is);
  same_frame = λ k q e. absurd (none-some q e);
  none_empty = whole.none_empty;
}

module _ {paylen : ℕ} {rs : Bool} {packet : List Buffer} {old now : DriverSide} where
  -- how many are posted then
  pub begun_posted : {rest : List Buffer} (h : FrameBegun paylen rs packet old rest now) → length (posted now) + length rest ≡ length (posted old) + length packet
  begun_posted h = let e = ap (λ (x : TxDriven). length x.posted) h.went.did in let c = h.count in omega (arith, e, c, length-append {A = Posting})

  pub begun_returned : {rest : List Buffer} (h : FrameBegun paylen rs packet old rest now) → returned now ≡ returned old
  begun_returned h = ap (λ (x : TxDriven). length x.reaped + x.reclaimed) h.went.did ∙ ap (λ l. length l + (driver_record old).reclaimed) (append-nil (cleaned old))

  module _ (n : ℕ) (whole : IsPacket packet) (paylen_is : paylen ≡ length (bytes_of packet)) (short : length packet < n) (b : Buffer) (few : length b.bytes ≤ BUFFER_BYTES) where
    may_go_on : (c : Buffer) (bs : List Buffer) (h : FrameBegun paylen rs packet old (b ∷ c ∷ bs) now) → MayFollow n h.begun (item_of b false false paylen)
    may_go_on c bs h =
        let count = h.count in
        let bytes = h.bytes in
        let split = length-append b.bytes (bytes_of (c ∷ bs)) in
        let segments = whole.few_segments in
        let most = whole.few_bytes in
        let least = whole.some_bytes in
        record {
          follows = record {
            some_bytes = All-head (λ (x : Buffer). 0 < length x.bytes) b (c ∷ bs) h.none_empty;
            few_bytes = few;
            segments = omega arith;
            descriptors = omega arith;
            most = omega arith;
            least = λ e. absurd (false≢true e);
          };
          asks_at_end = λ e. e;
          long_enough = omega arith;
          short_enough = omega arith;
          same_frame = h.same_frame;
          within = omega arith;
          whole = λ e. absurd (false≢true e);
        }

    may_end : (h : FrameBegun paylen rs packet old (b ∷ []) now) → MayFollow n h.begun (item_of b true rs paylen)
    may_end h =
        let count = h.count in
        let bytes = h.bytes in
        let split = length-append b.bytes [] in
        let segments = whole.few_segments in
        let most = whole.few_bytes in
        let least = whole.some_bytes in
        record {
          follows = record {
            some_bytes = All-head (λ (x : Buffer). 0 < length x.bytes) b [] h.none_empty;
            few_bytes = few;
            segments = omega arith;
            descriptors = omega arith;
            most = omega arith;
            least = λ e. omega arith;
          };
          asks_at_end = λ e. refl;
          long_enough = omega arith;
          short_enough = omega arith;
          same_frame = h.same_frame;
          within = omega arith;
          whole = λ e. omega arith;
        }

  -- the next is posted
  pub begun_more : (b c : Buffer) (bs : List Buffer) (new : DriverSide) → FrameBegun paylen rs packet old (b ∷ c ∷ bs) now
      → new ≡ with_posted (item_of b false false paylen ∷ []) now → driver_record new ≡ record (driver_record now) { posted = posted now ++ item_of b false false paylen ∷ [] } → known_of new ≡ known_of now
      → FrameBegun paylen rs packet old (c ∷ bs) new
  begun_more b c bs new h step same known =
      let x = item_of b false false paylen in
      let count = h.count in
      let bytes = h.bytes in
      let longer = length-append h.begun (x ∷ []) in
      let joined = length-join-snoc carried h.begun x in
      let split = length-append b.bytes (bytes_of (c ∷ bs)) in
      record {
        begun = h.begun ++ x ∷ [];
        went = posted_on h.went (posted_one now new x step same known);
        unfinished_is = ap (λ (r : TxDriven). unfinished carried r.posted) same ∙ unfinished-snoc carried (posted now) x ∙ ap (λ (l : List Posting). l ++ x ∷ []) h.unfinished_is;
        all = append_assoc h.begun (x ∷ []) (postings_of paylen rs (c ∷ bs)) ∙ h.all;
        count = omega arith;
        bytes = omega arith;
        same_frame = λ k q e. ⊎_elim (λ a. h.same_frame k q a.1) (λ f. ap (λ (r : Posting). r.paylen) (sym f.1)) (slice_get-snoc h.begun x q k e);
        none_empty = All-tail (λ (r : Buffer). 0 < length r.bytes) b (c ∷ bs) h.none_empty;
      }

  -- the last is posted, and ends the frame
  pub begun_last : (b : Buffer) (new : DriverSide) → FrameBegun paylen rs packet old (b ∷ []) now
      → new ≡ with_posted (item_of b true rs paylen ∷ []) now → driver_record new ≡ record (driver_record now) { posted = posted now ++ item_of b true rs paylen ∷ [] } → known_of new ≡ known_of now
      → PostedAll old (postings_of paylen rs packet) new
  begun_last b new h step same known =
      subst (λ (xs : List Posting). PostedAll old xs new) h.all (posted_on h.went (posted_one now new (item_of b true rs paylen) step same known))

-- The same of a packet from which the first buffer was taken
module _ {paylen : ℕ} {rs : Bool} {packet : List Buffer} {old now : DriverSide} (b : Buffer) where
  module _ (whole : IsPacket packet) (paylen_is : paylen ≡ length (bytes_of packet)) (short : length packet < driver_size now) (few : length b.bytes ≤ BUFFER_BYTES) where
    pub next_follows : (rest after : List Buffer) → rest ≡ b ∷ after → 0 < length after → FrameBegun paylen rs packet old rest now
        → MayFollow (driver_size now) (unfinished carried (posted now)) (item_of b false false paylen)
    next_follows rest [] is more h = absurd (omega (arith, more))
    next_follows rest (c ∷ bs) is more h =
        let g = subst (λ (l : List Buffer). FrameBegun paylen rs packet old l now) is h in
        subst (λ (l : List Posting). MayFollow (driver_size now) l (item_of b false false paylen)) (sym g.unfinished_is) (may_go_on (driver_size now) whole paylen_is short b few c bs g)

    pub last_follows : (rest after : List Buffer) → rest ≡ b ∷ after → length after ≡ 0 → FrameBegun paylen rs packet old rest now
        → MayFollow (driver_size now) (unfinished carried (posted now)) (item_of b true rs paylen)
    last_follows rest [] is none h =
        let g = subst (λ (l : List Buffer). FrameBegun paylen rs packet old l now) is h in
        subst (λ (l : List Posting). MayFollow (driver_size now) l (item_of b true rs paylen)) (sym g.unfinished_is) (may_end (driver_size now) whole paylen_is short b few g)
    last_follows rest (c ∷ bs) is none h = absurd (omega (arith, none))

  module _ (new : DriverSide) (known : known_of new ≡ known_of now) where
    pub next_posted : (rest after : List Buffer) → rest ≡ b ∷ after → 0 < length after → FrameBegun paylen rs packet old rest now → new ≡ with_posted (item_of b false false paylen ∷ []) now
        → driver_record new ≡ record (driver_record now) { posted = posted now ++ item_of b false false paylen ∷ [] } → FrameBegun paylen rs packet old after new
    next_posted rest [] is more h step same = absurd (omega (arith, more))
    next_posted rest (c ∷ bs) is more h step same = begun_more b c bs new (subst (λ (l : List Buffer). FrameBegun paylen rs packet old l now) is h) step same known

    pub last_posted : (rest after : List Buffer) → rest ≡ b ∷ after → length after ≡ 0 → FrameBegun paylen rs packet old rest now → new ≡ with_posted (item_of b true rs paylen ∷ []) now
        → driver_record new ≡ record (driver_record now) { posted = posted now ++ item_of b true rs paylen ∷ [] } → PostedAll old (postings_of paylen rs packet) new
    last_posted rest [] is none h step same = begun_last b new (subst (λ (l : List Buffer). FrameBegun paylen rs packet old l now) is h) step same known
    last_posted rest (c ∷ bs) is none h step same = absurd (omega (arith, none))

-- the last of some postings tells whether they end a frame
ends-snoc : (whole : Bool) (xs : List Posting) (x : Posting) → ends_frame ends_posting whole (xs ++ x ∷ []) ≡ x.eop
ends-snoc whole [] x = refl
ends-snoc whole (y ∷ xs) x = ends-snoc y.eop xs x

pub whole_after : (xs : List Posting) (x : Posting) → x.eop ≡ true → are_whole (xs ++ x ∷ []) ≡ true
whole_after xs x ends = ends-snoc true xs x ∙ ends
