-- What a whole batch did.
use Rattle.std.proofs.Common.{◌≡◌, ◌∙◌, ℕ, ◌+◌, ◌<◌, ◌≤◌, true, false, List, [], ◌∷◌, ◌++◌, length, map, drop, sym, refl, ap, subst, arith, append-nil, length-append, inl, inr, ⊎_elim}
use Rattle.std.proofs.lemmas.Bool.{false≢true}
use Rattle.std.proofs.lemmas.List.{append_cancel_left}
use Rattle.std.proofs.lemmas.List.Elements.{All-nil}
use Rattle.buffer_pool.specs.Buffer.{Buffer}
use Rattle.ring_model.specs.shared.Segments.{Segment, piece_of}
use Rattle.ring_model.specs.shared.Frames.{Bytes, frames}
use Rattle.ring_model.specs.shared.Handshakes.{is_open}
use Rattle.shared_ring.specs.declared.events.DriverEvent.TheVariants as driver
use Rattle.rx_ring.specs.Records.{RxDriven, Knowing}
use Rattle.rx_ring.specs.Ends.{DriverSide, driver_size, driver_record, driver_state, posted, taken, known_of, saw_quiet, is_drained, driver_grown, fill_place}
use Rattle.driver.specs.receive.Chains.{going_on, IsTaken}
use Rattle.driver.specs.receive.Exchanges.{Polls, PolledAll, Exchanges, IsFilled, Published}
use Rattle.driver.specs.receive.Batches.{Hands, at, itself, GrewBy, Filled, Polled, Stopped, batch_of, Batched}
use Rattle.driver.proofs.receive.Growing.{out-same, grew-trans, grew-filled, filled-none}

-- the storing of the tail leaves the lists
pub grew-published : (d new : DriverSide) (chain : List Buffer) (stash : List ℕ) (list : List (List Buffer)) (tail published : ℕ) → new ≡ driver_grown d (driver.Published tail)
    → driver_record new ≡ record (driver_record d) { published = published } → known_of new ≡ known_of d → GrewBy (at d chain stash list) (at new chain stash list)
grew-published d new chain stash list tail published step did known = record {
  own = ap (λ (x : DriverSide). x.table) step;
  segments = [];
  numbers = [];
  packets = [];
  took = ap (λ (x : RxDriven). x.reaped) did ∙ sym (append-nil (taken d));
  posts = ap (λ (x : RxDriven). x.posted) did ∙ sym (append-nil (posted d));
  appended = sym (append-nil list);
  stash = refl;
  chained = append-nil (going_on chain);
  framed = ap (λ (x : RxDriven). frames piece_of x.reaped) did ∙ sym (append-nil (frames piece_of (taken d)));
  lawful = All-nil (IsTaken (driver_size d));
  shut = λ e. refl;
  none_back = ap (λ (x : RxDriven). x.reclaimed) did;
  out = out-same d new (ap (λ (x : RxDriven). map itself (drop (length x.reaped + x.reclaimed) x.posted)) did);
  state = ap (λ (x : RxDriven). x.state) did;
  head = ap (λ (k : Knowing). k.head) known;
  quiet = ap (λ (k : Knowing). k.quiet) known;
  drained = λ e. ap (λ (k : Knowing). k.drained) known ∙ e;
}

module _ (batch most count : ℕ) (old polled : Hands) (h : Polled old count polled) (few : count ≤ batch) (stopped : Stopped batch most count polled.list old.end polled.end)
    (all : PolledAll (batch_of batch most old.list) old.end old.stash polled.end polled.stash) where
  -- where the queue was seen quiet, and nothing but want of segments stopped polling
  drained_then : saw_quiet old.end ≡ true → ¬ (count ≡ batch) → ¬ (length polled.list ≡ most) → is_drained polled.end ≡ true
  drained_then quiet short room = ⊎_elim (λ e. absurd (short e)) (λ r. ⊎_elim (λ e. absurd (room e)) (λ s. s.drained quiet) r) stopped

  module _ (filled : DriverSide) (has : List ℕ) (f : Filled polled.end polled.stash filled has) (full : is_open (driver_state old.end) ≡ true → IsFilled filled has) where
    grew : GrewBy old (at filled polled.chain has polled.list)
    grew = grew-trans old polled (at filled polled.chain has polled.list) h.grew (grew-filled polled.end filled polled.stash has polled.chain polled.list f)

    -- the segments that polling took are those by which the lists grew
    same_segments : (new : DriverSide) (segments : List (Segment Bytes)) → taken new ≡ taken polled.end → taken new ≡ taken old.end ++ segments → all.segments ≡ segments
    same_segments new segments same took = append_cancel_left (taken old.end) all.segments segments (sym all.took ∙ (sym same ∙ took))

    abbrev steps-then : (new : DriverSide) (segments : List (Segment Bytes)) → taken new ≡ taken polled.end → taken new ≡ taken old.end ++ segments → Published old.end filled new
        → Exchanges (batch_of batch most old.list) segments old.end old.stash new has
    steps-then new segments same took tail = record {
      polled = polled.end;
      rest = polled.stash;
      polls = subst (λ (l : List (Segment Bytes)). Polls (batch_of batch most old.list) l old.end old.stash polled.end polled.stash) (same_segments new segments same took) all.polls;
      filled = filled;
      more = f.numbers;
      fills = f.fills;
      stash = f.stash;
      full = full;
      shut = λ e. f.shut (ap is_open h.grew.state ∙ e);
      tail = tail;
    }

    -- something was posted, and the tail stored
    pub batched-published : (new : DriverSide) → length has < length old.stash → new ≡ driver_grown filled (driver.Published (fill_place filled))
        → driver_record new ≡ record (driver_record filled) { published = length (posted filled) } → known_of new ≡ known_of filled → Batched batch most count old (at new polled.chain has polled.list)
    batched-published new fewer step did known = let all = grew-trans old (at filled polled.chain has polled.list) (at new polled.chain has polled.list) grew
        (grew-published filled new polled.chain has polled.list (fill_place filled) (length (posted filled)) step did known) in
        let a = ap length grew.stash ∙ length-append grew.numbers has in let b = ap length grew.posts ∙ length-append (posted old.end) grew.numbers in
        let tail : Published old.end filled new = inr (omega arith, step, ap (λ (x : RxDriven). x.published) did ∙ sym (ap (λ (x : RxDriven). length x.posted) did)) in record {
          grew = all;
          count_is = h.count_is;
          few = few;
          steps = steps-then new all.segments (ap (λ (x : RxDriven). x.reaped) did ∙ ap (λ (x : RxDriven). x.reaped) f.did) all.took tail;
          polling = h.runs;
          stopped = stopped;
          filling = f.runs;
          drained = λ quiet short room. ap (λ (k : Knowing). k.drained) (known ∙ f.known) ∙ drained_then quiet short room;
        }

    -- nothing was posted
    pub batched-unpublished : length old.stash ≤ length has → Batched batch most count old (at filled polled.chain has polled.list)
    batched-unpublished fewer = let a = ap length grew.stash ∙ length-append grew.numbers has in
        let tail : Published old.end filled filled = inl (grew.posts ∙ (ap (λ (l : List ℕ). posted old.end ++ l) (none grew.numbers (omega arith)) ∙ append-nil (posted old.end)), refl, ap (λ (x : RxDriven). x.published) f.did ∙ h.unpublished) in record {
          grew = grew;
          count_is = h.count_is;
          few = few;
          steps = steps-then filled grew.segments (ap (λ (x : RxDriven). x.reaped) f.did) grew.took tail;
          polling = h.runs;
          stopped = stopped;
          filling = f.runs;
          drained = λ quiet short room. ap (λ (k : Knowing). k.drained) f.known ∙ drained_then quiet short room;
        }
      where
        none : (l : List ℕ) → length l ≡ 0 → l ≡ []
        none [] e = refl
        none (x ∷ l) e = absurd (omega arith)

  -- nothing can be posted
  pub batched-shut : is_open (driver_state polled.end) ≡ false → Batched batch most count old polled
  batched-shut shut = let was : is_open (driver_state old.end) ≡ false = sym (ap is_open h.grew.state) ∙ shut in let none = h.grew.shut was in
      batched-unpublished polled.end polled.stash (filled-none polled.end polled.stash) (λ e. absurd (false≢true (sym was ∙ e)))
      (let same = ap length h.grew.stash ∙ ap (λ (l : List ℕ). length (l ++ polled.stash)) none in omega arith)
