-- Cleaning: what each of its steps makes, and where it ends.
use Rattle.std.proofs.Common.{◌≡◌, ℕ, ◌+◌, ◌-◌, ◌<◌, ◌≤◌, inl, inr, ⊎_elim, Bool, true, false, List, [], ◌∷◌, ◌++◌, length, map, drop, Option, None, Some, ap, sym, refl, ◌∙◌, subst, append_assoc, append-nil, length-append, arith}
use Rattle.std.specs.Prelude.{reverse, slice_get}
use Rattle.std.proofs.lemmas.Bool.{false≢true}
use Rattle.std.proofs.lemmas.List.{reverse-append}
use Rattle.buffer_pool.specs.Buffer.{Buffer}
use Rattle.buffer_pool.specs.declared.stash.TheConstants.{STASH_BUFFERS}
use Rattle.ring_model.specs.transmit.Ring.{number_of_posting}
use Rattle.ring_laws.specs.Rings.{first_report-above}
use Rattle.shared_ring.specs.declared.events.DriverEvent.TheVariants.{Own}
use Rattle.tx_ring.specs.declared.events.TxDriverOwn.TheVariants.{NoReport, SawReport, Cleaned}
use Rattle.tx_ring.specs.Calls.{CleanedOne, SawReported, SawUnreported, Polled}
use Rattle.tx_ring.specs.Ends.{DriverSide, driver_size, driver_record, driver_state, posted, cleaned, reclaimed, returned, known_of, seen_reported, outstanding, next_place, driver_grown}
use Rattle.tx_ring.specs.Plays.{report_word}
use Rattle.tx_ring.specs.Records.{DriverStep, Knowing, Posting, TxDriven, seen_after}
use Rattle.shared_ring.proofs.Posting.{known-after}
use Rattle.tx_ring.proofs.Reported.{first_report-asks}
use Rattle.driver.specs.Reclaiming.{out_of}
use Rattle.driver.specs.transmit.Going.{WentOn, is_clean, is_cleaning, with_cleaned}
use Rattle.driver.specs.transmit.Cleaning.{CleanedBy, CleanedOff, CleanedUp, Cleans, FilledUp, FoundNone, FoundOne}
use Rattle.driver.specs.transmit.Batches.{CleanedInto, CleanedAll, FoundNoMore}
use Rattle.driver.proofs.Running.{runs-one}
use Rattle.driver.proofs.Returning.{from_item}
use Rattle.driver.proofs.transmit.Going.{stood, and_on, same_lists, with_lists, went-more, with_cleaned-append}

-- B8 is a step of cleaning
clean-cleaning : (e : DriverStep) → is_clean e ≡ true → is_cleaning e ≡ true
clean-cleaning (Own (Cleaned place buf)) is = refl
clean-cleaning e is = absurd (false≢true is)

-- Into a stash
module _ {kinds : DriverStep → Bool} where
  pub into_none : (d : DriverSide) (stash : List ℕ) → CleanedBy kinds d stash d stash
  into_none d stash = record { numbers = []; went = stood d; out = refl; stashed = refl }

  pub into_more : {a b c : DriverSide} {s t u : List ℕ} → CleanedBy kinds a s b t → CleanedBy kinds b t c u → CleanedBy kinds a s c u
  into_more {a} {b} {c} {s} {t} {u} p q = record {
    numbers = p.numbers ++ q.numbers;
    went = and_on p.went q.went;
    out = p.out ∙ (ap (λ ns. p.numbers ++ ns) q.out ∙ sym (append_assoc p.numbers q.numbers (out_of number_of_posting c)));
    stashed = q.stashed ∙ ap (λ ns. reverse q.numbers ++ ns) p.stashed ∙ sym (append_assoc (reverse q.numbers) (reverse p.numbers) s) ∙ ap (λ ns. ns ++ s) (sym (reverse-append p.numbers q.numbers));
  }

  pub into_state : {a b : DriverSide} {s t : List ℕ} → CleanedBy kinds a s b t → driver_state b ≡ driver_state a
  into_state p = ap (λ (x : TxDriven). x.state) p.went.did

  pub into_reclaimed : {a b : DriverSide} {s t : List ℕ} → CleanedBy kinds a s b t → reclaimed b ≡ reclaimed a
  into_reclaimed p = ap (λ (x : TxDriven). x.reclaimed) p.went.did

  pub same_posted : {a b : DriverSide} {s t : List ℕ} → CleanedBy kinds a s b t → length (posted b) ≡ length (posted a)
  same_posted {a} {b} p = ap (λ (x : TxDriven). length x.posted) p.went.did ∙ ap length (append-nil (posted a))

pub into_wider : {a b : DriverSide} {s t : List ℕ} → CleanedBy is_clean a s b t → CleanedInto a s b t
into_wider p = record { numbers = p.numbers; went = went-more clean-cleaning p.went; out = p.out; stashed = p.stashed }

-- Exactly the oldest, one after another
pub off_none : (d : DriverSide) → CleanedOff d d
off_none d = record { items = []; oldest = refl; steps = refl }

abbrev pub off_one : (old new : DriverSide) (buf : Buffer) → reclaimed old ≡ 0 → CleanedOne old buf new → CleanedOff old new
off_one old new buf none_back one = record {
  items = one.item ∷ [];
  oldest = from_item (posted old) (returned old) one.item item-is
      ∙ (ap (λ (k : ℕ). one.item ∷ drop k (posted old)) after
      ∙ ap (λ (x : TxDriven). one.item ∷ drop (returned new) x.posted) (sym one.same));
  steps = one.step ∙ ap (λ (b : Buffer). driver_grown old (Own (Cleaned (next_place old) b))) one.is;
}
  where
    before : returned old ≡ length (cleaned old)
    before = omega (arith, none_back)

    after : returned old + 1 ≡ returned new
    after = let e = ap (λ (x : TxDriven). length x.reaped + x.reclaimed) one.same in let f = length-append (cleaned old) (buf.number ∷ []) in omega arith

    item-is : slice_get (posted old) (returned old) ≡ Some one.item
    item-is = ap (slice_get (posted old)) before ∙ one.there

pub off_more : {a b c : DriverSide} → CleanedOff a b → CleanedOff b c → CleanedOff a c
off_more {a} {b} {c} p q = record {
  items = p.items ++ q.items;
  oldest = p.oldest ∙ ap (λ (l : List Posting). p.items ++ l) q.oldest ∙ sym (append_assoc p.items q.items (drop (returned c) (posted c)));
  steps = q.steps ∙ ap (with_cleaned q.items) p.steps ∙ sym (with_cleaned-append p.items q.items a);
}

-- a buffer is cleaned, and put into the stash
pub into_one : (old new : DriverSide) (buf : Buffer) (s t : List ℕ) → reclaimed old ≡ 0 → CleanedOne old buf new → t ≡ buf.number ∷ s → CleanedBy is_clean old s new t
into_one old new buf s t none_back one put = record {
  numbers = buf.number ∷ [];
  went = record {
    runs = runs-one is_clean old new (Own (Cleaned (next_place old) buf)) one.step refl;
    did = one.same ∙ with_lists (driver_record old) (posted old) (posted old ++ []) (cleaned old ++ buf.number ∷ []) (cleaned old ++ buf.number ∷ []) (sym (append-nil (posted old))) refl;
    head = ap (λ (k : Knowing). k.head) one.known;
  };
  out = let f = off_one old new buf none_back one in ap (map number_of_posting) f.oldest ∙ ap (λ (k : ℕ). k ∷ out_of number_of_posting new) (sym (ap (λ (b : Buffer). b.number) one.is));
  stashed = put;
}

-- a load that shows no report
pub found_none : (old new : DriverSide) → SawUnreported old new → WentOn is_cleaning old [] [] new
found_none old new saw = let l = saw.looked in record {
  runs = runs-one is_cleaning old new (Own (NoReport (report_word (driver_size old) old.completion l.item) l.word)) (l.nothing refl) refl;
  did = saw.same ∙ same_lists (driver_record old);
  head = ap (λ (k : Knowing). k.head) saw.known;
}

-- a load that shows a report: fewer postings are not seen reported
seen_head : (k : Knowing) (o : Option ℕ) → (seen_after k o).head ≡ k.head
seen_head k None = refl
seen_head k (Some j) = refl

pub found_one : (old new : DriverSide) → SawReported old new → WentOn is_cleaning old [] [] new
found_one old new saw = let l = saw.looked in let e = Own (SawReport (report_word (driver_size old) old.completion l.item) l.word) in record {
  runs = runs-one is_cleaning old new e (l.report refl) refl;
  did = saw.same ∙ same_lists (driver_record old);
  head = ap (λ (k : Knowing). k.head) (known-after old new e (l.report refl)) ∙ seen_head (known_of old) (outstanding old);
}

pub more_seen : (old new : DriverSide) → SawReported old new → seen_reported old < seen_reported new
more_seen old new saw =
    let l = saw.looked in
    let seen = saw.seen in
    let above : seen_reported old ≤ l.item = first_report-above (posted old) (seen_reported old) (length (posted old) - seen_reported old) l.item l.oldest in
    omega (arith, seen, above)

pub fewer_unseen : (old new : DriverSide) → SawReported old new → length (posted new) - seen_reported new < length (posted old) - seen_reported old
fewer_unseen old new saw =
    let l = saw.looked in
    let same = ap (λ (x : TxDriven). length x.posted) saw.same in
    let seen = saw.seen in
    let more = more_seen old new saw in
    let below = (first_report-asks (posted old) (seen_reported old) (length (posted old) - seen_reported old) l.item l.oldest).0 in
    omega (arith, same, seen, more, below)

-- steps by which nothing is cleaned
pub into_after : {a b c : DriverSide} {s t : List ℕ} → CleanedInto a s b t → WentOn is_cleaning b [] [] c → CleanedInto a s c t
into_after {a} {b} {c} {s} {t} p went = into_more p (record { numbers = []; went = went; out = same_out; stashed = refl })
  where
    same_out : out_of number_of_posting b ≡ out_of number_of_posting c
    same_out = ap (λ (x : TxDriven). map number_of_posting (drop (length x.reaped + x.reclaimed) x.posted)) (sym (went.did ∙ sym (same_lists (driver_record b))))

-- Where cleaning ends
module _ {old a b : DriverSide} {had s t : List ℕ} (into : CleanedInto old had a s) (up : CleanedUp a s b t) (goes : (new : DriverSide) (has : List ℕ) → Cleans a s new has → Cleans old had new has) (seen : seen_reported old ≤ seen_reported a) where
  up_to : CleanedInto old had b t
  up_to = into_more into (into_wider up.into)

  up_seen : seen_reported old ≤ seen_reported b
  up_seen = let e = ap (λ (k : Knowing). k.seen) up.known in omega (arith, seen, e)

  pub ends_full : length t ≡ STASH_BUFFERS → CleanedAll old had b t
  ends_full full = record { into = up_to; steps = goes b t (FilledUp up full); ends = inl full; state = into_state up_to; none_back = into_reclaimed up_to; seen = up_seen }

  module _ (room : length t < STASH_BUFFERS) where
    all : length (cleaned b) ≡ seen_reported b
    all = ⊎_elim (λ full. absurd (omega (arith, full, room))) (λ e. e) up.all

    found_no_more : (c : DriverSide) → Polled b false c → FoundNoMore old c
    found_no_more c none = record { last = b; numbers = up_to.numbers; went = up_to.went; all = all; none = none }

    pub ends_short : (c : DriverSide) → Polled b false c → CleanedAll old had c t
    ends_short c (inl saw) =
        let after = into_after up_to (found_none b c saw) in
        record { into = after; steps = goes c t (FoundNone up room (inl saw)); ends = inr (found_no_more c (inl saw)); state = into_state after; none_back = into_reclaimed after; seen = (let e = ap (λ (k : Knowing). k.seen) saw.known in omega (arith, up_seen, e)) }
    ends_short c (inr none) =
        let after = subst (λ (d : DriverSide). CleanedInto old had d t) (sym none.same) up_to in
        record { into = after; steps = goes c t (FoundNone up room (inr none)); ends = inr (found_no_more c (inr none)); state = into_state after; none_back = into_reclaimed after; seen = (let e = ap (λ (d : DriverSide). seen_reported d) none.same in omega (arith, up_seen, e)) }

  -- one more report is seen, and cleaning goes on
  pub goes_on : (c : DriverSide) → length t < STASH_BUFFERS → SawReported b c → (new : DriverSide) (has : List ℕ) → Cleans c t new has → Cleans old had new has
  goes_on c room saw new has rest = goes new has (FoundOne up room saw rest)
