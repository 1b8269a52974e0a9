-- A batch: packets posted from the front after cleaning.
use Rattle.std.proofs.Common.{◌≡◌, ℕ, zero, suc, ◌+◌, ◌-◌, ◌%◌, ◌<◌, ◌≤◌, Bool, true, List, [], ◌∷◌, ◌++◌, length, map, take, drop, ap, sym, refl, ◌∙◌, subst, append_assoc, append-nil, length-append, arith}
use Rattle.std.specs.Prelude.{◌==◌, ◌||◌}
use Rattle.std.proofs.lemmas.Bool.{false≢true}
use Rattle.std.proofs.lemmas.List.{drop-append-le, map-append}
use Rattle.buffer_pool.specs.Buffer.{Buffer}
use Rattle.buffer_pool.specs.Packed.{bytes_of}
use Rattle.ring_model.specs.shared.Handshakes.{is_on}
use Rattle.ring_model.specs.transmit.Ring.{number_of_posting}
use Rattle.shared_ring.specs.declared.events.DriverEvent.TheVariants.{Published}
use Rattle.tx_ring.specs.Ends.{DriverSide, driver_size, driver_record, posted, cleaned, reclaimed, returned, driver_state, known_of, fill_place, driver_grown}
use Rattle.tx_ring.specs.Records.{Posting, TxDriven}
use Rattle.shared_ring.proofs.Posting.{record-after}
use Rattle.driver.specs.Reclaiming.{out_of}
use Rattle.driver.specs.transmit.Batches.{Batched, CleanedAll, PostedFront, published_after}
use Rattle.driver.specs.transmit.Frames.{postings_of, frame_of, frames_of, numbers_in, is_none, segment_count, NeedsMore}
use Rattle.driver.specs.transmit.Going.{PostedAll}
use Rattle.driver.specs.transmit.Transmitter.{room_of, sending}
use Rattle.driver.proofs.transmit.Fronts.{postings_of-length}
use Rattle.driver.proofs.transmit.Going.{runs-known}

frames_of-length : (every count : ℕ) (ps : List (List Buffer)) → length (frames_of every count ps) ≡ segment_count ps
frames_of-length every count [] = refl
frames_of-length every count (p ∷ ps) =
    let rest = frames_of-length every (count + 1) ps in
    let rs = (count + 1) % every == 0 || is_none ps in
    let first = postings_of-length (length (bytes_of p)) rs p in
    length-append (frame_of rs p) (frames_of every (count + 1) ps) ∙ (let e : length (frame_of rs p) + length (frames_of every (count + 1) ps) ≡ length p + segment_count ps = omega (arith, rest, first) in e)

-- the numbers of what is posted are those of the packets' buffers
numbers_of_frame : (paylen : ℕ) (rs : Bool) (packet : List Buffer) → map number_of_posting (postings_of paylen rs packet) ≡ map (λ b. b.number) packet
numbers_of_frame paylen rs [] = refl
numbers_of_frame paylen rs (b ∷ []) = refl
numbers_of_frame paylen rs (b ∷ c ∷ bs) = ap (λ (l : List ℕ). b.number ∷ l) (numbers_of_frame paylen rs (c ∷ bs))

numbers_posted : (every count : ℕ) (ps : List (List Buffer)) → map number_of_posting (frames_of every count ps) ≡ numbers_in ps
numbers_posted every count [] = refl
numbers_posted every count (p ∷ ps) =
    let rs = (count + 1) % every == 0 || is_none ps in
    let rest = frames_of every (count + 1) ps in
    map-append number_of_posting (frame_of rs p) rest
    ∙ (ap (λ (l : List ℕ). l ++ map number_of_posting rest) (numbers_of_frame (length (bytes_of p)) rs p)
    ∙ ap (λ (l : List ℕ). map (λ b. b.number) p ++ l) (numbers_posted every (count + 1) ps))

module _ (every before : ℕ) (had : List (List Buffer)) (old new : DriverSide) (has : List (List Buffer)) (room : ℕ) where
  room_left : (count : ℕ) (filled : DriverSide) → PostedAll old (frames_of every before (take count had)) filled → new ≡ driver_grown filled (Published (fill_place filled))
      → driver_record new ≡ record (driver_record filled) { published = length (posted filled) } → room + length (posted old) + 1 ≡ driver_size old + returned old
      → room_of new ≡ room - segment_count (take count had)
  room_left count filled went step same room_is =
      let size = ap driver_size step ∙ ap driver_size went.runs.step in
      let more = ap (λ (x : TxDriven). length x.posted) same ∙ ap (λ (x : TxDriven). length x.posted) went.did in
      let longer = length-append (posted old) (frames_of every before (take count had)) in
      let segments = frames_of-length every before (take count had) in
      let back = ap (λ (x : TxDriven). length x.reaped + x.reclaimed) same ∙ ap (λ (x : TxDriven). length x.reaped + x.reclaimed) went.did ∙ ap (λ l. length l + (driver_record old).reclaimed) (append-nil (cleaned old)) in
      omega (arith, size, more, longer, segments, back, room_is)

  module _ (most : room < driver_size old) (room_is : room + length (posted old) + 1 ≡ driver_size old + returned old) where
    few_back : returned old ≤ length (posted old)
    few_back = omega (arith, most, room_is)

    more_out : (count : ℕ) (filled : DriverSide) → PostedAll old (frames_of every before (take count had)) filled → driver_record new ≡ record (driver_record filled) { published = length (posted filled) }
        → out_of number_of_posting new ≡ out_of number_of_posting old ++ numbers_in (take count had)
    more_out count filled went same =
        let fr = frames_of every before (take count had) in
        ap (λ (x : TxDriven). map number_of_posting (drop (length x.reaped + x.reclaimed) x.posted)) (same ∙ ap (λ (x : TxDriven). record x { published = length (posted filled) }) went.did)
        ∙ (ap (λ l. map number_of_posting (drop (length l + reclaimed old) (posted old ++ fr))) (append-nil (cleaned old))
        ∙ (ap (map number_of_posting) (drop-append-le (returned old) (posted old) fr few_back)
        ∙ (map-append number_of_posting (drop (returned old) (posted old)) fr
        ∙ ap (λ l. out_of number_of_posting old ++ l) (numbers_posted every before (take count had)))))

  pub posted_front : (count : ℕ) (filled : DriverSide) → ¬ (count ≡ 0) → PostedAll old (frames_of every before (take count had)) filled → new ≡ driver_grown filled (Published (fill_place filled))
      → driver_record new ≡ record (driver_record filled) { published = length (posted filled) } → room + length (posted old) + 1 ≡ driver_size old + returned old
      → count ≤ length had → has ≡ drop count had → is_on (driver_state old) ≡ true → NeedsMore (room - segment_count (take count had)) (drop count had)
      → room < driver_size old → known_of new ≡ known_of filled → PostedFront every before count old had new has
  posted_front zero filled some went step same room_is few left on stays most known = absurd (some refl)
  posted_front (suc k) filled some went step same room_is few left on stays most known = record {
    filled = filled;
    posting = went;
    out = more_out most room_is (suc k) filled went same;
    known = known ∙ runs-known old filled went.runs;
    publishing = step;
    shown = λ _. ap (λ (x : TxDriven). x.published) same ∙ sym (ap (λ (x : TxDriven). length x.posted) same);
    few = few;
    left = left;
    none = λ off. absurd (false≢true (sym off ∙ on));
    stays = λ _. subst (λ (ps : List (List Buffer)). NeedsMore (room_of new) ps) (sym left) (subst (λ (n : ℕ). NeedsMore n (drop (suc k) had)) (sym (room_left (suc k) filled went step same room_is)) stays);
  }

-- publishing leaves all of the record but how much is published
after : {Y : Type 0} (of : TxDriven → Y) → ((x : TxDriven) (k : ℕ) → of (record x { published = k }) ≡ of x) → (count : ℕ) (d : DriverSide) → of (driver_record (published_after count d)) ≡ of (driver_record d)
after of same zero d = refl
after of same (suc k) d = ap of (record-after d (driver_grown d (Published (fill_place d))) (Published (fill_place d)) refl) ∙ same (driver_record d) (length (posted d))

pub batched : (count every frames frames' : ℕ) (old between new : DriverSide) (had has : List ℕ) (ps qs : List (List Buffer)) → CleanedAll old had between has → PostedFront every frames count between ps new qs → frames' ≡ (frames + count) % every
    → Batched count (sending (record { end = old; every = every; frames = frames }) had ps) (sending (record { end = new; every = every; frames = frames' }) has qs)
batched count every frames frames' old between new had has ps qs cleaning posting counts =
    let fr = frames_of every frames (take count ps) in
    let on = ap (λ (x : TxDriven). is_on x.state) cleaning.went.did in
    record {
      asked = λ off. posting.none (on ∙ off);
      stays = λ is. posting.stays (on ∙ is);
      between = between;
      cleaning = cleaning;
      posting = posting;
      posts = ap posted posting.publishing ∙ after (λ x. x.posted) (λ x k. refl) count posting.filled ∙ ap (λ (x : TxDriven). x.posted) posting.posting.did
          ∙ ap (λ (l : List Posting). l ++ fr) (ap (λ (x : TxDriven). x.posted) cleaning.went.did ∙ append-nil (posted old));
      out = ap (λ (l : List ℕ). l ++ numbers_in (take count ps)) cleaning.out
          ∙ (append_assoc cleaning.numbers (out_of number_of_posting between) (numbers_in (take count ps))
          ∙ ap (λ (l : List ℕ). cleaning.numbers ++ l) (sym posting.out));
      state = ap driver_state posting.publishing ∙ (after (λ x. x.state) (λ x k. refl) count posting.filled ∙ (ap (λ (x : TxDriven). x.state) posting.posting.did ∙ cleaning.state));
      none_back = ap reclaimed posting.publishing ∙ (after (λ x. x.reclaimed) (λ x k. refl) count posting.filled ∙ (ap (λ (x : TxDriven). x.reclaimed) posting.posting.did ∙ cleaning.none_back));
      known = posting.known;
      cleans = ap cleaned posting.publishing ∙ after (λ x. x.reaped) (λ x k. refl) count posting.filled ∙ ap (λ (x : TxDriven). x.reaped) posting.posting.did
          ∙ append-nil (cleaned between) ∙ ap (λ (x : TxDriven). x.reaped) cleaning.went.did;
      counted = ap (λ (n : ℕ). record { end = new; every = every; frames = n }) counts;
    }
