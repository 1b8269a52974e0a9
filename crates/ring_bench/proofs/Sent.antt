-- What the records of a transmit ring's two ends amount to, from their making on.
use Rattle.std.proofs.Common.{◌≡◌, ◌∙◌, ⊎_elim, ℕ, zero, suc, ◌+◌, ◌-◌, ◌<◌, ◌≤◌, Bool, true, false, List, [], ◌∷◌, ◌++◌, length, map, drop, Some, ap, sym, subst, refl, arith, append_assoc, append-nil, length-append, if◌then◌else◌}
use Rattle.std.specs.Prelude.{◌&&◌, replicate, slice_get, IsPermutation}
use Rattle.std.specs.List.{range_with_len}
use Rattle.std.proofs.lemmas.Bool.{false≢true}
use Rattle.std.proofs.lemmas.List.{length-map}
use Rattle.std.proofs.lemmas.List.Sorted.{IsPermutation-sym, IsPermutation-trans, IsPermutation-middle}
use Rattle.std.proofs.lemmas.Option.{same_Some, none-some, slice_get_within}
use Rattle.atomic_table.specs.Seated.{TableId}
use Rattle.buffer_pool.specs.Stocked.{Stocked, Shares, IsOut, with_number}
use Rattle.buffer_pool.proofs.Numbers.{IsOut-from_Shares}
use Rattle.limits.specs.RingLength.{IsRingLength}
use Rattle.ring_model.specs.shared.Frames.{Bytes, frames, unfinished}
use Rattle.ring_model.specs.shared.Handshakes.{is_live, is_open}
use Rattle.ring_model.specs.transmit.Frames.{MayFollow}
use Rattle.ring_model.specs.transmit.Lawful.{IsLawfulTxLedger}
use Rattle.ring_model.specs.transmit.Ring.{are_whole, carried, ends_posting, number_of_posting}
use Rattle.ring_laws.specs.Lists.{slice_get-snoc, beginning_whole}
use Rattle.tx_ring.specs.Calls.{Polled}
use Rattle.tx_ring.specs.Ends.{DriverSide, ControllerSide, driver_size, driver_record, driver_state, posted, cleaned, returned, sent, controller_state}
use Rattle.tx_ring.specs.Meeting.{ledger_of, sent_now}
use Rattle.tx_ring.specs.Records.{Posting, TxDriven}
use Rattle.ring_bench.specs.declared.tx.words.TxPlan.{TxPlan}
use Rattle.ring_bench.specs.Copies.{IsWhole, IsFrameLength}
use Rattle.ring_bench.specs.Fetching.{HasServed}
use Rattle.ring_bench.proofs.Handshakes.{serving_on}
use Rattle.ring_bench.specs.Sending.{Progress, HasPosted, CanPost, Supplies, IsUnderWay, OnlyCleaned, PostedAll, HasSent, AskAs, asks_after}
use Rattle.ring_bench.proofs.Copies.{all_end, copies, whole_after}

-- the numbers of the buffers that are out
abbrev pub numbers_out : ℕ → List Posting → List ℕ
numbers_out back ps = map number_of_posting (drop back ps)

numbers_out-snoc : (ps : List Posting) (p : Posting) (back : ℕ) → back ≤ length ps → numbers_out back (ps ++ p ∷ []) ≡ numbers_out back ps ++ p.number ∷ []
numbers_out-snoc [] p zero h = refl
numbers_out-snoc [] p (suc back) h = absurd (omega arith)
numbers_out-snoc (q ∷ ps) p zero h = ap (λ (l : List ℕ). q.number ∷ l) (numbers_out-snoc ps p zero (omega arith))
numbers_out-snoc (q ∷ ps) p (suc back) h = numbers_out-snoc ps p back (omega arith)

numbers_out-next : (ps : List Posting) (p : Posting) (back : ℕ) → slice_get ps back ≡ Some p → numbers_out back ps ≡ p.number ∷ numbers_out (suc back) ps
numbers_out-next [] p back e = absurd (none-some p e)
numbers_out-next (q ∷ ps) p zero e = ap (λ (r : Posting). r.number ∷ numbers_out zero ps) (same_Some q p e)
numbers_out-next (q ∷ ps) p (suc back) e = numbers_out-next ps p back e

-- a number in front of those that are out may as well stand behind them
shares-turned : (s : Stocked) (number : ℕ) (out : List ℕ) → Shares s (number ∷ out) → Shares s (out ++ number ∷ [])
shares-turned s number out h =
    let range : List ℕ = range_with_len s.first s.count in
    let before : List ℕ = s.numbers ++ number ∷ out in
    let middle : List ℕ = number ∷ (s.numbers ++ out) in
    let last : List ℕ = (s.numbers ++ out) ++ number ∷ [] in
    let front : IsPermutation before middle = IsPermutation-middle s.numbers number out in
    let turned : IsPermutation last middle = subst (λ (l : List ℕ). IsPermutation last (number ∷ l)) (append-nil (s.numbers ++ out)) (IsPermutation-middle (s.numbers ++ out) number []) in
    let moved = IsPermutation-trans range middle last (IsPermutation-trans range before middle h front) (IsPermutation-sym last middle turned) in
    subst (λ (l : List ℕ). IsPermutation range l) (append_assoc s.numbers out (number ∷ [])) moved

-- a buffer is taken out of the stock and posted
supplies-post : (stock left : Stocked) (n : ℕ) (x : TxDriven) (p : Posting) → Supplies stock n x → stock ≡ with_number left p.number
    → ((out : List ℕ) → Shares stock out → Shares left (p.number ∷ out)) → Supplies left n (record x { posted = x.posted ++ p ∷ [] })
supplies-post stock left n x p s took goes =
    let grew = length-append x.posted (p ∷ []) in
    let fewer : length stock.numbers ≡ length left.numbers + 1 = ap (λ (t : Stocked). length t.numbers) took ∙ omega arith in
    let few = s.few in let enough = s.enough in record {
      few = omega arith;
      shares = subst (Shares left) (sym (numbers_out-snoc x.posted p (length x.reaped) few)) (shares-turned left p.number (numbers_out (length x.reaped) x.posted) (goes (numbers_out (length x.reaped) x.posted) s.shares));
      enough = omega arith;
    }

-- the oldest that is out is cleaned, and its buffer given back to the stock
pub supplies-clean : (stock more : Stocked) (n : ℕ) (x : TxDriven) (p : Posting) → Supplies stock n x → slice_get x.posted (length x.reaped) ≡ Some p → more ≡ with_number stock p.number
    → ((out : List ℕ) → Shares stock (p.number ∷ out) → Shares more out) → Supplies more n (record x { reaped = x.reaped ++ p.number ∷ [] })
supplies-clean stock more n x p s there gave comes =
    let grew : length (x.reaped ++ p.number ∷ []) ≡ length x.reaped + 1 = length-append x.reaped (p.number ∷ []) in
    let next : length (x.reaped ++ p.number ∷ []) ≡ suc (length x.reaped) = omega arith in
    let fewer : length more.numbers ≡ length stock.numbers + 1 = ap (λ (t : Stocked). length t.numbers) gave ∙ omega arith in
    let within = slice_get_within x.posted (length x.reaped) p there in let enough = s.enough in record {
      few = omega arith;
      shares = subst (λ (back : ℕ). Shares more (numbers_out back x.posted)) (sym next) (comes (numbers_out (suc (length x.reaped)) x.posted) (subst (Shares stock) (numbers_out-next x.posted p (length x.reaped) there) s.shares));
      enough = omega arith;
    }

-- the buffer that is cleaned next belongs to the stock
pub out-next : (stock : Stocked) (n : ℕ) (x : TxDriven) (p : Posting) → Supplies stock n x → slice_get x.posted (length x.reaped) ≡ Some p → IsOut stock p.number
out-next stock n x p s there = IsOut-from_Shares stock p.number (numbers_out (suc (length x.reaped)) x.posted) (subst (Shares stock) (numbers_out-next x.posted p (length x.reaped) there) s.shares)

-- the frame is posted once more
posted-after : (plan : TxPlan) (frame : Bytes) (x : TxDriven) (p : Posting) → HasPosted plan frame x → IsWhole frame (carried p) → p.rs ≡ asks_after plan (length x.posted)
    → HasPosted plan frame (record x { posted = x.posted ++ p ∷ [] })
posted-after plan frame x p h whole asks = record {
  on = h.on;
  copies = whole_after carried frame x.posted (x.posted ++ p ∷ []) p h.copies whole refl;
  asks = λ k q e. ⊎_elim (λ a. h.asks k q a.1) (λ b. ap (λ (r : Posting). r.rs) (sym b.1) ∙ (asks ∙ ap (asks_after plan) (sym b.0))) (slice_get-snoc x.posted p q k e);
  none_reclaimed = h.none_reclaimed;
}

pub under_way-post : (ring : TableId) (frame : Bytes) (old new : DriverSide) (stock left : Stocked) (course next : Progress) (p : Posting)
    → IsUnderWay ring frame old stock course → IsWhole frame (carried p) → p.rs ≡ asks_after course.plan course.posted → next ≡ record course { posted = course.posted + 1 }
    → stock ≡ with_number left p.number → ((out : List ℕ) → Shares stock out → Shares left (p.number ∷ out))
    → new.table ≡ old.table → new.completion ≡ old.completion → driver_record new ≡ record (driver_record old) { posted = posted old ++ p ∷ [] }
    → IsUnderWay ring frame new left next
under_way-post ring frame old new stock left course next p run whole asks one took goes table way did =
    let can = run.can in
    let plan : next.plan ≡ course.plan = ap (λ (c : Progress). c.plan) one in
    let more = posted-after course.plan frame (driver_record old) p can.did whole (asks ∙ ap (asks_after course.plan) run.count_is) in
    let now : HasPosted course.plan frame (driver_record new) = subst (HasPosted course.plan frame) (sym did) more in
    let supplies = supplies-post stock left (driver_size old) (driver_record old) p run.supplies took goes in
    let grew = length-append (posted old) (p ∷ []) in
    let count : length (posted new) ≡ length (posted old) + 1 = ap (λ (x : TxDriven). length x.posted) did ∙ grew in record {
      can = subst (λ (pl : TxPlan). CanPost ring pl frame new) (sym plan) (record { own = table ∙ can.own; reports = way ∙ can.reports; did = now });
      supplies = subst (λ (n : ℕ). Supplies left n (driver_record new)) (sym (ap (λ (t : TableId). t.slots) table)) (subst (Supplies left (driver_size old)) (sym did) supplies);
      count_is = ap (λ (c : Progress). c.posted) one ∙ (ap (λ (k : ℕ). k + 1) run.count_is ∙ sym count);
    }

-- a whole frame in one buffer may be posted behind whole frames
pub frame_follows : (n : ℕ) (frame : Bytes) (ps : List Posting) (p : Posting) → IsRingLength n → IsFrameLength (length frame) → IsWhole frame (carried p) → p.paylen ≡ length frame
    → unfinished carried ps ≡ [] → MayFollow n (unfinished carried ps) p
frame_follows n frame ps p lawful len whole paylen none =
    let same : length p.payload ≡ length frame = ap (λ (b : Bytes). length b) whole.bytes in
    let size = lawful.0 in let least = len.0 in let most = len.1 in
    subst (λ (before : List Posting). MayFollow n before p) (sym none) (record {
      follows = record { some_bytes = omega arith; few_bytes = omega arith; segments = omega arith; descriptors = omega arith; most = omega arith; least = λ e. omega arith };
      asks_at_end = λ e. whole.last;
      long_enough = omega arith;
      short_enough = omega arith;
      same_frame = λ k q e. absurd (none-some q e);
      within = omega arith;
      whole = λ e. let all : 0 + length p.payload ≡ p.paylen = omega arith in all;
    })

-- a poll changes nothing but what is seen reported
polled-same : (old : DriverSide) (found : Bool) (new : DriverSide) → Polled old found new → (new.table ≡ old.table) × ((new.completion ≡ old.completion) × (driver_record new ≡ driver_record old))
polled-same old true new saw = let l = saw.looked in let s = l.report refl in (ap (λ d. d.table) s, (ap (λ d. d.completion) s, saw.same))
polled-same old false new saw = ⊎_elim
    (λ u. let l = u.looked in let s = l.nothing refl in (ap (λ d. d.table) s, (ap (λ d. d.completion) s, u.same)))
    (λ none. (ap (λ d. d.table) none.same, (ap (λ d. d.completion) none.same, ap driver_record none.same))) saw

pub polled-only : (old : DriverSide) (found : Bool) (new : DriverSide) → Polled old found new → OnlyCleaned old new
polled-only old found new saw = let s = polled-same old found new saw in
    record { one_ring = s.0; one_way = s.1.0; same = s.1.1 ∙ ap (λ (l : List ℕ). record (driver_record old) { reaped = l }) (sym (ap (λ (x : TxDriven). x.reaped) s.1.1)) }

pub polled-supplies : (old : DriverSide) (found : Bool) (new : DriverSide) (stock : Stocked) → Polled old found new → Supplies stock (driver_size old) (driver_record old)
    → Supplies stock (driver_size new) (driver_record new)
polled-supplies old found new stock saw supplies = let s = polled-same old found new saw in
    subst (λ (n : ℕ). Supplies stock n (driver_record new)) (sym (ap (λ (t : TableId). t.slots) s.0)) (subst (Supplies stock (driver_size old)) (sym s.1.1) supplies)

pub polled-live : (old : DriverSide) (found : Bool) (new : DriverSide) → Polled old found new → found ≡ true → is_live (driver_state new) ≡ true
polled-live old true new saw e = ap (λ (x : TxDriven). is_live x.state) saw.same ∙ saw.live
polled-live old false new saw e = absurd (false≢true e)

-- one more is cleaned
pub only_cleaned-next : (first old new : DriverSide) (numbers : List ℕ) → OnlyCleaned first old → new.table ≡ old.table → new.completion ≡ old.completion
    → driver_record new ≡ record (driver_record old) { reaped = numbers } → OnlyCleaned first new
only_cleaned-next first old new numbers only table way did =
    let now : cleaned new ≡ numbers = ap (λ (x : TxDriven). x.reaped) did in record {
      one_ring = table ∙ only.one_ring;
      one_way = way ∙ only.one_way;
      same = did ∙ (ap (λ (x : TxDriven). record x { reaped = numbers }) only.same ∙ ap (λ (l : List ℕ). record (driver_record first) { reaped = l }) (sym now));
    }

pub under_way-clean : (ring : TableId) (frame : Bytes) (old new : DriverSide) (stock more : Stocked) (course : Progress) → IsUnderWay ring frame old stock course → OnlyCleaned old new
    → Supplies more (driver_size new) (driver_record new) → IsUnderWay ring frame new more course
under_way-clean ring frame old new stock more course run only supplies = let can = run.can in let did = can.did in record {
  can = record {
    own = only.one_ring ∙ can.own;
    reports = only.one_way ∙ can.reports;
    did = subst (HasPosted course.plan frame) (sym only.same) (record { on = did.on; copies = did.copies; asks = did.asks; none_reclaimed = did.none_reclaimed });
  };
  supplies = supplies;
  count_is = run.count_is ∙ sym (ap (λ (x : TxDriven). length x.posted) only.same);
}

-- what is posted ends with a whole frame
pub posted_whole : (plan : TxPlan) (frame : Bytes) (x : TxDriven) → HasPosted plan frame x → are_whole x.posted ≡ true
posted_whole plan frame x did = all_end carried frame ends_posting (λ p. refl) x.posted did.copies

-- where no frame is left, and there is room for a whole ring's, all are posted and cleaned
pub posted_all : (ring : TableId) (frame : Bytes) (plan : TxPlan) (driver : DriverSide) (stock : Stocked) (course : Progress) (room size : ℕ) → IsUnderWay ring frame driver stock course
    → course.plan ≡ plan → course.posted ≡ course.plan.load.frames → room + length (posted driver) + 1 ≡ driver_size driver + returned driver → size ≡ driver_size driver → 0 < size → room ≡ size - 1
    → PostedAll ring plan frame driver
posted_all ring frame plan driver stock course room size run same none_left is_room is_size some all_room =
    let can = run.can in let did = can.did in let none = did.none_reclaimed in record {
      can = subst (λ (p : TxPlan). CanPost ring p frame driver) same can;
      count_is = sym run.count_is ∙ (none_left ∙ ap (λ (p : TxPlan). p.load.frames) same);
      all_cleaned = omega arith;
    }

-- where all is cleaned and the controller serves, it sent what was posted
pub has_sent : (ring : TableId) (plan : TxPlan) (frame : Bytes) (driver : DriverSide) (controller : ControllerSide) → PostedAll ring plan frame driver → HasServed ring plan.completion controller
    → IsLawfulTxLedger Bytes (driver_size driver) (ledger_of driver controller) → (length (posted driver) ≤ length (cleaned driver) → sent_now driver controller ≡ posted driver)
    → HasSent plan frame driver controller
has_sent ring plan frame driver controller done fetches lawful all =
    let can = done.can in let did = can.did in let serves = fetches.can in
    let now : sent_now driver controller ≡ posted driver = all (let e = done.all_cleaned in omega arith) in
    let live : sent_now driver controller ≡ sent controller = ap (λ (b : Bool). if b && is_open (driver_state driver) then [] else sent controller) (serving_on (controller_state controller) serves.serving) in
    let same : sent controller ≡ posted driver = sym live ∙ now in
    let many : length (map number_of_posting (sent_now driver controller)) ≤ length (cleaned driver) =
    let a = length-map (sent_now driver controller) number_of_posting in let b = ap (λ (ps : List Posting). length ps) now in let e = done.all_cleaned in omega arith in record {
      one_ring = serves.own ∙ sym can.own;
      one_way = (can.reports, fetches.reports);
      lawful = lawful;
      as_posted = same;
      copies = ap (frames carried) same ∙ (copies carried frame (posted driver) did.copies ∙ ap (λ (k : ℕ). replicate k frame) done.count_is);
      asks = subst (AskAs plan) (sym same) did.asks;
      paid = serves.paid;
      all_cleaned = beginning_whole (cleaned driver) (map number_of_posting (sent_now driver controller)) lawful.cleaned many ∙ ap (map number_of_posting) now;
    }
