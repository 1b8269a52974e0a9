-- What the driver's calls answer whose answer depends on what was loaded.
use Rattle.std.proofs.Common.{◌≡◌, ℕ, zero, suc, ◌+◌, ◌-◌, ◌%◌, ◌<◌, ◌≤◌, Bool, true, false, if◌then◌else◌, List, [], ◌∷◌, ◌++◌, length, Option, Some, None, sym, refl, ap, ◌∙◌, subst, arith, mod-lt, get_or}
use Rattle.std.specs.Prelude.{slice_get, slice_set, ◌==◌}
use Rattle.std.proofs.Math.Nat.{mod-add-mod}
use Rattle.std.proofs.lemmas.Option.{same_Some, get_or_from_slice_get}
use Rattle.buffer_pool.specs.Buffer.{Buffer, buffer}
use Rattle.ring_model.specs.declared.states.Completion.{Completion}
use Rattle.ring_model.specs.declared.states.Completion.TheVariants.{Status, Head}
use Rattle.ring_model.specs.shared.Frames.{unfinished}
use Rattle.ring_model.specs.shared.Handshakes.{is_open, is_live}
use Rattle.ring_model.specs.shared.Places.{between_places, place_next}
use Rattle.ring_model.specs.transmit.Agreement.{tx_word}
use Rattle.ring_model.specs.transmit.Frames.{MayFollow}
use Rattle.ring_model.specs.transmit.Ring.{carried}
use Rattle.ring_model.specs.transmit.Steps.{asks_report, first_report}
use Rattle.ring_laws.specs.Places.{next_place as next_place-of}
use Rattle.shared_ring.specs.declared.events.DriverEvent.TheVariants as driver
use Rattle.shared_ring.specs.Records.{undriven}
use Rattle.tx_ring.specs.declared.events.TxDriverOwn.TheVariants.{NoReport, SawReport, Cleaned, EndedEpoch, ClearedReport}
use Rattle.tx_ring.specs.Records.{Posting, TxDriven, DriverStep, drive, posting_of, Knowing, know, unknown, seen_after}
use Rattle.tx_ring.specs.Plays.{report_word}
use Rattle.tx_ring.specs.Ends.{DriverSide, driver_size, driver_record, posted, cleaned, reclaimed, returned, seen_reported, outstanding, driver_state, known_of, next_place, driver_grown}
use Rattle.tx_ring.specs.Meeting.{left_by, left_at}
use Rattle.shared_ring.specs.Calls.{IsPoster, ReclaimedNext}
use Rattle.tx_ring.specs.Steps.{OldestAt, Looked, CameClean}
use Rattle.tx_ring.specs.Calls.{IsEndOf, IsDriverEnd, OldestAhead, SawReported, SawUnreported, CleanedOne, NoneOut, CameHome, Reclaimed, FoundLeft, GoneOver, gone_over, item_of}
use Rattle.tx_ring.proofs.Words.{posting-posted}
use Rattle.tx_ring.proofs.Reported.{first_report-asks}
use Rattle.tx_ring.proofs.DriverEnds.{end-as, end-anew, end-same, end-post, end-clean, end-left, end-report, end-passed}
use Rattle.tx_ring.proofs.Passed.{first-skip, from-passed, passed-found}
use Rattle.limits.specs.RingLength.{IsRingLength}
use Rattle.shared_ring.specs.declared.ends.DriverPlaces.{DriverPlaces}
use Rattle.shared_ring.proofs.Posting.{record-after, known-after, anew}

-- where the item asks for a report, that is the first; where it does not, the next ones may
pub first-here : (ps : List Posting) (k count : ℕ) → 0 < count → asks_report (slice_get ps k) ≡ true → first_report ps k count ≡ Some k
first-here ps k zero pos e = absurd (omega arith)
first-here ps k (suc more) pos e = ap (λ (b : Bool). if b then Some k else first_report ps (k + 1) more) e

module _ (d : DriverSide) (at : DriverPlaces) (seen done unseen : ℕ) (whole : Bool) (asks : List Bool) (passed : ℕ) (h : IsDriverEnd d at seen done unseen whole asks passed) (now : DriverSide) (was : d ≡ now) where
  big : 8 ≤ driver_size d
  big = h.lawful.0

  -- B1
  module _ (buf : Buffer) (eop rs : Bool) (paylen : ℕ) (real : buf ≡ buffer buf.number buf.bytes) (follows : MayFollow (driver_size now) (unfinished carried (posted now)) (item_of buf eop rs paylen)) where
    item-is : posting_of (tx_word (length buf.bytes) eop rs paylen) buf ≡ item_of buf eop rs paylen
    item-is = let f = follows.follows in posting-posted (item_of buf eop rs paylen) f.few_bytes

    module _ (new : DriverSide) (step : new ≡ driver_grown d (driver.Posted at.fill (tx_word (length buf.bytes) eop rs paylen) buf)) where
      pub post-keeps : (fill' : ℕ) → is_open (driver_state now) ≡ true → length (posted now) + 1 < returned now + driver_size now → fill' ≡ (if (at.fill + 1) == driver_size d then 0 else (at.fill + 1))
          → IsDriverEnd new (record at { fill = fill'; out = at.out + 1 }) seen done (unseen + 1) eop (slice_set asks at.fill rs) passed
      post-keeps fill' opened room f = end-as d new (driver.Posted at.fill (tx_word (length buf.bytes) eop rs paylen) buf) (record (driver_record d) { posted = posted d ++ item_of buf eop rs paylen ∷ [] }) (known_of d)
          (record at { fill = fill'; out = at.out + 1 }) seen done (unseen + 1) eop (slice_set asks at.fill rs) passed step (ap (λ (p : Posting). let x : TxDriven = record (driver_record d) { posted = posted d ++ p ∷ [] } in x) item-is) refl
          (end-post (driver_size d) (driver_record d) (known_of d) at seen done unseen whole asks passed h (item_of buf eop rs paylen) fill'
          (ap (λ (s : DriverSide). is_open (driver_state s)) was ∙ opened) (subst (λ (s : DriverSide). length (posted s) + 1 < returned s + driver_size s) (sym was) room) f)

      pub post-record : driver_record new ≡ record (driver_record now) { posted = posted now ++ item_of buf eop rs paylen ∷ [] }
      post-record = record-after d new (driver.Posted at.fill (tx_word (length buf.bytes) eop rs paylen) buf) step ∙ ap (λ (p : Posting). let x : TxDriven = record (driver_record d) { posted = posted d ++ p ∷ [] } in x) item-is
          ∙ ap (λ (s : DriverSide). let x : TxDriven = record (driver_record s) { posted = posted s ++ item_of buf eop rs paylen ∷ [] } in x) was

      pub post-known : known_of new ≡ known_of now
      post-known = known-after d new (driver.Posted at.fill (tx_word (length buf.bytes) eop rs paylen) buf) step ∙ ap known_of was

  -- B8
  module _ (live : is_live (driver_state now) ≡ true) (reported : length (cleaned now) < seen_reported now) where
    below : length (cleaned d) < seen_reported d
    below = subst (λ (s : DriverSide). length (cleaned s) < seen_reported s) (sym was) reported

    on : is_live (driver_state d) ≡ true
    on = ap (λ (s : DriverSide). is_live (driver_state s)) was ∙ live

    pub clean-keeps : (new : DriverSide) (buf : Buffer) (next' : ℕ) → CameClean d at.next buf new → next' ≡ (if (at.next + 1) == driver_size d then 0 else (at.next + 1)) → IsDriverEnd new (record at { next = next'; out = at.out - 1 }) seen (done - 1) unseen whole asks passed
    clean-keeps new buf next' f e = end-as d new (driver.Own (Cleaned at.next buf)) (record (driver_record d) { reaped = cleaned d ++ buf.number ∷ [] }) (known_of d) (record at { next = next'; out = at.out - 1 }) seen (done - 1) unseen whole asks passed f.step refl refl
        (end-clean (driver_size d) (driver_record d) (known_of d) at seen done unseen whole asks passed h buf.number next' below on e)

    pub cleaned-one : (new : DriverSide) (buf : Buffer) → CameClean d at.next buf new → CleanedOne now buf new
    cleaned-one new buf f = subst (λ (s : DriverSide). CleanedOne s buf new) was (record {
      item = f.item;
      step = f.step ∙ ap (λ (p : ℕ). driver_grown d (driver.Own (Cleaned p buf))) h.next_is;
      there = f.there;
      is = f.is;
      same = record-after d new (driver.Own (Cleaned at.next buf)) f.step;
      known = known-after d new (driver.Own (Cleaned at.next buf)) f.step;
    })

  -- C6
  pub back-keeps : (o : Option Buffer) (new : DriverSide) (at' : DriverPlaces) → ReclaimedNext d o new → IsPoster (driver_size new) (driver_record new) at' → IsDriverEnd new at' seen done unseen whole asks passed
  back-keeps None new at' f p = let same : new ≡ d = f.same in subst (λ (s : DriverSide). IsDriverEnd s at' seen done unseen whole asks passed) (sym same)
      (end-left (driver_size d) (driver_record d) (known_of d) at seen done unseen whole asks passed h (driver_record d) (known_of d).head at' (subst (λ (s : DriverSide). IsPoster (driver_size s) (driver_record s) at') same p) refl refl)
  back-keeps (Some buf) new at' f p = let e : DriverStep = driver.Reclaimed (next_place d) buf in let x : TxDriven = record (driver_record d) { reclaimed = reclaimed d + 1 } in
      end-as d new e x (known_of d) at' seen done unseen whole asks passed f.step refl refl
      (end-left (driver_size d) (driver_record d) (known_of d) at seen done unseen whole asks passed h x (known_of d).head at'
      (subst (λ (n : ℕ). IsPoster n x at') (ap driver_size f.step) (subst (λ (y : TxDriven). IsPoster (driver_size new) y at') (record-after d new e f.step) p)) refl refl)

  pub back-home : (o : Option Buffer) (new : DriverSide) → ReclaimedNext d o new → Reclaimed now o new
  back-home None new f = subst (λ (s : DriverSide). NoneOut s new) was f
  back-home (Some buf) new f = subst (λ (s : DriverSide). CameHome s buf new) was (record {
    item = f.item;
    step = f.step;
    there = f.there;
    is = f.is_of;
    same = record-after d new (driver.Reclaimed (next_place d) buf) f.step;
    known = known-after d new (driver.Reclaimed (next_place d) buf) f.step;
  })

  -- the load of the head
  pub left-keeps : (new : DriverSide) (head : ℕ) → new ≡ driver_grown d (driver.LoadedHead head) → IsDriverEnd new at seen done unseen whole asks passed
  left-keeps new head step = end-as d new (driver.LoadedHead head) (driver_record d) (record (known_of d) { head = Some head }) at seen done unseen whole asks passed step refl refl
      (end-same (driver_size d) (driver_record d) (known_of d) at seen done unseen whole asks passed h (Some head))

  pub left-found : (new : DriverSide) (head left : ℕ) → new ≡ driver_grown d (driver.LoadedHead head) → left ≡ between_places at.size head at.fill → FoundLeft now left new
  left-found new head left step is = subst (λ (s : DriverSide). FoundLeft s left new) was (record {
    head = head;
    step = step;
    same = record-after d new (driver.LoadedHead head) step;
    known = known-after d new (driver.LoadedHead head) step;
    told = ap (left_at new) (ap (λ (k : Knowing). k.head) (known-after d new (driver.LoadedHead head) step)) ∙ ap Some (sym counted);
  })
    where
      posted-is : posted new ≡ posted d
      posted-is = ap (λ (x : TxDriven). x.posted) (record-after d new (driver.LoadedHead head) step)

      counted : left ≡ left_by new head
      counted = is ∙ ap (λ (n : ℕ). (at.fill + n - head) % n) h.size_is ∙ ap (λ (j : ℕ). (j + driver_size d - head) % driver_size d) h.fill_is
          ∙ ap (λ (xs : List Posting). (length xs % driver_size d + driver_size d - head) % driver_size d) (sym posted-is)
          ∙ ap (λ (n : ℕ). (length (posted new) % n + n - head) % n) (sym (ap driver_size step))

  -- B7
  module _ (ahead place size : ℕ) (oldest : OldestAhead d (Some ahead)) (sizes : size ≡ driver_size d) (there : place ≡ (seen + ahead) % size) where
    below-posted : seen_reported d + ahead < length (posted d)
    below-posted = let ui = h.unseen_is in let t = first_report-asks (posted d) (seen_reported d) (length (posted d) - seen_reported d) (seen_reported d + ahead) oldest in let b = t.0 in omega arith

    at-place : place ≡ (seen_reported d + ahead) % driver_size d
    at-place = there ∙ ap (λ (n : ℕ). (seen + ahead) % n) sizes ∙ ap (λ (j : ℕ). (j + ahead) % driver_size d) h.seen_is ∙ mod-add-mod (seen_reported d) (driver_size d) ahead

    pub oldest-at : OldestAt d place
    oldest-at = record { item = seen_reported d + ahead; oldest = oldest; at = at-place }

    module _ (live : is_live at.state ≡ true) (new : DriverSide) where
      on-live : is_live (driver_state d) ≡ true
      on-live = sym (ap is_live h.state_is) ∙ live

      nothing-keeps : (l : Looked d new false) → IsDriverEnd new at seen done unseen whole asks ahead
      nothing-keeps l = end-as d new (driver.Own (NoReport (report_word (driver_size d) d.completion l.item) l.word)) (driver_record d) (known_of d) at seen done unseen whole asks ahead (l.nothing refl) refl refl
          (end-passed (driver_size d) (driver_record d) (known_of d) at seen done unseen whole asks passed h ahead (passed-found (posted d) (seen_reported d) ahead oldest))

      pub unseen-keeps : (b : Bool) → b ≡ false → Looked d new b → IsDriverEnd new at seen done unseen whole asks ahead
      unseen-keeps b e l = nothing-keeps (subst (λ (x : Bool). Looked d new x) e l)

      unreported : (l : Looked d new false) → SawUnreported d new
      unreported l = record {
        live = on-live;
        looked = l;
        same = record-after d new (driver.Own (NoReport (report_word (driver_size d) d.completion l.item) l.word)) (l.nothing refl);
        known = known-after d new (driver.Own (NoReport (report_word (driver_size d) d.completion l.item) l.word)) (l.nothing refl);
      }

      pub saw-nothing : (b : Bool) → b ≡ false → Looked d new b → SawUnreported now new
      saw-nothing b e l = subst (λ (s : DriverSide). SawUnreported s new) was (unreported (subst (λ (x : Bool). Looked d new x) e l))

      item-is-it : (l : Looked d new true) → l.item ≡ seen_reported d + ahead
      item-is-it l = same_Some l.item (seen_reported d + ahead) (sym l.oldest ∙ oldest)

      known-report : (l : Looked d new true) → know (driver_record d) (known_of d) (driver.Own (SawReport (report_word (driver_size d) d.completion l.item) l.word)) ≡ record (known_of d) { seen = seen_reported d + ahead + 1 }
      known-report l = ap (λ (o : Option ℕ). seen_after (known_of d) o) oldest

      pub seen-keeps : (b : Bool) (seen' : ℕ) → b ≡ true → Looked d new b → seen' ≡ (if (place + 1) == driver_size d then 0 else (place + 1)) → IsDriverEnd new at seen' (done + (ahead + 1)) (unseen - (ahead + 1)) whole asks 0
      seen-keeps b seen' e l f = let t = subst (λ (x : Bool). Looked d new x) e l in let g = big in
          end-as d new (driver.Own (SawReport (report_word (driver_size d) d.completion t.item) t.word)) (driver_record d) (record (known_of d) { seen = seen_reported d + ahead + 1 }) at seen' (done + (ahead + 1)) (unseen - (ahead + 1)) whole asks 0
          (t.report refl) refl (known-report t)
          (end-report (driver_size d) (driver_record d) (known_of d) at seen done unseen whole asks passed h ahead seen' below-posted
          (f ∙ ap (λ (j : ℕ). if (j + 1) == driver_size d then 0 else (j + 1)) at-place ∙ next_place-of (driver_size d) (seen_reported d + ahead) (omega arith)))

      known-reported : (l : Looked d new true) → known_of new ≡ record (known_of d) { seen = l.item + 1 }
      known-reported l = known-after d new (driver.Own (SawReport (report_word (driver_size d) d.completion l.item) l.word)) (l.report refl) ∙ known-report l
          ∙ ap (λ (j : ℕ). record (known_of d) { seen = j + 1 }) (sym (item-is-it l))

      reported-it : (l : Looked d new true) → SawReported d new
      reported-it l = record {
        live = on-live;
        looked = l;
        same = record-after d new (driver.Own (SawReport (report_word (driver_size d) d.completion l.item) l.word)) (l.report refl);
        known = known-reported l;
        seen = ap (λ (k : Knowing). k.seen) (known-reported l);
      }

      pub saw-report : (b : Bool) → b ≡ true → Looked d new b → SawReported now new
      saw-report b e l = subst (λ (s : DriverSide). SawReported s new) was (reported-it (subst (λ (x : Bool). Looked d new x) e l))

  -- looking for it, from the first that is not seen reported
  abbrev pub FromAhead : ℕ → Type 0
  FromAhead ahead = outstanding d ≡ first_report (posted d) (seen_reported d + ahead) (length (posted d) - (seen_reported d + ahead))

  pub from-first : FromAhead passed
  from-first = from-passed (posted d) (seen_reported d) passed h.passed_by passed (omega arith)

  abbrev pub IsAhead : ℕ → ℕ → Type 0
  IsAhead ahead place = place ≡ (seen_reported d + ahead) % driver_size d

  pub ahead-first : (place : ℕ) → place ≡ (seen + passed) % at.size → IsAhead passed place
  ahead-first place is = is ∙ ap (λ (n : ℕ). (seen + passed) % n) h.size_is ∙ ap (λ (j : ℕ). (j + passed) % driver_size d) h.seen_is ∙ mod-add-mod (seen_reported d) (driver_size d) passed

  pub ahead-next : (ahead place next : ℕ) → IsAhead ahead place → next ≡ place_next at.size place → IsAhead (ahead + 1) next
  ahead-next ahead place next is f = let b = big in f ∙ ap (λ (n : ℕ). place_next n place) h.size_is ∙ ap (place_next (driver_size d)) is ∙ next_place-of (driver_size d) (seen_reported d + ahead) (omega arith)
      ∙ ap (λ (j : ℕ). j % driver_size d) (let e : seen_reported d + ahead + 1 ≡ seen_reported d + (ahead + 1) = omega arith in e)

  pub ahead-below : (ahead place : ℕ) → IsAhead ahead place → place < at.size
  ahead-below ahead place is = let b = big in let m : (seen_reported d + ahead) % driver_size d < driver_size d = mod-lt (seen_reported d + ahead) (omega arith) in subst (λ (n : ℕ). place < n) (sym h.size_is) (subst (λ (j : ℕ). j < driver_size d) (sym is) m)

  module _ (ahead place : ℕ) (asked default : Bool) (rest : FromAhead ahead) (there : IsAhead ahead place) (more : ahead < unseen) (is : asked ≡ get_or asks place default) where
    within : seen_reported d + ahead < length (posted d)
    within = let u = h.unseen_is in omega arith

    asked-is : asked ≡ asks_report (slice_get (posted d) (seen_reported d + ahead))
    asked-is = let a = h.asks_are (seen_reported d + ahead) (omega arith) within in
        is ∙ ap (λ (j : ℕ). get_or asks j default) there ∙ get_or_from_slice_get asks ((seen_reported d + ahead) % driver_size d) (asks_report (slice_get (posted d) (seen_reported d + ahead))) default a

    some-left : 0 < length (posted d) - (seen_reported d + ahead)
    some-left = let w = within in omega arith

    pub found-ahead : asked ≡ true → outstanding d ≡ Some (seen_reported d + ahead)
    found-ahead e = rest ∙ first-here (posted d) (seen_reported d + ahead) (length (posted d) - (seen_reported d + ahead)) some-left (sym asked-is ∙ e)

    pub further-ahead : asked ≡ false → FromAhead (ahead + 1)
    further-ahead e = rest ∙ first-skip (posted d) (seen_reported d + ahead) (length (posted d) - (seen_reported d + ahead)) some-left (sym asked-is ∙ e)
        ∙ ap (λ (j : ℕ). first_report (posted d) j (length (posted d) - (seen_reported d + ahead) - 1)) (let f : seen_reported d + ahead + 1 ≡ seen_reported d + (ahead + 1) = omega arith in f)
        ∙ ap (first_report (posted d) (seen_reported d + (ahead + 1))) (let g : length (posted d) - (seen_reported d + ahead) - 1 ≡ length (posted d) - (seen_reported d + (ahead + 1)) = omega arith in g)

  pub none-ahead : (ahead : ℕ) → FromAhead ahead → unseen ≤ ahead → outstanding d ≡ None
  none-ahead ahead rest all = let u = h.unseen_is in rest ∙ ap (first_report (posted d) (seen_reported d + ahead)) (let e : length (posted d) - (seen_reported d + ahead) ≡ 0 = omega arith in e)

  pub few-ahead : (ahead : ℕ) → OldestAhead d (Some ahead) → (ahead < unseen) × (seen < 4096) × (done + unseen < 4096)
  few-ahead ahead oldest = let b = big in let top = h.lawful.1 in let ui = h.unseen_is in let di = h.done_is in let fw = h.few in let si = h.seen_is in
      let m : seen_reported d % driver_size d < driver_size d = mod-lt (seen_reported d) (omega arith) in
      let t = first_report-asks (posted d) (seen_reported d) (length (posted d) - seen_reported d) (seen_reported d + ahead) oldest in let w = t.0 in
      (omega arith, omega arith, omega arith)

  pub ahead-fits : (ahead : ℕ) → OldestAhead d (Some ahead) → ahead ≤ at.size
  ahead-fits ahead oldest = let t = few-ahead ahead oldest in let a = t.0 in let ui = h.unseen_is in let di = h.done_is in let fw = h.few in let z = h.size_is in omega arith

  -- C9, C10 and C12
  gone-record : (mode : Completion) (x : DriverSide) → driver_record (gone_over mode x) ≡ undriven
  gone-record Status x = let y = driver_grown x driver.ClearedHead in record-after y (driver_grown y (driver.Own EndedEpoch)) (driver.Own EndedEpoch) refl
  gone-record Head x = let y = driver_grown x driver.ClearedHead in let z = driver_grown y driver.ClearedTail in record-after z (driver_grown z (driver.Own ClearedReport)) (driver.Own ClearedReport) refl
      ∙ ap (λ (r : TxDriven). drive r (driver.Own ClearedReport)) (record-after y (driver_grown y driver.ClearedTail) driver.ClearedTail refl)

  gone-known : (mode : Completion) (x : DriverSide) → known_of (gone_over mode x) ≡ unknown
  gone-known Status x = let y = driver_grown x driver.ClearedHead in known-after y (driver_grown y (driver.Own EndedEpoch)) (driver.Own EndedEpoch) refl
  gone-known Head x = let z = driver_grown (driver_grown x driver.ClearedHead) driver.ClearedTail in known-after z (driver_grown z (driver.Own ClearedReport)) (driver.Own ClearedReport) refl

  gone-size : (mode : Completion) (x : DriverSide) → driver_size (gone_over mode x) ≡ driver_size x
  gone-size Status x = refl
  gone-size Head x = refl

  module _ (new : DriverSide) (step : new ≡ gone_over d.completion d) where
    pub gone-keeps : IsDriverEnd new (anew at.size) 0 0 0 true asks 0
    gone-keeps = subst (λ (x : TxDriven). IsEndOf (driver_size new) x (known_of new) (anew at.size) 0 0 0 true asks 0) (sym (ap driver_record step ∙ gone-record d.completion d))
        (subst (λ (k : Knowing). IsEndOf (driver_size new) undriven k (anew at.size) 0 0 0 true asks 0) (sym (ap known_of step ∙ gone-known d.completion d))
        (subst (λ (n : ℕ). IsEndOf n undriven unknown (anew at.size) 0 0 0 true asks 0) (h.size_is ∙ sym (ap driver_size step ∙ gone-size d.completion d)) (end-anew at.size 0 asks (subst IsRingLength (sym h.size_is) h.lawful) (h.asks_count ∙ sym h.size_is))))

    pub gone : GoneOver now new
    gone = record {
      step = step ∙ ap (λ (s : DriverSide). gone_over s.completion s) was;
      fresh = ap driver_record step ∙ gone-record d.completion d;
      unlearnt = ap known_of step ∙ gone-known d.completion d;
    }
