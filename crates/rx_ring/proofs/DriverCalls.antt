-- What the driver's calls answer whose answer depends on what was loaded.
use Rattle.std.proofs.Common.{◌≡◌, ℕ, ◌+◌, ◌-◌, ◌%◌, ◌<◌, ◌≤◌, Bool, true, if◌then◌else◌, List, [], ◌∷◌, ◌++◌, length, Option, Some, None, sym, ap, ◌∙◌, subst, arith, length-append}
use Rattle.std.specs.Prelude.{◌==◌}
use Rattle.std.proofs.lemmas.Bool.{or_right}
use Rattle.buffer_pool.specs.Buffer.{Buffer}
use Rattle.ring_model.specs.receive.Agreement.{rx_word}
use Rattle.ring_model.specs.shared.Segments.{Segment}
use Rattle.ring_model.specs.shared.Frames.{Bytes}
use Rattle.ring_model.specs.shared.Handshakes.{is_live, is_cleared, is_tailed}
use Rattle.ring_model.specs.shared.Places.{between_places}
use Rattle.ring_laws.specs.States.{live_unanswered}
use Rattle.shared_ring.specs.declared.events.DriverEvent.TheVariants as driver
use Rattle.rx_ring.specs.declared.events.RxDriverOwn.TheVariants.{NotDone, Taken, ClearedQuiet}
use Rattle.rx_ring.specs.Records.{RxDriven, DriverStep, drive, segment_of, Knowing, unknown}
use Rattle.rx_ring.specs.Ends.{DriverSide, driver_size, driver_record, posted, taken, returned, driver_state, known_of, fill_place, next_place, driver_grown}
use Rattle.rx_ring.specs.Meeting.{left_by}
use Rattle.limits.specs.RingLength.{IsRingLength}
use Rattle.shared_ring.specs.declared.ends.DriverPlaces.{DriverPlaces}
use Rattle.shared_ring.specs.Calls.{IsPoster, ReclaimedNext}
use Rattle.shared_ring.proofs.Posting.{record-after, known-after, anew}
use Rattle.rx_ring.specs.Steps.{FoundNothing, FoundSegment}
use Rattle.rx_ring.specs.Calls.{IsEndOf, IsDriverEnd, SawNotDone, TookSegment, NoneOut, CameHome, Reclaimed, FoundLeft, left_at, GoneOver, segment}
use Rattle.rx_ring.proofs.Words.{eop_of-rx_word}
use Rattle.rx_ring.proofs.DriverEnds.{end-after, end-anew, end-not_done, end-taken, end-known}

module _ (d : DriverSide) (at : DriverPlaces) (h : IsDriverEnd d at) (now : DriverSide) (was : d ≡ now) where
  big : 8 ≤ driver_size d
  big = h.lawful.0

  -- A6
  module _ (live : is_live at.state ≡ true) (some : ¬ (at.out ≡ 0)) where
    is-live : is_live (driver_state d) ≡ true
    is-live = sym (ap is_live h.state_is) ∙ live

    some-out : length (taken d) < length (posted d)
    some-out = let o = h.out_is in omega arith

    pub none-keeps : (new : DriverSide) → FoundNothing d at.next new → IsDriverEnd new at
    none-keeps new f = end-after d new (driver.Own (NotDone at.next f.word)) at f.step (end-not_done (driver_size d) (driver_record d) (known_of d) at h at.next f.word)

    pub none-seen : (new : DriverSide) → FoundNothing d at.next new → SawNotDone now new
    none-seen new f = subst (λ (s : DriverSide). SawNotDone s new) was (record {
      live = is-live;
      some_out = some-out;
      word = f.word;
      clear = f.clear;
      step = f.step ∙ ap (λ (p : ℕ). driver_grown d (driver.Own (NotDone p f.word))) h.next_is;
      same = record-after d new (driver.Own (NotDone at.next f.word)) f.step;
      drained = λ q. ap (λ (k : Knowing). k.drained) (known-after d new (driver.Own (NotDone at.next f.word)) f.step) ∙ or_right (known_of d).drained (known_of d).quiet q;
      known = known-after d new (driver.Own (NotDone at.next f.word)) f.step;
    })

    pub segment-keeps : (new : DriverSide) (buf : Buffer) (eop : Bool) (next' : ℕ) → FoundSegment d at.next buf eop new → next' ≡ (if (at.next + 1) == driver_size d then 0 else (at.next + 1)) → IsDriverEnd new (record at { next = next'; out = at.out - 1 })
    segment-keeps new buf eop next' f e = end-after d new (driver.Own (Taken at.next (rx_word (length buf.bytes) eop) buf)) (record at { next = next'; out = at.out - 1 }) f.step
        (end-taken (driver_size d) (driver_record d) (known_of d) at h at.next (rx_word (length buf.bytes) eop) next' buf (omega arith) e)

    grew : (buf : Buffer) (eop : Bool) → (let x : RxDriven = record (driver_record d) { reaped = taken d ++ segment_of (rx_word (length buf.bytes) eop) buf ∷ [] } in x) ≡ record (driver_record d) { reaped = taken d ++ segment buf eop ∷ [] }
    grew buf eop = ap (λ (e : Bool). let x : RxDriven = record (driver_record d) { reaped = taken d ++ (let s : Segment Bytes = record { number = buf.number; payload = buf.bytes; eop = e } in s) ∷ [] } in x) (eop_of-rx_word (length buf.bytes) eop)

    pub segment-taken : (new : DriverSide) (buf : Buffer) (eop : Bool) → FoundSegment d at.next buf eop new → TookSegment now buf eop new
    segment-taken new buf eop f = subst (λ (s : DriverSide). TookSegment s buf eop new) was (record {
      live = is-live;
      some_out = some-out;
      none_back = h.unreclaimed (live_unanswered (driver_state d) is-live);
      step = f.step ∙ ap (λ (p : ℕ). driver_grown d (driver.Own (Taken p (rx_word (length buf.bytes) eop) buf))) h.next_is;
      number = f.number;
      real = f.real;
      follows = f.follows;
      grew = record-after d new (driver.Own (Taken at.next (rx_word (length buf.bytes) eop) buf)) f.step ∙ grew buf eop;
      room = let o = h.out_is in let r = h.room in let len = length-append (taken d) (segment_of (rx_word (length buf.bytes) eop) buf ∷ []) in let z : driver_size new ≡ driver_size d = ap driver_size f.step in
          subst (λ (x : RxDriven). length x.posted + 1 < length x.reaped + x.reclaimed + driver_size new) (sym (record-after d new (driver.Own (Taken at.next (rx_word (length buf.bytes) eop) buf)) f.step)) (omega arith);
      known = known-after d new (driver.Own (Taken at.next (rx_word (length buf.bytes) eop) buf)) f.step;
    })

  -- C6
  pub back-keeps : (o : Option Buffer) (new : DriverSide) (at' : DriverPlaces) → ReclaimedNext d o new → IsPoster (driver_size new) (driver_record new) at' → IsDriverEnd new at'
  back-keeps None new at' f p = record { poster = p; sure = subst (λ (s : DriverSide). (known_of s).quiet ≡ true → length (taken s) ≡ length (posted s) → (known_of s).drained ≡ true) (sym f.same) h.sure }
  back-keeps (Some buf) new at' f p = let e : DriverStep = driver.Reclaimed (next_place d) buf in record {
    poster = p;
    sure = subst (λ (k : Knowing). k.quiet ≡ true → length (taken new) ≡ length (posted new) → k.drained ≡ true) (sym (known-after d new e f.step))
        (subst (λ (x : RxDriven). (known_of d).quiet ≡ true → length x.reaped ≡ length x.posted → (known_of d).drained ≡ true) (sym (record-after d new e f.step)) h.sure);
  }

  pub back-home : (o : Option Buffer) (new : DriverSide) → ReclaimedNext d o new → Reclaimed now o new
  back-home None new f = subst (λ (s : DriverSide). NoneOut s new) was f
  back-home (Some buf) new f = subst (λ (s : DriverSide). CameHome s buf new) was (record {
    step = f.step;
    number = f.there ∙ ap Some f.is_of.0;
    real = f.is_of.1;
    same = record-after d new (driver.Reclaimed (next_place d) buf) f.step;
    known = known-after d new (driver.Reclaimed (next_place d) buf) f.step;
  })

  -- the load of the head
  pub left-keeps : (new : DriverSide) (head : ℕ) → new ≡ driver_grown d (driver.LoadedHead head) → IsDriverEnd new at
  left-keeps new head step = end-after d new (driver.LoadedHead head) at step (end-known (driver_size d) (driver_record d) (known_of d) at h (record (known_of d) { head = Some head }) h.sure)

  pub left-found : (new : DriverSide) (head left : ℕ) → new ≡ driver_grown d (driver.LoadedHead head) → returned now ≡ length (taken now) → left ≡ between_places at.size at.next head → FoundLeft now left new
  left-found new head left step whole is = subst (λ (s : DriverSide). FoundLeft s left new) was (record {
    head = head;
    step = step;
    same = record-after d new (driver.LoadedHead head) step;
    known = known-after d new (driver.LoadedHead head) step;
    told = ap (left_at new) (ap (λ (k : Knowing). k.head) (known-after d new (driver.LoadedHead head) step)) ∙ ap Some (sym counted);
  })
    where
      nothing-back : returned d ≡ length (taken d)
      nothing-back = subst (λ (s : DriverSide). returned s ≡ length (taken s)) (sym was) whole

      reaped-is : taken new ≡ taken d
      reaped-is = ap (λ (x : RxDriven). x.reaped) (record-after d new (driver.LoadedHead head) step)

      counted : left ≡ left_by new head
      counted = is ∙ ap (λ (n : ℕ). (head + n - at.next) % n) h.size_is ∙ ap (λ (j : ℕ). (head + driver_size d - j) % driver_size d) (h.next_is ∙ ap (λ (j : ℕ). j % driver_size d) nothing-back)
          ∙ ap (λ (xs : List (Segment Bytes)). (head + driver_size d - length xs % driver_size d) % driver_size d) (sym reaped-is)
          ∙ ap (λ (n : ℕ). (head + n - length (taken new) % n) % n) (sym (ap driver_size step))

  -- C9, C10 and C11
  pub renew-cleared : (d1 : DriverSide) → d1 ≡ driver_grown d driver.ClearedHead → is_cleared (driver_state d1) ≡ true
  renew-cleared d1 one = ap (λ (x : RxDriven). is_cleared x.state) (record-after d d1 driver.ClearedHead one)

  module _ (d1 d2 d3 : DriverSide) (one : d1 ≡ driver_grown d driver.ClearedHead) (two : d2 ≡ driver_grown d1 driver.ClearedTail) (back : returned now ≡ length (posted now)) where
    first : driver_record d1 ≡ drive (driver_record d) driver.ClearedHead
    first = record-after d d1 driver.ClearedHead one

    second : driver_record d2 ≡ drive (drive (driver_record d) driver.ClearedHead) driver.ClearedTail
    second = record-after d1 d2 driver.ClearedTail two ∙ ap (λ (x : RxDriven). drive x driver.ClearedTail) first

    pub renew-tailed : is_tailed (driver_state d2) ≡ true
    renew-tailed = ap (λ (x : RxDriven). is_tailed x.state) second

    same-size : driver_size d2 ≡ driver_size d
    same-size = ap driver_size two ∙ ap driver_size one

    pub renew-place : at.fill ≡ fill_place d2
    renew-place = h.fill_is ∙ ap (λ (n : ℕ). length (posted d) % n) (sym same-size) ∙ ap (λ (x : RxDriven). length x.posted % driver_size d2) (sym second)

    all-back : returned d ≡ length (posted d)
    all-back = subst (λ (s : DriverSide). returned s ≡ length (posted s)) (sym was) back

    pub renew-back : returned d2 ≡ length (posted d2)
    renew-back = subst (λ (x : RxDriven). length x.reaped + x.reclaimed ≡ length x.posted) (sym second) all-back

    module _ (three : d3 ≡ driver_grown d2 (driver.Own ClearedQuiet)) where
      pub renew-keeps : IsDriverEnd d3 (anew at.size)
      renew-keeps = end-after d2 d3 (driver.Own ClearedQuiet) (anew at.size) three
          (subst (λ (n : ℕ). IsEndOf n (drive (driver_record d2) (driver.Own ClearedQuiet)) unknown (anew at.size)) (h.size_is ∙ sym same-size)
          (end-anew at.size (driver_record d2).published (subst IsRingLength (sym h.size_is) h.lawful)))

      pub renewed : GoneOver now d3
      renewed = record {
        step = three ∙ ap (λ (s : DriverSide). driver_grown s (driver.Own ClearedQuiet)) (two ∙ ap (λ (s : DriverSide). driver_grown s driver.ClearedTail) (one ∙ ap (λ (s : DriverSide). driver_grown s driver.ClearedHead) was));
        fresh = record-after d2 d3 (driver.Own ClearedQuiet) three ∙ ap (λ (x : RxDriven). drive x (driver.Own ClearedQuiet)) second;
        unlearnt = known-after d2 d3 (driver.Own ClearedQuiet) three;
      }
