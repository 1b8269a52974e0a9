-- What the fields of a driver's end keep as its record grows.
use Rattle.std.proofs.Common.{◌≡◌, ℕ, ◌+◌, ◌-◌, ◌%◌, ◌<◌, ◌≤◌, ⊎_elim, Bool, true, if◌then◌else◌, List, [], ◌∷◌, ◌++◌, length, Option, Some, sym, refl, ap, ◌∙◌, subst, arith, length-append, mod-lt, length-set}
use Rattle.std.specs.Prelude.{slice_get, slice_set, ◌==◌}
use Rattle.std.proofs.Math.Nat.{zero-mod}
use Rattle.std.proofs.lemmas.Bool.{cases_eq}
use Rattle.limits.specs.RingLength.{IsRingLength}
use Rattle.ring_model.specs.declared.states.DriverState.TheVariants.{New}
use Rattle.ring_model.specs.shared.Handshakes.{is_open, is_live}
use Rattle.ring_model.specs.transmit.Ring.{carried}
use Rattle.ring_model.specs.transmit.Steps.{asks_report}
use Rattle.ring_laws.specs.Places.{apart, slice_set-writes}
use Rattle.ring_laws.specs.Lists.{slice_get-front}
use Rattle.ring_laws.specs.States.{open_unanswered, live_unanswered}
use Rattle.shared_ring.specs.declared.ends.DriverPlaces.{DriverPlaces}
use Rattle.shared_ring.specs.declared.ends.HandshakeStep.{HandshakeStep}
use Rattle.shared_ring.specs.Calls.{IsPoster, MayControlStep, control_event, after_control_step}
use Rattle.shared_ring.proofs.Laying.{slice_get-last}
use Rattle.shared_ring.proofs.Posting.{record-after, known-after, anew, poster-anew, poster-post, poster-back, poster-control_stepped, poster-published, control_stepped-record, control_stepped-known}
use Rattle.shared_ring.proofs.Serving.{whole-snoc}
use Rattle.tx_ring.specs.Records.{Posting, TxDriven, DriverStep, drive, Knowing, unknown, know}
use Rattle.tx_ring.specs.Ends.{DriverSide, driver_size, driver_record, driver_state, known_of, driver_grown}
use Rattle.tx_ring.specs.Calls.{IsEndOf, IsDriverEnd, AskedAt, HasPassed}
use Rattle.tx_ring.proofs.Passed.{passed-nothing, passed-snoc}

-- one more event, with what it makes of the record and of what is learnt
pub end-as : (d new : DriverSide) (e : DriverStep) (x : TxDriven) (k : Knowing) (at : DriverPlaces) (seen done unseen : ℕ) (whole : Bool) (asks : List Bool) (passed : ℕ) → new ≡ driver_grown d e → drive (driver_record d) e ≡ x → know (driver_record d) (known_of d) e ≡ k
    → IsEndOf (driver_size d) x k at seen done unseen whole asks passed → IsDriverEnd new at seen done unseen whole asks passed
end-as d new e x k at seen done unseen whole asks passed step a b h = subst (λ (n : ℕ). IsEndOf n (driver_record new) (known_of new) at seen done unseen whole asks passed) (sym (ap driver_size step))
    (subst (λ (y : TxDriven). IsEndOf (driver_size d) y (known_of new) at seen done unseen whole asks passed) (sym (record-after d new e step ∙ a))
    (subst (λ (z : Knowing). IsEndOf (driver_size d) x z at seen done unseen whole asks passed) (sym (known-after d new e step ∙ b)) h))

-- at the place of one more posting its RS is written
asked-post : (n : ℕ) (ps : List Posting) (seen : ℕ) (asks : List Bool) (p : Posting) (at : ℕ) → 0 < n → length asks ≡ n → at ≡ length ps % n → length ps < seen + n → seen ≤ length ps → AskedAt n ps seen asks → AskedAt n (ps ++ p ∷ []) seen (slice_set asks at p.rs)
asked-post n ps seen asks p at pos count is room low old j above below =
    let len = length-append ps (p ∷ []) in let here : length ps % n < n = mod-lt (length ps) pos in let w = slice_set-writes asks at p.rs (omega arith) in
    ⊎_elim
    (λ e. ap (slice_get (slice_set asks at p.rs)) (ap (λ (i : ℕ). i % n) e ∙ sym is) ∙ w.here ∙ ap Some (sym (ap (λ (i : ℕ). asks_report (slice_get (ps ++ p ∷ []) i)) e ∙ ap asks_report (slice_get-last ps p))))
    (λ ne. let lt : j < length ps = omega arith in let m : j % n < n = mod-lt j pos in
    w.rest (j % n) (omega arith) (λ e. apart seen (length ps + 1) n j (length ps) above (omega arith) low (omega arith) (omega arith) ne (e ∙ is)) ∙ old j above lt ∙ ap (λ (o : Option Posting). Some (asks_report o)) (sym (slice_get-front ps (p ∷ []) j lt)))
    (cases_eq j (length ps))

module _ (n : ℕ) (x : TxDriven) (k : Knowing) (at : DriverPlaces) (seen done unseen : ℕ) (whole : Bool) (asks : List Bool) (passed : ℕ) (h : IsEndOf n x k at seen done unseen whole asks passed) where
  -- what is posted and cleaned, and what is seen reported, is left; how many are known to have asked for no report may change
  end-with : (y : TxDriven) (head : Option ℕ) (at' : DriverPlaces) (passed' : ℕ) → IsPoster n y at' → y.posted ≡ x.posted → y.reaped ≡ x.reaped → HasPassed x.posted k.seen passed' → IsEndOf n y (record k { head = head }) at' seen done unseen whole asks passed'
  end-with y head at' passed' p posted reaped by = record {
    poster = p;
    seen_is = h.seen_is;
    done_is = rw (reaped) h.done_is;
    unseen_is = rw (posted) h.unseen_is;
    few = rw (posted, reaped) h.few;
    whole_is = rw (posted) h.whole_is;
    asks_count = h.asks_count;
    asks_are = rw (posted) h.asks_are;
    passed_by = rw (posted) by;
  }

  -- a step that leaves all of this
  pub end-left : (y : TxDriven) (head : Option ℕ) (at' : DriverPlaces) → IsPoster n y at' → y.posted ≡ x.posted → y.reaped ≡ x.reaped → IsEndOf n y (record k { head = head }) at' seen done unseen whole asks passed
  end-left y head at' p posted reaped = end-with y head at' passed p posted reaped h.passed_by

  pub end-control_stepped : (step : HandshakeStep) (w : ℕ) → MayControlStep step x.state → IsEndOf n (record x { state = after_control_step step x.state w }) k (record at { state = after_control_step step at.state w }) seen done unseen whole asks passed
  end-control_stepped step w may = end-left (record x { state = after_control_step step x.state w }) k.head (record at { state = after_control_step step at.state w }) (poster-control_stepped n x at h.poster step w may) refl refl

  pub end-published : (published : ℕ) → IsEndOf n (record x { published = published }) k at seen done unseen whole asks passed
  end-published published = end-left (record x { published = published }) k.head at (poster-published n x at h.poster published) refl refl

  pub end-same : (head : Option ℕ) → IsEndOf n x (record k { head = head }) at seen done unseen whole asks passed
  end-same head = end-left x head at h.poster refl refl

  pub end-post : (p : Posting) (fill : ℕ) → is_open x.state ≡ true → length x.posted + 1 < length x.reaped + x.reclaimed + n → fill ≡ (if (at.fill + 1) == n then 0 else (at.fill + 1))
      → IsEndOf n (record x { posted = x.posted ++ p ∷ [] }) k (record at { fill = fill; out = at.out + 1 }) seen done (unseen + 1) p.eop (slice_set asks at.fill p.rs) passed
  end-post p fill opened room f = let e = length-append x.posted (p ∷ []) in let g : 8 ≤ n = h.lawful.0 in let u = h.unreclaimed (open_unanswered x.state opened) in let di = h.done_is in let ui = h.unseen_is in record {
    poster = poster-post n x at h.poster p fill room f;
    seen_is = h.seen_is;
    done_is = h.done_is;
    unseen_is = omega arith;
    few = omega arith;
    whole_is = sym (whole-snoc carried x.posted p);
    asks_count = length-set asks at.fill p.rs ∙ h.asks_count;
    asks_are = asked-post n x.posted k.seen asks p at.fill (omega arith) h.asks_count h.fill_is (omega arith) (omega arith) h.asks_are;
    passed_by = passed-snoc x.posted p k.seen passed h.passed_by;
  }

  pub end-clean : (b next : ℕ) → length x.reaped < k.seen → is_live x.state ≡ true → next ≡ (if (at.next + 1) == n then 0 else (at.next + 1))
      → IsEndOf n (record x { reaped = x.reaped ++ b ∷ [] }) k (record at { next = next; out = at.out - 1 }) seen (done - 1) unseen whole asks passed
  end-clean b next below live f = let e = length-append x.reaped (b ∷ []) in let o = h.out_is in let di = h.done_is in let ui = h.unseen_is in let u = h.unreclaimed (live_unanswered x.state live) in let fw = h.few in record {
    poster = poster-back n x at h.poster (record x { reaped = x.reaped ++ b ∷ [] }) next refl refl (omega arith) h.unreclaimed (omega arith) f;
    seen_is = h.seen_is;
    done_is = omega arith;
    unseen_is = h.unseen_is;
    few = omega arith;
    whole_is = h.whole_is;
    asks_count = h.asks_count;
    asks_are = h.asks_are;
    passed_by = h.passed_by;
  }

  pub end-report : (ahead seen' : ℕ) → k.seen + ahead < length x.posted → seen' ≡ (k.seen + ahead + 1) % n → IsEndOf n x (record k { seen = k.seen + ahead + 1 }) at seen' (done + (ahead + 1)) (unseen - (ahead + 1)) whole asks 0
  end-report ahead seen' below is = let di = h.done_is in let ui = h.unseen_is in record {
    poster = h.poster;
    seen_is = is;
    done_is = omega arith;
    unseen_is = omega arith;
    few = h.few;
    whole_is = h.whole_is;
    asks_count = h.asks_count;
    asks_are = λ j a b. h.asks_are j (omega arith) b;
    passed_by = passed-nothing x.posted (k.seen + ahead + 1) (omega arith);
  }

  pub end-passed : (passed' : ℕ) → HasPassed x.posted k.seen passed' → IsEndOf n x k at seen done unseen whole asks passed'
  end-passed passed' by = end-with x k.head at passed' h.poster refl refl by

-- C1, C4, C5
pub end-control_step : (d new : DriverSide) (at : DriverPlaces) (seen done unseen : ℕ) (whole : Bool) (asks : List Bool) (passed : ℕ) (step : HandshakeStep) (w : ℕ) → new ≡ driver_grown d (control_event step w) → MayControlStep step (driver_state d) → IsDriverEnd d at seen done unseen whole asks passed
    → IsDriverEnd new (record at { state = after_control_step step at.state w }) seen done unseen whole asks passed
end-control_step d new at seen done unseen whole asks passed step w is may h = end-as d new (control_event step w) (record (driver_record d) { state = after_control_step step (driver_state d) w }) (known_of d) (record at { state = after_control_step step at.state w }) seen done unseen whole asks passed is (control_stepped-record d step w) (control_stepped-known d step w)
    (end-control_stepped (driver_size d) (driver_record d) (known_of d) at seen done unseen whole asks passed h step w may)

-- an epoch in which nothing is done
pub end-anew : (n published : ℕ) (asks : List Bool) → IsRingLength n → length asks ≡ n → IsEndOf n (record { posted = []; published = published; reaped = []; reclaimed = 0; state = New }) unknown (anew n) 0 0 0 true asks 0
end-anew n published asks lawful count = let g : 8 ≤ n = lawful.0 in record {
  poster = poster-anew n published lawful;
  seen_is = sym (zero-mod n);
  done_is = refl;
  unseen_is = refl;
  few = omega arith;
  whole_is = refl;
  asks_count = count;
  asks_are = λ j a b. absurd (omega arith);
  passed_by = passed-nothing [] 0 (omega arith);
}
