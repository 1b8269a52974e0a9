-- What the fields of a driver's end keep as its record grows.
use Rattle.std.proofs.Common.{◌≡◌, ℕ, ◌+◌, ◌-◌, ◌<◌, Bool, true, false, ◌||◌, ◌&&◌, if◌then◌else◌, [], ◌∷◌, ◌++◌, length, sym, refl, ap, subst, arith, length-append}
use Rattle.std.specs.Prelude.{◌==◌}
use Rattle.std.proofs.lemmas.Bool.{or_right, and_from, eq-eqb, false≢true}
use Rattle.buffer_pool.specs.Buffer.{Buffer}
use Rattle.limits.specs.RingLength.{IsRingLength}
use Rattle.ring_model.specs.declared.states.DriverState.TheVariants.{New}
use Rattle.ring_model.specs.shared.Agreement.{bit}
use Rattle.shared_ring.specs.declared.ends.DriverPlaces.{DriverPlaces}
use Rattle.shared_ring.specs.declared.ends.HandshakeStep.{HandshakeStep}
use Rattle.shared_ring.specs.declared.events.DriverEvent.TheVariants as driver
use Rattle.shared_ring.specs.Calls.{MayControlStep, control_event, after_control_step}
use Rattle.shared_ring.specs.Records.{undriven}
use Rattle.shared_ring.proofs.Posting.{record-after, known-after, anew, poster-anew, poster-post, poster-back, poster-control_stepped, poster-published, control_stepped-record, control_stepped-known}
use Rattle.rx_ring.specs.declared.events.RxDriverOwn.TheVariants.{NotDone, Taken, LoadedQuiet}
use Rattle.rx_ring.specs.Records.{RxDriven, DriverStep, drive, segment_of, Knowing, unknown, know}
use Rattle.rx_ring.specs.Ends.{DriverSide, driver_size, driver_record, driver_state, known_of, driver_grown}
use Rattle.rx_ring.specs.Calls.{IsEndOf, IsDriverEnd}

-- one more event
pub end-after : (d new : DriverSide) (e : DriverStep) (at : DriverPlaces) → new ≡ driver_grown d e → IsEndOf (driver_size d) (drive (driver_record d) e) (know (driver_record d) (known_of d) e) at → IsDriverEnd new at
end-after d new e at step h = subst (λ (n : ℕ). IsEndOf n (driver_record new) (known_of new) at) (sym (ap driver_size step))
    (subst (λ (x : RxDriven). IsEndOf (driver_size d) x (known_of new) at) (sym (record-after d new e step))
    (subst (λ (k : Knowing). IsEndOf (driver_size d) (drive (driver_record d) e) k at) (sym (known-after d new e step)) h))

-- an epoch in which nothing is done
pub end-anew : (n published : ℕ) → IsRingLength n → IsEndOf n (record { posted = []; published = published; reaped = []; reclaimed = 0; state = New }) unknown (anew n)
end-anew n published lawful = record { poster = poster-anew n published lawful; sure = λ a. absurd (false≢true a) }

module _ (n : ℕ) (x : RxDriven) (k : Knowing) (at : DriverPlaces) (h : IsEndOf n x k at) where
  pub end-control_stepped : (step : HandshakeStep) (w : ℕ) → MayControlStep step x.state → IsEndOf n (record x { state = after_control_step step x.state w }) k (record at { state = after_control_step step at.state w })
  end-control_stepped step w may = record { poster = poster-control_stepped n x at h.poster step w may; sure = h.sure }

  pub end-published : (published : ℕ) → IsEndOf n (record x { published = published }) k at
  end-published published = record { poster = poster-published n x at h.poster published; sure = h.sure }

  pub end-known : (k' : Knowing) → (k'.quiet ≡ true → length x.reaped ≡ length x.posted → k'.drained ≡ true) → IsEndOf n x k' at
  end-known k' f = record { poster = h.poster; sure = f }

  pub end-quiet : (w : ℕ) → IsEndOf n x (know x k (driver.Own (LoadedQuiet w))) at
  end-quiet w = end-known (know x k (driver.Own (LoadedQuiet w))) (λ q a. or_right k.drained ((k.quiet || (w == 1)) && (length x.reaped == length x.posted)) (and_from (k.quiet || (w == 1)) (length x.reaped == length x.posted) q (eq-eqb (length x.reaped) (length x.posted) a)))

  pub end-not_done : (p w : ℕ) → IsEndOf n x (know x k (driver.Own (NotDone p w))) at
  end-not_done p w = end-known (know x k (driver.Own (NotDone p w))) (λ q a. or_right k.drained k.quiet q)

  pub end-post : (b fill : ℕ) → length x.posted + 1 < length x.reaped + x.reclaimed + n → fill ≡ (if (at.fill + 1) == n then 0 else (at.fill + 1)) → IsEndOf n (record x { posted = x.posted ++ b ∷ [] }) k (record at { fill = fill; out = at.out + 1 })
  end-post b fill room f = let e = length-append x.posted (b ∷ []) in let o = h.out_is in record { poster = poster-post n x at h.poster b fill room f; sure = λ a b. absurd (omega arith) }

  pub end-taken : (p w next : ℕ) (b : Buffer) → 0 < at.out → next ≡ (if (at.next + 1) == n then 0 else (at.next + 1)) → IsEndOf n (drive x (driver.Own (Taken p w b))) (know x k (driver.Own (Taken p w b))) (record at { next = next; out = at.out - 1 })
  end-taken p w next b some f = let e = length-append x.reaped (segment_of w b ∷ []) in let u = h.unreclaimed in record {
    poster = poster-back n x at h.poster (drive x (driver.Own (Taken p w b))) next refl refl (omega arith) h.unreclaimed some f;
    sure = λ q a. or_right k.drained (k.quiet && (length x.reaped + 1 == length x.posted)) (and_from k.quiet (length x.reaped + 1 == length x.posted) q (eq-eqb (length x.reaped + 1) (length x.posted) (omega arith)));
  }

-- C1, C4, C5
pub end-control_step : (d new : DriverSide) (at : DriverPlaces) (step : HandshakeStep) (w : ℕ) → new ≡ driver_grown d (control_event step w) → MayControlStep step (driver_state d) → IsDriverEnd d at → IsDriverEnd new (record at { state = after_control_step step at.state w })
end-control_step d new at step w is may h = end-after d new (control_event step w) (record at { state = after_control_step step at.state w }) is
    (subst (λ (x : RxDriven). IsEndOf (driver_size d) x (know (driver_record d) (known_of d) (control_event step w)) (record at { state = after_control_step step at.state w })) (sym (control_stepped-record d step w))
    (subst (λ (k : Knowing). IsEndOf (driver_size d) (record (driver_record d) { state = after_control_step step (driver_state d) w }) k (record at { state = after_control_step step at.state w })) (sym (control_stepped-known d step w))
    (end-control_stepped (driver_size d) (driver_record d) (known_of d) at h step w may)))

pub end-fresh : (n : ℕ) → IsRingLength n → IsEndOf n undriven unknown (anew n)
end-fresh n lawful = end-anew n 0 lawful

pub quiet-seen : (was b : Bool) → b ≡ true → (was || (bit b == 1)) ≡ true
quiet-seen was true e = or_right was true refl
quiet-seen was false e = absurd (false≢true e)

-- the quiet word, as a bit, was 1 where the answer is true
pub quiet-told : (x : RxDriven) (k : Knowing) (b : Bool) → know x k (driver.Own (LoadedQuiet (bit b)))
    ≡ (let l : Knowing = record k { quiet = k.quiet || b; drained = k.drained || ((k.quiet || b) && (length x.reaped == length x.posted)) } in l)
quiet-told x k true = refl
quiet-told x k false = refl
