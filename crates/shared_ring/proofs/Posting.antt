-- What the places of a driver's end tell of its record as that grows.
use Rattle.std.proofs.Common.{◌≡◌, ℕ, ◌+◌, ◌-◌, ◌%◌, ◌<◌, ◌≤◌, true, false, if◌then◌else◌, [], ◌∷◌, ◌++◌, length, sym, refl, ap, ◌∙◌, subst, arith, length-append}
use Rattle.std.specs.Prelude.{◌==◌}
use Rattle.std.proofs.Math.Nat.{zero-mod}
use Rattle.std.proofs.lemmas.Bool.{both_ways}
use Rattle.buffer_pool.specs.Buffer.{Buffer}
use Rattle.limits.specs.RingLength.{IsRingLength}
use Rattle.ring_model.specs.declared.states.DriverState.{DriverState}
use Rattle.ring_model.specs.declared.states.DriverState.TheVariants.{New}
use Rattle.ring_model.specs.shared.Handshakes.{is_answered, is_stopped, learned}
use Rattle.ring_model.specs.shared.Places.{place_next}
use Rattle.ring_laws.specs.Places.{next_place}
use Rattle.ring_laws.specs.States.{learned_unanswered, new_open, on_open, open_unanswered, stopped_answered}
use Rattle.shared_ring.specs.declared.ends.DriverPlaces.{DriverPlaces}
use Rattle.shared_ring.specs.declared.ends.HandshakeStep.{HandshakeStep}
use Rattle.shared_ring.specs.declared.ends.HandshakeStep.TheVariants.{AskEnable, LoadControl, AskDisable}
use Rattle.shared_ring.specs.declared.events.DriverEvent.{DriverEvent}
use Rattle.shared_ring.specs.declared.events.DriverEvent.TheVariants as driver
use Rattle.shared_ring.specs.Calls.{IsPoster, MayControlStep, control_event, after_control_step}
use Rattle.shared_ring.specs.Ends.{DriverSide, driver_size, driver_record, known_of, driver_state, driver_grown}
use Rattle.shared_ring.specs.Steps.{CameBack}
use Rattle.shared_ring.specs.Forms.{Form, drive, know}
use Rattle.shared_ring.specs.Records.{Driven, undriven}
use Rattle.shared_ring.proofs.Folds.{driving-snoc, knowing-snoc}

-- at the beginning of an epoch
abbrev pub anew : ℕ → DriverPlaces
anew n = record { size = n; fill = 0; next = 0; out = 0; state = New }

pub poster-anew : {Posted Reaped : Type 0} (n published : ℕ) → IsRingLength n → IsPoster {Posted = Posted} {Reaped = Reaped} n (record { posted = []; published = published; reaped = []; reclaimed = 0; state = New }) (anew n)
poster-anew n published lawful = let g : 8 ≤ n = lawful.0 in record {
  lawful = lawful;
  size_is = refl;
  fill_is = sym (zero-mod n);
  next_is = sym (zero-mod n);
  out_is = refl;
  room = omega arith;
  state_is = refl;
  unreclaimed = λ a. refl;
}

module _ {Posted Reaped : Type 0} (n : ℕ) (x : Driven Posted Reaped) (at : DriverPlaces) (h : IsPoster n x at) where
  big : 8 ≤ n
  big = h.lawful.0

  -- a step that changes the state, or the tail
  pub poster-state : (s : DriverState) (published : ℕ) → (is_answered s ≡ false → is_answered x.state ≡ false) → IsPoster n (record x { published = published; state = s }) (record at { state = s })
  poster-state s published f = record { lawful = h.lawful; size_is = h.size_is; fill_is = h.fill_is; next_is = h.next_is; out_is = h.out_is; room = h.room; state_is = refl; unreclaimed = λ e. h.unreclaimed (f e) }

  pub poster-published : (published : ℕ) → IsPoster n (record x { published = published }) at
  poster-published published = record { lawful = h.lawful; size_is = h.size_is; fill_is = h.fill_is; next_is = h.next_is; out_is = h.out_is; room = h.room; state_is = h.state_is; unreclaimed = h.unreclaimed }

  pub poster-post : (p : Posted) (fill : ℕ) → length x.posted + 1 < length x.reaped + x.reclaimed + n → fill ≡ (if (at.fill + 1) == n then 0 else (at.fill + 1)) → IsPoster n (record x { posted = x.posted ++ p ∷ [] }) (record at { fill = fill; out = at.out + 1 })
  poster-post p fill room f = let e = length-append x.posted (p ∷ []) in let o = h.out_is in let g = big in record {
    lawful = h.lawful;
    size_is = h.size_is;
    fill_is = f ∙ ap (λ (j : ℕ). if (j + 1) == n then 0 else (j + 1)) h.fill_is ∙ next_place n (length x.posted) (omega arith) ∙ ap (λ (j : ℕ). j % n) (sym e);
    next_is = h.next_is;
    out_is = omega arith;
    room = omega arith;
    state_is = h.state_is;
    unreclaimed = h.unreclaimed;
  }

  -- one more came back
  pub poster-back : (y : Driven Posted Reaped) (next : ℕ) → y.posted ≡ x.posted → y.state ≡ x.state → length y.reaped + y.reclaimed ≡ length x.reaped + x.reclaimed + 1 → (is_answered x.state ≡ false → y.reclaimed ≡ 0) → 0 < at.out → next ≡ (if (at.next + 1) == n then 0 else (at.next + 1))
      → IsPoster n y (record at { next = next; out = at.out - 1 })
  poster-back y next posted state back un some f = let o = h.out_is in let g = big in let r = h.room in let p : length y.posted ≡ length x.posted = ap length posted in record {
    lawful = h.lawful;
    size_is = h.size_is;
    fill_is = h.fill_is ∙ ap (λ (j : ℕ). j % n) (sym p);
    next_is = f ∙ ap (λ (j : ℕ). if (j + 1) == n then 0 else (j + 1)) h.next_is ∙ next_place n (length x.reaped + x.reclaimed) (omega arith) ∙ ap (λ (j : ℕ). j % n) (sym back);
    out_is = omega arith;
    room = omega arith;
    state_is = h.state_is ∙ sym state;
    unreclaimed = λ a. un (ap is_answered (sym state) ∙ a);
  }

  -- C1, C4, C5
  pub poster-control_stepped : (step : HandshakeStep) (w : ℕ) → MayControlStep step x.state → IsPoster n (record x { state = after_control_step step x.state w }) (record at { state = after_control_step step at.state w })
  poster-control_stepped AskEnable w may = poster-state (after_control_step AskEnable x.state w) x.published (λ a. open_unanswered x.state (new_open x.state may))
  poster-control_stepped LoadControl w may = subst (λ (s : DriverState). IsPoster n (record x { state = learned x.state w }) (record at { state = learned s w })) (sym h.state_is) (poster-state (learned x.state w) x.published (learned_unanswered x.state w))
  poster-control_stepped AskDisable w may = poster-state (after_control_step AskDisable x.state w) x.published (λ a. open_unanswered x.state (on_open x.state may))

-- How the record of an end, and what it has learnt, are read after a step
module _ {Ring Posted Completed Reaped D C : Type 0} {form : Form Ring Posted Completed Reaped D C} where
  pub record-after : (d new : DriverSide form) (e : DriverEvent D) → new ≡ driver_grown d e → driver_record new ≡ drive form (driver_record d) e
  record-after d new e step = ap driver_record step ∙ driving-snoc form.posting form.drive_own undriven d.events e

  pub known-after : (d new : DriverSide form) (e : DriverEvent D) → new ≡ driver_grown d e → known_of new ≡ know form (driver_record d) (known_of d) e
  known-after d new e step = ap known_of step ∙ knowing-snoc form.posting form.drive_own form.saw_head form.know_own undriven form.unknown d.events e

  -- a step of the handshake changes the state alone, and teaches nothing else
  pub control_stepped-record : (d : DriverSide form) (step : HandshakeStep) (w : ℕ) → drive form (driver_record d) (control_event step w) ≡ record (driver_record d) { state = after_control_step step (driver_state d) w }
  control_stepped-record d AskEnable w = refl
  control_stepped-record d LoadControl w = refl
  control_stepped-record d AskDisable w = refl

  pub control_stepped-known : (d : DriverSide form) (step : HandshakeStep) (w : ℕ) → know form (driver_record d) (known_of d) (control_event step w) ≡ known_of d
  control_stepped-known d AskEnable w = refl
  control_stepped-known d LoadControl w = refl
  control_stepped-known d AskDisable w = refl

  -- C6
  module _ (d : DriverSide form) (at : DriverPlaces) (h : IsPoster (driver_size d) (driver_record d) at) where
    pub came-keeps : (new : DriverSide form) (buf : Buffer) (next : ℕ) → is_stopped (driver_state d) ≡ true → ¬ (at.out ≡ 0) → CameBack d at.next buf new → next ≡ place_next at.size at.next → IsPoster (driver_size new) (driver_record new) (record at { next = next; out = at.out - 1 })
    came-keeps new buf next stopped ne f e = subst (λ (n : ℕ). IsPoster n (driver_record new) (record at { next = next; out = at.out - 1 })) (sym (ap driver_size f.step))
        (subst (λ (x : Driven Posted Reaped). IsPoster (driver_size d) x (record at { next = next; out = at.out - 1 })) (sym (record-after d new (driver.Reclaimed at.next buf) f.step))
        (poster-back (driver_size d) (driver_record d) at h (record (driver_record d) { reclaimed = (driver_record d).reclaimed + 1 }) next refl refl (omega arith) (λ a. absurd (both_ways (is_answered (driver_state d)) a (stopped_answered (driver_state d) stopped))) (omega arith)
        (e ∙ ap (λ (n : ℕ). if (at.next + 1) == n then 0 else (at.next + 1)) h.size_is)))
