-- What the places of a controller's end tell of its record as that grows.
use Rattle.std.proofs.Common.{◌≡◌, ℕ, ◌+◌, ◌-◌, ◌%◌, ◌<◌, ◌≤◌, inl, inr, ⊎_elim, Bool, true, false, if◌then◌else◌, List, [], ◌∷◌, ◌++◌, length, Option, Some, None, sym, refl, ap, ◌∙◌, subst, arith, length-append, mod-lt}
use Rattle.std.specs.Prelude.{◌==◌}
use Rattle.std.proofs.Math.Nat.{zero-mod}
use Rattle.std.proofs.lemmas.Bool.{cases_Bool, both_ways, true≢false, false≢true}
use Rattle.buffer_pool.specs.Buffer.{Buffer}
use Rattle.limits.specs.RingLength.{IsRingLength}
use Rattle.ring_model.specs.declared.states.ControllerState.TheVariants.{Off, Serving, Ended}
use Rattle.ring_model.specs.shared.Frames.{Piece, ends_frame, unfinished, unfinished_from}
use Rattle.ring_model.specs.shared.Handshakes.{is_serving}
use Rattle.ring_model.specs.shared.Places.{between_places}
use Rattle.ring_laws.specs.Places.{next_place}
use Rattle.shared_ring.specs.declared.control.Control.{Control}
use Rattle.shared_ring.specs.declared.control.Control.TheVariants.{Disabled, EnableAsked, Enabled, DisableAsked}
use Rattle.shared_ring.specs.declared.ends.ControllerPlaces.{ControllerPlaces}
use Rattle.shared_ring.specs.declared.ends.ControllerLoad.{ControllerLoad}
use Rattle.shared_ring.specs.declared.ends.ControllerLoad.TheVariants.{Tail, Request}
use Rattle.shared_ring.specs.declared.events.ControllerEvent.{ControllerEvent}
use Rattle.shared_ring.specs.declared.events.ControllerEvent.TheVariants as controller
use Rattle.shared_ring.specs.Calls.{IsServer, FoundAhead, LoadedRequested, LoadedWord, MayEnable, MayDisable, MayAnswer, IsSettled, Answered}
use Rattle.shared_ring.specs.Ends.{ControllerSide, controller_size, controller_record, controller_state, completed, held, serve_place, controller_grown}
use Rattle.shared_ring.specs.Forms.{Form, control}
use Rattle.shared_ring.specs.Records.{Controlled, uncontrolled, count_at, ends_whole}
use Rattle.shared_ring.specs.Slots.{is_there}
use Rattle.shared_ring.specs.Steps.{FoundTail}
use Rattle.shared_ring.specs.Words.{control_word}
use Rattle.shared_ring.proofs.Folds.{controlling-snoc}

-- in a ring that was never enabled
abbrev pub unplaced : ℕ → ControllerPlaces
unplaced n = record { size = n; serve = 0; available = 0; holding = false; at_frame_end = true; state = Off; seen = Disabled }

pub server-fresh : {Completed : Type 0} (carries : Completed → Piece) (n : ℕ) → IsRingLength n → IsServer carries n uncontrolled (unplaced n)
server-fresh carries n lawful = let g : 8 ≤ n = lawful.0 in record {
  lawful = lawful;
  size_is = refl;
  serve_is = sym (zero-mod n);
  available_is = refl;
  available_below = omega arith;
  held_is = refl;
  held_available = λ e. absurd (false≢true e);
  held_serving = λ e. absurd (false≢true e);
  at_frame_end_is = refl;
  state_is = refl;
  seen_is = refl;
}

module _ {Completed : Type 0} (carries : Completed → Piece) where
  ends-snoc : (whole : Bool) (xs : List Completed) (s : Completed) → ends_frame (λ (s : Completed). (carries s).eop) whole (xs ++ s ∷ []) ≡ (carries s).eop
  ends-snoc whole [] s = refl
  ends-snoc whole (x ∷ xs) s = ends-snoc (carries x).eop xs s

  -- whether the last ends a frame, where there is one more
  pub whole-snoc : (xs : List Completed) (s : Completed) → ends_whole carries (xs ++ s ∷ []) ≡ (carries s).eop
  whole-snoc xs s = ends-snoc true xs s

  rest-none : (whole : Bool) (rest xs : List Completed) → (whole ≡ true → rest ≡ []) → ends_frame (λ (s : Completed). (carries s).eop) whole xs ≡ true → unfinished_from carries rest xs ≡ []
  rest-none whole rest [] h e = h e
  rest-none whole rest (x ∷ xs) h e = rest-none (carries x).eop (if (carries x).eop then [] else rest ++ x ∷ []) xs (λ f. ap (λ (b : Bool). if b then [] else rest ++ x ∷ []) f) e

  -- between two frames nothing is unfinished
  pub at_frame_end-rest : (xs : List Completed) → ends_whole carries xs ≡ true → unfinished carries xs ≡ []
  at_frame_end-rest xs e = rest-none true [] xs (λ f. refl) e

pub there-none : (o : Option Buffer) → o ≡ None → is_there o ≡ false
there-none o e = ap is_there e

pub none-there : (o : Option Buffer) → is_there o ≡ false → o ≡ None
none-there None e = refl
none-there (Some b) e = absurd (true≢false e)

module _ {Completed : Type 0} (carries : Completed → Piece) (n : ℕ) (x : Controlled Completed) (at : ControllerPlaces) (h : IsServer carries n x at) where
  big : 8 ≤ n
  big = h.lawful.0

  pub serve-below : at.serve < n
  serve-below = let b = big in let e = h.serve_is in let m : length x.completed % n < n = mod-lt (length x.completed) (omega arith) in omega arith

  pub next-is : (serve : ℕ) → serve ≡ (if (at.serve + 1) == n then 0 else (at.serve + 1)) → serve ≡ (length x.completed + 1) % n
  next-is serve e = let b = big in e ∙ ap (λ (j : ℕ). if (j + 1) == n then 0 else (j + 1)) h.serve_is ∙ next_place n (length x.completed) (omega arith)

  -- a step that leaves all of this
  pub server-same : (y : Controlled Completed) → y.completed ≡ x.completed → y.known ≡ x.known → y.held ≡ x.held → y.state ≡ x.state → y.seen ≡ x.seen → IsServer carries n y at
  server-same y a b c d e = record {
    lawful = h.lawful;
    size_is = h.size_is;
    serve_is = rw (a) h.serve_is;
    available_is = rw (a, b) h.available_is;
    available_below = h.available_below;
    held_is = rw (c) h.held_is;
    held_available = h.held_available;
    held_serving = rw (d) h.held_serving;
    at_frame_end_is = rw (a) h.at_frame_end_is;
    state_is = rw (d) h.state_is;
    seen_is = rw (e) h.seen_is;
  }

  -- A3, B3: how far a loaded tail is ahead
  module _ (tail available : ℕ) (is : available ≡ between_places at.size at.serve tail) (grows : x.known ≤ count_at n (length x.completed) tail) where
    pub counted : available ≡ (tail + n - length x.completed % n) % n
    counted = is ∙ ap (λ (m : ℕ). (tail + m - at.serve) % m) h.size_is ∙ ap (λ (j : ℕ). (tail + n - j) % n) h.serve_is

    pub server-look : IsServer carries n (record x { known = count_at n (length x.completed) tail }) (record at { available = available })
    server-look = let b = big in let i = counted in let g = grows in let j = h.available_is in let k : length x.completed + available ≡ count_at n (length x.completed) tail = ap (λ (j : ℕ). length x.completed + j) counted in let m : (tail + n - length x.completed % n) % n < n = mod-lt (tail + n - length x.completed % n) (omega arith) in record {
      lawful = h.lawful;
      size_is = h.size_is;
      serve_is = h.serve_is;
      available_is = omega arith;
      available_below = omega arith;
      held_is = h.held_is;
      held_available = λ e. let a = h.held_available e in omega arith;
      held_serving = h.held_serving;
      at_frame_end_is = h.at_frame_end_is;
      state_is = h.state_is;
      seen_is = h.seen_is;
    }

  -- A4, B4
  pub server-fetch : (b : Buffer) → is_serving x.state ≡ true → 0 < x.known - length x.completed → IsServer carries n (record x { held = Some b }) (record at { holding = true })
  server-fetch b serving some = let i = h.available_is in record {
    lawful = h.lawful;
    size_is = h.size_is;
    serve_is = h.serve_is;
    available_is = h.available_is;
    available_below = h.available_below;
    held_is = refl;
    held_available = λ e. omega arith;
    held_serving = λ e. serving;
    at_frame_end_is = h.at_frame_end_is;
    state_is = h.state_is;
    seen_is = h.seen_is;
  }

  -- A5, B5: what was held is served
  pub server-completed : (s : Completed) (serve : ℕ) (at_frame_end : Bool) → at.holding ≡ true → serve ≡ (if (at.serve + 1) == n then 0 else (at.serve + 1)) → at_frame_end ≡ (carries s).eop → (place : ℕ) (bars : Bool)
      → IsServer carries n (record x { completed = x.completed ++ s ∷ []; held = None; head = place; barred = bars }) (record at { serve = serve; available = at.available - 1; holding = false; at_frame_end = at_frame_end })
  server-completed s serve at_frame_end holds e ends place bars = let len = length-append x.completed (s ∷ []) in let sf = h.held_available holds in let i = h.available_is in let fb = h.available_below in record {
    lawful = h.lawful;
    size_is = h.size_is;
    serve_is = next-is serve e ∙ ap (λ (j : ℕ). j % n) (sym len);
    available_is = omega arith;
    available_below = omega arith;
    held_is = refl;
    held_available = λ f. absurd (false≢true f);
    held_serving = λ f. absurd (false≢true f);
    at_frame_end_is = ends ∙ sym (whole-snoc carries x.completed s);
    state_is = h.state_is;
    seen_is = h.seen_is;
  }

  -- C2
  pub server-request : (v : Control) → IsServer carries n (record x { seen = control_word v }) (record at { seen = v })
  server-request v = record { lawful = h.lawful; size_is = h.size_is; serve_is = h.serve_is; available_is = h.available_is; available_below = h.available_below; held_is = h.held_is; held_available = h.held_available; held_serving = h.held_serving; at_frame_end_is = h.at_frame_end_is; state_is = h.state_is; seen_is = refl }

  -- C3
  pub server-enable : is_serving at.state ≡ false → IsServer carries n (record x { completed = []; known = 0; head = 0; state = Serving; seen = 2; barred = false }) (record at { serve = 0; available = 0; at_frame_end = true; state = Serving; seen = Enabled })
  server-enable idle = let b = big in record {
    lawful = h.lawful;
    size_is = h.size_is;
    serve_is = sym (zero-mod n);
    available_is = refl;
    available_below = omega arith;
    held_is = h.held_is;
    held_available = λ e. absurd (both_ways (is_serving x.state) (sym (ap is_serving h.state_is) ∙ idle) (h.held_serving e));
    held_serving = λ e. refl;
    at_frame_end_is = refl;
    state_is = refl;
    seen_is = refl;
  }

  pub server-disable : x.held ≡ None → IsServer carries n (record x { state = Ended; seen = 0 }) (record at { state = Ended; seen = Disabled })
  server-disable unheld = record {
    lawful = h.lawful;
    size_is = h.size_is;
    serve_is = h.serve_is;
    available_is = h.available_is;
    available_below = h.available_below;
    held_is = h.held_is;
    held_available = h.held_available;
    held_serving = λ e. absurd (both_ways at.holding (h.held_is ∙ there-none x.held unheld) e);
    at_frame_end_is = h.at_frame_end_is;
    state_is = refl;
    seen_is = refl;
  }

-- a step that leaves what is served and held, the head, and whether more may be fetched
pub record Leaves {Completed : Type 0} (x y : Controlled Completed) : Type 0 where
  pub completed : y.completed ≡ x.completed
  pub held : y.held ≡ x.held
  pub head : y.head ≡ x.head
  pub state : y.state ≡ x.state
  pub barred : y.barred ≡ x.barred

-- What the end's calls answer, over its record
module _ {Ring Posted Completed Reaped D C : Type 0} {form : Form Ring Posted Completed Reaped D C} where
  pub record-after : (c new : ControllerSide form) (e : ControllerEvent C) → new ≡ controller_grown c e → controller_record new ≡ control form (controller_size c) (controller_record c) e
  record-after c new e step = ap controller_record step ∙ controlling-snoc (controller_size c) form.control_own uncontrolled c.events e

  -- over what its record is then
  pub completed-as : (c new : ControllerSide form) (e : ControllerEvent C) (y : Controlled Completed) (at : ControllerPlaces) → new ≡ controller_grown c e → controller_record new ≡ y → IsServer form.carries (controller_size c) y at → IsServer form.carries (controller_size new) (controller_record new) at
  completed-as c new e y at step is h = subst (λ (n : ℕ). IsServer form.carries n (controller_record new) at) (sym (ap controller_size step)) (subst (λ (z : Controlled Completed). IsServer form.carries (controller_size c) z at) (sym is) h)

  -- A3, B3
  module _ (c new : ControllerSide form) (tail : ℕ) (f : FoundTail c tail new) where
    record-is : controller_record new ≡ record (controller_record c) { known = count_at (controller_size c) (length (completed c)) tail }
    record-is = record-after c new (controller.Looked tail) f.step

    pub look-keeps : (at : ControllerPlaces) (available : ℕ) → IsServer form.carries (controller_size c) (controller_record c) at → available ≡ between_places at.size at.serve tail → IsServer form.carries (controller_size new) (controller_record new) (record at { available = available })
    look-keeps at available h is = completed-as c new (controller.Looked tail) (record (controller_record c) { known = count_at (controller_size c) (length (completed c)) tail }) (record at { available = available }) f.step record-is
        (server-look form.carries (controller_size c) (controller_record c) at h tail available is f.grows)

    available-there : (found : ControllerPlaces) → IsServer form.carries (controller_size new) (controller_record new) found → found.available ≡ (tail + controller_size c - serve_place c) % controller_size c
    available-there found k = let i = k.available_is in let r : (controller_record new).known ≡ count_at (controller_size c) (length (completed c)) tail = ap (λ (y : Controlled Completed). y.known) record-is in let s : length (completed new) ≡ length (completed c) = ap (λ (y : Controlled Completed). length y.completed) record-is in omega arith

    pub look-found : (found : ControllerPlaces) → IsServer form.carries (controller_size new) (controller_record new) found → FoundAhead c found.available new
    look-found found k = let a = available-there found k in let g = f.grows in record {
      tail = tail;
      step = f.step;
      available = available-there found k;
      same = record-is ∙ ap (λ (j : ℕ). let y : Controlled Completed = record (controller_record c) { known = length (completed c) + j } in y) (sym (available-there found k));
      grows = omega arith;
    }

  -- a word that is loaded leaves all else
  pub loaded-leaves : (c new : ControllerSide form) (which : ControllerLoad) (word : ℕ) → LoadedWord which c word new → Leaves (controller_record c) (controller_record new)
  loaded-leaves c new Tail word f = let r = record-is c new word f in record { completed = ap (λ (y : Controlled Completed). y.completed) r; held = ap (λ (y : Controlled Completed). y.held) r; head = ap (λ (y : Controlled Completed). y.head) r; state = ap (λ (y : Controlled Completed). y.state) r; barred = ap (λ (y : Controlled Completed). y.barred) r }
  loaded-leaves c new Request word f = let r = f.same in record { completed = ap (λ (y : Controlled Completed). y.completed) r; held = ap (λ (y : Controlled Completed). y.held) r; head = ap (λ (y : Controlled Completed). y.head) r; state = ap (λ (y : Controlled Completed). y.state) r; barred = ap (λ (y : Controlled Completed). y.barred) r }

  module _ (c : ControllerSide form) (at : ControllerPlaces) (h : IsServer form.carries (controller_size c) (controller_record c) at) where
    -- C2
    pub request-keeps : (new : ControllerSide form) (v : Control) → new ≡ controller_grown c (controller.LoadedRequest (control_word v)) → IsServer form.carries (controller_size new) (controller_record new) (record at { seen = v })
    request-keeps new v step = completed-as c new (controller.LoadedRequest (control_word v)) (record (controller_record c) { seen = control_word v }) (record at { seen = v }) step (record-after c new (controller.LoadedRequest (control_word v)) step)
        (server-request form.carries (controller_size c) (controller_record c) at h v)

    pub requested : (new : ControllerSide form) (v : Control) → new ≡ controller_grown c (controller.LoadedRequest (control_word v)) → LoadedRequested c (control_word v) new
    requested new v step = record { step = step; same = record-after c new (controller.LoadedRequest (control_word v)) step }

    -- C3
    module _ (may : MayAnswer c) where
      pub asks-enable : is_serving at.state ≡ false → MayEnable c
      asks-enable idle = ⊎_elim (λ e. e) (λ d. absurd (both_ways (is_serving (controller_state c)) (sym (ap is_serving h.state_is) ∙ idle) d.serving)) may

      pub asks-disable : is_serving at.state ≡ true → MayDisable c
      asks-disable serving = ⊎_elim (λ e. absurd (both_ways (is_serving (controller_state c)) e.idle (sym (ap is_serving h.state_is) ∙ serving))) (λ d. d) may

      pub disable-keeps : (new : ControllerSide form) → is_serving at.state ≡ true → new ≡ controller_grown c controller.Disabled → IsServer form.carries (controller_size new) (controller_record new) (record at { state = Ended; seen = Disabled })
      disable-keeps new serving step = let d = asks-disable serving in completed-as c new controller.Disabled (record (controller_record c) { state = Ended; seen = 0 }) (record at { state = Ended; seen = Disabled }) step (record-after c new controller.Disabled step)
          (server-disable form.carries (controller_size c) (controller_record c) at h d.held)

    pub idle-unheld : is_serving at.state ≡ false → held c ≡ None
    idle-unheld idle = none-there (held c) (sym h.held_is ∙ ⊎_elim (λ t. absurd (both_ways (is_serving (controller_state c)) (sym (ap is_serving h.state_is) ∙ idle) (h.held_serving t))) (λ f. f) (cases_Bool at.holding))

    pub enable-keeps : (new : ControllerSide form) → is_serving at.state ≡ false → new ≡ controller_grown c controller.Enabled → IsServer form.carries (controller_size new) (controller_record new) (record at { serve = 0; available = 0; at_frame_end = true; state = Serving; seen = Enabled })
    enable-keeps new idle step = completed-as c new controller.Enabled (record (controller_record c) { completed = []; known = 0; head = 0; state = Serving; seen = 2; barred = false }) (record at { serve = 0; available = 0; at_frame_end = true; state = Serving; seen = Enabled }) step (record-after c new controller.Enabled step)
        (server-enable form.carries (controller_size c) (controller_record c) at h idle)

    pub enabled-is : (new : ControllerSide form) → is_serving at.state ≡ false → new ≡ controller_grown c controller.Enabled → Answered c new
    enabled-is new idle step = inl (record { was = sym (ap is_serving h.state_is) ∙ idle; step = step; same = record-after c new controller.Enabled step })

    pub disabled-is : (new : ControllerSide form) → is_serving at.state ≡ true → new ≡ controller_grown c controller.Disabled → Answered c new
    disabled-is new serving step = inr (record { was = sym (ap is_serving h.state_is) ∙ serving; step = step; same = record-after c new controller.Disabled step })

    -- what `can_answer` reads
    pub may-enable : at.seen ≡ EnableAsked → is_serving at.state ≡ false → MayAnswer c
    may-enable asked idle = inl (record { asked = sym h.seen_is ∙ ap control_word asked; idle = sym (ap is_serving h.state_is) ∙ idle })

    pub may-disable : at.seen ≡ DisableAsked → IsSettled c → MayAnswer c
    may-disable asked settled = inr (record { asked = sym h.seen_is ∙ ap control_word asked; settled = settled })
