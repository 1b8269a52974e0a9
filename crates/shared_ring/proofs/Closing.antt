-- A ring's end: what its slots have, and which of them lie in the ring.
use Rattle.std.proofs.Common.{◌≡◌, ◌≢◌, ℕ, zero, suc, ◌+◌, ◌-◌, ◌%◌, ◌<◌, ◌≤◌, ⊎_elim, Bool, true, false, not, ◌&&◌, if◌then◌else◌, List, [], ◌∷◌, ◌++◌, length, Option, Some, None, IfSome, All, IsPermutation, sym, refl, ap, ◌∙◌, subst, arith, mod-lt, mod-eq_of_lt}
use Rattle.std.specs.Prelude.{slice_get, ◌==◌, nat_lt}
use Rattle.std.proofs.Math.Nat.{mod-add-mod, add-mod-mod, add-mod_right}
use Rattle.std.proofs.lemmas.Bool.{cases_Bool, and_parts, and_from, ltb-true, lt-ltb, eqb-true, eq-eqb, not-true, not_from_false, both_ways, cases_lt}
use Rattle.std.proofs.lemmas.List.Elements.{All-nil, All-push}
use Rattle.std.proofs.lemmas.Option.{same_Some, slice_get_within}
use mathlib.Core.Option.{some}
use lib.ListN.{get_elem?}
use Rattle.buffer_pool.specs.Buffer.{Buffer}
use Rattle.ring_model.specs.declared.states.Owner.{Owner}
use Rattle.ring_model.specs.declared.states.Owner.TheVariants.{Driver, Ring, Controller}
use Rattle.ring_model.specs.shared.Handshakes.{is_serving}
use Rattle.ring_model.specs.shared.Lawful.{IsLawfulMap, window, holder}
use Rattle.ring_model.specs.shared.Places.{between_places}
use Rattle.ring_model.specs.shared.Queue.{Queue, posted_count, completed_count, returned_count}
use Rattle.ring_model.specs.kept.Queues.{IsKept}
use Rattle.ring_laws.specs.Places.{ahead, same_item}
use Rattle.ring_laws.specs.Queues.{returned_completed, held_below}
use Rattle.atomic_table.specs.Seated.{TableId}
use Rattle.shared_ring.specs.declared.ends.DriverPlaces.{DriverPlaces}
use Rattle.shared_ring.specs.declared.ends.ControllerPlaces.{ControllerPlaces}
use Rattle.shared_ring.specs.Calls.{IsPoster, IsServer}
use Rattle.shared_ring.specs.Ends.{DriverSide, driver_size, driver_record, ControllerSide, controller_size, controller_record}
use Rattle.shared_ring.specs.Forms.{Form, controlling}
use Rattle.shared_ring.specs.LaidOut.{driven, IsControlled}
use Rattle.shared_ring.specs.Meeting.{slot_of, is_kept, kept_at, kept_upto, number_at, numbers_at}
use Rattle.shared_ring.specs.Records.{Driven, Controlled}
use Rattle.shared_ring.specs.Slots.{is_there}
use Rattle.shared_ring.proofs.Controlling.{serving_settled}
use Rattle.shared_ring.proofs.Gathered.{numbers_from, all-back}
use Rattle.shared_ring.proofs.Meeting.{kept-length, kept-get}

-- A place, counted from the oldest that is out
around : (n r p : ℕ) → 0 < n → p < n → (r + (p + n - r % n) % n) % n ≡ p
around n r p pos below = let m : r % n < n = mod-lt r pos in
    add-mod-mod r (p + n - r % n) n ∙ sym (mod-add-mod r n (p + n - r % n)) ∙ ap (λ (j : ℕ). j % n) (let e : r % n + (p + n - r % n) ≡ p + n = omega arith in e) ∙ add-mod_right p n ∙ mod-eq_of_lt below

holder-held : (held : Bool) (k s : ℕ) → held ≡ true → k ≡ s → (if held && (k == s) then Controller else Ring) ≡ Controller
holder-held held k s h e = rw (h, eq-eqb k s e) refl

ring_not : (o p : Owner) → o ≡ p → p ≢ Ring → ¬ (Some o ≡ Some Ring)
ring_not o p e ne f = ne (sym e ∙ same_Some o Ring f)

kept-every : (P : Option Buffer → Type 0) (f : ℕ → Option Buffer) (n : ℕ) → ((p : ℕ) → p < n → P (f p)) → All P (kept_upto f n)
kept-every P f zero h = All-nil P
kept-every P f (suc n) h = All-push P (kept_upto f n) (f n) (kept-every P f n (λ p below. h p (omega arith))) (h n (omega arith))

-- where both ends stand, in words of the ring
pub record IsPlaced {Posted Completed Reaped : Type 0} (n : ℕ) (q : Queue Posted Completed Reaped) (next out serve : ℕ) (holding : Bool) : Type 0 where
  pub next_is : next ≡ returned_count q % n
  pub out_is : out + returned_count q ≡ posted_count q
  pub held_is : holding ≡ q.held
  pub serve_is : holding ≡ true → serve ≡ completed_count q % n

-- What a closed ring gives back, by the places of its two ends
module _ {Posted Completed Reaped : Type 0} {q : Queue Posted Completed Reaped} {n : ℕ} {ends : Completed → Bool} {owners : List Owner} {next out serve : ℕ} {holding : Bool}
    (kept : IsKept n ends q) (map : IsLawfulMap (window q) owners) (size_is : q.size ≡ n) (big : 1 < n) (placed : IsPlaced n q next out serve holding) where
  window-is : posted_count q < returned_count q + n
  window-is = let o = kept.order in let r = o.room in omega arith

  item : ℕ → ℕ
  item p = returned_count q + between_places n next p

  item-place : (p : ℕ) → p < n → item p % n ≡ p
  unfolding item
  item-place p below = ap (λ (j : ℕ). (returned_count q + (p + n - j) % n) % n) placed.next_is ∙ around n (returned_count q) p (omega arith) below

  -- the place of an item that is out is as far on as the item
  item-back : (k : ℕ) → returned_count q ≤ k → k < posted_count q → between_places n next (k % n) ≡ k - returned_count q
  item-back k first past = let w = window-is in ap (λ (j : ℕ). (k % n + n - j) % n) placed.next_is
      ∙ ahead n (returned_count q) k (omega arith) first (omega arith)

  -- the owner of the place of an item that is out
  owner-out : (k : ℕ) → returned_count q ≤ k → k < posted_count q → slice_get owners (k % n) ≡ Some (holder (window q) k)
  owner-out k first past = let m = map in ap (λ (j : ℕ). slice_get owners (k % j)) (sym size_is) ∙ m.out k first past

  holder-ring : (k : ℕ) → (q.held ≡ true → ¬ (k ≡ completed_count q)) → holder (window q) k ≡ Ring
  holder-ring k free = held_not (q.held && (k == completed_count q)) refl
    where
      held_not : (b : Bool) → (q.held && (k == completed_count q)) ≡ b → (if b then Controller else Ring) ≡ Ring
      held_not true e = let t = and_parts q.held (k == completed_count q) e in absurd (free t.0 (eqb-true k (completed_count q) t.1))
      held_not false e = refl

  -- an item that is out, by its place
  nth : (p : ℕ) → nat_lt (between_places n next p) out ≡ true → (returned_count q ≤ item p) × (item p < posted_count q)
  unfolding item
  nth p e = let h = ltb-true (between_places n next p) out e in let c = placed.out_is in (omega arith, omega arith)

  -- a place that is kept is with Ring
  kept-ring : (p : ℕ) → p < n → is_kept n next out serve holding p ≡ true → slice_get owners p ≡ Some Ring
  kept-ring p below e = let t = and_parts (nat_lt (between_places n next p) out) (not (holding && (p == serve))) e in let w = nth p t.0 in let at = item-place p below in
      ap (slice_get owners) (sym at) ∙ owner-out (item p) w.0 w.1 ∙ ap Some (holder-ring (item p) (λ h same. both_ways (holding && (p == serve)) (not-true (holding && (p == serve)) t.1)
      (and_from holding (p == serve) (placed.held_is ∙ h) (eq-eqb p serve (sym at ∙ ap (λ (j : ℕ). j % n) same ∙ sym (placed.serve_is (placed.held_is ∙ h)))))))

  -- and one with Ring is kept
  ring-kept : (p : ℕ) → p < n → slice_get owners p ≡ Some Ring → is_kept n next out serve holding p ≡ true
  ring-kept p below e = and_from (nat_lt (between_places n next p) out) (not (holding && (p == serve))) within free
    where
      within : nat_lt (between_places n next p) out ≡ true
      within = ⊎_elim (λ lt. lt-ltb (between_places n next p) out lt)
          (λ le. let m = map in absurd (ring_not Driver Driver refl (λ x. cc)
          (sym (m.home p (subst (λ (j : ℕ). p < j) (sym size_is) below) (λ k first past at. let a = subst (λ (j : ℕ). (k % j) ≡ p) size_is at in let b = item-back k first past in
          let f : between_places n next p ≡ k - returned_count q = ap (between_places n next) (sym a) ∙ b in let z = placed.out_is in omega arith)) ∙ e)))
          (cases_lt (between_places n next p) out)

      free : not (holding && (p == serve)) ≡ true
      free = ⊎_elim
          (λ both. let t = and_parts holding (p == serve) both in let w = nth p within in let at = item-place p below in let hold : q.held ≡ true = sym placed.held_is ∙ t.0 in
          let o = kept.order in let a = o.held_known hold in let b = o.known_published (o.held_serving hold) in let x = o.published_posted in let rs = returned_completed n ends q kept (o.held_serving hold) in
          let same : completed_count q ≡ item p = sole (completed_count q) (item p) rs (omega arith) w.0 w.1 (sym (placed.serve_is t.0) ∙ sym (eqb-true p serve t.1) ∙ sym at) in
          absurd (ring_not (holder (window q) (item p)) Controller (holder-held q.held (item p) (completed_count q) hold (sym same)) (λ y. cc) (sym (owner-out (item p) w.0 w.1) ∙ ap (slice_get owners) at ∙ e)))
          (λ no. not_from_false (holding && (p == serve)) no)
          (cases_Bool (holding && (p == serve)))
        where
          sole : (i k : ℕ) → returned_count q ≤ i → i < posted_count q → returned_count q ≤ k → k < posted_count q → i % n ≡ k % n → i ≡ k
          sole i k a b x y same = let w = window-is in ⊎_elim (λ lt. same_item i k n (omega arith) (omega arith) same) (λ le. sym (same_item k i n le (omega arith) (sym same))) (cases_lt i k)

  -- the item that is held is out
  held-out : q.held ≡ true → (returned_count q ≤ completed_count q) × (completed_count q < posted_count q)
  held-out hold = let o = kept.order in (returned_completed n ends q kept (o.held_serving hold), held_below n ends q kept hold)

  free-item : (p : ℕ) → p < n → is_kept n next out serve holding p ≡ true → q.held ≡ true → ¬ (item p ≡ completed_count q)
  free-item p below e h same = let t = and_parts (nat_lt (between_places n next p) out) (not (holding && (p == serve))) e in let at = item-place p below in
      both_ways (holding && (p == serve)) (not-true (holding && (p == serve)) t.1) (and_from holding (p == serve) (placed.held_is ∙ h) (eq-eqb p serve (sym at ∙ ap (λ (j : ℕ). j % n) same ∙ sym (placed.serve_is (placed.held_is ∙ h)))))

  -- What a list of the kept buffers has at each place, where what lies at an item is known to be `Is`
  module _ (slots : List Buffer) (IsLaidOut : ℕ → Buffer → Type 0) (Is : ℕ → Buffer → Type 0) (buffer_of_item : (k : ℕ) → k < posted_count q → (b : Buffer) × (IsLaidOut k b × Is k b))
      (left : (k : ℕ) (b : Buffer) → returned_count q ≤ k → k < posted_count q → (q.held ≡ true → ¬ (k ≡ completed_count q)) → IsLaidOut k b → get_elem? slots (k % n) ≡ some b) where
    pub kept-count : length (kept_upto (kept_at n next out serve holding slots) n) ≡ n
    kept-count = kept-length (kept_at n next out serve holding slots) n

    -- the buffer of an item that is out and not held is at its place
    kept-item : (k : ℕ) → returned_count q ≤ k → (past : k < posted_count q) → (q.held ≡ true → ¬ (k ≡ completed_count q)) → kept_at n next out serve holding slots (k % n) ≡ Some (buffer_of_item k past).0
    kept-item k first past free = let b = buffer_of_item k past in ap (λ (x : Bool). if x then slot_of (get_elem? slots (k % n)) else None) (ring-kept (k % n) (mod-lt k (omega arith)) (owner-out k first past ∙ ap Some (holder-ring k free)))
        ∙ ap slot_of (left k b.0 first past free b.1.0)

    -- none is at that of the item that is held
    kept-held : q.held ≡ true → kept_at n next out serve holding slots (completed_count q % n) ≡ None
    kept-held h = let w = held-out h in ap (λ (x : Bool). if x then slot_of (get_elem? slots (completed_count q % n)) else None) (⊎_elim
        (λ yes. absurd (ring_not (holder (window q) (completed_count q)) Controller (holder-held q.held (completed_count q) (completed_count q) h refl) (λ y. cc)
        (sym (owner-out (completed_count q) w.0 w.1) ∙ kept-ring (completed_count q % n) (mod-lt (completed_count q) (omega arith)) yes)))
        (λ no. no)
        (cases_Bool (is_kept n next out serve holding (completed_count q % n))))

    -- nor at one of the driver's
    kept-home : (p : ℕ) → p < n → ((k : ℕ) → returned_count q ≤ k → k < posted_count q → ¬ (k % n ≡ p)) → kept_at n next out serve holding slots p ≡ None
    kept-home p below none = ap (λ (x : Bool). if x then slot_of (get_elem? slots p) else None) (⊎_elim
        (λ yes. let t = and_parts (nat_lt (between_places n next p) out) (not (holding && (p == serve))) yes in let w = nth p t.0 in absurd (none (item p) w.0 w.1 (item-place p below)))
        (λ no. no)
        (cases_Bool (is_kept n next out serve holding p)))

    -- so each buffer that is kept is one that lies at an item
    pub kept-all : (P : Buffer → Type 0) → ((k : ℕ) (past : k < posted_count q) → P (buffer_of_item k past).0) → All (λ o. IfSome o P) (kept_upto (kept_at n next out serve holding slots) n)
    kept-all P is = kept-every (λ o. IfSome o P) (kept_at n next out serve holding slots) n (λ p below. ⊎_elim
        (λ yes. let t = and_parts (nat_lt (between_places n next p) out) (not (holding && (p == serve))) yes in let w = nth p t.0 in
        subst (λ (o : Option Buffer). IfSome o P) (sym (kept-item (item p) w.0 w.1 (free-item p below yes)) ∙ ap (kept_at n next out serve holding slots) (item-place p below)) (is (item p) w.1))
        (λ no. subst (λ (b : Bool). IfSome (if b then slot_of (get_elem? slots p) else None) P) (sym no) tt)
        (cases_Bool (is_kept n next out serve holding p)))

    -- each buffer that is out is once among those that are kept and the one that is held
    pub kept-once : (number : Posted → ℕ) → ((k : ℕ) (past : k < posted_count q) (x : Posted) → slice_get q.ledger.posted k ≡ Some x → (buffer_of_item k past).0.number ≡ number x)
        → (hold : List ℕ) → (q.held ≡ false → hold ≡ []) → (q.held ≡ true → (x : Posted) → slice_get q.ledger.posted (completed_count q) ≡ Some x → hold ≡ number x ∷ [])
        → IsPermutation (numbers_from number (returned_count q) q.ledger.posted) (numbers_at (kept_upto (kept_at n next out serve holding slots) n) ++ hold)
    kept-once number numbered hold idle busy = let o = kept.order in let back = o.returned_posted in let few = window-is in
        all-back number q.ledger.posted (returned_count q) n (completed_count q) q.held (kept_at n next out serve holding slots) back few
        (λ k first past free x is. ap number_at (kept-item k first past free) ∙ ap (λ (j : ℕ). j ∷ []) (numbered k past x is))
        (λ h. ap number_at (kept-held h))
        (λ p below none. ap number_at (kept-home p below none))
        hold idle busy held-out

    pub kept-there : (p : ℕ) → slice_get owners p ≡ Some Ring
        → (k : ℕ) × (b : Buffer) × ((returned_count q ≤ k) × (k < posted_count q) × (k % n ≡ p) × (slice_get (kept_upto (kept_at n next out serve holding slots) n) p ≡ Some (Some b)) × Is k b)
    kept-there p e = let m = map in let below : p < n = let b = slice_get_within owners p Ring e in let z = m.places in let s = size_is in omega arith in
        let k = ring-kept p below e in let t = and_parts (nat_lt (between_places n next p) out) (not (holding && (p == serve))) k in let w = nth p t.0 in let at = item-place p below in let b = buffer_of_item (item p) w.1 in (
          item p,
          b.0,
          (
            w.0,
            w.1,
            at,
            kept-get (kept_at n next out serve holding slots) n p below
                ∙ ap Some (ap (λ (x : Bool). if x then slot_of (get_elem? slots p) else None) k
                ∙ ap slot_of (ap (get_elem? slots) (sym at) ∙ left (item p) b.0 w.0 w.1 (free-item p below k) b.1.0)),
            b.1.1,
          ),
        )

    pub kept-else : (p : ℕ) → p < n → ¬ (slice_get owners p ≡ Some Ring) → slice_get (kept_upto (kept_at n next out serve holding slots) n) p ≡ Some None
    kept-else p below ne = kept-get (kept_at n next out serve holding slots) n p below
        ∙ ap Some (ap (λ (x : Bool). if x then slot_of (get_elem? slots p) else None) (⊎_elim (λ yes. absurd (ne (kept-ring p below yes))) (λ no. no) (cases_Bool (is_kept n next out serve holding p))))

there-if : (held : Bool) (o : Option Buffer) → (held ≡ true → is_there o ≡ true) → is_there (if held then o else None) ≡ held
there-if true o h = h refl
there-if false o h = refl

there-some : (o : Option Buffer) → ¬ (o ≡ None) → is_there o ≡ true
there-some None h = absurd (h refl)
there-some (Some b) h = refl

-- what the controller's record tells of the ring
module _ {Posted Completed Reaped : Type 0} (word_of_item : ℕ → Option Posted → Option Completed → ℕ) (buffer_of_item : Option Posted → Option Completed → Option Buffer) (ends : Completed → Bool) (n : ℕ)
    (q : Queue Posted Completed Reaped) (kept : IsKept n ends q) (bars : Bool) (c : Controlled Completed) (l : IsControlled {Reaped = Reaped} word_of_item buffer_of_item q bars c) (holding : Bool) (held_is : holding ≡ is_there c.held)
    (some_there : completed_count q < posted_count q → ¬ (buffer_of_item (slice_get q.ledger.posted (completed_count q)) None ≡ None)) where
  pub holds-is : holding ≡ q.held
  holds-is = held_is ∙ ap is_there l.held ∙ there-if q.held (buffer_of_item (slice_get q.ledger.posted (completed_count q)) None) (λ e. there-some (buffer_of_item (slice_get q.ledger.posted (completed_count q)) None) (some_there (held_below n ends q kept e)))

  pub serves-is : holding ≡ true → length c.completed ≡ completed_count q
  serves-is e = let o = kept.order in let serving : is_serving q.handshake.controller ≡ true = o.held_serving (sym holds-is ∙ e) in ap length (l.completed (serving_settled q.handshake serving))

module _ {Ring Posted Completed Reaped D C : Type 0} {form : Form Ring Posted Completed Reaped D C} (d : DriverSide form) (c : ControllerSide form) (at : DriverPlaces) (e : IsPoster (driver_size d) (driver_record d) at) (same : c.table ≡ d.table)
    (places : ControllerPlaces) (h : IsServer form.carries (controller_size c) (controller_record c) places)
    (word_of_item : ℕ → Option Posted → Option Completed → ℕ) (buffer_of_item : Option Posted → Option Completed → Option Buffer) (ends : Completed → Bool) (q : Queue Posted Completed Reaped) (kept : IsKept (driver_size d) ends q) (bars : Bool)
    (driver : driver_record d ≡ driven q) (controller : IsControlled {Reaped = Reaped} word_of_item buffer_of_item q bars (controlling form (driver_size d) c.events))
    (some_there : completed_count q < posted_count q → ¬ (buffer_of_item (slice_get q.ledger.posted (completed_count q)) None ≡ None)) where
  its : {Y : Type 0} (f : Controlled Completed → Y) → f (controller_record c) ≡ f (controlling form (driver_size d) c.events)
  its f = ap (λ (z : TableId). f (controlling form z.slots c.events)) same

  held-here : places.holding ≡ is_there (controlling form (driver_size d) c.events).held
  held-here = h.held_is ∙ its (λ (x : Controlled Completed). is_there x.held)

  pub closes : IsPlaced (driver_size d) q at.next at.out places.serve places.holding
  closes = let o = e.out_is in let r : length (driver_record d).reaped + (driver_record d).reclaimed ≡ returned_count q = ap (λ (x : Driven Posted Reaped). length x.reaped + x.reclaimed) driver in let p : length (driver_record d).posted ≡ posted_count q = ap (λ (x : Driven Posted Reaped). length x.posted) driver in record {
    next_is = e.next_is ∙ ap (λ (j : ℕ). j % driver_size d) r;
    out_is = omega arith;
    held_is = holds-is word_of_item buffer_of_item ends (driver_size d) q kept bars (controlling form (driver_size d) c.events) controller places.holding held-here some_there;
    serve_is = λ f. h.serve_is ∙ ap (λ (m : ℕ). length (controller_record c).completed % m) (ap (λ (z : TableId). z.slots) same) ∙ its (λ (x : Controlled Completed). length x.completed % driver_size d)
        ∙ ap (λ (m : ℕ). m % driver_size d) (serves-is word_of_item buffer_of_item ends (driver_size d) q kept bars (controlling form (driver_size d) c.events) controller places.holding held-here some_there f);
  }
