-- What a closed ring gives back: the buffer of each posting that is out and not held, at its place.
use Rattle.std.proofs.Common.{◌≡◌, ℕ, zero, suc, ◌+◌, ◌%◌, ◌<◌, ◌≤◌, Bool, if◌then◌else◌, List, [], ◌∷◌, ◌++◌, length, map, drop, Option, Some, None, IsPermutation, sym, refl, ap, ◌∙◌, subst, arith}
use Rattle.std.specs.Prelude.{slice_get}
use Rattle.std.proofs.lemmas.Option.{none-some, same_Some}
use Rattle.atomic_table.specs.Seated.{TableId}
use Rattle.buffer_pool.specs.Buffer.{Buffer}
use Rattle.ring_model.specs.declared.states.Owner.{Owner}
use Rattle.ring_model.specs.shared.Lawful.{IsLawfulMap, window}
use Rattle.ring_model.specs.shared.Queue.{Queue, posted_count, completed_count, returned_count}
use Rattle.ring_model.specs.kept.Queues.{IsKept}
use Rattle.shared_ring.specs.declared.ends.DriverPlaces.{DriverPlaces}
use Rattle.shared_ring.specs.declared.ends.ControllerPlaces.{ControllerPlaces}
use Rattle.shared_ring.specs.Calls.{IsPoster, IsServer}
use Rattle.shared_ring.specs.Ends.{DriverSide, driver_size, driver_record, posted, ControllerSide, controller_size, controller_record, held}
use Rattle.shared_ring.specs.Forms.{Form, controlling}
use Rattle.shared_ring.specs.LaidOut.{driven, IsControlled, AllLeft}
use Rattle.shared_ring.specs.Meeting.{IsReal, AllReal, AllCameBack, CameBackFrom, IsOutAt, kept_at, kept_upto, number_at, numbers_at}
use Rattle.shared_ring.specs.Records.{Driven}
use Rattle.shared_ring.proofs.Closing.{IsPlaced, closes, kept-count, kept-there, kept-else, kept-all, kept-once}

pub item_at : {X : Type 0} (xs : List X) (k : ℕ) → k < length xs → (x : X) × (slice_get xs k ≡ Some x)
item_at [] k h = absurd (omega arith)
item_at (x ∷ xs) zero h = (x, refl)
item_at (x ∷ xs) (suc k) h = item_at xs k (omega arith)

-- what goes for the two ends of a ring goes for them as a caller sees them
pub as-seen : {Ring Posted Completed Reaped D C : Type 0} {form : Form Ring Posted Completed Reaped D C} (P : DriverSide form → ControllerSide form → Type 0) (d seen : DriverSide form) (c other : ControllerSide form) → d ≡ seen → c ≡ other → other.table ≡ seen.table
    → (c.table ≡ d.table → P d c) → P seen other
as-seen {form = form} P d seen c other e f one p = subst (λ (x : DriverSide form). P x other) e (subst (P d) f (p (ap (λ (x : ControllerSide form). x.table) f ∙ one ∙ sym (ap (λ (x : DriverSide form). x.table) e))))

-- `lain` is what lies at an item, and `fresh` what lies at one that is not served
module _ {Ring Posted Completed Reaped D C : Type 0} {form : Form Ring Posted Completed Reaped D C} (d : DriverSide form) (c : ControllerSide form) (at : DriverPlaces) (e : IsPoster (driver_size d) (driver_record d) at) (same : c.table ≡ d.table)
    (places : ControllerPlaces) (h : IsServer form.carries (controller_size c) (controller_record c) places)
    (word_of_item : ℕ → Option Posted → Option Completed → ℕ) (buffer_of_item : Option Posted → Option Completed → Option Buffer) (ends : Completed → Bool) (q : Queue Posted Completed Reaped) (kept : IsKept (driver_size d) ends q)
    (owners : List Owner) (lawful : IsLawfulMap (window q) owners) (size_is : q.size ≡ driver_size d) (bars : Bool)
    (did : driver_record d ≡ driven q) (controls : IsControlled {Reaped = Reaped} word_of_item buffer_of_item q bars (controlling form (driver_size d) c.events)) (slots : List Buffer) (left : AllLeft buffer_of_item (driver_size d) q slots)
    (lain : (k : ℕ) (x : Posted) → slice_get q.ledger.posted k ≡ Some x → (b : Buffer) × ((buffer_of_item (Some x) (slice_get q.ledger.completed k) ≡ Some b) × form.IsOf x b))
    (real : (x : Posted) (b : Buffer) → form.IsOf x b → IsReal b)
    (number : Posted → ℕ) (numbered : (x : Posted) (b : Buffer) → form.IsOf x b → b.number ≡ number x)
    (fresh : (x : Posted) → (b : Buffer) × ((buffer_of_item (Some x) None ≡ Some b) × (b.number ≡ number x))) where
  big : 1 < driver_size d
  big = let g : 8 ≤ driver_size d = e.lawful.0 in omega arith

  abbrev IsLaidOut : ℕ → Buffer → Type 0
  IsLaidOut j y = buffer_of_item (slice_get q.ledger.posted j) (slice_get q.ledger.completed j) ≡ Some y

  abbrev Is : ℕ → Buffer → Type 0
  Is j y = (x : Posted) × ((slice_get (posted d) j ≡ Some x) × form.IsOf x y)

  -- what lies at an item that is out
  buffer-of : (k : ℕ) → k < posted_count q → (b : Buffer) × (IsLaidOut k b × Is k b)
  buffer-of k past = let x = item_at q.ledger.posted k past in let b = lain k x.0 x.1 in
      (b.0, (ap (λ (o : Option Posted). buffer_of_item o (slice_get q.ledger.completed k)) x.1 ∙ b.1.0, (x.0, (ap (λ (z : Driven Posted Reaped). slice_get z.posted k) did ∙ x.1, b.1.1))))

  some-there : completed_count q < posted_count q → ¬ (buffer_of_item (slice_get q.ledger.posted (completed_count q)) None ≡ None)
  some-there more none = let x = item_at q.ledger.posted (completed_count q) more in let b = fresh x.0 in none-some b.0 (sym none ∙ ap (λ (o : Option Posted). buffer_of_item o None) x.1 ∙ b.1.0)

  placed : IsPlaced (driver_size d) q at.next at.out places.serve places.holding
  placed = closes d c at e same places h word_of_item buffer_of_item ends q kept bars did controls some-there

  abbrev buffers : List (Option Buffer)
  buffers = kept_upto (kept_at (driver_size d) at.next at.out places.serve places.holding slots) (driver_size d)

  reaped-back : (Gave : ℕ → Type 0) → ((place k : ℕ) (x : Posted) (b : Buffer) → IsOutAt d k place → slice_get buffers place ≡ Some (Some b) → slice_get (posted d) k ≡ Some x → form.IsOf x b → Gave place)
      → CameBackFrom (driver_size d) owners Gave buffers
  reaped-back Gave gave = record {
    count = kept-count kept lawful size_is big placed slots IsLaidOut Is buffer-of left;
    ring = λ place is. found place (kept-there kept lawful size_is big placed slots IsLaidOut Is buffer-of left place is);
    others = kept-else kept lawful size_is big placed slots IsLaidOut Is buffer-of left;
  }
    where
      found : (place : ℕ) → ((k : ℕ) × (b : Buffer) × ((returned_count q ≤ k) × (k < posted_count q) × (k % driver_size d ≡ place) × (slice_get buffers place ≡ Some (Some b)) × Is k b)) → Gave place
      found place (k, b, f) = let x = f.4 in gave place k x.0 b
          (record { out = subst (λ (z : Driven Posted Reaped). length z.reaped + z.reclaimed ≤ k) (sym did) f.0; posted_item = subst (λ (z : Driven Posted Reaped). k < length z.posted) (sym did) f.1; place_is = f.2 }) f.3 x.1.0 x.1.1

  all-real : AllReal buffers
  unfolding buffer-of
  all-real = kept-all kept lawful size_is big placed slots IsLaidOut Is buffer-of left IsReal (λ j past. let y = buffer-of j past in real y.1.1.0 y.0 y.1.1.1.1)

  -- what the controller's record says that it holds
  held-here : number_at (held c) ≡ number_at (if q.held then buffer_of_item (slice_get q.ledger.posted (completed_count q)) None else None)
  held-here = ap (λ (z : TableId). number_at (controlling form z.slots c.events).held) same ∙ ap number_at controls.held

  all-once : AllCameBack number d c buffers
  unfolding buffer-of
  all-once = subst (λ (z : Driven Posted Reaped). IsPermutation (map number (drop (length z.reaped + z.reclaimed) z.posted)) (numbers_at buffers ++ number_at (held c))) (sym did)
      (kept-once kept lawful size_is big placed slots IsLaidOut Is buffer-of left
      number (λ j past x is. let y = buffer-of j past in numbered y.1.1.0 y.0 y.1.1.1.1 ∙ ap number (same_Some y.1.1.0 x (sym y.1.1.1.0 ∙ ap (λ (z : Driven Posted Reaped). slice_get z.posted j) did ∙ is)))
      (number_at (held c))
      (λ no. held-here ∙ ap (λ (b : Bool). number_at (if b then buffer_of_item (slice_get q.ledger.posted (completed_count q)) None else None)) no)
      (λ yes x is. held-here ∙ ap (λ (b : Bool). number_at (if b then buffer_of_item (slice_get q.ledger.posted (completed_count q)) None else None)) yes ∙ ap (λ (o : Option Posted). number_at (buffer_of_item o None)) is
      ∙ (let b = fresh x in ap number_at b.1.0 ∙ ap (λ (j : ℕ). j ∷ []) b.1.1)))

  pub comes-back : (Gave : ℕ → Type 0) → ((place k : ℕ) (x : Posted) (b : Buffer) → IsOutAt d k place → slice_get buffers place ≡ Some (Some b) → slice_get (posted d) k ≡ Some x → form.IsOf x b → Gave place)
      → CameBackFrom (driver_size d) owners Gave buffers × AllReal buffers × AllCameBack number d c buffers
  comes-back Gave gave = (reaped-back Gave gave, all-real, all-once)
