-- A machine tells from its places who has a place.
use Rattle.std.proofs.Common.{◌≡◌, ℕ, ◌+◌, ◌-◌, ◌%◌, ◌<◌, ◌≤◌, Bool, true, false, not, ◌&&◌, List, Option, Some, sym, refl, ap, ◌∙◌, ⊎_elim, arith, if◌then◌else◌, mod-lt, mod-eq_of_lt}
use Rattle.std.specs.Prelude.{is_none, slice_get, ◌==◌, nat_lt}
use Rattle.std.proofs.lemmas.Bool.{cases_Bool, cases_eq, cases_lt, both_ways, and_parts, and_right, and_left, ltb-true, ltb-false, eqb-true, eq-eqb, ne_eqb}
use Rattle.std.proofs.Math.Nat.{mod-add-mod, add-mod_right}
use Rattle.ring_model.specs.declared.states.Owner.{Owner}
use Rattle.ring_model.specs.declared.states.Owner.TheVariants.{Driver, Ring, Controller}
use Rattle.ring_model.specs.shared.Lawful.{IsLawfulMap}
use Rattle.ring_model.specs.shared.Queue.{Queue, posted_count, completed_count, returned_count, next_head}
use Rattle.ring_model.specs.shared.Agreement.{Agrees, Wrapped}
use Rattle.ring_laws.specs.Places.{ahead}
use Rattle.ring_model.specs.kept.Queues.{IsKept}
use Rattle.ring_laws.specs.Queues.{held_below, returned_completed}
use Rattle.ring_machine.specs.shared.Machine.{told_owner}
use Rattle.ring_machine.proofs.shared.PlaceTests.{and_same}
use Rattle.ring_machine.proofs.shared.Telling.{AreNamed, held_serve_is, held_told, not_not}

-- the item that is so far after item d as the place is after its place lies at the place
there : (n d place : ℕ) → place < n → (d + (place + n - d % n) % n) % n ≡ place
there n d place below = let a = mod-lt d (let pos : 0 < n = omega arith in pos) in ⊎_elim
    (λ lt. let e : (place + n - d % n) % n ≡ place + n - d % n = mod-eq_of_lt (omega arith) in let f : d % n + (place + n - d % n) ≡ place + n = omega arith in
    ap (λ (j : ℕ). (d + j) % n) e ∙ sym (mod-add-mod d n (place + n - d % n)) ∙ ap (λ (j : ℕ). j % n) f ∙ add-mod_right place n ∙ mod-eq_of_lt below)
    (λ le. let e : place + n - d % n ≡ (place - d % n) + n = omega arith in let f : d % n + (place - d % n) ≡ place = omega arith in
    let g : (place + n - d % n) % n ≡ place - d % n = ap (λ (j : ℕ). j % n) e ∙ add-mod_right (place - d % n) n ∙ mod-eq_of_lt (omega arith) in
    ap (λ (j : ℕ). (d + j) % n) g ∙ sym (mod-add-mod d n (place - d % n)) ∙ ap (λ (j : ℕ). j % n) f ∙ mod-eq_of_lt below)
    (cases_lt place (d % n))

-- over plain counts: the map's owner of a place, told from the places of the window
module _ (n first serving past : ℕ) (held : Bool) (owners : List Owner) (pos : 0 < n) (le : first ≤ past) (small : past < first + n)
    (m : IsLawfulMap (record { size = n; first = first; serving = serving; past = past; held = held }) owners) (inside : held ≡ true → (first ≤ serving) × (serving < past)) where
  length_is : (past % n + n - first % n) % n ≡ past - first
  length_is = ahead n first past pos le small

  -- an item that is out and is not held is with the ring
  with_ring : (place : ℕ) → place < n → (held && (place == (serving % n))) ≡ false → (place + n - first % n) % n < past - first → slice_get owners place ≡ Some Ring
  with_ring place below unheld lt = let k : ℕ = first + (place + n - first % n) % n in let at : k % n ≡ place = there n first place below in
      let free : (held && (k == serving)) ≡ false = ⊎_elim
      (λ e. let ne = ⊎_elim (λ (same : k ≡ serving). absurd (both_ways (held && (place == (serving % n))) unheld (rw e (eq-eqb place (serving % n) (sym at ∙ ap (λ (j : ℕ). j % n) same))))) (λ ne. ne) (cases_eq k serving) in and_right held (k == serving) (ne_eqb k serving ne))
      (λ e. and_left held (k == serving) e) (cases_Bool held) in
      ap (λ (q : ℕ). slice_get owners q) (sym at) ∙ m.out k (omega arith) (omega arith) ∙ ap (λ (b : Bool). Some (if b then Controller else Ring)) free

  with_driver : (place : ℕ) → place < n → past - first ≤ (place + n - first % n) % n → slice_get owners place ≡ Some Driver
  with_driver place below ge = m.home place below (λ k a b e. let far : (k % n + n - first % n) % n ≡ k - first = ahead n first k pos a (omega arith) in
      let same : (place + n - first % n) % n ≡ k - first = ap (λ (q : ℕ). (q + n - first % n) % n) (sym e) ∙ far in absurd (omega arith))

  with_controller : (place : ℕ) → (held && (place == (serving % n))) ≡ true → slice_get owners place ≡ Some Controller
  with_controller place e = let t = and_parts held (place == (serving % n)) e in let i = inside t.0 in let same = eq-eqb serving serving refl in
      ap (λ (q : ℕ). slice_get owners q) (eqb-true place (serving % n) t.1) ∙ m.out serving i.0 i.1 ∙ rw (t.0, same) refl

  chosen : (place : ℕ) → place < n → (fetched outside : Bool) → (held && (place == (serving % n))) ≡ fetched → nat_lt ((place + n - first % n) % n) (past - first) ≡ outside
      → slice_get owners place ≡ Some (if fetched then Controller else (if outside then Ring else Driver))
  chosen place below true b e f = with_controller place e
  chosen place below false true e f = with_ring place below e (ltb-true ((place + n - first % n) % n) (past - first) f)
  chosen place below false false e f = with_driver place below (ltb-false ((place + n - first % n) % n) (past - first) f)

  owner_told : (place : ℕ) → place < n → slice_get owners place ≡ Some (if held && (place == (serving % n)) then Controller else
      (if nat_lt ((place + n - first % n) % n) ((past % n + n - first % n) % n) then Ring else Driver))
  owner_told place below = rw length_is (chosen place below (held && (place == (serving % n))) (nat_lt ((place + n - first % n) % n) (past - first)) refl refl)

module _ {Posted Completed Reaped : Type 0} (ends : Completed → Bool) (word_of_item : ℕ → Option Posted → Option Completed → ℕ) (buffer_of_item : Option Posted → Option Completed → Option ℕ) (number : Posted → ℕ) where
  pub owns : (w : Wrapped ℕ) (q : Queue Posted Completed Reaped) → IsKept q.size ends q → Agrees {Reaped = Reaped} ends word_of_item buffer_of_item w q → AreNamed ends word_of_item buffer_of_item number q → (place : ℕ) → place < w.size → slice_get q.owners place ≡ Some (told_owner w place)
  owns w q k a named place below = let o = k.order in let size = a.size_is in let room = o.room in let some = k.places in
      let inside : q.held ≡ true → (returned_count q ≤ completed_count q) × (completed_count q < posted_count q) = λ h. (returned_completed q.size ends q k (o.held_serving h), held_below q.size ends q k h) in
      let holds : not (is_none w.held) ≡ q.held = ap not (held_told ends word_of_item buffer_of_item number w q k a named) ∙ not_not q.held in
      let fetched : (not (is_none w.held) && (place == w.serve)) ≡ (q.held && (place == next_head q)) =
      and_same (not (is_none w.held)) q.held (place == w.serve) (place == next_head q) holds (λ h. ap (λ (j : ℕ). place == j) (held_serve_is ends word_of_item buffer_of_item number w q k a h)) in
      rw fetched (rw (a.size_is, a.fill, a.next) (owner_told q.size (returned_count q) (completed_count q) (posted_count q) q.held q.owners (omega arith) o.returned_posted (omega arith) k.map inside place (omega arith)))
