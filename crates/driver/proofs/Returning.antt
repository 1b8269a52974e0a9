-- Buffers of a disabled queue as they come back, one after another.
use Rattle.std.proofs.Common.{◌≡◌, ◌∙◌, ℕ, suc, ◌+◌, List, [], ◌∷◌, ◌++◌, length, map, drop, Option, Some, None, sym, refl, ap, subst, arith, ◌-◌, ◌<◌, append_assoc, length-append, add-one, ⊎_elim}
use Rattle.std.specs.Prelude.{slice_get}
use Rattle.std.proofs.lemmas.List.{reverse-append, map-append, length-map}
use Rattle.std.proofs.lemmas.Option.{none-some, slice_get_within, get_or_from_slice_get}
use Rattle.std.proofs.Math.Seq.{drop-cons}
use Rattle.buffer_pool.specs.Buffer.{Buffer, buffer}
use Rattle.shared_ring.specs.declared.events.DriverEvent.TheVariants as driver
use Rattle.ring_laws.specs.Lists.{slice_get-snoc}
use Rattle.shared_ring.specs.Ends.{DriverSide, driver_record, posted, reclaimed, returned, next_place, driver_grown}
use Rattle.shared_ring.specs.Forms.{Form}
use Rattle.shared_ring.specs.Records.{Driven}
use Rattle.driver.specs.Steps.{is_reclaim}
use Rattle.rx_ring.specs.Calls as receive
use Rattle.rx_ring.specs.Ends as received
use Rattle.tx_ring.specs.Calls as transmit
use Rattle.tx_ring.specs.Ends as sent
use Rattle.driver.specs.Reclaiming.{out_of, with_reclaimed, WasOut, CameBack, CameHome, ReclaimedNext}
use Rattle.driver.proofs.Running.{runs-none, runs-one, runs-trans}

-- a list from one of its items on
pub from_item : {X : Type 0} (xs : List X) (k : ℕ) (x : X) → slice_get xs k ≡ Some x → drop k xs ≡ x ∷ drop (k + 1) xs
from_item xs k x e = drop-cons xs k x (slice_get_within xs k x e)
    ∙ (ap (λ y. y ∷ drop (suc k) xs) (get_or_from_slice_get xs k x x e) ∙ ap (λ (j : ℕ). x ∷ drop j xs) (sym (add-one k)))

module _ {Ring Posted Completed Reaped D C : Type 0} {form : Form Ring Posted Completed Reaped D C} (number : Posted → ℕ) where
  with_reclaimed-append : (xs ys : List Buffer) (d : DriverSide form) → with_reclaimed (xs ++ ys) d ≡ with_reclaimed ys (with_reclaimed xs d)
  with_reclaimed-append [] ys d = refl
  with_reclaimed-append (b ∷ xs) ys d = with_reclaimed-append xs ys (driver_grown d (driver.Reclaimed (next_place d) b))

  abbrev pub back-none : (d : DriverSide form) (stash : List ℕ) → CameBack number d stash d stash
  back-none d stash = record {
    bufs = [];
    steps = refl;
    oldest = λ k b e. absurd (none-some b e);
    numbers = [];
    numbers_are = refl;
    runs = runs-none is_reclaim d;
    did = ap (λ (k : ℕ). let x : Driven Posted Reaped = record (driver_record d) { reclaimed = k } in x) (let e : reclaimed d ≡ reclaimed d + 0 = omega arith in e);
    out = refl;
    stash = refl;
  }

  -- one more: the oldest that is out
  pub back-one : (old : DriverSide form) (had : List ℕ) (d : DriverSide form) (stash : List ℕ) (new : DriverSide form) (has : List ℕ) (buf : Buffer)
      → CameBack number old had d stash → (home : CameHome d buf new) → number home.item ≡ buf.number → has ≡ buf.number ∷ stash → CameBack number old had new has
  back-one old had d stash new has buf f home is put = record {
    bufs = f.bufs ++ buf ∷ [];
    steps = home.step ∙ ap (λ (s : DriverSide form). driver_grown s (driver.Reclaimed (next_place s) buf)) f.steps ∙ sym (with_reclaimed-append f.bufs (buf ∷ []) old);
    oldest = λ k b e. ⊎_elim (λ a. f.oldest k b a.1) (λ l. subst (λ (j : ℕ). WasOut old j b) (sym l.0) (subst (λ (c : Buffer). WasOut old (length f.bufs) c) l.1 last)) (slice_get-snoc f.bufs buf b k e);
    numbers = f.numbers ++ buf.number ∷ [];
    numbers_are = ap (λ (l : List ℕ). l ++ buf.number ∷ []) f.numbers_are ∙ sym (map-append (λ b. b.number) f.bufs (buf ∷ []));
    runs = runs-trans is_reclaim old d new f.runs (runs-one is_reclaim d new (driver.Reclaimed (next_place d) buf) home.step refl);
    did = home.same ∙ (ap (λ (x : Driven Posted Reaped). let y : Driven Posted Reaped = record x { reclaimed = x.reclaimed + 1 } in y) f.did
        ∙ ap (λ (k : ℕ). let x : Driven Posted Reaped = record (driver_record old) { reclaimed = k } in x) (let e = length-append f.numbers (buf.number ∷ []) in let g : reclaimed old + length f.numbers + 1 ≡ reclaimed old + length (f.numbers ++ buf.number ∷ []) = omega arith in g));
    out = f.out ∙ (ap (λ (l : List ℕ). f.numbers ++ l) here ∙ sym (append_assoc f.numbers (buf.number ∷ []) (out_of number new)));
    stash = put ∙ (ap (λ (l : List ℕ). buf.number ∷ l) f.stash ∙ ap (λ (l : List ℕ). l ++ had) (sym (reverse-append f.numbers (buf.number ∷ []))));
  }
    where
      after : returned d + 1 ≡ returned new
      after = let e = ap (λ (x : Driven Posted Reaped). length x.reaped + x.reclaimed) home.same in omega arith

      here : out_of number d ≡ buf.number ∷ out_of number new
      here = ap (map number) (from_item (posted d) (returned d) home.item home.there)
          ∙ (ap (λ (k : ℕ). k ∷ map number (drop (returned d + 1) (posted d))) is
          ∙ (ap (λ (k : ℕ). buf.number ∷ map number (drop k (posted d))) after
          ∙ ap (λ (x : Driven Posted Reaped). buf.number ∷ map number (drop (returned new) x.posted)) (sym home.same)))

      count : length f.numbers ≡ length f.bufs
      count = ap (λ (l : List ℕ). length l) f.numbers_are ∙ length-map f.bufs (λ b. b.number)

      last : WasOut old (length f.bufs) buf
      last = record {
        item = home.item;
        there = subst (λ (x : Driven Posted Reaped). slice_get x.posted (returned old + length f.bufs) ≡ Some home.item) f.did
            (subst (λ (j : ℕ). slice_get (posted d) j ≡ Some home.item) (let e = ap (λ (x : Driven Posted Reaped). length x.reaped + x.reclaimed) f.did in let c = count in let g : returned d ≡ returned old + length f.bufs = omega arith in g) home.there);
        is_of = home.is_of;
      }

-- fewer are out
pub fewer-out : {Ring Posted Completed Reaped D C : Type 0} {form : Form Ring Posted Completed Reaped D C} (d new : DriverSide form) (buf : Buffer) → CameHome d buf new → length (posted new) - returned new < length (posted d) - returned d
fewer-out d new buf f =
    let within = slice_get_within (posted d) (returned d) f.item f.there in
    let many = ap (λ x. length x.posted) f.same in
    let back = ap (λ x. length x.reaped + x.reclaimed) f.same in
    omega arith

-- what either ring's end says of a buffer that came back
pub received-home : (o : Option Buffer) (old new : received.DriverSide) → receive.Reclaimed old o new → ReclaimedNext old o new
received-home None old new f = f
received-home (Some buf) old new f = record { item = buf.number; step = f.step; there = f.number; is_of = (refl, f.real); real = f.real; same = f.same; known = f.known }

pub sent-home : (o : Option Buffer) (old new : sent.DriverSide) → transmit.Reclaimed old o new → ReclaimedNext old o new
sent-home None old new f = f
sent-home (Some buf) old new f = record { item = f.item; step = f.step; there = f.there; is_of = f.is; real = subst (λ (b : Buffer). b ≡ buffer b.number b.bytes) (sym f.is) refl; same = f.same; known = f.known }
