-- Whose record each seat has, as one of them steps. It goes for any kinds of events.
use Rattle.std.proofs.Common.{zero, suc, ◌<◌, ◌≡◌, ◌≢◌, ℕ, ◌⊎◌, List, [], ◌∷◌, ◌++◌, length, set, sym, refl, ap, ◌∙◌, subst, ⊎_elim, inl, inr, arith}
use mathlib.Core.Option.{some, some-injective, some-ne-none}
use Rattle.std.proofs.Math.ListN.{length-set}
use lib.ListN.{get_elem?}
use Rattle.atomic_table.proofs.Lists.{at_set, set_again, set_else}
use Rattle.shared_ring.specs.declared.events.View.{View}
use Rattle.shared_ring.specs.declared.events.View.TheVariants.{Maker, Driver, Controller, Both, Nobody}
use Rattle.shared_ring.specs.Seats.{Fits, HasSeats}

module _ {A : Type 0} where
  -- the place of an element in a list that is one longer
  at_snoc_or : (l : List A) (a b : A) (j n : ℕ) → length l ≡ n → get_elem? (l ++ a ∷ []) j ≡ some b → (get_elem? l j ≡ some b) ⊎ ((j ≡ n) × (a ≡ b))
  at_snoc_or [] a b zero n e f = inr (e, some-injective a b f)
  at_snoc_or [] a b (suc j) n e f = absurd (some-ne-none b (sym f))
  at_snoc_or (x ∷ xs) a b zero n e f = inl f
  at_snoc_or (x ∷ xs) a b (suc j) zero e f = absurd (omega arith)
  at_snoc_or (x ∷ xs) a b (suc j) (suc n) e f = ⊎_elim (λ p. inl p) (λ p. inr (ap suc p.0, p.1)) (at_snoc_or xs a b j n (omega arith) f)

  within_list : (l : List A) (i : ℕ) (a : A) → get_elem? l i ≡ some a → i < length l
  within_list [] i a e = absurd (some-ne-none a (sym e))
  within_list (x ∷ xs) zero a e = omega arith
  within_list (x ∷ xs) (suc i) a e = let h : i < length xs = within_list xs i a e in omega arith

module _ {D C : Type 0} where
  -- what a seat fits, where what it says of either end goes on
  refit : (ds es : List D) (cs fs : List C) (i k i' k' j : ℕ) (v : View D C) → ((xs : List D) → (j ≡ i) × (xs ≡ ds) → (j ≡ i') × (xs ≡ es)) → ((ys : List C) → (j ≡ k) × (ys ≡ cs) → (j ≡ k') × (ys ≡ fs)) → Fits ds cs i k j v → Fits es fs i' k' j v
  refit ds es cs fs i k i' k' j Maker d c f = f
  refit ds es cs fs i k i' k' j (Driver xs) d c f = d xs f
  refit ds es cs fs i k i' k' j (Controller ys) d c f = c ys f
  refit ds es cs fs i k i' k' j (Both xs ys) d c f = let a = d xs (f.0, f.1) in let b = c ys (f.2, f.3) in (a.0, a.1, b.0, b.1)
  refit ds es cs fs i k i' k' j Nobody d c f = tt

  -- another seat than the driver's fits whatever the driver's record becomes
  fits-driver : (ds es : List D) (cs : List C) (i k j : ℕ) (v : View D C) → j ≢ i → Fits ds cs i k j v → Fits es cs i k j v
  fits-driver ds es cs i k j v ne = refit ds es cs cs i k i k j v (λ xs p. absurd (ne p.0)) (λ ys p. p)

  -- and another than the controller's, whatever the controller's becomes, and whichever seat has it
  fits-controller : (ds : List D) (cs es : List C) (i k k' j : ℕ) (v : View D C) → j ≢ k → Fits ds cs i k j v → Fits ds es i k' j v
  fits-controller ds cs es i k k' j v ne = refit ds ds cs es i k i k' j v (λ xs p. p) (λ ys p. absurd (ne p.0))

  pub drivers_are : (ds es : List D) (cs : List C) (views : List (View D C)) (id : ℕ) → HasSeats ds cs views → get_elem? views id ≡ some (Driver es) → es ≡ ds
  drivers_are ds es cs views id h e = (h.fits id (Driver es) e).1

  pub controllers_are : (ds : List D) (cs es : List C) (views : List (View D C)) (id : ℕ) → HasSeats ds cs views → get_elem? views id ≡ some (Controller es) → es ≡ cs
  controllers_are ds cs es views id h e = (h.fits id (Controller es) e).1

  pub both_are : (ds es : List D) (cs fs : List C) (views : List (View D C)) (id : ℕ) → HasSeats ds cs views → get_elem? views id ≡ some (Both es fs) → (es ≡ ds) × (fs ≡ cs)
  both_are ds es cs fs views id h e = let f = h.fits id (Both es fs) e in (f.1, f.3)

  -- the driver's seat has a new record
  pub driver_seated : (ds es xs : List D) (cs : List C) (views : List (View D C)) (id : ℕ) → HasSeats ds cs views → get_elem? views id ≡ some (Driver xs) → HasSeats es cs (set views id (Driver es))
  driver_seated ds es xs cs views id h e = record {
    driver_seat = h.driver_seat;
    controller_seat = h.controller_seat;
    fits = λ j v f. ⊎_elim
        (λ p. subst (λ (w : View D C). Fits es cs h.driver_seat h.controller_seat j w) p.1 (p.0 ∙ (h.fits id (Driver xs) e).0, refl))
        (λ p. fits-driver ds es cs h.driver_seat h.controller_seat j v (λ q. p.0 (q ∙ sym (h.fits id (Driver xs) e).0)) (h.fits j v p.1))
        (at_set views id j (Driver es) v f);
  }

  pub controller_seated : (ds : List D) (cs es xs : List C) (views : List (View D C)) (id : ℕ) → HasSeats ds cs views → get_elem? views id ≡ some (Controller xs) → HasSeats ds es (set views id (Controller es))
  controller_seated ds cs es xs views id h e = record {
    driver_seat = h.driver_seat;
    controller_seat = h.controller_seat;
    fits = λ j v f. ⊎_elim
        (λ p. subst (λ (w : View D C). Fits ds es h.driver_seat h.controller_seat j w) p.1 (p.0 ∙ (h.fits id (Controller xs) e).0, refl))
        (λ p. fits-controller ds cs es h.driver_seat h.controller_seat h.controller_seat j v (λ q. p.0 (q ∙ sym (h.fits id (Controller xs) e).0)) (h.fits j v p.1))
        (at_set views id j (Controller es) v f);
  }

  -- a seat whose view stays
  pub same_seated : (ds : List D) (cs : List C) (views : List (View D C)) (id : ℕ) (v : View D C) → HasSeats ds cs views → get_elem? views id ≡ some v → HasSeats ds cs (set views id v)
  same_seated ds cs views id v h e = subst (λ (vs : List (View D C)). HasSeats ds cs vs) (sym (set_again views id v e)) h

  -- the controller's record goes to a new seat, and the seat that had it has the view w
  moved : (ds : List D) (cs : List C) (views : List (View D C)) (id : ℕ) (h : HasSeats ds cs views) (w : View D C) → id ≡ h.controller_seat → id < length views
      → Fits ds cs h.driver_seat (length views) id w → HasSeats ds cs (set views id w ++ Controller cs ∷ [])
  moved ds cs views id h w is within f = record {
    driver_seat = h.driver_seat;
    controller_seat = length views;
    fits = λ j v e. ⊎_elim
        (λ old. ⊎_elim
        (λ p. subst (λ (u : View D C). Fits ds cs h.driver_seat (length views) j u) p.1 (subst (λ (m : ℕ). Fits ds cs h.driver_seat (length views) m w) (sym p.0) f))
        (λ p. fits-controller ds cs cs h.driver_seat h.controller_seat (length views) j v (λ q. p.0 (q ∙ sym is)) (h.fits j v p.1))
        (at_set views id j w v old))
        (λ new. subst (λ (u : View D C). Fits ds cs h.driver_seat (length views) j u) new.1 (new.0, refl))
        (at_snoc_or (set views id w) (Controller cs) v j (length views) (length-set views id w) e);
  }

  -- the seat of both gives the controller's record to a new seat
  pub halve_seated : (ds es : List D) (cs fs : List C) (views : List (View D C)) (id : ℕ) → HasSeats ds cs views → get_elem? views id ≡ some (Both es fs) → HasSeats ds cs (set views id (Driver es) ++ Controller fs ∷ [])
  halve_seated ds es cs fs views id h e = let f = h.fits id (Both es fs) e in
      subst (λ (xs : List C). HasSeats ds cs (set views id (Driver es) ++ Controller xs ∷ [])) (sym f.3)
      (moved ds cs views id h (Driver es) f.2 (within_list views id (Both es fs) e) (f.0, f.1))

  -- a seat lends its record to a new seat
  pub lend_seated : (ds : List D) (cs fs : List C) (views : List (View D C)) (id : ℕ) → HasSeats ds cs views → get_elem? views id ≡ some (Controller fs) → HasSeats ds cs (set views id Nobody ++ Controller fs ∷ [])
  lend_seated ds cs fs views id h e = let f = h.fits id (Controller fs) e in
      subst (λ (xs : List C). HasSeats ds cs (set views id Nobody ++ Controller xs ∷ [])) (sym f.1)
      (moved ds cs views id h Nobody f.0 (within_list views id (Controller fs) e) tt)

  -- the controller's record goes from the seat `other` to the seat id, which has the view w
  handed : (ds : List D) (cs : List C) (views : List (View D C)) (id other : ℕ) (h : HasSeats ds cs views) (w : View D C) → other ≡ h.controller_seat → ¬ (other ≡ id)
      → Fits ds cs h.driver_seat id id w → HasSeats ds cs (set (set views id w) other Nobody)
  handed ds cs views id other h w is ne f = record {
    driver_seat = h.driver_seat;
    controller_seat = id;
    fits = λ j v e. ⊎_elim
        (λ spent. subst (λ (u : View D C). Fits ds cs h.driver_seat id j u) spent.1 tt)
        (λ old. ⊎_elim
        (λ p. subst (λ (u : View D C). Fits ds cs h.driver_seat id j u) p.1 (subst (λ (m : ℕ). Fits ds cs h.driver_seat id m w) (sym p.0) f))
        (λ p. fits-controller ds cs cs h.driver_seat h.controller_seat id j v (λ q. old.0 (q ∙ sym is)) (h.fits j v p.1))
        (at_set views id j w v old.1))
        (at_set (set views id w) other j Nobody v e);
  }

  -- the driver's seat takes in the controller's record
  pub unite_seated : (ds es : List D) (cs fs : List C) (views : List (View D C)) (id other : ℕ) → HasSeats ds cs views → get_elem? views id ≡ some (Driver es) → ¬ (other ≡ id) → get_elem? (set views id (Both es fs)) other ≡ some (Controller fs)
      → HasSeats ds cs (set (set views id (Both es fs)) other Nobody)
  unite_seated ds es cs fs views id other h e ne f = let a = h.fits id (Driver es) e in let b = h.fits other (Controller fs) (sym (set_else views id other (Both es fs) ne) ∙ f) in
      handed ds cs views id other h (Both es fs) b.0 ne (a.0, a.1, refl, b.1)

  -- a seat with no record takes in the controller's
  pub return_seated : (ds : List D) (cs fs : List C) (views : List (View D C)) (id other : ℕ) → HasSeats ds cs views → get_elem? views id ≡ some Nobody → ¬ (other ≡ id) → get_elem? (set views id (Controller fs)) other ≡ some (Controller fs)
      → HasSeats ds cs (set (set views id (Controller fs)) other Nobody)
  return_seated ds cs fs views id other h e ne f = let b = h.fits other (Controller fs) (sym (set_else views id other (Controller fs) ne) ∙ f) in
      handed ds cs views id other h (Controller fs) b.0 ne (refl, b.1)
