-- The making of a ring: its first seat takes all slots.
use Rattle.std.proofs.Common.{◌≡◌, ℕ, zero, suc, ◌+◌, ◌%◌, ◌<◌, ◌≤◌, List, [], ◌∷◌, ◌++◌, map, replicate, length, set, sym, refl, ap, ◌∙◌, subst, ⊎_elim, inr, arith, mod-eq_of_lt, append_assoc, append-nil, length-set}
use Rattle.std.specs.Prelude.{slice_index, slice_set}
use mathlib.Core.Option as maybe
use mathlib.Core.Option.{some, none, some-ne-none}
use lib.ListN.{get_elem?}
use Rattle.atomic_table.specs.Table.{Act, keeps, takes, chain, Valid, homes_after, carried_after, step, Allows}
use Rattle.atomic_table.proofs.Lists.{at_set, set_else}
use Rattle.buffer_pool.specs.Buffer.{Buffer, blank}
use Rattle.shared_ring.specs.declared.events.View.{View}
use Rattle.shared_ring.specs.declared.events.View.TheVariants.{Maker, Both}
use Rattle.shared_ring.specs.Seats.{Fits, HasSeats}
use Rattle.shared_ring.specs.Slots.{empty_slots}
use Rattle.shared_ring.specs.Tables.{IsRuledBy}
use Rattle.shared_ring.specs.Plays.{Seated, Deals}
use Rattle.shared_ring.proofs.Folds.{empty_slots-back}
use Rattle.shared_ring.proofs.Laying.{set-same}

-- all slots below k are taken, the last first
take_all : ℕ → Act Buffer
take_all zero = keeps
take_all (suc k) = chain (takes k blank) (take_all k)

carried-all : (n k : ℕ) (c : List (ℕ × Buffer)) → k ≤ n → carried_after c (take_all k) ≡ empty_slots n 0 k ++ c
unfolding take_all
carried-all n zero c h = refl
carried-all n (suc k) c h = let below : k < n = omega arith in
    carried-all n k ((k, blank) ∷ c) (omega arith)
    ∙ sym (append_assoc (empty_slots n 0 k) ((k, blank) ∷ []) c)
    ∙ ap (λ (xs : List (ℕ × Buffer)). xs ++ c)
    (ap (λ (j : ℕ). empty_slots n 0 k ++ (j, blank) ∷ []) (sym (mod-eq_of_lt below) ∙ ap (λ (j : ℕ). j % n) (let e : k ≡ 0 + k = omega arith in e)) ∙ empty_slots-back n 0 k)

valid-all : (k : ℕ) (c : List (ℕ × Buffer)) (homes : List (maybe.Option Buffer)) → ((j : ℕ) → j < k → get_elem? homes j ≡ some (some blank)) → Valid homes c (take_all k)
unfolding take_all
valid-all zero c homes h = tt
valid-all (suc k) c homes h = (h k (omega arith), valid-all k ((k, blank) ∷ c) (set homes k none) (λ j lt. set_else homes k j none (λ e. omega arith) ∙ h j (omega arith)))

count-all : (k : ℕ) (c : List (ℕ × Buffer)) (homes : List (maybe.Option Buffer)) → length (homes_after homes c (take_all k)) ≡ length homes
unfolding take_all
count-all zero c homes = refl
count-all (suc k) c homes = count-all k ((k, blank) ∷ c) (set homes k none) ∙ length-set homes k none

empty-homes : (n j : ℕ) → j < n → get_elem? (map some (replicate n blank)) j ≡ some (some blank)
empty-homes zero j h = absurd (omega arith)
empty-homes (suc n) zero h = refl
empty-homes (suc n) (suc j) h = empty-homes n j (omega arith)

module _ {Ring D C : Type 0} (IsLaidOut : Ring → List D → List C → List ℕ → List (maybe.Option Buffer) → Type 0) (n m : ℕ) where
  first_seat : (id : ℕ) → get_elem? (Maker ∷ []) id ≡ some (let v : View D C = Maker in v) → id ≡ 0
  first_seat zero e = refl
  first_seat (suc id) e = absurd (some-ne-none Maker (sym e))

  other_seat : (j : ℕ) (v : View D C) → get_elem? (Maker ∷ []) j ≡ some v → j ≡ 0
  other_seat zero v e = refl
  other_seat (suc j) v e = absurd (some-ne-none v (sym e))

  opening-seats : (views : List (View D C)) (id : ℕ) → views ≡ Maker ∷ [] → get_elem? views id ≡ some Maker → HasSeats {D = D} {C = C} [] [] (set views id (Both [] []))
  opening-seats views id e at = subst (λ (vs : List (View D C)). HasSeats {D = D} {C = C} [] [] (set vs id (Both [] []))) (sym e) (record {
    driver_seat = id;
    controller_seat = id;
    fits = λ j v f. ⊎_elim
        (λ p. subst (λ (w : View D C). Fits [] [] id id j w) p.1 (p.0, refl, p.0, refl))
        (λ p. absurd (p.0 (other_seat j v p.1 ∙ sym (first_seat id (subst (λ (vs : List (View D C)). get_elem? vs id ≡ some Maker) e at)))))
        (at_set (Maker ∷ []) id j (Both [] []) v f);
  })

  -- the load by which the first seat takes all slots
  pub allow_deal : (id i : ℕ) (opening : Ring) → 1 < n → ((words : List ℕ) (homes : List (maybe.Option Buffer)) → words ≡ replicate m 0 → length homes ≡ n → IsLaidOut opening [] [] words homes)
      → Allows (IsRuledBy IsLaidOut n m) n id (Maker, []) i (λ x. x) (Deals (step n i 0 0 none) (Maker, []))
  allow_deal id i opening pos opens s ruled count at small = ⊎_elim
      (λ b. (
        Both [] [],
        take_all n,
        valid-all n [] s.homes (λ j h. subst (λ (hs : List (maybe.Option Buffer)). get_elem? hs j ≡ some (some blank)) (sym b.homes) (empty-homes n j h)),
        (
          pos,
          inr (record {
            ring = opening;
            ds = [];
            cs = [];
            laid_out = opens (slice_set s.words i (slice_index s.words i)) (homes_after s.homes [] (take_all n)) (set-same s.words i ∙ b.words) (count-all n [] s.homes ∙ count);
            seats = opening-seats s.views id b.views at;
          }),
        ),
        record { seat = ap (λ (xs : List (ℕ × Buffer)). let m : Seated D C = (Both [] [], xs) in m) (carried-all n n [] (omega arith) ∙ append-nil (empty_slots n 0 n)) },
      ))
      (λ r. absurd (r.seats.fits id Maker at))
      ruled.1
