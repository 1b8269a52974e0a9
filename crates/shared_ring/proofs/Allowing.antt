-- Each step of an end keeps the rule, whatever the table is when it happens, and tells what its play says. It goes for any ring.
use Rattle.std.proofs.Common.{◌≡◌, ◌≢◌, ℕ, zero, suc, ◌<◌, List, [], ◌∷◌, ◌++◌, set, sym, subst, ⊎_elim, inr}
use Rattle.std.specs.Prelude.{slice_index, slice_set}
use mathlib.Core.Option as maybe
use mathlib.Core.Option.{some, some-injective, some-ne-none}
use lib.ListN.{get_elem?}
use Rattle.atomic_table.specs.Table.{State, Act, keeps, Valid, homes_after, carried_after, Allows, Splits, Joins}
use Rattle.buffer_pool.specs.Buffer.{Buffer}
use Rattle.shared_ring.specs.declared.events.View.{View}
use Rattle.shared_ring.specs.declared.events.View.TheVariants.{Maker, Driver, Controller, Both, Nobody}
use Rattle.shared_ring.specs.Tables.{Runs, IsRuledBy}
use Rattle.shared_ring.specs.Plays.{Seated}
use Rattle.shared_ring.proofs.Laying.{set-same}
use Rattle.shared_ring.proofs.Seating.{drivers_are, controllers_are, both_are, driver_seated, controller_seated, same_seated, halve_seated, lend_seated, unite_seated, return_seated}

-- One of the two ends in the rule: the view of its seat with a record, and the agreement with that record first
pub record Role {Ring D C : Type 0} (IsLaidOut : Ring → List D → List C → List ℕ → List (maybe.Option Buffer) → Type 0) (E O : Type 0) : Type 1 where
  pub view : List E → View D C
  pub Lie : Ring → List E → List O → List ℕ → List (maybe.Option Buffer) → Type 0
  pub ended : (es : List E) → view es ≢ Maker
  -- a seat with this view has the end's record, and the table runs on with another that agrees
  pub runs_on : (s : State Buffer (View D C)) (id : ℕ) (es : List E) → Runs IsLaidOut s → get_elem? s.views id ≡ some (view es)
      → (q : Ring) × (os : List O) × Lie q es os s.words s.homes × ((later : Ring) (fs : List E) (words : List ℕ) (homes : List (maybe.Option Buffer)) → Lie later fs os words homes → Runs IsLaidOut (record { words = words; homes = homes; views = set s.views id (view fs) }))

module _ {Ring D C : Type 0} (IsLaidOut : Ring → List D → List C → List ℕ → List (maybe.Option Buffer) → Type 0) where
  abbrev pub driver_role : Role IsLaidOut D C
  driver_role = record {
    view = Driver;
    Lie = IsLaidOut;
    ended = λ es e. cc;
    runs_on = λ s id es r at. (
      r.ring,
      r.cs,
      subst (λ (xs : List D). IsLaidOut r.ring xs r.cs s.words s.homes) (sym (drivers_are r.ds es r.cs s.views id r.seats at)) r.laid_out,
      λ later fs words homes l. record { ring = later; ds = fs; cs = r.cs; laid_out = l; seats = driver_seated r.ds fs es r.cs s.views id r.seats at },
    );
  }

  abbrev pub controller_role : Role IsLaidOut C D
  controller_role = record {
    view = Controller;
    Lie = λ q cs ds words homes. IsLaidOut q ds cs words homes;
    ended = λ es e. cc;
    runs_on = λ s id es r at. (
      r.ring,
      r.ds,
      subst (λ (xs : List C). IsLaidOut r.ring r.ds xs s.words s.homes) (sym (controllers_are r.ds r.cs es s.views id r.seats at)) r.laid_out,
      λ later fs words homes l. record { ring = later; ds = r.ds; cs = fs; laid_out = l; seats = controller_seated r.ds r.cs fs es s.views id r.seats at },
    );
  }

module _ {Ring D C : Type 0} (IsLaidOut : Ring → List D → List C → List ℕ → List (maybe.Option Buffer) → Type 0) (n m : ℕ) where
  -- in a table that is being made no seat has a record
  no_record : (views : List (View D C)) (id : ℕ) (v : View D C) → views ≡ Maker ∷ [] → get_elem? views id ≡ some v → v ≡ Maker
  no_record views id v e f = made id (subst (λ (vs : List (View D C)). get_elem? vs id ≡ some v) e f)
    where
      made : (j : ℕ) → get_elem? (Maker ∷ []) j ≡ some v → v ≡ Maker
      made zero g = sym (some-injective Maker v g)
      made (suc j) g = absurd (some-ne-none v (sym g))

  pub running : (s : State Buffer (View D C)) (id : ℕ) (v : View D C) → IsRuledBy IsLaidOut n m s → get_elem? s.views id ≡ some v → v ≢ Maker → Runs IsLaidOut s
  running s id v ruled at ne = ⊎_elim (λ b. absurd (ne (no_record s.views id v b.views at))) (λ r. r) ruled.1

  module _ {E O : Type 0} (role : Role IsLaidOut E O) where
    -- What a step of an end does where words and slots lie as a ring has them
    pub record Goes (es : List E) (carried : List (ℕ × Buffer)) (i : ℕ) (f : ℕ → ℕ) (tells : ℕ → Seated D C → Type 0) (os : List O) (words : List ℕ) (homes : List (maybe.Option Buffer)) : Type 0 where
      pub event : E
      pub act : Act Buffer
      pub valid : Valid homes carried act
      pub later : Ring
      pub laid_out : role.Lie later (es ++ event ∷ []) os (slice_set words i (f (slice_index words i))) (homes_after homes carried act)
      pub told : tells (slice_index words i) (role.view (es ++ event ∷ []), carried_after carried act)

    pub allow_end : (id : ℕ) (es : List E) (carried : List (ℕ × Buffer)) (i : ℕ) (f : ℕ → ℕ) (tells : ℕ → Seated D C → Type 0)
        → ((q : Ring) (os : List O) (words : List ℕ) (homes : List (maybe.Option Buffer)) → 1 < n → role.Lie q es os words homes → Goes es carried i f tells os words homes)
        → Allows (IsRuledBy IsLaidOut n m) n id (role.view es, carried) i f tells
    allow_end id es carried i f tells goes s ruled count at small =
        let r = running s id (role.view es) ruled at (role.ended es) in let o = role.runs_on s id es r at in
        let g = goes o.0 o.1 s.words s.homes ruled.0 o.2 in (
          role.view (es ++ g.event ∷ []),
          g.act,
          g.valid,
          (ruled.0, inr (o.3 g.later (es ++ g.event ∷ []) (slice_set s.words i (f (slice_index s.words i))) (homes_after s.homes carried g.act) g.laid_out)),
          g.told,
        )

  -- the load of two ends that meet
  pub allow_both : (id : ℕ) (ds : List D) (cs : List C) (carried : List (ℕ × Buffer)) (i : ℕ) (tells : ℕ → Seated D C → Type 0)
      → ((q : Ring) (words : List ℕ) (homes : List (maybe.Option Buffer)) → 1 < n → IsLaidOut q ds cs words homes → tells (slice_index words i) (Both ds cs, carried))
      → Allows (IsRuledBy IsLaidOut n m) n id (Both ds cs, carried) i (λ x. x) tells
  allow_both id ds cs carried i tells goes s ruled count at small =
      let r = running s id (Both ds cs) ruled at (λ e. cc) in
      let both = both_are r.ds ds r.cs cs s.views id r.seats at in
      let l = subst (λ (xs : List D). IsLaidOut r.ring xs cs s.words s.homes) (sym both.0) (subst (λ (ys : List C). IsLaidOut r.ring r.ds ys s.words s.homes) (sym both.1) r.laid_out) in (
        Both ds cs,
        keeps,
        tt,
        (
          ruled.0,
          inr (record {
            ring = r.ring;
            ds = r.ds;
            cs = r.cs;
            laid_out = subst (λ (ws : List ℕ). IsLaidOut r.ring r.ds r.cs ws s.homes) (sym (set-same s.words i)) r.laid_out;
            seats = same_seated r.ds r.cs s.views id (Both ds cs) r.seats at;
          }),
        ),
        goes r.ring s.words s.homes ruled.0 l,
      )

  -- seats that are cut and joined
  pub splits-halve : (id : ℕ) (ds : List D) (cs : List C) → Splits {S = Buffer} (IsRuledBy IsLaidOut n m) id (Both ds cs) (Driver ds) (Controller cs)
  splits-halve id ds cs s ruled at = let r = running s id (Both ds cs) ruled at (λ e. cc) in
      (ruled.0, inr (record { ring = r.ring; ds = r.ds; cs = r.cs; laid_out = r.laid_out; seats = halve_seated r.ds ds r.cs cs s.views id r.seats at }))

  pub splits-lend : (id : ℕ) (cs : List C) → Splits {S = Buffer} (IsRuledBy IsLaidOut n m) id (Controller cs) Nobody (Controller cs)
  splits-lend id cs s ruled at = let r = running s id (Controller cs) ruled at (λ e. cc) in
      (ruled.0, inr (record { ring = r.ring; ds = r.ds; cs = r.cs; laid_out = r.laid_out; seats = lend_seated r.ds r.cs cs s.views id r.seats at }))

  pub joins-unite : (id other : ℕ) (ds : List D) (cs : List C) → Joins {S = Buffer} (IsRuledBy IsLaidOut n m) id (Driver ds) other (Controller cs) (Both ds cs) Nobody
  joins-unite id other ds cs s ruled at ne there = let r = running s id (Driver ds) ruled at (λ e. cc) in
      (ruled.0, inr (record { ring = r.ring; ds = r.ds; cs = r.cs; laid_out = r.laid_out; seats = unite_seated r.ds ds r.cs cs s.views id other r.seats at ne there }))

  pub joins-return : (id other : ℕ) (cs : List C) → Joins {S = Buffer} (IsRuledBy IsLaidOut n m) id Nobody other (Controller cs) (Controller cs) Nobody
  joins-return id other cs s ruled at ne there = let r = running s id Nobody ruled at (λ e. cc) in
      (ruled.0, inr (record { ring = r.ring; ds = r.ds; cs = r.cs; laid_out = r.laid_out; seats = return_seated r.ds r.cs cs s.views id other r.seats at ne there }))
