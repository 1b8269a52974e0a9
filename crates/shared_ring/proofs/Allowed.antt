-- What a direction's agreement allows an end, as what a table's rule allows: a store or a load by which the end's record has one event more, and those that take a slot or give one back.
use Rattle.std.proofs.Common.{◌≡◌, ℕ, ◌<◌, Bool, true, false, List, [], ◌∷◌, ◌++◌, sym, refl, subst}
use Rattle.std.specs.Prelude.{slice_index, slice_set}
use Rattle.std.proofs.lemmas.Bool.{true≢false}
use mathlib.Core.Option as maybe
use mathlib.Core.Option.{some, none}
use lib.ListN.{get_elem?}
use Rattle.atomic_table.specs.Table.{Step, keeps, takes, gives, step, Allows}
use Rattle.buffer_pool.specs.Buffer.{Buffer, blank}
use Rattle.ring_model.specs.declared.states.Completion.{Completion}
use Rattle.shared_ring.specs.Forms.{Form}
use Rattle.shared_ring.specs.Keeping.{IsRuled}
use Rattle.shared_ring.specs.Plays.{SeatOf}
use Rattle.shared_ring.specs.Tables.{words_of}
use Rattle.shared_ring.proofs.Allowing.{Role, Goes, allow_end}
use Rattle.shared_ring.proofs.Laying.{set-same}

module _ {Ring Posted Completed Reaped D C : Type 0} (form : Form Ring Posted Completed Reaped D C) (n : ℕ) (mode : Completion) {E O : Type 0} (role : Role (form.IsLaidOut n mode) E O) (es : List E) where
  -- what goes wherever words, slots and this record agree; and that they agree again
  abbrev pub Going : (List O → List ℕ → List (maybe.Option Buffer) → Type 0) → Type 0
  Going X = (q : Ring) (os : List O) (words : List ℕ) (homes : List (maybe.Option Buffer)) → 1 < n → role.Lie q es os words homes → X os words homes

  abbrev pub Agree : E → List O → List ℕ → List (maybe.Option Buffer) → Type 0
  Agree e os words homes = (q : Ring) × role.Lie q (es ++ e ∷ []) os words homes

  -- words that read as before after a load
  same-words : (e : E) (os : List O) (words : List ℕ) (homes : List (maybe.Option Buffer)) (i : ℕ) (q : Ring) → role.Lie q (es ++ e ∷ []) os words homes → role.Lie q (es ++ e ∷ []) os (slice_set words i (slice_index words i)) homes
  same-words e os words homes i q l = subst (λ (ws : List ℕ). role.Lie q (es ++ e ∷ []) os ws homes) (sym (set-same words i)) l

  module _ (id : ℕ) (slots : List (ℕ × Buffer)) (T : Step Buffer → SeatOf D C → ℕ → SeatOf D C → Type 0) (i : ℕ) where
    pub may-store : (v : ℕ) (e : E) → Going (λ os words homes. Agree e os (slice_set words i v) homes) → T (step n i v 0 none) (role.view es, slots) v (role.view (es ++ e ∷ []), slots)
        → Allows (IsRuled form n mode) n id (role.view es, slots) i (λ _. v) (λ _ m. T (step n i v 0 none) (role.view es, slots) v m)
    may-store v e goes told = allow_end (form.IsLaidOut n mode) n (words_of n mode) role id es slots i (λ _. v) (λ _ m. T (step n i v 0 none) (role.view es, slots) v m)
        (λ q os words homes pos l. let g = goes q os words homes pos l in record { event = e; act = keeps; valid = tt; later = g.0; laid_out = g.1; told = told })

    pub may-load : (e : ℕ → E) (Told : ℕ → Type 0) → Going (λ os words homes. Told (slice_index words i) × Agree (e (slice_index words i)) os words homes)
        → ((r : ℕ) → Told r → T (step n i 0 0 none) (role.view es, slots) r (role.view (es ++ e r ∷ []), slots))
        → Allows (IsRuled form n mode) n id (role.view es, slots) i (λ x. x) (T (step n i 0 0 none) (role.view es, slots))
    may-load e Told goes told = allow_end (form.IsLaidOut n mode) n (words_of n mode) role id es slots i (λ x. x) (T (step n i 0 0 none) (role.view es, slots))
        (λ q os words homes pos l. let g = goes q os words homes pos l in record {
          event = e (slice_index words i);
          act = keeps;
          valid = tt;
          later = g.1.0;
          laid_out = same-words (e (slice_index words i)) os words homes i g.1.0 g.1.1;
          told = told (slice_index words i) g.0;
        })

    -- a store of 0 that takes the slot of its place
    pub may-clear : (e : Buffer → E) (Told : Buffer → Type 0)
        → Going (λ os words homes. (b : Buffer) × (get_elem? homes i ≡ some (some b)) × Told b × Agree (e b) os (slice_set words i 0) (slice_set homes i none))
        → ((b : Buffer) → Told b → T (step n i 0 0 none) (role.view es, slots) 0 (role.view (es ++ e b ∷ []), (i, b) ∷ slots))
        → Allows (IsRuled form n mode) n id (role.view es, slots) i (λ _. 0) (λ _ m. T (step n i 0 0 none) (role.view es, slots) 0 m)
    may-clear e Told goes told = allow_end (form.IsLaidOut n mode) n (words_of n mode) role id es slots i (λ _. 0) (λ _ m. T (step n i 0 0 none) (role.view es, slots) 0 m)
        (λ q os words homes pos l. let g = goes q os words homes pos l in record { event = e g.0; act = takes i g.0; valid = g.1; later = g.3.0; laid_out = g.3.1; told = told g.0 g.2 })

    -- a load that takes it where the word is done
    pub may-find : (done : ℕ → Bool) (missed : ℕ → E) (e : ℕ → Buffer → E) (Told : ℕ → Buffer → Type 0)
        → Going (λ os words homes. done (slice_index words i) ≡ false → Agree (missed (slice_index words i)) os words homes)
        → Going (λ os words homes. done (slice_index words i) ≡ true → (b : Buffer) × (get_elem? homes i ≡ some (some b)) × Told (slice_index words i) b × Agree (e (slice_index words i) b) os words (slice_set homes i none))
        → ((r : ℕ) → done r ≡ false → T (step n i 0 0 none) (role.view es, slots) r (role.view (es ++ missed r ∷ []), slots))
        → ((r : ℕ) (b : Buffer) → done r ≡ true → Told r b → T (step n i 0 0 none) (role.view es, slots) r (role.view (es ++ e r b ∷ []), (i, b) ∷ slots))
        → Allows (IsRuled form n mode) n id (role.view es, slots) i (λ x. x) (T (step n i 0 0 none) (role.view es, slots))
    may-find done missed e Told nothing found told_nothing told = allow_end (form.IsLaidOut n mode) n (words_of n mode) role id es slots i (λ x. x) (T (step n i 0 0 none) (role.view es, slots))
        (λ q os words homes pos l. either q os words homes pos l (done (slice_index words i)) refl)
      where
        either : (q : Ring) (os : List O) (words : List ℕ) (homes : List (maybe.Option Buffer)) → 1 < n → role.Lie q es os words homes → (b : Bool) → done (slice_index words i) ≡ b
            → Goes (form.IsLaidOut n mode) n (words_of n mode) role es slots i (λ x. x) (T (step n i 0 0 none) (role.view es, slots)) os words homes
        either q os words homes pos l false f = let g = nothing q os words homes pos l f in record {
          event = missed (slice_index words i);
          act = keeps;
          valid = tt;
          later = g.0;
          laid_out = same-words (missed (slice_index words i)) os words homes i g.0 g.1;
          told = told_nothing (slice_index words i) f;
        }
        either q os words homes pos l true f = let g = found q os words homes pos l f in record {
          event = e (slice_index words i) g.0;
          act = takes i g.0;
          valid = g.1;
          later = g.3.0;
          laid_out = same-words (e (slice_index words i) g.0) os words (slice_set homes i none) i g.3.0 g.3.1;
          told = told (slice_index words i) g.0 f g.2;
        }

    -- a load that takes it whatever it finds
    pub may-take : (e : ℕ → Buffer → E) (Told : ℕ → Buffer → Type 0)
        → Going (λ os words homes. (b : Buffer) × (get_elem? homes i ≡ some (some b)) × Told (slice_index words i) b × Agree (e (slice_index words i) b) os words (slice_set homes i none))
        → ((r : ℕ) (b : Buffer) → Told r b → T (step n i 0 0 none) (role.view es, slots) r (role.view (es ++ e r b ∷ []), (i, b) ∷ slots))
        → Allows (IsRuled form n mode) n id (role.view es, slots) i (λ x. x) (T (step n i 0 0 none) (role.view es, slots))
    may-take e Told goes told = may-find (λ _. true) (λ r. e r blank) e Told (λ q os words homes pos l f. absurd (true≢false f)) (λ q os words homes pos l f. goes q os words homes pos l) (λ r f. absurd (true≢false f)) (λ r b f t. told r b t)

  -- a store that gives the slot taken last back
  pub may-reap : (id : ℕ) (slots : List (ℕ × Buffer)) (T : Step Buffer → SeatOf D C → ℕ → SeatOf D C → Type 0) (i v p : ℕ) (b : Buffer) (e : E)
      → Going (λ os words homes. Agree e os (slice_set words i v) (slice_set homes p (some b))) → T (step n i v 0 none) (role.view es, (p, b) ∷ slots) v (role.view (es ++ e ∷ []), slots)
      → Allows (IsRuled form n mode) n id (role.view es, (p, b) ∷ slots) i (λ _. v) (λ _ m. T (step n i v 0 none) (role.view es, (p, b) ∷ slots) v m)
  may-reap id slots T i v p b e goes told = allow_end (form.IsLaidOut n mode) n (words_of n mode) role id es ((p, b) ∷ slots) i (λ _. v) (λ _ m. T (step n i v 0 none) (role.view es, (p, b) ∷ slots) v m)
      (λ q os words homes pos l. let g = goes q os words homes pos l in record { event = e; act = gives; valid = tt; later = g.0; laid_out = g.1; told = told })
