-- The rule of the words, and the knowledge that each step gives to a view.
use Rattle.std.specs.Prelude.{◌≡◌, ℕ, Bool, true, false, List, [], ◌∷◌}
use mathlib.Core.Option.{some}
use lib.ListN.{get_elem?}
use Rattle.counters.specs.declared.rule.CellKnowledge.{CellKnowledge}
use Rattle.counters.specs.Snapshots.{AreSnapshots, GoesOn, NoneFalls}

module _ {T : Type 0} where
  abbrev pub known : Bool → T → List T → CellKnowledge T
  known writes last earlier = record { writes = writes; last = last; earlier = earlier }

  -- The known moments, newest first.
  abbrev pub snapshots_of : CellKnowledge T → List T
  snapshots_of k = k.last ∷ k.earlier

  -- The knowledge of the view that writes, before it has written.
  abbrev pub opened : T → CellKnowledge T
  opened x = known true x []

  abbrev pub same : CellKnowledge T → CellKnowledge T
  same k = k

  -- The knowledge of a view made from this one: it knows as much and does not write.
  abbrev pub told : CellKnowledge T → CellKnowledge T
  told k = known false k.last k.earlier

module _ {T : Type 0} (words : T → List ℕ) (lawful : T → Type 0) where
  -- The moments so far end with the current contents of the words. Each view knows them up to some moment. At most
  -- one view writes, and it knows them all.
  pub record HoldsSeqCellRule (now : T) (knows : List (CellKnowledge T)) : Type 0 where
    pub before : List T
    pub snapshots : AreSnapshots words lawful (now ∷ before)
    pub each : (pass : ℕ) (k : CellKnowledge T) → get_elem? knows pass ≡ some k → GoesOn (snapshots_of k) (now ∷ before)
    pub pen : (pass : ℕ) (k : CellKnowledge T) → get_elem? knows pass ≡ some k → k.writes ≡ true → snapshots_of k ≡ now ∷ before
    pub one : (p q : ℕ) (j k : CellKnowledge T) → get_elem? knows p ≡ some j → get_elem? knows q ≡ some k → j.writes ≡ true → k.writes ≡ true → p ≡ q

  -- A read: the view's knowledge continues from what it knew, up to the moment in the words. The view that writes knows
  -- that moment.
  pub record HasRead (old : CellKnowledge T) (x y : T) (new : CellKnowledge T) : Type 0 where
    pub writes : new.writes ≡ old.writes
    pub now : new.last ≡ y
    pub later : GoesOn (snapshots_of old) (snapshots_of new)
    pub lawful_now : lawful y
    pub none_falls : NoneFalls (words old.last) (words y)
    pub knows : old.writes ≡ true → (y ≡ old.last) × (new ≡ old)

  -- A write: one more moment.
  abbrev pub HasWritten : CellKnowledge T → T → T → CellKnowledge T → Type 0
  HasWritten old x y new = new ≡ known old.writes y (snapshots_of old)
