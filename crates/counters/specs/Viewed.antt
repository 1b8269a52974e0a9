-- The knowledge of a view, with its words.
use Rattle.std.specs.Prelude.{◌≡◌, Bool, true, false, List, [], ◌∷◌}
use Rattle.atomic_table.specs.Seated.{TableId}
use Rattle.counters.specs.declared.rule.CellKnowledge.{CellKnowledge}

-- The identity of the words, whether the view writes them, the newest moment that it knows, and the earlier ones,
-- newest first.
pub record Viewed (T : Type 0) : Type 0 where
  pub cell : TableId
  pub writes : Bool
  pub last : T
  pub earlier : List T

module _ {T : Type 0} where
  abbrev pub viewed : TableId → CellKnowledge T → Viewed T
  viewed cell k = record { cell = cell; writes = k.writes; last = k.last; earlier = k.earlier }

  -- The view that writes new words, which still have their opening contents.
  abbrev pub first_view : TableId → T → Viewed T
  first_view cell opening = record { cell = cell; writes = true; last = opening; earlier = [] }

  -- With the moment `x` added after those that were known.
  abbrev pub with_snapshot : T → Viewed T → Viewed T
  with_snapshot x v = record { cell = v.cell; writes = v.writes; last = x; earlier = v.last ∷ v.earlier }

  -- A view that knows as much and does not write.
  abbrev pub without_writing : Viewed T → Viewed T
  without_writing v = record { cell = v.cell; writes = false; last = v.last; earlier = v.earlier }

  -- The words are the same, and so is whether the view writes.
  abbrev pub IsOfSame : Viewed T → Viewed T → Type 0
  IsOfSame old new = (new.cell ≡ old.cell) × (new.writes ≡ old.writes)

  abbrev pub all_of : Viewed T → List T
  all_of v = v.last ∷ v.earlier
