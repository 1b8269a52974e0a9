-- The knowledge of the pen and the passes of a cell.
use Rattle.std.specs.Prelude.{List, [], ◌∷◌}
use Rattle.atomic_table.specs.Seated.{TableId}
use Rattle.counters.specs.Viewed.{Viewed}

-- The knowledge of a cell's pen or pass: its cell, the newest moment that it knows, and the earlier ones, newest first.
pub record Knowing (T : Type 0) : Type 0 where
  pub cell : TableId
  pub last : T
  pub earlier : List T

module _ {T : Type 0} where
  abbrev pub knowing : Viewed T → Knowing T
  knowing v = record { cell = v.cell; last = v.last; earlier = v.earlier }

  -- The knowledge of a new cell, which still has its opening numbers.
  abbrev pub fresh : TableId → T → Knowing T
  fresh cell opening = record { cell = cell; last = opening; earlier = [] }

  -- With the moment `x` added after those that were known.
  abbrev pub with_snapshot : T → Knowing T → Knowing T
  with_snapshot x k = record { cell = k.cell; last = x; earlier = k.last ∷ k.earlier }

  abbrev pub all_of : Knowing T → List T
  all_of k = k.last ∷ k.earlier
