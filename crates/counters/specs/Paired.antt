-- Pairs of pens and their cells.
use Rattle.std.specs.Prelude.{◌≡◌, List, map}
use Rattle.std.specs.List.{AllZip}
use Rattle.counters.specs.declared.flows.FlowCells.{FlowCells}
use Rattle.counters.specs.declared.flows.FlowPens.{FlowPens}
use Rattle.counters.specs.Kinds.{none_taken, nothing}
use Rattle.counters.specs.Cells.{fresh}

-- The pens of these cells, with nothing written yet.
pub record IsFresh (cells : FlowCells) (pens : FlowPens) : Type 0 where
  pub stat : pens.stat ≡ fresh cells.stat nothing
  pub drive : pens.drive ≡ fresh cells.drive none_taken

-- One pen set for each cell set, at the same place, with nothing written yet.
abbrev pub ArePaired : List FlowCells → List FlowPens → Type 0
ArePaired cells pens = AllZip IsFresh cells pens

-- As many pens as cells, each of the cells at its place, whatever it has written.
pub record ArePensOf (cells : List FlowCells) (pens : List FlowPens) : Type 0 where
  pub stat : map (λ p. p.stat.cell) pens ≡ map (λ c. c.stat) cells
  pub drive : map (λ p. p.drive.cell) pens ≡ map (λ c. c.drive) cells
