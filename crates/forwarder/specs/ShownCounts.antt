-- The content of the flows' cells once the flows are over.
use Rattle.std.specs.Prelude.{◌≡◌, List, length, map}
use Rattle.counters.specs.declared.flows.FlowCells.{FlowCells}
use Rattle.counters.specs.declared.flows.FlowPens.{FlowPens}
use Rattle.forwarding.specs.declared.report.FlowReport.{FlowReport}
use Rattle.counters.specs.Paired.{ArePensOf}
use Rattle.forwarder.specs.LiveStatistics.{AllContinue}

-- Each pen is that of the cell at its place. The numbers that it last wrote are those of the report at that place.
pub record ShowReports (cells : List FlowCells) (pens : List FlowPens) (reports : List FlowReport) : Type 0 where
  pub of_cells : ArePensOf cells pens
  pub offered : map (λ p. p.stat.last) pens ≡ map (λ r. r.tally) reports
  pub driven : map (λ p. p.drive.last) pens ≡ map (λ r. r.driven) reports

-- Each pen is that of the cell at its place, and went on from what it had written before by the counters of the report at
-- that place.
pub record ContinueByReports (cells : List FlowCells) (before after : List FlowPens) (reports : List FlowReport) : Type 0 where
  pub of_cells : ArePensOf cells after
  pub go_on : AllContinue (length reports) before after (map (λ r. r.tally) reports) (map (λ r. r.driven) reports)
