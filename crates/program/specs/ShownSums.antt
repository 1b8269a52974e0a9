-- The sums over all flows.
use Rattle.std.specs.Prelude.{◌≡◌, ℕ, ◌+◌, ◌-◌, ◌*◌, ◌/◌, ◌^◌, max, min, List, [], ◌∷◌}
use Rattle.counters.specs.declared.flows.FlowCells.{FlowCells}
use Rattle.program.specs.declared.progress.reader.Reader.{Reader}
use Rattle.program.specs.declared.progress.reading.Seen.{Seen}
use Rattle.forward_io.specs.declared.progress.LiveTotals.{LiveTotals}

-- the cells that a reader reads
abbrev pub read_by : Reader → FlowCells
read_by r = r.cells.now

-- the saturated sum of two counts
abbrev pub added : ℕ → ℕ → ℕ
added m n = min (m + n) (2 ^ 64 - 1)

-- The number of frames of a flow that were offered, at least: what its passes read last. The controller writes its cell
-- after it has stored frames, so the driver's cell may already count more.
abbrev pub offered_by : Reader → ℕ
offered_by r = max r.stat.last.offered r.drive.last.taken

-- these numbers plus those that a flow's passes read last
abbrev pub with_flow : Seen → Reader → Seen
with_flow seen r = record {
  offered = added seen.offered (offered_by r);
  taken = added seen.taken r.drive.last.taken;
  posted = added seen.posted r.drive.last.posted;
}

-- these numbers plus those that the passes of these flows read last
abbrev pub sum_from : Seen → List Reader → Seen
sum_from seen [] = seen
sum_from seen (r ∷ rs) = sum_from (with_flow seen r) rs

abbrev pub nothing_seen : Seen
nothing_seen = record { offered = 0; taken = 0; posted = 0 }

-- frames per second, if this many are posted in this many milliseconds
abbrev pub frames_per_second : ℕ → ℕ → ℕ
frames_per_second posted millis = min (posted * 1000) (2 ^ 64 - 1) / millis

-- the report shows these sums, the number of frames, and the rate since the last report, which showed this many as posted
-- this many milliseconds ago
pub record Shows (last millis : ℕ) (seen : Seen) (all : ℕ) (s : LiveTotals) : Type 0 where
  pub offered : s.offered ≡ seen.offered
  pub frames : s.frames ≡ all
  pub taken : s.taken ≡ seen.taken
  pub posted : s.posted ≡ seen.posted
  pub rate : s.per_second ≡ frames_per_second (seen.posted - last) millis
