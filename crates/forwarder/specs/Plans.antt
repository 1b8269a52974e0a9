-- The plan of each flow, and the keys of its two sides.
use Rattle.std.specs.Prelude.{◌≡◌, ℕ, Bool, false, ◌+◌, ◌*◌, ◌/◌, ◌<◌, List, min, slice_index_or}
use Rattle.flows.specs.Keys.{ControllerKey, DriverKey, Plan, frames_at, plan_of, repeated}
use Rattle.flows.specs.Reports.{IsReport}
use Rattle.forwarding.specs.declared.report.FlowReport.{FlowReport}
use Rattle.pool.specs.Owned.{Pooled}
use Rattle.wire_script.specs.Frame.{Frame}
use Rattle.settings.specs.declared.config.Config.{Config}
use Rattle.forwarder.specs.declared.flow_rings.FlowRings.{FlowRings}
use Rattle.forwarder.specs.Flows.{places_of}

-- The plan of a flow of the script under this configuration: its frames are those of the script that come in at its
-- port and queue, in order, as often as the configuration repeats them. `stops`: somebody may stop the flow.
abbrev pub plan_with : Bool → Config → List Frame → ℕ → Plan
plan_with stops c script flow = record { frames = repeated c.repeat (frames_at script (places_of c.pairs flow script)); size = c.ring; fill = c.bsize; drops = c.drop_en; retries = c.retry; turns = c.turns; stops = stops; keeps = c.keep }

-- The plan of a flow that nobody may stop.
abbrev pub plan : Config → List Frame → ℕ → Plan
plan c script flow = plan_with false c script flow

-- The greatest number of buffers that a flow holds: its part of the buffers, but no more than a full receive ring and a full
-- stash take.
abbrev pub most_held : Config → ℕ
most_held c = min (c.buffers / (2 * c.pairs)) (c.ring + 255)

-- Both sides have the flow's two rings, and the driver's side has a share of 1 of the pool.
pub record AreOfRings (pool : Pooled) (flow_rings : FlowRings) (d : DriverKey) (c : ControllerKey) : Type 0 where
  pub of_pool : d.pool ≡ pool
  pub share : d.share ≡ 1
  pub from : (d.from ≡ flow_rings.from) × (c.input.from ≡ flow_rings.from)
  pub to : (d.to ≡ flow_rings.to) × (c.to ≡ flow_rings.to)

-- The settings of both sides are those of this plan.
pub record AreSides (p : Plan) (pool : Pooled) (flow_rings : FlowRings) (d : DriverKey) (c : ControllerKey) : Type 0 where
  pub of_flow_rings : AreOfRings pool flow_rings d c
  pub plan : plan_of d c ≡ p

-- The sides of the first `n` flows, place by place.
abbrev pub AreAllSides : (ℕ → Plan) → Pooled → ℕ → List FlowRings → List DriverKey → List ControllerKey → Type 0
AreAllSides plans pool n rings drivers controllers =
    (flow : ℕ) (l : FlowRings) (d : DriverKey) (c : ControllerKey) → flow < n → AreSides (plans flow) pool (slice_index_or rings flow l) (slice_index_or drivers flow d) (slice_index_or controllers flow c)

abbrev pub AreOfAllRings : Pooled → ℕ → List FlowRings → List DriverKey → List ControllerKey → Type 0
AreOfAllRings pool n rings drivers controllers =
    (flow : ℕ) (l : FlowRings) (d : DriverKey) (c : ControllerKey) → flow < n → AreOfRings pool (slice_index_or rings flow l) (slice_index_or drivers flow d) (slice_index_or controllers flow c)

-- A report for each of `n` flows, under the settings of both sides.
abbrev pub AreReports : ℕ → List DriverKey → List ControllerKey → List FlowReport → Type 0
AreReports n drivers controllers reports =
    (flow : ℕ) (d : DriverKey) (c : ControllerKey) (r : FlowReport) → flow < n → IsReport (plan_of (slice_index_or drivers flow d) (slice_index_or controllers flow c)) (slice_index_or reports flow r)
