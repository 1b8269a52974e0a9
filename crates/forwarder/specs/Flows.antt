-- The frames of a flow in a script.
use Rattle.std.specs.Prelude.{ℕ, ◌+◌, ◌*◌, ◌==◌, ◌&&◌, nat_lt, Option, None, if◌then◌else◌, List, [], ◌∷◌, cond, slice_get}
use Rattle.limits.specs.declared.profile.TheConstants.{PORTS}
use Rattle.forwarding.specs.declared.report.FlowReport.{FlowReport}
use Rattle.ring_model.specs.shared.Frames.{Bytes}
use Rattle.wire_script.specs.Frame.{Frame}

-- The number of the flow whose input is the frame's port and queue.
abbrev pub flow_of : ℕ → Frame → ℕ
flow_of pairs f = f.port * pairs + f.queue

-- The places of a flow's frames, where the first frame has place `k`.
abbrev pub places_from : ℕ → ℕ → ℕ → List Frame → List ℕ
places_from pairs flow k [] = []
places_from pairs flow k (f ∷ fs) = cond (flow_of pairs f == flow) (k ∷ places_from pairs flow (k + 1) fs) (places_from pairs flow (k + 1) fs)

-- The places of a flow's frames in a script.
abbrev pub places_of : ℕ → ℕ → List Frame → List ℕ
places_of pairs flow script = places_from pairs flow 0 script

-- The bytes of a flow's frames in a script, in order.
abbrev pub frames_of : ℕ → ℕ → List Frame → List Bytes
frames_of pairs flow [] = []
frames_of pairs flow (f ∷ fs) = cond (flow_of pairs f == flow) (f.bytes ∷ frames_of pairs flow fs) (frames_of pairs flow fs)

-- The report of the flow whose frames come in at this port and queue, if each port has this many queues.
abbrev pub flow_at : ℕ → ℕ → ℕ → List FlowReport → Option FlowReport
flow_at pairs port queue flows = if nat_lt port PORTS && nat_lt queue pairs then slice_get flows (port * pairs + queue) else None
