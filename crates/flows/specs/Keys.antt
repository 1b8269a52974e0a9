-- The identities of the two sides of a flow, which never change.
use Rattle.std.specs.Prelude.{ℕ, zero, suc, Bool, List, [], ◌++◌, map, Option, Some, None, slice_get}
use Rattle.atomic_table.specs.Seated.{TableId}
use Rattle.pool.specs.Owned.{Pooled}
use Rattle.ring_model.specs.shared.Frames.{Bytes}
use Rattle.wire_script.specs.Frame.{Frame}

-- The driver's side: the flow's number, its two rings, its pool and its pass's share of it, the greatest number of buffers
-- that it holds, whether packets that could not be posted are kept, after how many turns it is cut (0: never), and whether
-- somebody may stop it.
pub record DriverKey : Type 0 where
  pub number : ℕ
  pub from : TableId
  pub to : TableId
  pub pool : Pooled
  pub share : ℕ
  pub most : ℕ
  pub retries : Bool
  pub turns : ℕ
  pub stops : Bool

-- The input: its ring, the flow's frames, the number of bytes to which buffers are filled, and whether frames are
-- dropped.
pub record Input : Type 0 where
  pub from : TableId
  pub frames : List Bytes
  pub fill : ℕ
  pub drops : Bool

-- The controller's side: the flow's number, its input, its output ring, and whether sent frames are kept.
pub record ControllerKey : Type 0 where
  pub number : ℕ
  pub input : Input
  pub to : TableId
  pub keeps : Bool

-- The whole flow: its frames, its rings' length, and the settings of its two sides.
pub record Plan : Type 0 where
  pub frames : List Bytes
  pub size : ℕ
  pub fill : ℕ
  pub drops : Bool
  pub retries : Bool
  pub turns : ℕ
  pub stops : Bool
  pub keeps : Bool

abbrev pub plan_of : DriverKey → ControllerKey → Plan
plan_of d c = record { frames = c.input.frames; size = d.from.slots; fill = c.input.fill; drops = c.input.drops; retries = d.retries; turns = d.turns; stops = d.stops; keeps = c.keeps }

-- The frames at these places of a script, in order.
abbrev pub bytes_at : Option Frame → Bytes
bytes_at None = []
bytes_at (Some f) = f.bytes

abbrev pub frames_at : List Frame → List ℕ → List Bytes
frames_at script places = map (λ k. bytes_at (slice_get script k)) places

-- A list this many times.
abbrev pub repeated : {X : Type 0} → ℕ → List X → List X
repeated zero xs = []
repeated (suc n) xs = xs ++ repeated n xs
