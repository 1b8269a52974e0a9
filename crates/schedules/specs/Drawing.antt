-- The contents of a drawn list.
use Rattle.std.specs.Prelude.{◌≡◌, ℕ, ◌+◌, ◌*◌, ◌≤◌, ◌<◌, Bool, true, List, [], ◌∷◌, length, map, Option, None, Some}
use Rattle.ring_model.specs.shared.Schedules.{next}
use Rattle.ring_model.specs.Worlds.{QueueMove, World, after_move, can_move, moves_happened, opening_world, IsReachableWorld}
use Rattle.ring_machine.specs.Queues.{QueueParts, QueuesAgree, queue_move}
use Rattle.schedules.specs.declared.drawing.Drawn.{Drawn}
use Rattle.settings.specs.declared.plan.SchedulePlan.{SchedulePlan}
use Rattle.settings.specs.declared.thresholds.Thresholds.{Thresholds}

-- The new queues of the plan.
abbrev pub world_of : SchedulePlan → World
world_of p = opening_world p.pairs p.ring (record { enabled = p.enabled; completion = p.completion })

-- The list's moves in the terms of the model.
abbrev pub moves_in : List Drawn → List QueueMove
moves_in l = map (λ d. queue_move d.action) l

-- Whether each move happens at its place.
abbrev pub happening : World → List QueueMove → List Bool
happening w [] = []
happening w (m ∷ ms) = can_move w m ∷ happening (next can_move after_move w m) ms

-- The maximum percentage of moves that do not happen: the planned one, or 0 with a driver.
abbrev pub allowed_by : Option Thresholds → ℕ → ℕ
allowed_by None refused = refused
allowed_by (Some thresholds) refused = 0

abbrev pub allowed : SchedulePlan → ℕ
allowed p = allowed_by p.driver p.refused

-- The list has as many moves as planned, states of each whether it happens, and has at most the allowed percentage
-- that do not.
pub record IsDrawn (p : SchedulePlan) (l : List Drawn) : Type 0 where
  pub count : length l ≡ p.moves
  pub foretold : map (λ d. d.happens) l ≡ happening (world_of p) (moves_in l)
  pub few : 100 * p.moves ≤ 100 * moves_happened (world_of p) (moves_in l) + allowed p * p.moves

-- Queues that agree with a reachable world still agree after the move, and the list states correctly whether it
-- happens.
unfoldable pub Draws : QueueParts → Drawn → QueueParts → Type 0
Draws old d new = (pairs n : ℕ) (w : World) → IsReachableWorld pairs n w → QueuesAgree old w
    → (d.happens ≡ can_move w (queue_move d.action)) × QueuesAgree new (next can_move after_move w (queue_move d.action))

-- A move that happens in each reachable world of at least one pair with which the queues agree.
unfoldable pub Surely : QueueParts → Drawn → Type 0
Surely old d = (pairs n : ℕ) (w : World) → IsReachableWorld pairs n w → 1 ≤ pairs → 1 < n → QueuesAgree old w → d.happens ≡ true
