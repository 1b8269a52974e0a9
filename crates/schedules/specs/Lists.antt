-- The lists of a search.
use Rattle.std.specs.Prelude.{◌≡◌, List, [], ◌∷◌, ◌++◌, length, map}
use Rattle.std.specs.Option.{ok_or}
use Rattle.ring_model.specs.Worlds.{World, after_moves, moves_happened, note_in, opening_world}
use Rattle.ring_machine.specs.Queues.{queue_move}
use Rattle.refusals.specs.declared.errors.MachineError.TheVariants.{NotEnabled}
use Rattle.ring_machine.specs.declared.moves.Move.{Move}
use Rattle.schedules.specs.declared.covering.lists.CoverList.{CoverList}
use Rattle.schedules.specs.declared.covering.tried.Scope.{Scope}
use Rattle.schedules.specs.OutcomeKind.{outcome_of}
use Rattle.schedules.specs.Tried.{InScope, completion_of}

-- a pair of queues of 8 as they are made, enabled where only data is moved
abbrev pub beginning : Scope → World
beginning s = opening_world 1 8 (record { enabled = s.device_only; completion = completion_of s.side })

-- before its last move all moves of the list happen, and the last tells what the pair says; all are such as may be made
pub record Meets (s : Scope) (l : CoverList) : Type 0 where
  pub before : List Move
  pub ends : l.moves.items ≡ before ++ l.pair.action ∷ []
  pub happen : moves_happened (beginning s) (map queue_move before) ≡ length before
  pub tells : l.pair.outcome ≡ outcome_of (ok_or (note_in (after_moves (beginning s) (map queue_move before)) (queue_move l.pair.action)) NotEnabled)
  pub in_scope : InScope s l.moves.items
