-- The lines of so many moves are written.
use Rattle.std.proofs.Common.{◌≡◌, ◌++◌, take}
use Rattle.std.specs.String.{string_bytes}
use Rattle.schedule_command.specs.Covers.{move_lines}
use Rattle.schedule_command.proofs.covering.listing.write_moves.Given as goal

abbrev pub invariant-loop-action : goal.invariant-loop-action
invariant-loop-action l = string_bytes l.text ≡ string_bytes l.initial.text ++ move_lines (take l.action-index l.moves)
