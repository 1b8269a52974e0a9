-- The lines of so many moves are written.
use Rattle.std.proofs.Common.{◌≡◌, take}
use Rattle.std.specs.String.{string_bytes}
use Rattle.schedule_command.specs.Lists.{move_lines}
use Rattle.schedule_command.proofs.listing.text_of.Given as goal

abbrev pub invariant-loop-d : goal.invariant-loop-d
invariant-loop-d l = string_bytes l.text ≡ move_lines (take l.d-index l.drawn)
