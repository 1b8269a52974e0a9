-- The pages of so many lists are joined, and this text is left.
use Rattle.std.specs.String.{string_bytes}
use Rattle.text_lines.proofs.Cuts.{left_len}
use Rattle.commands.proofs.ListPages.{PagesSoFar}
use Rattle.commands.proofs.replay.pages_of.Given as goal

abbrev pub invariant-loop-rest : goal.invariant-loop-rest
invariant-loop-rest l = PagesSoFar l.plan l.text (string_bytes l.pages) l.rest

abbrev pub decreases-loop-rest : goal.decreases-loop-rest
decreases-loop-rest l = left_len l.rest
