-- So many lists are printed.
use Rattle.std.proofs.Common.{take}
use Rattle.schedule_command.specs.Covers.{PrintsLists}
use Rattle.schedule_command.proofs.covering.answering.print_lists.Given as goal

abbrev pub invariant-loop-list : goal.invariant-loop-list
invariant-loop-list g l = PrintsLists l.scope l.expect (take l.list-index l.lists) (g.W.Write.contents l.initial.output) (g.W.Write.contents l.output)
