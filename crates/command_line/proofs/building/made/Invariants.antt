use Rattle.std.proofs.Common.{map, take}
use Rattle.std.specs.Prelude.{IfOk}
use Rattle.command_line.specs.Building.{IsNew}
use Rattle.command_line.specs.OptionWords.{with_rules}
use Rattle.command_line.specs.Params.{rule_for}
use Rattle.command_line.proofs.building.made.Given as goal

abbrev pub invariant-loop-param : goal.invariant-loop-param
invariant-loop-param l = IfOk l.command (IsNew (with_rules l.fn.entry.name.now (map rule_for (take l.param-index l.fn.entry.params.now))))
