use Rattle.std.proofs.Common.{◌≡◌, ◌++◌, true, drop, length, take}
use Rattle.forward_io.specs.Flows.{without_flows}
use Rattle.forward_io.proofs.piped.flow_lines.comment_flows.Given as goal

abbrev pub invariant-loop-at : goal.invariant-loop-at
invariant-loop-at l = record {
  passed : take l.at l.text ++ without_flows l.begins (drop l.at l.text) ≡ without_flows true l.initial.text;
  len : length l.text ≡ length l.initial.text;
}
