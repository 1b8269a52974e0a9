use Rattle.std.proofs.Common.{◌≡◌, ◌++◌, drop}
use Rattle.std.specs.String.{string_bytes}
use Rattle.forward_io.specs.Text.{flow_texts}
use Rattle.forward_io.proofs.text.write_flows.Given as goal

abbrev pub invariant-loop-queue : goal.invariant-loop-queue
invariant-loop-queue l = string_bytes l.text ++ flow_texts l.json l.port l.queue (drop l.queue l.flows) ≡ string_bytes l.initial.text ++ flow_texts l.json l.port 0 l.flows
