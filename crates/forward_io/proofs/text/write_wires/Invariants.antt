use Rattle.std.proofs.Common.{◌≡◌, ◌++◌, drop}
use Rattle.std.specs.String.{string_bytes}
use Rattle.wire_script.specs.Script.{text_for}
use Rattle.forward_io.specs.Text.{wires_from}
use Rattle.forward_io.proofs.text.write_wires.Given as goal

abbrev pub invariant-loop-queue : goal.invariant-loop-queue
invariant-loop-queue l = string_bytes l.text ++ text_for (wires_from l.port l.queue (drop l.queue l.flows)) ≡ string_bytes l.initial.text ++ text_for (wires_from l.port 0 l.flows)
