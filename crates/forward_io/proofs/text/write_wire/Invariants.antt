use Rattle.std.proofs.Common.{◌≡◌, ◌++◌, map}
use Rattle.std.specs.String.{string_bytes}
use Rattle.wire_script.specs.Frame.{frame_of}
use Rattle.wire_script.specs.Script.{text_for}
use Rattle.forward_io.proofs.text.write_wire.Given as goal

abbrev pub invariant-loop-frame : goal.invariant-loop-frame
invariant-loop-frame l =
    string_bytes l.text ++ text_for (map (frame_of l.port l.queue) l.frame-iterator)
    ≡ string_bytes l.initial.text ++ text_for (map (frame_of l.port l.queue) l.wire)
