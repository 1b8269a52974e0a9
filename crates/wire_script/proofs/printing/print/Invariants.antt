use Rattle.std.proofs.Common.{◌≡◌, take}
use Rattle.std.specs.List.{AllByRecursion}
use Rattle.std.specs.String.{string_bytes}
use Rattle.wire_script.specs.Script.{text_for}
use Rattle.wire_script.specs.Frame.{InRange}
use Rattle.wire_script.proofs.printing.print.Given as goal

abbrev pub invariant-loop-frame : goal.invariant-loop-frame
invariant-loop-frame l = record {
  text : string_bytes l.text ≡ text_for (take l.frame-index l.frames);
  wire : AllByRecursion InRange (take l.frame-index l.frames);
}
