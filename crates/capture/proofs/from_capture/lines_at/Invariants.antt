use Rattle.std.proofs.Common.{◌≡◌, take}
use Rattle.std.specs.String.{string_bytes}
use Rattle.wire_script.specs.Script.{text_for}
use Rattle.capture.specs.Frames.{frames_at}
use Rattle.capture.proofs.from_capture.lines_at.Given as goal

abbrev pub invariant-loop-found : goal.invariant-loop-found
invariant-loop-found l = string_bytes l.text ≡ text_for (frames_at l.port l.queue (take l.found-index l.records))
