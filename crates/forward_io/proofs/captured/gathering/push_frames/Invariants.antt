use Rattle.std.proofs.Common.{◌≡◌, ◌++◌, drop}
use Rattle.capture.specs.Frames.{frames_at}
use Rattle.forward_io.proofs.captured.gathering.push_frames.Given as goal

abbrev pub invariant-loop-found : goal.invariant-loop-found
invariant-loop-found l = l.frames.items ++ frames_at l.port l.queue (drop l.found-index l.records) ≡ l.initial.frames.items ++ frames_at l.port l.queue l.records
