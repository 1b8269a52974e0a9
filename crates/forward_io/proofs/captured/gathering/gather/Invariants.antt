use Rattle.std.proofs.Common.{◌≡◌, ◌≤◌, [], length, take}
use Rattle.limits.specs.declared.profile.TheConstants.{MOST_SCRIPT_FRAMES}
use Rattle.forward_io.specs.Gathering.{Gathers}
use Rattle.forward_io.proofs.captured.gathering.gather.Given as goal

abbrev pub invariant-loop-source : goal.invariant-loop-source
invariant-loop-source g l = record {
  gathered : Gathers l.reading (take l.source-index l.sources) [] l.frames.items l.skipped.items;
  place : l.at ≡ l.source-index;
  room : length l.frames.items ≤ MOST_SCRIPT_FRAMES;
}
