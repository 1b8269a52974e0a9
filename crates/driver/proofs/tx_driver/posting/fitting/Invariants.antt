use Rattle.std.proofs.Common.{◌≡◌, ◌+◌, take}
use Rattle.driver.specs.transmit.Frames.{segment_count}
use Rattle.driver.proofs.tx_driver.posting.fitting.Given as goal

abbrev pub invariant-loop-count : goal.invariant-loop-count
invariant-loop-count l = l.left + segment_count (take l.count l.packets) ≡ l.room
