-- What each fault says of a configuration and a script.
use Rattle.std.specs.Prelude.{ℕ, ◌*◌, ◌/◌, ◌<◌, ◌≤◌, List, Some, slice_get, ◌≡◌}
use Rattle.limits.specs.declared.profile.TheConstants.{FEWEST_BUFFERS, MOST_BATCH, MOST_BUFFERS, MOST_PAIRS, MOST_RS_EVERY}
use Rattle.limits.specs.FillSize.{IsFillSize}
use Rattle.limits.specs.RingLength.{IsRingLength}
use Rattle.wire_script.specs.Frame.{Frame}
use Rattle.settings.specs.declared.config.Config.{Config}
use Rattle.settings.specs.declared.config.TheConstants.{LEAST_SHARE, MOST_REPEAT}
use Rattle.settings.specs.declared.fault.ConfigFault.{ConfigFault}
use Rattle.settings.specs.declared.fault.ConfigFault.TheVariants.{Pairs, Ring, Buffers, Share, Bsize, Batch, RsEvery, Workers, Repeat, Queue}

-- The frame at this place has a queue that does not exist.
pub record IsBeyond (script : List Frame) (pairs at : ℕ) : Type 0 where
  pub frame : Frame
  pub there : slice_get script at ≡ Some frame
  pub beyond : pairs ≤ frame.queue

abbrev pub IsFault : List Frame → Config → ConfigFault → Type 0
IsFault script c Pairs = ¬ ((1 ≤ c.pairs) × (c.pairs ≤ MOST_PAIRS))
IsFault script c Ring = ¬ IsRingLength c.ring
IsFault script c Buffers = ¬ ((FEWEST_BUFFERS ≤ c.buffers) × (c.buffers ≤ MOST_BUFFERS))
IsFault script c Share = c.buffers / (2 * c.pairs) < LEAST_SHARE
IsFault script c Bsize = ¬ IsFillSize c.bsize
IsFault script c Batch = ¬ ((1 ≤ c.batch) × (c.batch ≤ MOST_BATCH))
IsFault script c RsEvery = ¬ ((1 ≤ c.rs_every) × (c.rs_every ≤ MOST_RS_EVERY))
IsFault script c Workers = ¬ ((1 ≤ c.workers) × (c.workers ≤ 2 * c.pairs))
IsFault script c Repeat = ¬ ((1 ≤ c.repeat) × (c.repeat ≤ MOST_REPEAT))
IsFault script c (Queue at) = IsBeyond script c.pairs at
