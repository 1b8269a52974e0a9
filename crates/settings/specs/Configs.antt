-- The lawful configurations.
use Rattle.std.specs.Prelude.{◌*◌, ◌/◌, ◌<◌, ◌≤◌, true, false, List, All}
use Rattle.limits.specs.declared.profile.TheConstants.{FEWEST_BUFFERS, MOST_BUFFERS, MOST_PAIRS, MOST_RS_EVERY}
use Rattle.limits.specs.RingLength.{IsRingLength}
use Rattle.limits.specs.FillSize.{IsFillSize}
use Rattle.limits.specs.declared.profile.TheConstants.{MOST_BATCH}
use Rattle.ring_model.specs.declared.states.Completion.TheVariants.{Status}
use Rattle.wire_script.specs.Frame.{Frame}
use Rattle.settings.specs.declared.config.Config.{Config}
use Rattle.settings.specs.declared.config.TheConstants.{LEAST_SHARE, MOST_REPEAT}

abbrev pub default_config : Config
default_config = record {
  pairs = 1;
  ring = 512;
  batch = 32;
  buffers = 4096;
  bsize = 2048;
  rs_every = 32;
  drop_en = false;
  retry = true;
  workers = 1;
  turns = 0;
  repeat = 1;
  keep = true;
  completion = Status;
}

-- Queue pairs and their rings.
pub record HasLawfulQueues (c : Config) : Type 0 where
  pub some : 1 ≤ c.pairs
  pub pairs : c.pairs ≤ MOST_PAIRS
  pub ring : IsRingLength c.ring

-- Each flow of both ports has its share of the buffers.
pub record HasLawfulBuffers (c : Config) : Type 0 where
  pub least : FEWEST_BUFFERS ≤ c.buffers
  pub most : c.buffers ≤ MOST_BUFFERS
  pub share : LEAST_SHARE ≤ c.buffers / (2 * c.pairs)
  pub bsize : IsFillSize c.bsize

pub record HasLawfulWork (c : Config) : Type 0 where
  pub batch : (1 ≤ c.batch) × (c.batch ≤ MOST_BATCH)
  pub rs_every : (1 ≤ c.rs_every) × (c.rs_every ≤ MOST_RS_EVERY)
  pub workers : (1 ≤ c.workers) × (c.workers ≤ 2 * c.pairs)
  pub repeat : (1 ≤ c.repeat) × (c.repeat ≤ MOST_REPEAT)

-- Each number is within its limits.
abbrev pub IsLawful : Config → Type 0
IsLawful c = HasLawfulQueues c × HasLawfulBuffers c × HasLawfulWork c

-- Each of these frames has a queue that exists.
abbrev pub HasQueues : Config → List Frame → Type 0
HasQueues c frames = All (λ f. f.queue < c.pairs) frames

-- The configuration is lawful, and each frame of the script has a queue that exists.
abbrev pub FitsIn : List Frame → Config → Type 0
FitsIn script c = IsLawful c × HasQueues c script
