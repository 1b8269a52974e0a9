-- The buffer that a controller holds between a fetch and its write-back.
use Rattle.std.specs.Prelude.{[], Option, Some, None}
use Rattle.buffer_pool.specs.Buffer.{Buffer, buffer}

-- the buffer of the same number, empty
abbrev pub held_as : Option Buffer → Option Buffer
held_as None = None
held_as (Some b) = Some (buffer b.number [])
