use Rattle.std.specs.Prelude.{ℕ}
use Rattle.refusals.specs.declared.errors.DriverError.{DriverError}
use Rattle.refusals.specs.declared.errors.DriverError.TheVariants.{QueueOff, StashFull, TooLong, NotReclaimed}

-- the refusal's number
abbrev pub refusal_number : DriverError → ℕ
refusal_number QueueOff = 51
refusal_number StashFull = 52
refusal_number TooLong = 53
refusal_number NotReclaimed = 54
