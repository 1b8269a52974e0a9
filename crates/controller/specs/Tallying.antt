-- The counts of a tally.
use Rattle.std.specs.Prelude.{ℕ, ◌+◌, nat_lt, if◌then◌else◌}
use Rattle.controller.specs.declared.offer.Offer.{Offer}
use Rattle.controller.specs.declared.offer.Offer.TheVariants.{Off, Oversize, Stored, Dropped, Held}
use Rattle.counters.specs.declared.tally.Tally.{Tally}

-- The greatest u64.
abbrev pub most_count : ℕ
most_count = 18446744073709551615

-- One more frame, unless the number of frames has reached the greatest count: then no count changes.
abbrev pub exact : Tally → Tally → Tally
exact t more = if nat_lt t.offered most_count then more else t

-- The tally after one more result. A frame that is held, or offered to a queue that is off, is not counted.
abbrev pub counted : Tally → Offer → Tally
counted t Off = t
counted t Oversize = exact t (record t { offered = t.offered + 1; oversize = t.oversize + 1 })
counted t Stored = exact t (record t { offered = t.offered + 1; stored = t.stored + 1 })
counted t Dropped = exact t (record t { offered = t.offered + 1; dropped = t.dropped + 1 })
counted t Held = t
