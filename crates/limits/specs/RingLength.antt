-- The lawful lengths of a ring.
use Rattle.std.specs.Prelude.{ℕ, ◌≤◌, IsTrue}
use Rattle.std.specs.Int.{is_power_of_two}
use Rattle.limits.specs.declared.profile.TheConstants.{LEAST_RING, MOST_RING}

-- a power of two within the limits of the profile
abbrev pub IsRingLength : ℕ → Type 0
IsRingLength n = (LEAST_RING ≤ n) × (n ≤ MOST_RING) × IsTrue (is_power_of_two n)
