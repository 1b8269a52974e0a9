-- Places of a ring, as code steps over them.
use Rattle.std.specs.Prelude.{ℕ, ◌+◌, ◌-◌, ◌%◌, ◌==◌, if◌then◌else◌}

-- The place after this one in a ring of `n`.
abbrev pub place_next : ℕ → ℕ → ℕ
place_next n place = if (place + 1) == n then 0 else (place + 1)

-- The number of places from one place up to another.
abbrev pub between_places : ℕ → ℕ → ℕ → ℕ
between_places n from to = (to + n - from) % n
