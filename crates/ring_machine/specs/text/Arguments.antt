-- The ranges of the contents of a posted transmit descriptor.
use Rattle.std.specs.Prelude.{◌≡◌, ℕ, ◌<◌, ◌≤◌, Bool, true}
use Rattle.limits.specs.declared.profile.TheConstants.{BUFFER_BYTES, LEAST_FRAME, MOST_FRAME}

pub record IsDescriptor (len : ℕ) (eop rs : Bool) (paylen : ℕ) : Type 0 where
  pub some_bytes : 0 < len
  pub few_bytes : len ≤ BUFFER_BYTES
  pub at_end : rs ≡ true → eop ≡ true
  pub least : LEAST_FRAME ≤ paylen
  pub most : paylen ≤ MOST_FRAME
