-- Why a ring of eight is refused: for memory alone.
use Rattle.std.proofs.Common.{◌≡◌, refl, inl, arith}
use lib.Count.{ones}
use Rattle.refusals.specs.declared.errors.RingError.{RingError}
use Rattle.refusals.specs.declared.errors.RingError.TheVariants as ring
use Rattle.limits.specs.RingLength.{IsRingLength}
use Rattle.requests.specs.declared.refusal.Refusal.TheVariants.{Ring}
use Rattle.requests.specs.Refusals.{IsUnmade}

pub eight_is_lawful : IsRingLength 8
unfolding ones
eight_is_lawful = (omega arith, omega arith, refl)

pub ring_unmade : (e : RingError) → (e ≡ ring.RingLength → ¬ IsRingLength 8) → IsUnmade (Ring e)
ring_unmade ring.RingLength only = absurd (only refl eight_is_lawful)
ring_unmade ring.Memory only = inl refl
