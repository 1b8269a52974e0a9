-- Reclaiming a buffer, as a step that takes a buffer back.
use Rattle.std.specs.Prelude.{◌≡◌, ℕ, ◌+◌, List, length, Some, slice_get}
use Rattle.buffer_pool.specs.Buffer.{Buffer}
use Rattle.shared_ring.specs.declared.events.DriverEvent.{DriverEvent}
use Rattle.shared_ring.specs.declared.events.DriverEvent.TheVariants.{Reclaimed}
use Rattle.shared_ring.specs.Forms.{Form, driving}

abbrev pub reclaiming : {D : Type 0} → ℕ → List (DriverEvent D) → ℕ → ℕ → Buffer → DriverEvent D
reclaiming n es place r b = Reclaimed place b

-- The buffer is that of the oldest posting that is out.
pub record Reclaims {Ring Posted Completed Reaped D C : Type 0} (form : Form Ring Posted Completed Reaped D C) (n : ℕ) (es : List (DriverEvent D)) (place r : ℕ) (b : Buffer) : Type 0 where
  pub item : Posted
  pub there : slice_get (driving form es).posted (length (driving form es).reaped + (driving form es).reclaimed) ≡ Some item
  pub is_of : form.IsOf item b
