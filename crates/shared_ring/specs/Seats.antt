-- The record of each seat at a ring's table, for any events: one seat has the driver's record, one the controller's,
-- and the others none.
use Rattle.std.specs.Prelude.{◌≡◌, ℕ, List, []}
use mathlib.Core.Option.{some}
use lib.ListN.{get_elem?}
use Rattle.shared_ring.specs.declared.events.View.{View}
use Rattle.shared_ring.specs.declared.events.View.TheVariants.{Maker, Driver, Controller, Both, Nobody}

module _ {D C : Type 0} where
  -- The driver's record in a view, and the controller's; empty if there is none.
  abbrev pub driver_part : View D C → List D
  driver_part Maker = []
  driver_part (Driver ds) = ds
  driver_part (Controller cs) = []
  driver_part (Both ds cs) = ds
  driver_part Nobody = []

  abbrev pub controller_part : View D C → List C
  controller_part Maker = []
  controller_part (Driver ds) = []
  controller_part (Controller cs) = cs
  controller_part (Both ds cs) = cs
  controller_part Nobody = []

  -- Seat `j` has view `v`. Seat `i` has the driver's record `ds`, and seat `k` the controller's record `cs`.
  abbrev pub Fits : List D → List C → ℕ → ℕ → ℕ → View D C → Type 0
  Fits ds cs i k j Maker = ⊥
  Fits ds cs i k j (Driver es) = (j ≡ i) × (es ≡ ds)
  Fits ds cs i k j (Controller es) = (j ≡ k) × (es ≡ cs)
  Fits ds cs i k j (Both es fs) = (j ≡ i) × (es ≡ ds) × (j ≡ k) × (fs ≡ cs)
  Fits ds cs i k j Nobody = Unit {0}

  -- Every view fits the driver's record at one seat and the controller's record at one seat.
  pub record HasSeats (ds : List D) (cs : List C) (views : List (View D C)) : Type 0 where
    pub driver_seat : ℕ
    pub controller_seat : ℕ
    pub fits : (j : ℕ) (v : View D C) → get_elem? views j ≡ some v → Fits ds cs driver_seat controller_seat j v

  -- The two halves of a view, and two halves put together.
  abbrev pub driver_half : View D C → View D C
  driver_half v = Driver (driver_part v)

  abbrev pub controller_half : View D C → View D C
  controller_half v = Controller (controller_part v)

  abbrev pub both_halves : View D C → View D C → View D C
  both_halves v w = Both (driver_part v) (controller_part w)
