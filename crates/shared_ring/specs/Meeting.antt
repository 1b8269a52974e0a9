-- What the two ends together establish: when they are made, when they meet, and when the ring is closed.
use Rattle.std.specs.Prelude.{◌≡◌, ℕ, zero, suc, ◌+◌, ◌%◌, ◌<◌, ◌≤◌, Bool, not, ◌&&◌, ◌==◌, nat_lt, List, [], ◌∷◌, ◌++◌, length, map, drop, slice_get, Option, Some, None, IfSome, All, IsPermutation, if◌then◌else◌}
use mathlib.Core.Option as maybe
use mathlib.Core.Option.{some, none}
use lib.ListN.{get_elem?}
use Rattle.atomic_table.specs.Seated.{TableId}
use Rattle.buffer_pool.specs.Buffer.{Buffer, buffer}
use Rattle.limits.specs.RingLength.{IsRingLength}
use Rattle.ring_model.specs.declared.states.Completion.{Completion}
use Rattle.ring_model.specs.declared.states.Owner.{Owner}
use Rattle.ring_model.specs.declared.states.Owner.TheVariants as owner
use Rattle.ring_model.specs.shared.Handshakes.{is_open, is_ended}
use Rattle.ring_model.specs.shared.Places.{between_places}
use Rattle.shared_ring.specs.Ends.{DriverSide, driver_size, driver_state, posted, returned, ControllerSide, controller_state, completed, held}
use Rattle.shared_ring.specs.Forms.{Form}

-- The slot at a place, if its buffer is in the ring: fewer than `out` places after `next`, and not held.
abbrev pub slot_of : maybe.Option Buffer → Option Buffer
slot_of none = None
slot_of (some b) = Some b

abbrev pub is_kept : ℕ → ℕ → ℕ → ℕ → Bool → ℕ → Bool
is_kept n next out serve holding place = nat_lt (between_places n next place) out && not (holding && (place == serve))

abbrev pub kept_at : ℕ → ℕ → ℕ → ℕ → Bool → List Buffer → ℕ → Option Buffer
kept_at n next out serve holding slots place = if is_kept n next out serve holding place then slot_of (get_elem? slots place) else None

abbrev pub kept_upto : (ℕ → Option Buffer) → ℕ → List (Option Buffer)
kept_upto f zero = []
kept_upto f (suc k) = kept_upto f k ++ f k ∷ []

-- The numbers of the buffers in a list of places, in order.
abbrev pub number_at : Option Buffer → List ℕ
number_at None = []
number_at (Some b) = b.number ∷ []

abbrev pub numbers_at : List (Option Buffer) → List ℕ
numbers_at [] = []
numbers_at (o ∷ os) = number_at o ++ numbers_at os

-- A buffer with a number and room, not a blank.
abbrev pub IsReal : Buffer → Type 0
IsReal b = b ≡ buffer b.number b.bytes

abbrev pub AllReal : List (Option Buffer) → Type 0
AllReal buffers = All (λ o. IfSome o IsReal) buffers

-- A buffer came back from a closed ring at exactly the places that Ring owned, and `Gave` holds for each of them.
pub record CameBackFrom (n : ℕ) (owners : List Owner) (Gave : ℕ → Type 0) (buffers : List (Option Buffer)) : Type 0 where
  pub count : length buffers ≡ n
  pub ring : (place : ℕ) → slice_get owners place ≡ Some owner.Ring → Gave place
  pub others : (place : ℕ) → place < n → ¬ (slice_get owners place ≡ Some owner.Ring) → slice_get buffers place ≡ Some None

-- If the number left is known, one list is longer than the other by that number.
abbrev pub IsTold : Option ℕ → ℕ → ℕ → Type 0
IsTold None fewer more = Unit {0}
IsTold (Some left) fewer more = more ≡ fewer + left

module _ {Ring Posted Completed Reaped D C : Type 0} {form : Form Ring Posted Completed Reaped D C} where
  -- A new ring. It is disabled, and neither end has made a step.
  pub record MadeSeats (n : ℕ) (mode : Completion) (ring : TableId) (d : DriverSide form) (c : ControllerSide form) : Type 0 where
    pub length_is : IsRingLength n
    pub size_is : ring.slots ≡ n
    pub driver_own : d.table ≡ ring
    pub controller_own : c.table ≡ ring
    pub driver_reports : d.completion ≡ mode
    pub controller_reports : c.completion ≡ mode
    pub driver_empty : d.events ≡ []
    pub controller_empty : c.events ≡ []

  -- The driver is in an epoch that the controller has not answered yet.
  abbrev pub is_unanswered : DriverSide form → ControllerSide form → Bool
  is_unanswered d c = is_ended (controller_state c) && is_open (driver_state d)

  -- The numbers of the buffers that are out, oldest first. `number` is that of a posting.
  abbrev pub out_of : (Posted → ℕ) → DriverSide form → List ℕ
  out_of number d = map number (drop (returned d) (posted d))

  -- Each buffer that is out appears once among these places and the controller's held buffer.
  abbrev pub AllCameBack : (Posted → ℕ) → DriverSide form → ControllerSide form → List (Option Buffer) → Type 0
  AllCameBack number d c buffers = IsPermutation (out_of number d) (numbers_at buffers ++ number_at (held c))

  -- The items completed in the driver's epoch: none until the controller has answered its enabling.
  abbrev pub completed_now : DriverSide form → ControllerSide form → List Completed
  completed_now d c = if is_unanswered d c then [] else completed c

  -- Both records are those of one ring.
  abbrev pub Met : DriverSide form → ControllerSide form → Type 0
  Met d c = form.AreOf (driver_size d) d.events c.events

  -- The item is out, and this is its place.
  pub record IsOutAt (d : DriverSide form) (item place : ℕ) : Type 0 where
    pub out : returned d ≤ item
    pub posted_item : item < length (posted d)
    pub place_is : item % driver_size d ≡ place

  -- The contents of the slots when the table is closed.
  abbrev pub LeftIn : DriverSide form → ControllerSide form → List Buffer → Type 0
  LeftIn d c slots = form.LeftIn (driver_size d) d.events c.events slots

  -- The buffers of the places that are kept, in order.
  pub record TakenApart (d : DriverSide form) (c : ControllerSide form) (next out serve : ℕ) (holding : Bool) (buffers : List (Option Buffer)) : Type 0 where
    pub slots : List Buffer
    pub left : LeftIn d c slots
    pub kept : buffers ≡ kept_upto (kept_at (driver_size d) next out serve holding slots) (driver_size d)
