-- What the records of the two ends amount to, from their making on.
use Rattle.std.proofs.Common.{◌≡◌, ◌∙◌, ℕ, [], length, ap, sym}
use Rattle.std.specs.Prelude.{replicate}
use Rattle.atomic_table.specs.Seated.{TableId}
use Rattle.ring_model.specs.declared.states.DriverState.TheVariants.{New}
use Rattle.ring_model.specs.receive.Lawful.{IsLawfulRxLedger}
use Rattle.ring_model.specs.shared.Segments.{Segment, piece_of}
use Rattle.ring_model.specs.shared.Frames.{Bytes}
use Rattle.rx_ring.specs.Ends.{DriverSide, ControllerSide, driver_size, posted, taken, reclaimed, driver_state, stored}
use Rattle.rx_ring.specs.Meeting.{ledger_of, is_unanswered, stored_now}
use Rattle.ring_bench.specs.Copies.{IsWhole}
use Rattle.ring_bench.specs.Storing.{StoredOnly}
use Rattle.ring_bench.specs.Passing.{TookAll, HasPassed}
use Rattle.ring_bench.proofs.Copies.{All-beginning, All-unless, copies}

-- the driver posted so many buffers at the ring, took and reclaimed none, and may go on
pub record HasPosted (ring : TableId) (count : ℕ) (driver : DriverSide) : Type 0 where
  pub own : driver.table ≡ ring
  pub count_is : length (posted driver) ≡ count
  pub none_taken : taken driver ≡ []
  pub none_reclaimed : reclaimed driver ≡ 0
  pub new : driver_state driver ≡ New

-- the segment is the whole frame
abbrev IsWholeSegment : Bytes → Segment Bytes → Type 0
IsWholeSegment frame s = IsWhole frame (piece_of s)

-- a driver that took so many segments took so many copies of the frame, where the controller stored nothing else
pub has_passed : (ring : TableId) (count : ℕ) (frame : Bytes) (driver : DriverSide) (controller : ControllerSide)
    → TookAll ring count driver → StoredOnly ring frame controller
    → IsLawfulRxLedger Bytes (driver_size driver) (ledger_of driver controller) → HasPassed count frame driver controller
has_passed ring count frame driver controller took stored_only lawful =
    let now = All-unless (IsWholeSegment frame) (stored controller) (is_unanswered driver controller) stored_only.only in
    let all = All-beginning (IsWholeSegment frame) (taken driver) (stored_now driver controller) lawful.taken now in record {
      one_ring = stored_only.own ∙ sym took.own;
      lawful = lawful;
      copies = copies piece_of frame (taken driver) all ∙ ap (λ n. replicate n frame) took.count_is;
    }
