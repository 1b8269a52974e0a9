-- The invariant of the driver's thread of a transmit ring, and the frames that were sent at the end.
use Rattle.std.specs.Prelude.{◌≡◌, ℕ, ◌+◌, ◌%◌, ◌<◌, ◌≤◌, ◌||◌, ◌==◌, Bool, false, List, [], length, map, drop, replicate, Some, slice_get}
use Rattle.atomic_table.specs.Seated.{TableId}
use Rattle.buffer_pool.specs.Stocked.{Stocked, Shares}
use Rattle.ring_model.specs.declared.states.DriverState.TheVariants.{On}
use Rattle.ring_model.specs.shared.Frames.{Bytes, frames}
use Rattle.ring_model.specs.transmit.Lawful.{IsLawfulTxLedger}
use Rattle.ring_model.specs.transmit.Ring.{carried, number_of_posting}
use Rattle.tx_ring.specs.Calls.{IsFreshDriver}
use Rattle.tx_ring.specs.Ends.{DriverSide, ControllerSide, driver_size, driver_record, posted, cleaned, sent, is_owed}
use Rattle.tx_ring.specs.Meeting.{ledger_of}
use Rattle.tx_ring.specs.Records.{Posting, TxDriven}
use Rattle.ring_bench.specs.Copies.{AllWhole, IsFrameLength}
use Rattle.ring_bench.specs.Enabling.{CanServe}
use Rattle.ring_bench.specs.declared.tx.words.TxPlan.{TxPlan}

-- whether the frame after `before` others asks for a report: each `report`th does, and the last
abbrev pub asks_after : TxPlan → ℕ → Bool
asks_after plan before = ((before + 1) % plan.report == 0) || (before + 1 == plan.load.frames)

-- the frames that ask for a report are those of the plan
abbrev pub AskAs : TxPlan → List Posting → Type 0
AskAs plan ps = (k : ℕ) (p : Posting) → slice_get ps k ≡ Some p → p.rs ≡ asks_after plan k

-- how many frames of a plan are posted
pub record Progress : Type 0 where
  pub plan : TxPlan
  pub posted : ℕ

-- `posted` frames are posted, and the last of `until` more asks for the next report
pub record IsCourse (plan : TxPlan) (posted until : ℕ) : Type 0 where
  pub some : 0 < plan.report
  pub few : posted ≤ plan.load.frames
  pub due : until + posted % plan.report ≡ plan.report

-- the driver has done nothing yet
pub record CanEnable (ring : TableId) (driver : DriverSide) : Type 0 where
  pub own : driver.table ≡ ring
  pub fresh : IsFreshDriver driver

-- both ends may begin to send the frame as planned, with a full stock of a buffer for each descriptor of the ring
pub record CanSend (ring : TableId) (plan : TxPlan) (frame : Bytes) (driver : DriverSide) (controller : ControllerSide) (stock : Stocked) : Type 0 where
  pub enables : CanEnable ring driver
  pub serves : CanServe ring controller
  pub one_way : (driver.completion ≡ plan.completion) × (controller.completion ≡ plan.completion)
  pub full : Shares stock []
  pub enough : ring.slots ≤ length stock.numbers
  pub fits : IsFrameLength (length frame)
  pub some : 0 < plan.report

-- all postings are copies of the frame, with reports as planned, and none was reclaimed
pub record HasPosted (plan : TxPlan) (frame : Bytes) (did : TxDriven) : Type 0 where
  pub on : did.state ≡ On
  pub copies : AllWhole carried frame did.posted
  pub asks : AskAs plan did.posted
  pub none_reclaimed : did.reclaimed ≡ 0

-- the driver saw its queue enabled, and posted nothing but the frame
pub record CanPost (ring : TableId) (plan : TxPlan) (frame : Bytes) (driver : DriverSide) : Type 0 where
  pub own : driver.table ≡ ring
  pub reports : driver.completion ≡ plan.completion
  pub did : HasPosted plan frame (driver_record driver)

-- the stock has all its buffers but those that are posted and not cleaned, at least one for each of the ring's n places
pub record Supplies (stock : Stocked) (n : ℕ) (did : TxDriven) : Type 0 where
  pub few : length did.reaped ≤ length did.posted
  pub shares : Shares stock (map number_of_posting (drop (length did.reaped) did.posted))
  pub enough : n + length did.reaped ≤ length stock.numbers + length did.posted

-- the driver posts the frame at the ring, in buffers of the stock, as far as the course
pub record IsUnderWay (ring : TableId) (frame : Bytes) (driver : DriverSide) (stock : Stocked) (course : Progress) : Type 0 where
  pub can : CanPost ring course.plan frame driver
  pub supplies : Supplies stock (driver_size driver) (driver_record driver)
  pub count_is : course.posted ≡ length (posted driver)

-- the driver did nothing but clean
pub record OnlyCleaned (old new : DriverSide) : Type 0 where
  pub one_ring : new.table ≡ old.table
  pub one_way : new.completion ≡ old.completion
  pub same : driver_record new ≡ record (driver_record old) { reaped = cleaned new }

-- all frames of the plan are posted, and all that is posted is cleaned
pub record PostedAll (ring : TableId) (plan : TxPlan) (frame : Bytes) (driver : DriverSide) : Type 0 where
  pub can : CanPost ring plan frame driver
  pub count_is : length (posted driver) ≡ plan.load.frames
  pub all_cleaned : length (posted driver) ≡ length (cleaned driver)

-- All copies of the frame went through one ring that reports as planned. The controller sent what the driver posted,
-- with each report asked for as planned, and owes none; all of it is cleaned, in order
pub record HasSent (plan : TxPlan) (frame : Bytes) (driver : DriverSide) (controller : ControllerSide) : Type 0 where
  pub one_ring : controller.table ≡ driver.table
  pub one_way : (driver.completion ≡ plan.completion) × (controller.completion ≡ plan.completion)
  pub lawful : IsLawfulTxLedger Bytes (driver_size driver) (ledger_of driver controller)
  pub as_posted : sent controller ≡ posted driver
  pub copies : frames carried (sent controller) ≡ replicate plan.load.frames frame
  pub asks : AskAs plan (sent controller)
  pub paid : is_owed controller ≡ false
  pub all_cleaned : cleaned driver ≡ map number_of_posting (posted driver)
