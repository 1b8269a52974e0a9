-- The access that a step makes to the table: each event says whether it is a load or a store, of which word, and with
-- which value found or stored there.
use Rattle.std.specs.Prelude.{ℕ}
use Rattle.shared_ring.specs.declared.events.DriverEvent.{DriverEvent}
use Rattle.shared_ring.specs.declared.events.DriverEvent.TheVariants as driver
use Rattle.shared_ring.specs.declared.events.ControllerEvent.{ControllerEvent}
use Rattle.shared_ring.specs.declared.events.ControllerEvent.TheVariants as controller
use Rattle.shared_ring.specs.Registers.{head_index, tail_index, control_index}

pub data Kind : Type 0 where
  Load : Kind
  Store : Kind

pub record Access : Type 0 where
  pub kind : Kind
  pub index : ℕ
  pub value : ℕ

abbrev pub load : ℕ → ℕ → Access
load i v = record { kind = Load; index = i; value = v }

abbrev pub store : ℕ → ℕ → Access
store i v = record { kind = Store; index = i; value = v }

-- For a ring of `n` places. `own` is the access of a step that only one direction has.
module _ {Own : Type 0} (own : ℕ → Own → Access) (n : ℕ) where
  abbrev pub driver_access : DriverEvent Own → Access
  driver_access (driver.Posted place word b) = store place word
  driver_access (driver.Published tail) = store (tail_index n) tail
  driver_access driver.AskedEnable = store (control_index n) 1
  driver_access (driver.LoadedControl word) = load (control_index n) word
  driver_access driver.AskedDisable = store (control_index n) 3
  driver_access (driver.LoadedHead word) = load (head_index n) word
  driver_access (driver.Reclaimed place b) = store place 0
  driver_access driver.ClearedHead = store (head_index n) 0
  driver_access driver.ClearedTail = store (tail_index n) 0
  driver_access (driver.Own o) = own n o

  abbrev pub controller_access : ControllerEvent Own → Access
  controller_access (controller.Looked tail) = load (tail_index n) tail
  controller_access (controller.Fetched place word b) = load place word
  controller_access (controller.StoredHead place) = store (head_index n) place
  controller_access (controller.LoadedRequest word) = load (control_index n) word
  controller_access controller.Enabled = store (control_index n) 2
  controller_access controller.Disabled = store (control_index n) 0
  controller_access (controller.Own o) = own n o
