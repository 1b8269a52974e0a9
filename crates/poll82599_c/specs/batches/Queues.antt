-- The common steps of the drivers of receive and transmit queues.
use Rattle.std.specs.Prelude.{◌≡◌, ℕ, zero, suc, ◌+◌, Bool, true, false, Option, Some, None, length}
use Rattle.buffer_pool.specs.declared.stash.TheConstants.{STASH_BUFFERS}
use Rattle.ring_model.specs.shared.Handshakes.{is_live, is_on, is_open, is_stopped}
use Rattle.shared_ring.specs.declared.events.DriverEvent.TheVariants as driver
use Rattle.shared_ring.specs.Ends.{DriverSide, driver_grown, driver_state}
use Rattle.shared_ring.specs.Forms.{Form}
use Rattle.driver.specs.Handshake.{AskedEnabling, Finishes}
use Rattle.poll82599_c.specs.Held.{Between}
use Rattle.poll82599_c.specs.batches.Packets.{Worked}

-- A driver of one direction: its end; the driver with another end; the number left, from a load of the head; that a
-- disabled queue is empty; how buffers come back into a worker's stash; and how a new epoch begins
pub record Kind {Ring Posted Completed Reaped D C : Type 0} (form : Form Ring Posted Completed Reaped D C) (Q : Type 0) : Type 1 where
  pub end_of : Q → DriverSide form
  pub with_end : Q → DriverSide form → Q
  pub told_left : DriverSide form → Option ℕ
  pub IsEmptied : Q → Type 0
  pub CameInto : Q → Worked → Q → Worked → Type 0
  pub Renewed : Q → Q → Type 0

-- A driver of either direction
pub record Directed (Q : Type 0) : Type 1 where
  pub Ring : Type 0
  pub Posted : Type 0
  pub Completed : Type 0
  pub Reaped : Type 0
  pub D : Type 0
  pub C : Type 0
  pub form : Form Ring Posted Completed Reaped D C
  pub kind : Kind form Q

abbrev pub directed : {Ring Posted Completed Reaped D C : Type 0} {form : Form Ring Posted Completed Reaped D C} {Q : Type 0} → Kind form Q → Directed Q
directed {Ring} {Posted} {Completed} {Reaped} {D} {C} {form} kind = record { Ring = Ring; Posted = Posted; Completed = Completed; Reaped = Reaped; D = D; C = C; form = form; kind = kind }

module _ {Ring Posted Completed Reaped D C : Type 0} {form : Form Ring Posted Completed Reaped D C} {Q : Type 0} (kind : Kind form Q) where
  -- the queue is there before and after, and belongs to the same ring
  abbrev pub SameQueue : Option Q → Option Q → Type 0
  SameQueue = Between (λ old new. (kind.end_of new).table ≡ (kind.end_of old).table)

  -- the queue was not seen on, or was seen disabled, and nothing was done
  abbrev pub IsOff : Q → Worked → Q → Worked → Type 0
  IsOff old had new has = (is_live (driver_state (kind.end_of old)) ≡ false) × (new ≡ old) × (has ≡ had)

  -- all `count` buffers of a disabled queue came back into the stash
  pub record AllCame (count : ℕ) (old : Q) (had : Worked) (new : Q) (has : Worked) : Type 0 where
    pub came : kind.CameInto old had new has
    pub count_is : length has.stash ≡ length had.stash + count
    pub emptied : kind.IsEmptied new

  -- as many buffers came back as the stash had room for, and some are left
  pub record FilledUp (old : Q) (had : Worked) (new : Q) (has : Worked) : Type 0 where
    pub came : kind.CameInto old had new has
    pub full : length has.stash ≡ STASH_BUFFERS
    pub some_left : ¬ kind.IsEmptied new

  -- An enabling was asked for if nothing was asked yet, and the control word was loaded; nothing was done if a
  -- disabling is asked for. `on` is whether the queue is on
  pub record TriedEnabling (on : Bool) (old new : Q) : Type 0 where
    pub asked : is_open (driver_state (kind.end_of old)) ≡ true → AskedEnabling (kind.end_of old) (kind.end_of new)
    pub shut : is_open (driver_state (kind.end_of old)) ≡ false → new ≡ old
    pub on_is : on ≡ is_on (driver_state (kind.end_of new))
    pub rest : new ≡ kind.with_end old (kind.end_of new)

  -- C5
  abbrev pub AskedDisable : Q → Q → Type 0
  AskedDisable old new = new ≡ kind.with_end old (driver_grown (kind.end_of old) driver.AskedDisable)

  -- the control word was loaded and, if it showed the disabling answered, the head, which gives how many segments are
  -- left
  pub record TriedFinish (told : Option ℕ) (old new : Q) : Type 0 where
    pub finishes : Finishes kind.told_left (kind.end_of old) told (kind.end_of new)
    pub rest : new ≡ kind.with_end old (kind.end_of new)

  -- ---- the results of a driver's calls, and their steps

  -- 1: this was done, with `count`; 0: the queue was not seen on, or was seen disabled
  abbrev pub TriedLive : (ℕ → Q → Worked → Q → Worked → Type 0) → ℕ → ℕ → Q → Worked → Q → Worked → Type 0
  TriedLive Step zero count old had new has = IsOff old had new has
  TriedLive Step (suc zero) count old had new has = Step count old had new has
  TriedLive Step _ count old had new has = ⊥

  -- 1: all buffers came back, `count`; 0: as many as the stash had room for; 2: no disabling was seen answered
  abbrev pub TriedReclaim : ℕ → ℕ → Q → Worked → Q → Worked → Type 0
  TriedReclaim zero count old had new has = FilledUp old had new has
  TriedReclaim (suc zero) count old had new has = AllCame count old had new has
  TriedReclaim (suc (suc zero)) count old had new has = (is_stopped (driver_state (kind.end_of old)) ≡ false) × (new ≡ old) × (has ≡ had)
  TriedReclaim _ count old had new has = ⊥

  -- 1: it is on; 0: it is not; 2: it was seen disabled
  abbrev pub TriedEnable : ℕ → Q → Q → Type 0
  TriedEnable zero old new = TriedEnabling false old new
  TriedEnable (suc zero) old new = TriedEnabling true old new
  TriedEnable (suc (suc zero)) old new = (is_stopped (driver_state (kind.end_of old)) ≡ true) × (new ≡ old)
  TriedEnable _ old new = ⊥

  -- 1: it was asked for; 0: it is not on
  abbrev pub TriedDisable : ℕ → Q → Q → Type 0
  TriedDisable zero old new = (is_on (driver_state (kind.end_of old)) ≡ false) × (new ≡ old)
  TriedDisable (suc zero) old new = AskedDisable old new
  TriedDisable _ old new = ⊥

  -- 1: `count` segments are left; 0: the number is not known yet, or was returned before
  abbrev pub TriedLeft : ℕ → ℕ → Q → Q → Type 0
  TriedLeft zero count old new = TriedFinish None old new
  TriedLeft (suc zero) count old new = TriedFinish (Some count) old new
  TriedLeft _ count old new = ⊥

  -- 1: it was renewed; 0: buffers are left, or it was not seen disabled
  abbrev pub TriedRenewal : ℕ → Q → Q → Type 0
  TriedRenewal zero old new = (¬ kind.IsEmptied old) × (new ≡ old)
  TriedRenewal (suc zero) old new = kind.Renewed old new
  TriedRenewal _ old new = ⊥

  -- ---- the step of an operation of both directions, by its number, with this result
  abbrev pub DidAlike : ℕ → ℕ → ℕ → Q → Q → Type 0
  DidAlike zero answer count old new = TriedEnable answer old new
  DidAlike (suc zero) answer count old new = TriedDisable answer old new
  DidAlike (suc (suc zero)) answer count old new = TriedLeft answer count old new
  DidAlike (suc (suc (suc zero))) answer count old new = TriedRenewal answer old new
  DidAlike _ answer count old new = answer ≡ 4294967295
