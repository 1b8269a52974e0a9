-- What the driver's turns keep.
use Rattle.std.proofs.Common.{◌≡◌, ◌∙◌, refl, true, List, ap}
use Rattle.atomic_table.specs.Seated.{TableId}
use Rattle.buffer_pool.specs.Buffer.{Buffer}
use Rattle.ring_model.specs.declared.states.DriverState.{DriverState}
use Rattle.ring_model.specs.declared.states.DriverState.TheVariants as state
use Rattle.ring_model.specs.shared.Frames.{frames}
use Rattle.ring_model.specs.shared.Handshakes.{is_live, is_on, is_open}
use Rattle.ring_model.specs.shared.Segments.{piece_of}
use Rattle.rx_ring.specs.Ends.{DriverSide, driver_state}
use Rattle.driver.specs.Handshake.{AskedEnabling}
use Rattle.driver.specs.receive.Batches.{GrewBy, Hands}
use Rattle.commands.proofs.Ends.{Takes, stays_open, takes_more}
use Rattle.c_data.specs.Once.{Drives}

-- a queue that is on is live
on_live : (s : DriverState) → is_on s ≡ true → is_live s ≡ true
on_live state.New e = cc e
on_live state.Asked e = cc e
on_live state.On e = e
on_live state.Stopping e = refl
on_live state.Stopped e = cc e
on_live state.Cleared e = cc e
on_live state.Tailed e = cc e

-- asking for an enabling takes nothing
pub drives_asked : (ring : TableId) (old new : DriverSide) (chain chain' : List Buffer) (list : List (List Buffer)) → new.table ≡ old.table → chain' ≡ chain
    → AskedEnabling old new → Drives ring old chain list → Drives ring new chain' list
drives_asked ring old new chain chain' list own same asked had = rw same (record {
  own = own ∙ had.own;
  not_shut = stays_open old new asked had.not_shut;
  segments = ap (λ r. r.reaped) asked.did ∙ had.segments;
  frames_are = ap (λ r. frames piece_of r.reaped) asked.did ∙ had.frames_are;
})

-- a batch of a queue that is on
pub drives_more : {old new : Hands} (ring : TableId) → is_on (driver_state old.end) ≡ true → driver_state new.end ≡ driver_state old.end → GrewBy old new
    → Drives ring old.end old.chain old.list → Drives ring new.end new.chain new.list
drives_more {old} {new} ring on same grew had =
    let first : Takes ring old.end old.chain old.list = record { own = had.own; live = on_live (driver_state old.end) on; segments = had.segments; frames_are = had.frames_are } in
    let takes = takes_more ring old new grew first in record {
      own = takes.own;
      not_shut = ap is_open same ∙ had.not_shut;
      segments = takes.segments;
      frames_are = takes.frames_are;
    }
