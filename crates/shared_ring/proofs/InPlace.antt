-- A descriptor served while its buffer stays in its slot: a fetching, and the giving back of what is then in the slot.
-- Between the two the seat is as if the buffer had been taken out.
use Rattle.std.proofs.Common.{◌≡◌, ℕ, ◌%◌, ◌<◌, [], ◌∷◌, ◌++◌, length, Some, None, sym, refl, ap, ◌∙◌, subst}
use mathlib.Core.Option.{none}
use Rattle.atomic_table.specs.Table.{Allows, step, rest}
use Rattle.atomic_table.specs.Seated.{TableId}
use Rattle.buffer_pool.specs.Buffer.{Buffer, blank}
use Rattle.ring_model.specs.declared.states.Completion.{Completion}
use Rattle.shared_ring.specs.declared.events.ControllerEvent.{ControllerEvent}
use Rattle.shared_ring.specs.declared.events.ControllerEvent.TheVariants.{Fetched}
use Rattle.shared_ring.specs.Accesses.{Load}
use Rattle.shared_ring.specs.Ends.{Side, grown, controller_of, controller_side}
use Rattle.shared_ring.specs.Forms.{Form, control, controlling}
use Rattle.shared_ring.specs.InPlace.{Served}
use Rattle.shared_ring.specs.Keeping.{IsRuled, IsControllerSeat}
use Rattle.shared_ring.specs.Own.{Event, MayReap}
use Rattle.shared_ring.specs.Plays.{SeatOf, longer, IsNext, controller_end, gives, Takes}
use Rattle.shared_ring.specs.Records.{Controlled, uncontrolled}
use Rattle.shared_ring.specs.Seats.{controller_part}
use Rattle.shared_ring.specs.Slots.{front_buffer}
use Rattle.shared_ring.specs.Steps.{CameOut}
use Rattle.shared_ring.specs.Tables.{IsTableOf}
use Rattle.shared_ring.proofs.ControllerSeats.{fetch-keeps, fetch-steps, give_own-asks, give_own-keeps, give_own-steps}
use Rattle.shared_ring.proofs.Folds.{controlling-snoc}

module _ {Ring Posted Completed Reaped D C : Type 0} (form : Form Ring Posted Completed Reaped D C) where
  abbrev End : Type 0
  End = Side (ControllerEvent C)

  abbrev done_by : End → Controlled Completed
  done_by s = controlling form s.table.slots s.events

  module _ (table : TableId) (me : SeatOf D C) (size : ℕ) (mode : Completion) (inv : IsControllerSeat form table me size mode)
      (now : End) (was : record { table = table; completion = mode; events = controller_part me.0 } ≡ now)
      (ring : TableId) (key : ℕ × Completion) (ruled : IsTableOf ring key.0 key.1) (ring_now : TableId) (ring_is : ring ≡ ring_now) (mine : now.table ≡ ring_now)
      (place r : ℕ) (table1 : TableId) (me1 : SeatOf D C) (b : Buffer)
      (same : table1 ≡ table) (t : Takes (controller_end form) (λ n es p w c. Fetched p w c) (IsNext form) Load (step ring.slots place 0 0 none) me r me1) (slot : me1.1 ≡ (place, b) ∷ rest me1.1)
      (at : place ≡ length (done_by now).completed % now.table.slots) (unheld : (done_by now).held ≡ None) where
    -- the seat as if the buffer were out of its slot
    abbrev held_seat : SeatOf D C
    held_seat = (me1.0, (place, blank) ∷ rest me1.1)

    abbrev now1 : End
    now1 = record { table = table1; completion = mode; events = controller_part me1.0 }

    pub came_out : CameOut (controller_of form now) place b r (controller_of form now1)
    came_out = fetch-steps form table me size mode inv now was ring key ruled ring_now ring_is mine place r table1 me1 held_seat same t refl b (sym (ap front_buffer slot))

    kept : IsControllerSeat form table1 held_seat size mode
    kept = fetch-keeps form table me size mode inv now was ring key ruled ring_now ring_is mine place r table1 me1 held_seat same t refl at unheld

    grew : now1 ≡ grown now (Fetched place r b)
    grew = ap (controller_side form) came_out.step

    did : done_by (grown now (Fetched place r b)) ≡ control form now.table.slots (done_by now) (Fetched place r b)
    did = controlling-snoc now.table.slots form.control_own uncontrolled now.events (Fetched place r b)

    at1 : place ≡ length (done_by now1).completed % now1.table.slots
    at1 = subst (λ (s : End). place ≡ length (done_by s).completed % s.table.slots) (sym grew) (at ∙ sym (ap (λ (c : Controlled Completed). length c.completed % now.table.slots) did))

    holds1 : (h : Buffer) × ((done_by now1).held ≡ Some h)
    holds1 = (b, subst (λ (s : End). (done_by s).held ≡ Some b) (sym grew) (ap (λ (c : Controlled Completed). c.held) did))

    mine1 : now1.table ≡ ring_now
    mine1 = same ∙ ap (λ (s : End). s.table) was ∙ mine

    module _ (event : Event (ControllerEvent C)) (word v : ℕ) (left : Buffer) (may : MayReap form event now.table.slots now.completion (now.events ++ Fetched place r b ∷ []) place word v left) where
      may1 : MayReap form event now1.table.slots now1.completion now1.events place word v left
      may1 = subst (λ (s : End). MayReap form event s.table.slots s.completion s.events place word v left) (sym grew) may

      -- the seat with what is then in the slot
      abbrev filled_seat : SeatOf D C
      filled_seat = (me1.0, (place, left) ∷ rest me1.1)

      pub serve-asks : (id : ℕ) (table' : TableId) → table' ≡ table1
          → (table' ≡ ring) × (word < ring.words) × Allows (IsRuled form key.0 key.1) ring.slots id filled_seat word (λ _. v) (λ _. gives (controller_end form) event (step ring.slots word v 0 none) filled_seat v)
      serve-asks id table' e = give_own-asks form table1 held_seat size mode kept now1 refl ring key ruled ring_now ring_is mine1 event word v place left at1 holds1 may1 id table' filled_seat e refl

      module _ (table2 : TableId) (me2 : SeatOf D C) (t2 : table2 ≡ table1) (gave : me2 ≡ (longer (controller_end form) filled_seat (event ring.slots (controller_part me1.0) word v left), rest me1.1)) where
        pub serve-keeps : IsControllerSeat form table2 me2 size mode
        serve-keeps = give_own-keeps form table1 held_seat size mode kept now1 refl ring key ruled ring_now ring_is mine1 event word v place left at1 holds1 may1 table2 filled_seat me2 t2 refl gave

        pub serve-steps : Served form event now place word v r b left (record { table = table2; completion = mode; events = controller_part me2.0 })
        serve-steps = record {
          fetched = came_out.fetched;
          step = give_own-steps form table1 held_seat size mode kept now1 refl ring key ruled ring_now ring_is mine1 event word v place left at1 holds1 may1 table2 filled_seat me2 t2 refl gave ∙ ap (λ (s : End). grown s (event s.table.slots s.events word v left)) grew;
        }
