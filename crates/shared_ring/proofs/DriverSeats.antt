-- The driver's seat: what each of its steps asks of the table, and what the seat keeps.
use Rattle.std.proofs.Common.{◌≡◌, ℕ, ◌+◌, ◌-◌, ◌%◌, ◌<◌, ◌≤◌, Bool, true, false, List, [], ◌∷◌, ◌++◌, length, sym, refl, ap, ◌∙◌, subst, arith, length-append, mod-lt}
use Rattle.std.specs.Prelude.{◌==◌, if◌then◌else◌}
use Rattle.std.proofs.Math.Nat.{mod-mod}
use Rattle.std.proofs.lemmas.Bool.{false≢true}
use mathlib.Core.Option.{none}
use Rattle.atomic_table.specs.Table.{Allows, step, rest, turned}
use Rattle.atomic_table.specs.Seated.{TableId}
use Rattle.buffer_pool.specs.Buffer.{Buffer, blank}
use Rattle.ring_model.specs.declared.states.Completion.{Completion}
use Rattle.ring_model.specs.shared.Handshakes.{is_open, is_new, is_on, is_stopped, is_cleared}
use Rattle.shared_ring.specs.declared.events.DriverEvent.{DriverEvent}
use Rattle.shared_ring.specs.declared.events.DriverEvent.TheVariants as driver
use Rattle.shared_ring.specs.declared.events.ControllerEvent.{ControllerEvent}
use Rattle.shared_ring.specs.declared.control.Control.{Control}
use Rattle.shared_ring.specs.declared.control.Control.TheVariants.{Disabled, EnableAsked, Enabled, DisableAsked}
use Rattle.shared_ring.specs.declared.events.View.{View}
use Rattle.shared_ring.specs.Calls.{MayAsk}
use Rattle.shared_ring.specs.Words.{control_word}
use Rattle.shared_ring.specs.declared.events.View.TheVariants.{Driver}
use Rattle.shared_ring.specs.Ends.{Side, grown}
use Rattle.shared_ring.specs.Forms.{Form, drive, driving}
use Rattle.shared_ring.specs.Keeping.{IsRuled, IsDriverSeat}
use Rattle.shared_ring.specs.Own.{Event, Tells, SameOut, OneBack, MayLoad, MayClear, MayTake, MayEnd, Missed, Came}
use Rattle.shared_ring.specs.Accesses.{Kind, Store}
use Rattle.shared_ring.specs.Plays.{SeatOf, longer, IsControl, IsPlace, asks, driver_end, gives, stores, Loads, Takes, Finds}
use Rattle.shared_ring.specs.Records.{Driven, IsWindow, driver_slots, undriven}
use Rattle.shared_ring.specs.Seats.{driver_part}
use Rattle.shared_ring.specs.Slots.{empty_slots, front_buffer}
use Rattle.shared_ring.specs.Tables.{IsTableOf, words_of}
use Rattle.shared_ring.proofs.Allowing.{driver_role}
use Rattle.shared_ring.proofs.Allowed.{may-store, may-load, may-clear, may-find, may-reap}
use Rattle.shared_ring.proofs.SeatRules as standing
use Rattle.shared_ring.proofs.SeatRules.{as-made, Asks, LoadAsks, front-is}
use Rattle.shared_ring.proofs.Folds.{driving-snoc, slots-post, slots-return, slots-alike}

module _ {Ring Posted Completed Reaped D C : Type 0} (form : Form Ring Posted Completed Reaped D C) where
  abbrev End : Type 0
  End = Side (DriverEvent D)

  -- what an end did
  abbrev done_by : End → Driven Posted Reaped
  done_by s = driving form s.events

  did : (es : List (DriverEvent D)) (e : DriverEvent D) → driving form (es ++ e ∷ []) ≡ drive form (driving form es) e
  did es e = driving-snoc form.posting form.drive_own undriven es e

  module _ (table : TableId) (me : SeatOf D C) (size : ℕ) (mode : Completion) (inv : IsDriverSeat form table me size mode) where
    abbrev es : List (DriverEvent D)
    es = driver_part me.0

    abbrev d : Driven Posted Reaped
    d = driving form (driver_part me.0)

    abbrev its : List (ℕ × Buffer)
    its = driver_slots size (driving form (driver_part me.0))

    abbrev side : TableId → SeatOf D C → End
    side t m = record { table = t; completion = mode; events = driver_part m.0 }

    big : 8 ≤ size
    big = inv.lawful.0

    view-is : me.0 ≡ Driver (driver_part me.0)
    view-is = ap (λ (m : SeatOf D C). m.0) inv.me_is

    slots-are : me.1 ≡ driver_slots size (driving form (driver_part me.0))
    slots-are = ap (λ (m : SeatOf D C). m.1) inv.me_is

    -- a seat whose record is es' and whose slots are those that it tells
    made : (table' : TableId) (me' : SeatOf D C) (es' : List (DriverEvent D)) (slots' : List (ℕ × Buffer)) (d' : Driven Posted Reaped) → table' ≡ table → me' ≡ (Driver es', slots') → driving form es' ≡ d' → slots' ≡ driver_slots size d' → IsWindow size d' → IsDriverSeat form table' me' size mode
    made table' me' es' slots' d' t m e s w = as-made table table' me me' (Driver es', slots') size mode inv t m (ap (λ (xs : List (ℕ × Buffer)). let x : SeatOf D C = (Driver es', xs) in x) (s ∙ ap (driver_slots size) (sym e))) (subst (IsWindow size) (sym e) w)

    -- a step that leaves what is posted and what came back
    pub same-keeps : (e : DriverEvent D) (table' : TableId) (me' : SeatOf D C) → table' ≡ table → me' ≡ (longer (driver_end form) me e, me.1) → SameOut d (drive form d e) → IsDriverSeat form table' me' size mode
    same-keeps e table' me' t m s = let w = inv.stands in
        made table' me' (driver_part me.0 ++ e ∷ []) me.1 (drive form d e) t m (did (driver_part me.0) e) (slots-are ∙ sym (rw (s.posted, s.reaped, s.reclaimed) refl))
        (record { back = rw (s.posted, s.reaped, s.reclaimed) w.back; room = rw (s.posted, s.reaped, s.reclaimed) w.room })

    pub asked-out : (v : ℕ) → SameOut d (drive form d (asks v))
    asked-out v = either (v == 1)
      where
        either : (b : Bool) → SameOut d (drive form d (if b then driver.AskedEnable else driver.AskedDisable))
        either true = record { posted = refl; reaped = refl; reclaimed = refl }
        either false = record { posted = refl; reaped = refl; reclaimed = refl }

    module _ (now : End) (was : side table me ≡ now) where
      -- the record of the end after a step that its table keeps
      one-more : (e : DriverEvent D) (table' : TableId) (me' : SeatOf D C) (slots' : List (ℕ × Buffer)) → table' ≡ table → me' ≡ (Driver (driver_part me.0 ++ e ∷ []), slots') → side table' me' ≡ grown now e
      one-more e table' me' slots' t m =
          ap (λ (x : SeatOf D C). side table' x) m ∙ ap (λ (z : TableId). let s : End = record { table = z; completion = mode; events = driver_part me.0 ++ e ∷ [] } in s) t ∙ ap (λ (s : End). grown s e) was

      pub same-steps : (e : DriverEvent D) (table' : TableId) (me' : SeatOf D C) → table' ≡ table → me' ≡ (longer (driver_end form) me e, me.1) → side table' me' ≡ grown now e
      same-steps e table' me' t m = one-more e table' me' me.1 t m

      -- what a contract says of the end goes for the record
      words-are : {Y : Type 0} (f : Driven Posted Reaped → ℕ → Y) → f (done_by now) now.table.slots ≡ f d size
      words-are f = ap (λ (s : End). f (done_by s) s.table.slots) (sym was) ∙ ap (f d) inv.size_is

      at-size : (F : ℕ → Type 0) → F now.table.slots → F size
      at-size F x = subst F (words-are (λ y n. n)) x

      -- a step's own condition, of the seat
      here : (F : ℕ → Completion → List (DriverEvent D) → Type 0) → F now.table.slots now.completion now.events → F size mode (driver_part me.0)
      here F x = subst (λ (n : ℕ). F n mode (driver_part me.0)) inv.size_is (subst (λ (s : End). F s.table.slots s.completion s.events) (sym was) x)

      back-there : (F : ℕ → Completion → List (DriverEvent D) → Type 0) → F size mode (driver_part me.0) → F now.table.slots now.completion now.events
      back-there F x = subst (λ (s : End). F s.table.slots s.completion s.events) was (subst (λ (n : ℕ). F n mode (driver_part me.0)) (sym inv.size_is) x)

      filled : (place : ℕ) → place ≡ length (done_by now).posted % now.table.slots → place ≡ length d.posted % size
      filled place e = e ∙ words-are (λ x n. length x.posted % n)

      next-is : (place : ℕ) → place ≡ (length (done_by now).reaped + (done_by now).reclaimed) % now.table.slots → place ≡ (length d.reaped + d.reclaimed) % size
      next-is place e = e ∙ words-are (λ x n. (length x.reaped + x.reclaimed) % n)

      out-is : length (done_by now).reaped + (done_by now).reclaimed < length (done_by now).posted → length d.reaped + d.reclaimed < length d.posted
      out-is h = subst (λ (x : Driven Posted Reaped). length x.reaped + x.reclaimed < length x.posted) (words-are (λ x n. x)) h

      below : (place i : ℕ) → place ≡ i % size → place < words_of size mode
      below place i e = standing.below size mode place i big e

      pub turn-below : (place : ℕ) → place ≡ length (done_by now).posted % now.table.slots → place < size
      turn-below place at = let b = big in let f = filled place at in let m : length d.posted % size < size = mod-lt (length d.posted) (omega arith) in omega arith

      module _ (ring : TableId) (key : ℕ × Completion) (ruled : IsTableOf ring key.0 key.1) (ring_now : TableId) (ring_is : ring ≡ ring_now) (mine : now.table ≡ ring_now) where
        stands : standing.StandsAt table size mode ring key me (Driver es, its)
        stands = record { size_is = inv.size_is; words = inv.words; ruled = ruled; own = ap (λ (s : End). s.table) was ∙ mine ∙ sym ring_is; me_is = inv.me_is }

        pub counts : ring.slots ≡ size
        counts = standing.counts stands

        -- A1, B1
        module _ (place word : ℕ) (b : Buffer) (at : place ≡ length (done_by now).posted % now.table.slots)
            (open_room : length (done_by now).posted + 1 < length (done_by now).reaped + (done_by now).reclaimed + now.table.slots) where
          room : length d.posted + 1 < length d.reaped + d.reclaimed + size
          room = here (λ n m xs. length (driving form xs).posted + 1 < length (driving form xs).reaped + (driving form xs).reclaimed + n) open_room

          front : me.1 ≡ (place, blank) ∷ empty_slots size (length d.posted + 1) (length d.reaped + d.reclaimed + size - (length d.posted + 1))
          front = let r = room in slots-are ∙ slots-post size (length d.posted) (length d.reaped + d.reclaimed) (omega arith)
              ∙ ap (λ (j : ℕ). (j, blank) ∷ empty_slots size (length d.posted + 1) (length d.reaped + d.reclaimed + size - (length d.posted + 1))) (sym (filled place at))

          pub post-empty : me.1 ≡ (place, blank) ∷ rest me.1
          post-empty = front-is me.1 _ (place, blank) front

          pub post-asks : (id : ℕ) (table' : TableId) (me' : SeatOf D C) → table' ≡ table → me' ≡ (me.0, (place, b) ∷ rest me.1) → is_open (done_by now).state ≡ true → form.MayPost now.table.slots (done_by now).posted word b
              → (table' ≡ ring) × (place < ring.words) × Allows (IsRuled form key.0 key.1) ring.slots id me' place (λ _. word) (λ _. gives (driver_end form) (λ n es p r b. driver.Posted p r b) (step ring.slots place word 0 none) me' word)
          post-asks id table' me' t m opened may = (
            t ∙ stands.own,
            standing.within stands place (below place (length d.posted) (filled place at)),
            standing.allow-at stands form (λ n z r z'. gives (driver_end form) (λ n es p r b. driver.Posted p r b) (step n place word 0 none) z word z') id place (λ _. word) (Driver es, (place, b) ∷ rest me.1) me'
                (m ∙ ap (λ (v : View (DriverEvent D) (ControllerEvent C)). let x : SeatOf D C = (v, (place, b) ∷ rest me.1) in x) view-is)
                (may-reap form size mode (driver_role (form.IsLaidOut size mode)) es id (rest me.1) (gives (driver_end form) (λ n es p r b. driver.Posted p r b)) place word place b (driver.Posted place word b)
                (λ q cs words homes pos l. let a = inv.law.allowed size mode q es cs words homes pos l in let f = a.driver in
                f.post place word b (filled place at) (sym (words-are (λ x n. is_open x.state)) ∙ opened) room (here (λ n m xs. form.MayPost n (driving form xs).posted word b) may)) (record { seat = refl; names = refl })),
          )

          post-seat : (me' me'' : SeatOf D C) → me' ≡ (me.0, (place, b) ∷ rest me.1) → me'' ≡ (longer (driver_end form) me' (driver.Posted place word (front_buffer me'.1)), rest me'.1) → me'' ≡ (Driver (es ++ driver.Posted place word b ∷ []), rest me.1)
          post-seat me' me'' put stored = stored ∙ ap (λ (m : SeatOf D C). let x : SeatOf D C = (longer (driver_end form) m (driver.Posted place word (front_buffer m.1)), rest m.1) in x) put

          pub post-keeps : (table' : TableId) (me' me'' : SeatOf D C) → table' ≡ table → me' ≡ (me.0, (place, b) ∷ rest me.1) → me'' ≡ (longer (driver_end form) me' (driver.Posted place word (front_buffer me'.1)), rest me'.1) → IsDriverSeat form table' me'' size mode
          post-keeps table' me' me'' t put stored = let e = length-append d.posted (form.posting word b ∷ []) in let w = inv.stands in let bk = w.back in let r = room in
              made table' me'' (es ++ driver.Posted place word b ∷ []) (rest me.1) (drive form d (driver.Posted place word b)) t (post-seat me' me'' put stored) (did es (driver.Posted place word b))
              (ap rest front ∙ ap (λ (j : ℕ). empty_slots size j (length d.reaped + d.reclaimed + size - j)) (sym e))
              (record { back = omega arith; room = omega arith })

          pub post-steps : (table' : TableId) (me' me'' : SeatOf D C) → table' ≡ table → me' ≡ (me.0, (place, b) ∷ rest me.1) → me'' ≡ (longer (driver_end form) me' (driver.Posted place word (front_buffer me'.1)), rest me'.1) → side table' me'' ≡ grown now (driver.Posted place word b)
          post-steps table' me' me'' t put stored = one-more (driver.Posted place word b) table' me'' (rest me.1) t (post-seat me' me'' put stored)

        -- A2, B2
        pub publish-asks : (id t : ℕ) → t ≡ length (done_by now).posted % now.table.slots → is_open (done_by now).state ≡ true → form.MayPublish (done_by now).posted → Asks form table ring key me (stores (driver_end form) (λ n es i r b. driver.Published r)) id (size + 1) t
        publish-asks id t at opened may = standing.store-asks stands form (stores (driver_end form) (λ n es i r b. driver.Published r)) id (size + 1) t (standing.low size mode (size + 1) (omega arith)) (may-store form size mode (driver_role (form.IsLaidOut size mode)) es id its (stores (driver_end form) (λ n es i r b. driver.Published r)) (size + 1) t (driver.Published t)
            (λ q cs words homes pos l. let a = inv.law.allowed size mode q es cs words homes pos l in let f = a.driver in
            f.publish t (filled t at) (sym (words-are (λ x n. is_open x.state)) ∙ opened) (here (λ n m xs. form.MayPublish (driving form xs).posted) may)) (record { seat = refl; names = refl }))

        -- C1, C5
        word-asks : (id : ℕ) (request : Control) → MayAsk request (done_by now).state → Asks form table ring key me (stores (driver_end form) (λ n es i r b. asks r)) id (size + 2) (control_word request)
        word-asks id EnableAsked new = standing.store-asks stands form (stores (driver_end form) (λ n es i r b. asks r)) id (size + 2) 1 (standing.low size mode (size + 2) (omega arith)) (may-store form size mode (driver_role (form.IsLaidOut size mode)) es id its (stores (driver_end form) (λ n es i r b. asks r)) (size + 2) 1 driver.AskedEnable
            (λ q cs words homes pos l. let a = inv.law.allowed size mode q es cs words homes pos l in let f = a.driver in f.ask_enable (sym (words-are (λ x n. is_new x.state)) ∙ new)) (record { seat = refl; names = refl }))
        word-asks id DisableAsked on = standing.store-asks stands form (stores (driver_end form) (λ n es i r b. asks r)) id (size + 2) 3 (standing.low size mode (size + 2) (omega arith)) (may-store form size mode (driver_role (form.IsLaidOut size mode)) es id its (stores (driver_end form) (λ n es i r b. asks r)) (size + 2) 3 driver.AskedDisable
            (λ q cs words homes pos l. let a = inv.law.allowed size mode q es cs words homes pos l in let f = a.driver in f.ask_disable (sym (words-are (λ x n. is_on x.state)) ∙ on)) (record { seat = refl; names = refl }))
        word-asks id Disabled may = absurd may
        word-asks id Enabled may = absurd may

        pub ask-asks : (id : ℕ) (request : Control) → MayAsk request (done_by now).state → (v : ℕ) → v ≡ control_word request → Asks form table ring key me (stores (driver_end form) (λ n es i r b. asks r)) id (size + 2) v
        ask-asks id request may v is = subst (λ (w : ℕ). Asks form table ring key me (stores (driver_end form) (λ n es i r b. asks r)) id (size + 2) w) (sym is) (word-asks id request may)

        -- C4
        pub control-asks : (id : ℕ) → LoadAsks form table ring key me (Loads (driver_end form) (λ n es i r b. driver.LoadedControl r) IsControl) id (size + 2)
        control-asks id = standing.load-asks stands form (Loads (driver_end form) (λ n es i r b. driver.LoadedControl r) IsControl) id (size + 2) (standing.low size mode (size + 2) (omega arith)) (may-load form size mode (driver_role (form.IsLaidOut size mode)) es id its (Loads (driver_end form) (λ n es i r b. driver.LoadedControl r) IsControl) (size + 2) driver.LoadedControl (λ r. r ≤ 3)
            (λ q cs words homes pos l. let a = inv.law.allowed size mode q es cs words homes pos l in let f = a.driver in f.control) (λ r v. record { adds = record { seat = refl; names = refl }; told = v }))

        -- the load of the head
        pub head-asks : (id : ℕ) → is_stopped (done_by now).state ≡ true → LoadAsks form table ring key me (Loads (driver_end form) (λ n es i r b. driver.LoadedHead r) IsPlace) id size
        head-asks id stopped = standing.load-asks stands form (Loads (driver_end form) (λ n es i r b. driver.LoadedHead r) IsPlace) id size (standing.low size mode size (omega arith)) (may-load form size mode (driver_role (form.IsLaidOut size mode)) es id its (Loads (driver_end form) (λ n es i r b. driver.LoadedHead r) IsPlace) size driver.LoadedHead (λ r. r < size)
            (λ q cs words homes pos l. let a = inv.law.allowed size mode q es cs words homes pos l in let f = a.driver in f.head (sym (words-are (λ x n. is_stopped x.state)) ∙ stopped)) (λ r v. record { adds = record { seat = refl; names = refl }; told = v }))

        -- C9
        pub clear_head-asks : (id : ℕ) → is_stopped (done_by now).state ≡ true → length (done_by now).reaped + (done_by now).reclaimed ≡ length (done_by now).posted → Asks form table ring key me (stores (driver_end form) (λ n es i r b. driver.ClearedHead)) id size 0
        clear_head-asks id stopped back = standing.store-asks stands form (stores (driver_end form) (λ n es i r b. driver.ClearedHead)) id size 0 (standing.low size mode size (omega arith)) (may-store form size mode (driver_role (form.IsLaidOut size mode)) es id its (stores (driver_end form) (λ n es i r b. driver.ClearedHead)) size 0 driver.ClearedHead
            (λ q cs words homes pos l. let a = inv.law.allowed size mode q es cs words homes pos l in let f = a.driver in f.clear_head (sym (words-are (λ x n. is_stopped x.state)) ∙ stopped)
            (sym (words-are (λ x n. length x.reaped + x.reclaimed)) ∙ back ∙ words-are (λ x n. length x.posted))) (record { seat = refl; names = refl }))

        -- C10
        pub clear_tail-asks : (id : ℕ) → form.MayClearTail now.completion → is_cleared (done_by now).state ≡ true → Asks form table ring key me (stores (driver_end form) (λ n es i r b. driver.ClearedTail)) id (size + 1) 0
        clear_tail-asks id may cleared = standing.store-asks stands form (stores (driver_end form) (λ n es i r b. driver.ClearedTail)) id (size + 1) 0 (standing.low size mode (size + 1) (omega arith)) (may-store form size mode (driver_role (form.IsLaidOut size mode)) es id its (stores (driver_end form) (λ n es i r b. driver.ClearedTail)) (size + 1) 0 driver.ClearedTail
            (λ q cs words homes pos l. let a = inv.law.allowed size mode q es cs words homes pos l in let f = a.driver in f.clear_tail (here (λ n m xs. form.MayClearTail m) may) (sym (words-are (λ x n. is_cleared x.state)) ∙ cleared)) (record { seat = refl; names = refl }))

        -- Steps of one direction's own
        module _ (event : Event (DriverEvent D)) (tells : Tells (DriverEvent D)) where
          -- a load
          module _ (word : ℕ) (may : MayLoad form event tells now.table.slots now.completion now.events word) where
            load-may : MayLoad form event tells size mode (driver_part me.0) word
            load-may = here (λ n m xs. MayLoad form event tells n m xs word) may

            pub load_own-asks : (id : ℕ) → LoadAsks form table ring key me (Loads (driver_end form) event tells) id word
            load_own-asks id = let m = load-may in standing.load-asks stands form (Loads (driver_end form) event tells) id word m.word_is
                (may-load form size mode (driver_role (form.IsLaidOut size mode)) es id its (Loads (driver_end form) event tells) word (λ r. event size es word r blank) (λ r. tells size es word r blank) m.goes (λ r t. record { adds = record { seat = refl; names = m.names r }; told = t }))

            module _ (r : ℕ) (me' : SeatOf D C) (told : Loads (driver_end form) event tells (step ring.slots word 0 0 none) me r me') where
              load_own-seat : me' ≡ (longer (driver_end form) me (event size es word r blank), me.1)
              load_own-seat = told.adds.seat ∙ ap (λ (n : ℕ). let x : SeatOf D C = (longer (driver_end form) me (event n es word r blank), me.1) in x) counts

              pub load_own-keeps : (table' : TableId) → table' ≡ table → IsDriverSeat form table' me' size mode
              load_own-keeps table' t = let m = load-may in same-keeps (event size es word r blank) table' me' t load_own-seat (m.same r)

              pub load_own-steps : (table' : TableId) → table' ≡ table → side table' me' ≡ grown now (event now.table.slots now.events word r blank)
              load_own-steps table' t = same-steps (event size es word r blank) table' me' t load_own-seat ∙ ap (grown now) (back-there (λ n m xs. event size es word r blank ≡ event n xs word r blank) refl)

              pub load_own-told : tells now.table.slots now.events word r blank
              load_own-told = back-there (λ n m xs. tells n xs word r blank) (subst (λ (n : ℕ). tells n es word r blank) counts told.told)

          -- a buffer comes back
          module _ (place : ℕ) (at : place ≡ (length (done_by now).reaped + (done_by now).reclaimed) % now.table.slots) (out : length (done_by now).reaped + (done_by now).reclaimed < length (done_by now).posted) where
            back-seat : (e : DriverEvent D) (b : Buffer) (me1 me2 me3 : SeatOf D C) → me1 ≡ (longer (driver_end form) me e, (place, b) ∷ me.1) → me2 ≡ (me1.0, (place, blank) ∷ rest me1.1) → me3 ≡ (me2.0, turned me2.1) → me3 ≡ (Driver (es ++ e ∷ []), me.1 ++ (place, blank) ∷ [])
            back-seat e b me1 me2 me3 s l t = t ∙ ap (λ (m : SeatOf D C). let x : SeatOf D C = (m.0, turned m.1) in x) l ∙ ap (λ (m : SeatOf D C). let x : SeatOf D C = (m.0, turned ((place, blank) ∷ rest m.1)) in x) s

            back-keeps : (e : DriverEvent D) (b : Buffer) (table' : TableId) (me1 me2 me3 : SeatOf D C) → table' ≡ table → me1 ≡ (longer (driver_end form) me e, (place, b) ∷ me.1) → me2 ≡ (me1.0, (place, blank) ∷ rest me1.1) → me3 ≡ (me2.0, turned me2.1)
                → OneBack d (drive form d e) → IsDriverSeat form table' me3 size mode
            back-keeps e b table' me1 me2 me3 t s l r one = let w = inv.stands in let bk = w.back in let rm = w.room in let o = out-is out in let g = big in let c = one.back in
                let same : length (drive form d e).posted ≡ length d.posted = ap length one.posted in
                made table' me3 (es ++ e ∷ []) (me.1 ++ (place, blank) ∷ []) (drive form d e) t (back-seat e b me1 me2 me3 s l r) (did es e)
                (ap (λ (xs : List (ℕ × Buffer)). xs ++ (place, blank) ∷ []) slots-are
                ∙ ap (λ (j : ℕ). its ++ (j, blank) ∷ []) (next-is place at)
                ∙ slots-return size (length d.posted) (length d.reaped + d.reclaimed) (omega arith)
                ∙ ap (λ (j : ℕ). empty_slots size (length d.posted) (j + size - length d.posted)) (sym c)
                ∙ ap (λ (xs : List Posted). empty_slots size (length xs) (length (drive form d e).reaped + (drive form d e).reclaimed + size - length xs)) (sym one.posted))
                (record { back = omega arith; room = omega arith })

            -- what the event is, of what was loaded there or stored
            came-seat : {kind : Kind} (r : ℕ) (me1 : SeatOf D C) (t : Takes (driver_end form) event tells kind (step ring.slots place 0 0 none) me r me1) → me1 ≡ (longer (driver_end form) me (event size es place r t.buf), (place, t.buf) ∷ me.1)
            came-seat r me1 t = t.adds.seat ∙ ap (λ (n : ℕ). let x : SeatOf D C = (longer (driver_end form) me (event n es place r t.buf), (place, t.buf) ∷ me.1) in x) counts

            module _ {kind : Kind} (r : ℕ) (b : Buffer) (table' : TableId) (me1 me2 me3 : SeatOf D C) (same : table' ≡ table) (t : Takes (driver_end form) event tells kind (step ring.slots place 0 0 none) me r me1) (l : me2 ≡ (me1.0, (place, blank) ∷ rest me1.1)) (turn : me3 ≡ (me2.0, turned me2.1)) where
              came-steps : b ≡ front_buffer me1.1 → side table' me3 ≡ grown now (event now.table.slots now.events place r b)
              came-steps got = let is : b ≡ t.buf = got ∙ ap (λ (m : SeatOf D C). front_buffer m.1) t.adds.seat in
                  one-more (event size es place r t.buf) table' me3 (me.1 ++ (place, blank) ∷ []) same (back-seat (event size es place r t.buf) t.buf me1 me2 me3 (came-seat r me1 t) l turn)
                  ∙ ap (λ (y : Buffer). grown now (event size es place r y)) (sym is) ∙ ap (grown now) (back-there (λ n m xs. event size es place r b ≡ event n xs place r b) refl)

              came-told : b ≡ front_buffer me1.1 → tells now.table.slots now.events place r b
              came-told got = let is : b ≡ t.buf = got ∙ ap (λ (m : SeatOf D C). front_buffer m.1) t.adds.seat in
                  back-there (λ n m xs. tells n xs place r b) (subst (λ (y : Buffer). tells size es place r y) (sym is) (subst (λ (n : ℕ). tells n es place r t.buf) counts t.told))

            -- a store of 0 into its descriptor
            module _ (may : MayClear form event tells now.table.slots now.completion now.events place) where
              clear-may : MayClear form event tells size mode (driver_part me.0) place
              clear-may = here (λ n m xs. MayClear form event tells n m xs place) may

              pub clear_own-asks : (id : ℕ) → Asks form table ring key me (Takes (driver_end form) event tells Store) id place 0
              clear_own-asks id = let m = clear-may in standing.store-asks stands form (Takes (driver_end form) event tells Store) id place 0 (below place (length d.reaped + d.reclaimed) (next-is place at))
                  (may-clear form size mode (driver_role (form.IsLaidOut size mode)) es id its (Takes (driver_end form) event tells Store) place (λ b. event size es place 0 b) (λ b. tells size es place 0 b)
                  (λ q cs words homes pos l. let o = m.goes q cs words homes pos l in (o.buf, o.home, o.told, o.agrees)) (λ b t. record { buf = b; adds = record { seat = refl; names = m.names b }; told = t }))

              module _ (b : Buffer) (table' : TableId) (me1 me2 me3 : SeatOf D C) (same : table' ≡ table) (t : Takes (driver_end form) event tells Store (step ring.slots place 0 0 none) me 0 me1) (l : me2 ≡ (me1.0, (place, blank) ∷ rest me1.1)) (turn : me3 ≡ (me2.0, turned me2.1)) where
                pub clear_own-keeps : IsDriverSeat form table' me3 size mode
                clear_own-keeps = let m = clear-may in back-keeps (event size es place 0 t.buf) t.buf table' me1 me2 me3 same (came-seat 0 me1 t) l turn (m.back t.buf)

                pub clear_own-steps : b ≡ front_buffer me1.1 → side table' me3 ≡ grown now (event now.table.slots now.events place 0 b)
                clear_own-steps got = came-steps 0 b table' me1 me2 me3 same t l turn got

                pub clear_own-told : b ≡ front_buffer me1.1 → tells now.table.slots now.events place 0 b
                clear_own-told got = came-told 0 b table' me1 me2 me3 same t l turn got

            -- a load of it
            module _ (missed : ℕ → ℕ → DriverEvent D) (done : ℕ → Bool) (may : MayTake form event tells now.table.slots now.completion now.events missed done place) where
              take-may : MayTake form event tells size mode (driver_part me.0) missed done place
              take-may = here (λ n m xs. MayTake form event tells n m xs missed done place) may

              pub take_own-asks : (id : ℕ) → LoadAsks form table ring key me (Finds (driver_end form) event tells missed done) id place
              take_own-asks id = let m = take-may in standing.load-asks stands form (Finds (driver_end form) event tells missed done) id place (below place (length d.reaped + d.reclaimed) (next-is place at))
                  (may-find form size mode (driver_role (form.IsLaidOut size mode)) es id its (Finds (driver_end form) event tells missed done) place done (missed place) (λ r b. event size es place r b) (λ r b. tells size es place r b)
                  m.undone (λ q cs words homes pos l f. let o = m.goes q cs words homes pos l f in (o.buf, o.home, o.told, o.agrees))
                  (λ r f. record { undone = λ e. record { seat = refl; names = m.names_missed r }; taken = λ e. absurd (false≢true (sym f ∙ e)) })
                  (λ r b f t. record { undone = λ e. absurd (false≢true (sym e ∙ f)); taken = λ e. record { buf = b; adds = record { seat = refl; names = m.names r b }; told = t } }))

              module _ (r : ℕ) (me1 : SeatOf D C) (t : Finds (driver_end form) event tells missed done (step ring.slots place 0 0 none) me r me1) where
                pub missed-keeps : (table' : TableId) → table' ≡ table → done r ≡ false → IsDriverSeat form table' me1 size mode
                missed-keeps table' same f = let m = take-may in same-keeps (missed place r) table' me1 same (t.undone f).seat (m.same r)

                pub missed-steps : (table' : TableId) → table' ≡ table → done r ≡ false → Missed event tells missed done now place r (side table' me1)
                missed-steps table' same f = record { undone = f; step = same-steps (missed place r) table' me1 same (t.undone f).seat }

                module _ (b : Buffer) (table' : TableId) (me2 me3 : SeatOf D C) (same : table' ≡ table) (f : done r ≡ true) (l : me2 ≡ (me1.0, (place, blank) ∷ rest me1.1)) (turn : me3 ≡ (me2.0, turned me2.1)) where
                  pub take_own-keeps : IsDriverSeat form table' me3 size mode
                  take_own-keeps = let m = take-may in let o = t.taken f in back-keeps (event size es place r o.buf) o.buf table' me1 me2 me3 same (came-seat r me1 o) l turn (m.back r o.buf)

                  pub take_own-steps : b ≡ front_buffer me1.1 → Came event tells missed done now place r b (side table' me3)
                  take_own-steps got = record { is_done = f; step = came-steps r b table' me1 me2 me3 same (t.taken f) l turn got; told = came-told r b table' me1 me2 me3 same (t.taken f) l turn got }

          -- the epoch ends
          module _ (word : ℕ) (may : MayEnd form event now.table.slots now.completion now.events word) where
            end-may : MayEnd form event size mode (driver_part me.0) word
            end-may = here (λ n m xs. MayEnd form event n m xs word) may

            pub end_own-asks : (id : ℕ) → Asks form table ring key me (stores (driver_end form) event) id word 0
            end_own-asks id = let m = end-may in standing.store-asks stands form (stores (driver_end form) event) id word 0 m.word_is (may-store form size mode (driver_role (form.IsLaidOut size mode)) es id its (stores (driver_end form) event) word 0 (event size es word 0 blank) m.goes (record { seat = refl; names = m.names }))

            module _ (me1 : SeatOf D C) (ends : me1 ≡ (longer (driver_end form) me (event ring.slots es word 0 blank), me.1)) where
              end-seat : me1 ≡ (longer (driver_end form) me (event size es word 0 blank), me.1)
              end-seat = ends ∙ ap (λ (n : ℕ). let x : SeatOf D C = (longer (driver_end form) me (event n es word 0 blank), me.1) in x) counts

              -- all slots are with the seat, and the one in front is that of the place
              pub turn-asks : (place : ℕ) → place ≡ length (done_by now).posted % now.table.slots → length (done_by now).reaped + (done_by now).reclaimed ≡ length (done_by now).posted → me1.1 ≡ empty_slots size place size
              turn-asks place at back = let b : length d.reaped + d.reclaimed ≡ length d.posted = sym (words-are (λ x n. length x.reaped + x.reclaimed)) ∙ back ∙ words-are (λ x n. length x.posted) in
                  ap (λ (m : SeatOf D C). m.1) end-seat ∙ slots-are ∙ ap (empty_slots size (length d.posted)) (let f : length d.reaped + d.reclaimed + size - length d.posted ≡ size = omega arith in f)
                  ∙ slots-alike size (length d.posted) place size (let g = big in let f = filled place at in sym (ap (λ (j : ℕ). j % size) f ∙ mod-mod (length d.posted) size))

              module _ (table' : TableId) (me2 : SeatOf D C) (t : table' ≡ table) (same : me2.0 ≡ me1.0) (slots : me2.1 ≡ empty_slots size 0 size) where
                renewed-seat : me2 ≡ (Driver (es ++ event size es word 0 blank ∷ []), empty_slots size 0 size)
                renewed-seat = ap (λ (v : View (DriverEvent D) (ControllerEvent C)). let x : SeatOf D C = (v, me2.1) in x) (same ∙ ap (λ (m : SeatOf D C). m.0) end-seat)
                    ∙ ap (λ (xs : List (ℕ × Buffer)). let x : SeatOf D C = (Driver (es ++ event size es word 0 blank ∷ []), xs) in x) slots

                pub end_own-keeps : IsDriverSeat form table' me2 size mode
                end_own-keeps = let b = big in let m = end-may in let g = m.gone in let d' = drive form d (event size es word 0 blank) in
                    let none : length d'.posted ≡ 0 = ap length g.posted in let back : length d'.reaped + d'.reclaimed ≡ 0 = (let x : length d'.reaped ≡ 0 = ap length g.reaped in let y = g.reclaimed in omega arith) in
                    made table' me2 (es ++ event size es word 0 blank ∷ []) (empty_slots size 0 size) (drive form d (event size es word 0 blank)) t renewed-seat (did es (event size es word 0 blank))
                    (ap (empty_slots size 0) (let f : size ≡ length d'.reaped + d'.reclaimed + size - length d'.posted = omega arith in f)
                    ∙ ap (λ (j : ℕ). empty_slots size j (length d'.reaped + d'.reclaimed + size - length d'.posted)) (sym none)) (record { back = omega arith; room = omega arith })

                pub end_own-steps : side table' me2 ≡ grown now (event now.table.slots now.events word 0 blank)
                end_own-steps = one-more (event size es word 0 blank) table' me2 (empty_slots size 0 size) t renewed-seat ∙ ap (grown now) (back-there (λ n m xs. event size es word 0 blank ≡ event n xs word 0 blank) refl)
