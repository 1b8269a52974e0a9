-- The controller's seat: what each of its steps asks of the table, and what the seat keeps.
use Rattle.std.proofs.Common.{◌≡◌, ℕ, ◌+◌, ◌-◌, ◌%◌, ◌<◌, ◌≤◌, true, false, List, [], ◌∷◌, ◌++◌, length, Some, None, sym, refl, ap, ◌∙◌, subst, arith}
use Rattle.std.specs.Prelude.{Bool, ◌==◌, if◌then◌else◌}
use mathlib.Core.Option.{none}
use Rattle.atomic_table.specs.Table.{Allows, step, rest}
use Rattle.atomic_table.specs.Seated.{TableId}
use Rattle.buffer_pool.specs.Buffer.{Buffer, blank}
use Rattle.ring_model.specs.declared.states.Completion.{Completion}
use Rattle.ring_model.specs.shared.Handshakes.{is_serving}
use Rattle.shared_ring.specs.declared.events.DriverEvent.{DriverEvent}
use Rattle.shared_ring.specs.declared.events.ControllerEvent.{ControllerEvent}
use Rattle.shared_ring.specs.declared.events.ControllerEvent.TheVariants as controller
use Rattle.shared_ring.specs.declared.control.Control.{Control}
use Rattle.shared_ring.specs.declared.control.Control.TheVariants.{Disabled, EnableAsked, Enabled, DisableAsked}
use Rattle.shared_ring.specs.declared.events.View.{View}
use Rattle.shared_ring.specs.Calls.{MayTell}
use Rattle.shared_ring.specs.Words.{control_word}
use Rattle.shared_ring.specs.declared.events.View.TheVariants.{Controller}
use Rattle.shared_ring.specs.Ends.{Side, grown, controller_of}
use Rattle.shared_ring.specs.Forms.{Form, control, controlling}
use Rattle.shared_ring.specs.Keeping.{IsRuled, IsControllerSeat}
use Rattle.shared_ring.specs.Own.{Event, MayStore, MayReap}
use Rattle.shared_ring.specs.Accesses.{Load}
use Rattle.shared_ring.specs.Plays.{SeatOf, longer, IsControl, IsTail, IsNext, answers, controller_end, gives, stores, Loads, Takes}
use Rattle.shared_ring.specs.Records.{Controlled, controller_slots, uncontrolled, count_at}
use Rattle.shared_ring.specs.Seats.{controller_part}
use Rattle.shared_ring.specs.Slots.{slots_while, front_buffer}
use Rattle.shared_ring.specs.Steps.{FoundTail, CameOut}
use Rattle.shared_ring.specs.Tables.{IsTableOf, words_of}
use Rattle.shared_ring.proofs.Allowing.{controller_role}
use Rattle.shared_ring.proofs.Allowed.{may-store, may-load, may-take, may-reap}
use Rattle.shared_ring.proofs.SeatRules as standing
use Rattle.shared_ring.proofs.SeatRules.{as-made, Asks, LoadAsks, front-is}
use Rattle.shared_ring.proofs.Folds.{controlling-snoc}

module _ {Ring Posted Completed Reaped D C : Type 0} (form : Form Ring Posted Completed Reaped D C) where
  abbrev End : Type 0
  End = Side (ControllerEvent C)

  abbrev done_by : End → Controlled Completed
  done_by s = controlling form s.table.slots s.events

  did : (n : ℕ) (es : List (ControllerEvent C)) (e : ControllerEvent C) → controlling form n (es ++ e ∷ []) ≡ control form n (controlling form n es) e
  did n es e = controlling-snoc n form.control_own uncontrolled es e

  module _ (table : TableId) (me : SeatOf D C) (size : ℕ) (mode : Completion) (inv : IsControllerSeat form table me size mode) where
    abbrev es : List (ControllerEvent C)
    es = controller_part me.0

    abbrev x : Controlled Completed
    x = controlling form size (controller_part me.0)

    abbrev its : List (ℕ × Buffer)
    its = controller_slots size (controlling form size (controller_part me.0))

    abbrev side : TableId → SeatOf D C → End
    side t m = record { table = t; completion = mode; events = controller_part m.0 }

    view-is : me.0 ≡ Controller (controller_part me.0)
    view-is = ap (λ (m : SeatOf D C). m.0) inv.me_is

    slots-are : me.1 ≡ controller_slots size (controlling form size (controller_part me.0))
    slots-are = ap (λ (m : SeatOf D C). m.1) inv.me_is

    made : (table' : TableId) (me' : SeatOf D C) (es' : List (ControllerEvent C)) (slots' : List (ℕ × Buffer)) (x' : Controlled Completed) → table' ≡ table → me' ≡ (Controller es', slots') → controlling form size es' ≡ x' → slots' ≡ controller_slots size x' → IsControllerSeat form table' me' size mode
    made table' me' es' slots' x' t m e s = as-made table table' me me' (Controller es', slots') size mode inv t m (ap (λ (xs : List (ℕ × Buffer)). let x : SeatOf D C = (Controller es', xs) in x) (s ∙ ap (controller_slots size) (sym e))) tt

    -- a step that leaves the slot that the controller has
    pub same-keeps : (e : ControllerEvent C) (table' : TableId) (me' : SeatOf D C) → table' ≡ table → me' ≡ (longer (controller_end form) me e, me.1) → controller_slots size x ≡ controller_slots size (control form size x e) → IsControllerSeat form table' me' size mode
    same-keeps e table' me' t m s = made table' me' (es ++ e ∷ []) me.1 (control form size x e) t m (did size es e) (slots-are ∙ s)

    module _ (now : End) (was : side table me ≡ now) where
      one-more : (e : ControllerEvent C) (table' : TableId) (me' : SeatOf D C) (slots' : List (ℕ × Buffer)) → table' ≡ table → me' ≡ (Controller (es ++ e ∷ []), slots') → side table' me' ≡ grown now e
      one-more e table' me' slots' t m =
          ap (λ (z : SeatOf D C). side table' z) m ∙ ap (λ (z : TableId). let s : End = record { table = z; completion = mode; events = es ++ e ∷ [] } in s) t ∙ ap (λ (s : End). grown s e) was

      pub same-steps : (e : ControllerEvent C) (table' : TableId) (me' : SeatOf D C) → table' ≡ table → me' ≡ (longer (controller_end form) me e, me.1) → side table' me' ≡ grown now e
      same-steps e table' me' t m = one-more e table' me' me.1 t m

      -- what a contract says of the end goes for the record
      words-are : {Y : Type 0} (f : Controlled Completed → ℕ → Y) → f (done_by now) now.table.slots ≡ f x size
      words-are f = ap (λ (s : End). f (done_by s) s.table.slots) (sym was) ∙ ap (λ (n : ℕ). f (controlling form n es) n) inv.size_is

      here : (F : ℕ → Completion → List (ControllerEvent C) → Type 0) → F now.table.slots now.completion now.events → F size mode (controller_part me.0)
      here F y = subst (λ (n : ℕ). F n mode (controller_part me.0)) inv.size_is (subst (λ (s : End). F s.table.slots s.completion s.events) (sym was) y)

      back-there : (F : ℕ → Completion → List (ControllerEvent C) → Type 0) → F size mode (controller_part me.0) → F now.table.slots now.completion now.events
      back-there F y = subst (λ (s : End). F s.table.slots s.completion s.events) was (subst (λ (n : ℕ). F n mode (controller_part me.0)) (sym inv.size_is) y)

      serves : is_serving (done_by now).state ≡ true → is_serving x.state ≡ true
      serves e = sym (words-are (λ y n. is_serving y.state)) ∙ e

      at-serve : (place : ℕ) → place ≡ length (done_by now).completed % now.table.slots → place ≡ length x.completed % size
      at-serve place e = e ∙ words-are (λ y n. length y.completed % n)

      unheld : (done_by now).held ≡ None → x.held ≡ None
      unheld e = sym (words-are (λ y n. y.held)) ∙ e

      below : (place : ℕ) → place ≡ length x.completed % size → place < words_of size mode
      below place e = standing.below size mode place (length x.completed) inv.lawful.0 e

      module _ (ring : TableId) (key : ℕ × Completion) (ruled : IsTableOf ring key.0 key.1) (ring_now : TableId) (ring_is : ring ≡ ring_now) (mine : now.table ≡ ring_now) where
        stands : standing.StandsAt table size mode ring key me (Controller es, its)
        stands = record { size_is = inv.size_is; words = inv.words; ruled = ruled; own = ap (λ (s : End). s.table) was ∙ mine ∙ sym ring_is; me_is = inv.me_is }

        counts : ring.slots ≡ size
        counts = standing.counts stands

        -- A3, B3
        pub look-asks : (id : ℕ) → is_serving (done_by now).state ≡ true → LoadAsks form table ring key me (Loads (controller_end form) (λ n es i r b. controller.Looked r) (IsTail form)) id (size + 1)
        look-asks id serving = standing.load-asks stands form (Loads (controller_end form) (λ n es i r b. controller.Looked r) (IsTail form)) id (size + 1) (standing.low size mode (size + 1) (omega arith)) (may-load form size mode (controller_role (form.IsLaidOut size mode)) es id its (Loads (controller_end form) (λ n es i r b. controller.Looked r) (IsTail form)) (size + 1) controller.Looked (λ r. (r < size) × (x.known ≤ count_at size (length x.completed) r))
            (λ q ds words homes pos l. let a = inv.law.allowed size mode q ds es words homes pos l in let f = a.controller in let g = f.look (serves serving) in ((g.0, g.1), g.2)) (λ r t. record { adds = record { seat = refl; names = refl }; told = record { below = t.0; grows = t.1 } }))

        -- a tail is a place
        pub look-fits : (r : ℕ) (me' : SeatOf D C) → Loads (controller_end form) (λ n es i r b. controller.Looked r) (IsTail form) (step ring.slots (size + 1) 0 0 none) me r me' → r < size
        look-fits r me' t = let b = t.told.below in let c = counts in omega arith

        pub look-steps : (r : ℕ) (table' : TableId) (me' : SeatOf D C) → table' ≡ table → Loads (controller_end form) (λ n es i r b. controller.Looked r) (IsTail form) (step ring.slots (size + 1) 0 0 none) me r me' → FoundTail (controller_of form now) r (controller_of form (side table' me'))
        look-steps r table' me' t told = record {
          step = ap (controller_of form) (same-steps (controller.Looked r) table' me' t told.adds.seat);
          below = back-there (λ n m xs. r < n) (subst (λ (n : ℕ). r < n) counts told.told.below);
          grows = back-there (λ n m xs. (controlling form n xs).known ≤ count_at n (length (controlling form n xs).completed) r) (subst (λ (n : ℕ). (controlling form n es).known ≤ count_at n (length (controlling form n es).completed) r) counts told.told.grows);
        }

        -- A4, B4
        pub fetch-asks : (id place : ℕ) → place ≡ length (done_by now).completed % now.table.slots → is_serving (done_by now).state ≡ true → 0 < (done_by now).known - length (done_by now).completed → (done_by now).held ≡ None → (done_by now).barred ≡ false
            → LoadAsks form table ring key me (Takes (controller_end form) (λ n es p r b. controller.Fetched p r b) (IsNext form) Load) id place
        fetch-asks id place at serving some none_held free = let f : (done_by now).known - length (done_by now).completed ≡ x.known - length x.completed = words-are (λ y n. y.known - length y.completed) in
            let more : length x.completed < x.known = omega arith in
            standing.load-asks stands form (Takes (controller_end form) (λ n es p r b. controller.Fetched p r b) (IsNext form) Load) id place (below place (at-serve place at)) (may-take form size mode (controller_role (form.IsLaidOut size mode)) es id its (Takes (controller_end form) (λ n es p r b. controller.Fetched p r b) (IsNext form) Load) place (λ r b. controller.Fetched place r b) (λ r b. form.IsFetched size x r b)
            (λ q ds words homes pos l. let a = inv.law.allowed size mode q ds es words homes pos l in let f = a.controller in
            let g = f.fetch place (at-serve place at) (serves serving) more (unheld none_held) (sym (words-are (λ y n. y.barred)) ∙ free) in (g.buf, g.home, g.fetched, g.agrees)) (λ r b t. record { buf = b; adds = record { seat = refl; names = refl }; told = t }))

        no-slots : (done_by now).held ≡ None → me.1 ≡ []
        no-slots e = slots-are ∙ ap (slots_while (length x.completed % size)) (unheld e)

        fetch-seat : (place r : ℕ) (b : Buffer) (me1 me2 : SeatOf D C) → me1 ≡ (longer (controller_end form) me (controller.Fetched place r b), (place, b) ∷ me.1) → me2 ≡ (me1.0, (place, blank) ∷ rest me1.1) → me2 ≡ (Controller (es ++ controller.Fetched place r b ∷ []), (place, blank) ∷ me.1)
        fetch-seat place r b me1 me2 fetched left = left ∙ ap (λ (m : SeatOf D C). let y : SeatOf D C = (m.0, (place, blank) ∷ rest m.1) in y) fetched

        module _ (place r : ℕ) (table' : TableId) (me1 me2 : SeatOf D C) (same : table' ≡ table) (t : Takes (controller_end form) (λ n es p r b. controller.Fetched p r b) (IsNext form) Load (step ring.slots place 0 0 none) me r me1) (left : me2 ≡ (me1.0, (place, blank) ∷ rest me1.1)) where
          pub fetch-keeps : place ≡ length (done_by now).completed % now.table.slots → (done_by now).held ≡ None → IsControllerSeat form table' me2 size mode
          fetch-keeps at none_held =
              made table' me2 (es ++ controller.Fetched place r t.buf ∷ []) ((place, blank) ∷ me.1) (control form size x (controller.Fetched place r t.buf)) same (fetch-seat place r t.buf me1 me2 t.adds.seat left) (did size es (controller.Fetched place r t.buf))
              (ap (λ (xs : List (ℕ × Buffer)). (place, blank) ∷ xs) (no-slots none_held) ∙ ap (λ (j : ℕ). (j, blank) ∷ []) (at-serve place at))

          pub fetch-steps : (c : Buffer) → c ≡ front_buffer me1.1 → CameOut (controller_of form now) place c r (controller_of form (side table' me2))
          fetch-steps c got = subst (λ (y : Buffer). CameOut (controller_of form now) place y r (controller_of form (side table' me2))) (sym (got ∙ ap (λ (m : SeatOf D C). front_buffer m.1) t.adds.seat)) (record {
            step = ap (controller_of form) (one-more (controller.Fetched place r t.buf) table' me2 ((place, blank) ∷ me.1) same (fetch-seat place r t.buf me1 me2 t.adds.seat left));
            fetched = back-there (λ n m xs. form.IsFetched n (controlling form n xs) r t.buf) (subst (λ (n : ℕ). form.IsFetched n (controlling form n es) r t.buf) counts t.told);
          })

        -- C2
        pub request-asks : (id : ℕ) → LoadAsks form table ring key me (Loads (controller_end form) (λ n es i r b. controller.LoadedRequest r) IsControl) id (size + 2)
        request-asks id = standing.load-asks stands form (Loads (controller_end form) (λ n es i r b. controller.LoadedRequest r) IsControl) id (size + 2) (standing.low size mode (size + 2) (omega arith)) (may-load form size mode (controller_role (form.IsLaidOut size mode)) es id its (Loads (controller_end form) (λ n es i r b. controller.LoadedRequest r) IsControl) (size + 2) controller.LoadedRequest (λ r. r ≤ 3)
            (λ q ds words homes pos l. let a = inv.law.allowed size mode q ds es words homes pos l in let f = a.controller in f.request) (λ r v. record { adds = record { seat = refl; names = refl }; told = v }))

        -- C3
        word-asks : (id : ℕ) (told : Control) → MayTell told (controller_of form now) → Asks form table ring key me (stores (controller_end form) (λ n es i r b. answers r)) id (size + 2) (control_word told)
        word-asks id Enabled may = let m = may.0 in standing.store-asks stands form (stores (controller_end form) (λ n es i r b. answers r)) id (size + 2) 2 (standing.low size mode (size + 2) (omega arith)) (may-store form size mode (controller_role (form.IsLaidOut size mode)) es id its (stores (controller_end form) (λ n es i r b. answers r)) (size + 2) 2 controller.Enabled
            (λ q ds words homes pos l. let a = inv.law.allowed size mode q ds es words homes pos l in let f = a.controller in f.enable (sym (words-are (λ y n. y.seen)) ∙ m.asked) (sym (words-are (λ y n. is_serving y.state)) ∙ m.idle)) (record { seat = refl; names = refl }))
        word-asks id Disabled may = standing.store-asks stands form (stores (controller_end form) (λ n es i r b. answers r)) id (size + 2) 0 (standing.low size mode (size + 2) (omega arith)) (may-store form size mode (controller_role (form.IsLaidOut size mode)) es id its (stores (controller_end form) (λ n es i r b. answers r)) (size + 2) 0 controller.Disabled
            (λ q ds words homes pos l. let a = inv.law.allowed size mode q ds es words homes pos l in let f = a.controller in f.disable (sym (words-are (λ y n. y.seen)) ∙ may.asked) (serves may.serving) (unheld may.held)
            (sym (words-are (λ y n. y.head)) ∙ may.head ∙ words-are (λ y n. length y.completed % n)) (here (λ n m xs. form.MayDisable (controlling form n xs)) may.may)) (record { seat = refl; names = refl }))
        word-asks id EnableAsked may = absurd may
        word-asks id DisableAsked may = absurd may

        pub tell-asks : (id : ℕ) (told : Control) → MayTell told (controller_of form now) → (v : ℕ) → v ≡ control_word told → Asks form table ring key me (stores (controller_end form) (λ n es i r b. answers r)) id (size + 2) v
        tell-asks id told may v is = subst (λ (w : ℕ). Asks form table ring key me (stores (controller_end form) (λ n es i r b. answers r)) id (size + 2) w) (sym is) (word-asks id told may)

        -- nothing is held
        pub tell-unheld : (told : Control) → MayTell told (controller_of form now) → x.held ≡ None
        tell-unheld Enabled may = unheld may.1
        tell-unheld Disabled may = unheld may.held
        tell-unheld EnableAsked may = absurd may
        tell-unheld DisableAsked may = absurd may

        pub tell-slots : (v : ℕ) → x.held ≡ None → controller_slots size x ≡ controller_slots size (control form size x (answers v))
        tell-slots v unheld_here = either (v == 2)
          where
            either : (b : Bool) → controller_slots size x ≡ controller_slots size (control form size x (if b then controller.Enabled else controller.Disabled))
            either true = ap (slots_while (length x.completed % size)) unheld_here ∙ sym (ap (slots_while (0 % size)) unheld_here)
            either false = refl

        -- Steps of one direction's own
        module _ (event : Event (ControllerEvent C)) (word v : ℕ) where
          module _ (may : MayStore form event now.table.slots now.completion now.events word v) where
            store-may : MayStore form event size mode (controller_part me.0) word v
            store-may = here (λ n m xs. MayStore form event n m xs word v) may

            pub store_own-asks : (id : ℕ) → Asks form table ring key me (stores (controller_end form) event) id word v
            store_own-asks id = let m = store-may in standing.store-asks stands form (stores (controller_end form) event) id word v m.word_is (may-store form size mode (controller_role (form.IsLaidOut size mode)) es id its (stores (controller_end form) event) word v (event size es word v blank) m.goes (record { seat = refl; names = m.names }))

            module _ (table' : TableId) (me' : SeatOf D C) (t : table' ≡ table) (stored : me' ≡ (longer (controller_end form) me (event ring.slots es word v blank), me.1)) where
              store_own-seat : me' ≡ (longer (controller_end form) me (event size es word v blank), me.1)
              store_own-seat = stored ∙ ap (λ (n : ℕ). let y : SeatOf D C = (longer (controller_end form) me (event n es word v blank), me.1) in y) counts

              pub store_own-keeps : IsControllerSeat form table' me' size mode
              store_own-keeps = let m = store-may in same-keeps (event size es word v blank) table' me' t store_own-seat
                  (ap (λ (j : ℕ). slots_while (j % size) x.held) (sym m.completed) ∙ ap (slots_while (length (control form size x (event size es word v blank)).completed % size)) (sym m.held))

              pub store_own-steps : side table' me' ≡ grown now (event now.table.slots now.events word v blank)
              store_own-steps = same-steps (event size es word v blank) table' me' t store_own-seat ∙ ap (grown now) (back-there (λ n m xs. event size es word v blank ≡ event n xs word v blank) refl)

          -- the fetched buffer is given back
          module _ (place : ℕ) (b : Buffer) (at : place ≡ length (done_by now).completed % now.table.slots) (holds : (h : Buffer) × ((done_by now).held ≡ Some h)) where
            held-slot : me.1 ≡ (place, blank) ∷ []
            held-slot = slots-are ∙ ap (slots_while (length x.completed % size)) (sym (words-are (λ y n. y.held)) ∙ holds.1) ∙ ap (λ (j : ℕ). (j, blank) ∷ []) (sym (at-serve place at))

            pub give_own-empty : me.1 ≡ (place, blank) ∷ rest me.1
            give_own-empty = front-is me.1 [] (place, blank) held-slot

            module _ (may : MayReap form event now.table.slots now.completion now.events place word v b) where
              give-may : MayReap form event size mode (controller_part me.0) place word v b
              give-may = here (λ n m xs. MayReap form event n m xs place word v b) may

              pub give_own-asks : (id : ℕ) (table' : TableId) (me' : SeatOf D C) → table' ≡ table → me' ≡ (me.0, (place, b) ∷ rest me.1)
                  → (table' ≡ ring) × (word < ring.words) × Allows (IsRuled form key.0 key.1) ring.slots id me' word (λ _. v) (λ _. gives (controller_end form) event (step ring.slots word v 0 none) me' v)
              give_own-asks id table' me' t m = let k = give-may in (
                t ∙ stands.own,
                standing.within stands word k.word_is,
                standing.allow-at stands form (λ n z r z'. gives (controller_end form) event (step n word v 0 none) z v z') id word (λ _. v) (Controller es, (place, b) ∷ rest me.1) me'
                    (m ∙ ap (λ (w : View (DriverEvent D) (ControllerEvent C)). let z : SeatOf D C = (w, (place, b) ∷ rest me.1) in z) view-is)
                    (may-reap form size mode (controller_role (form.IsLaidOut size mode)) es id (rest me.1) (gives (controller_end form) event) word v place b (event size es word v b) k.goes (record { seat = refl; names = k.names })),
              )

              module _ (table' : TableId) (me1 me2 : SeatOf D C) (t : table' ≡ table) (put : me1 ≡ (me.0, (place, b) ∷ rest me.1)) (gave : me2 ≡ (longer (controller_end form) me1 (event ring.slots (controller_part me1.0) word v (front_buffer me1.1)), rest me1.1)) where
                give_own-seat : me2 ≡ (Controller (es ++ event size es word v b ∷ []), [])
                give_own-seat = gave ∙ ap (λ (m : SeatOf D C). let y : SeatOf D C = (longer (controller_end form) m (event ring.slots (controller_part m.0) word v (front_buffer m.1)), rest m.1) in y) put
                    ∙ ap (λ (n : ℕ). let y : SeatOf D C = (Controller (es ++ event n es word v b ∷ []), rest me.1) in y) counts
                    ∙ ap (λ (xs : List (ℕ × Buffer)). let y : SeatOf D C = (Controller (es ++ event size es word v b ∷ []), rest xs) in y) held-slot

                pub give_own-keeps : IsControllerSeat form table' me2 size mode
                give_own-keeps = let k = give-may in made table' me2 (es ++ event size es word v b ∷ []) [] (control form size x (event size es word v b)) t give_own-seat (did size es (event size es word v b))
                    (sym (ap (slots_while (length (control form size x (event size es word v b)).completed % size)) k.held))

                pub give_own-steps : side table' me2 ≡ grown now (event now.table.slots now.events word v b)
                give_own-steps = one-more (event size es word v b) table' me2 [] t give_own-seat ∙ ap (grown now) (back-there (λ n m xs. event size es word v b ≡ event n xs word v b) refl)
