-- The steps of one direction: what each requires of the agreement, and how it changes its end's record. An event names
-- the access of its step. `event` maps the ring's length, the record so far, the place of the word, the value, and the
-- buffer of the slot that the step takes or gives to the event; `tells` states further facts about them.
use Rattle.std.specs.Prelude.{◌≡◌, ℕ, ◌+◌, ◌<◌, Bool, true, false, List, [], ◌∷◌, ◌++◌, length, slice_index, slice_set, None}
use mathlib.Core.Option as maybe
use mathlib.Core.Option.{some, none}
use lib.ListN.{get_elem?}
use Rattle.buffer_pool.specs.Buffer.{Buffer, blank}
use Rattle.ring_model.specs.declared.states.Completion.{Completion}
use Rattle.shared_ring.specs.declared.events.DriverEvent.{DriverEvent}
use Rattle.shared_ring.specs.declared.events.ControllerEvent.{ControllerEvent}
use Rattle.shared_ring.specs.Directions.{Agrees}
use Rattle.shared_ring.specs.Ends.{Side, grown}
use Rattle.shared_ring.specs.Accesses.{load, store}
use Rattle.shared_ring.specs.Forms.{Form, drive, driving, control, controlling, driver_access, controller_access}
use Rattle.shared_ring.specs.Records.{Driven, Controlled}
use Rattle.shared_ring.specs.Tables.{words_of}

abbrev pub Event : Type 0 → Type 0
Event E = ℕ → List E → ℕ → ℕ → Buffer → E

abbrev pub Tells : Type 0 → Type 1
Tells E = ℕ → List E → ℕ → ℕ → Buffer → Type 0

module _ {Posted Reaped : Type 0} where
  -- The posted items and those that came back are unchanged.
  pub record SameOut (d e : Driven Posted Reaped) : Type 0 where
    pub posted : e.posted ≡ d.posted
    pub reaped : e.reaped ≡ d.reaped
    pub reclaimed : e.reclaimed ≡ d.reclaimed

  -- One more item came back.
  pub record OneBack (d e : Driven Posted Reaped) : Type 0 where
    pub posted : e.posted ≡ d.posted
    pub back : length e.reaped + e.reclaimed ≡ length d.reaped + d.reclaimed + 1

  -- The epoch ended.
  pub record AllGone (e : Driven Posted Reaped) : Type 0 where
    pub posted : e.posted ≡ []
    pub reaped : e.reaped ≡ []
    pub reclaimed : e.reclaimed ≡ 0

module _ {Ring Posted Completed Reaped D C : Type 0} (form : Form Ring Posted Completed Reaped D C) (event : Event (DriverEvent D)) (tells : Tells (DriverEvent D)) (n : ℕ) (mode : Completion) (es : List (DriverEvent D)) where
  abbrev d : Driven Posted Reaped
  d = driving form es

  -- A buffer comes out of the slot of this place.
  pub record Out (place r : ℕ) (homes : List (maybe.Option Buffer)) (cs : List (ControllerEvent C)) (words : List ℕ) : Type 0 where
    pub buf : Buffer
    pub home : get_elem? homes place ≡ some (some buf)
    pub told : tells n es place r buf
    pub agrees : Agrees form n mode (es ++ event n es place r buf ∷ []) cs words (slice_set homes place none)

  -- A load.
  pub record MayLoad (word : ℕ) : Type 0 where
    pub word_is : word < words_of n mode
    pub goes : (q : Ring) (cs : List (ControllerEvent C)) (words : List ℕ) (homes : List (maybe.Option Buffer)) → 1 < n → form.IsLaidOut n mode q es cs words homes
        → tells n es word (slice_index words word) blank × Agrees form n mode (es ++ event n es word (slice_index words word) blank ∷ []) cs words homes
    pub same : (r : ℕ) → SameOut d (drive form d (event n es word r blank))
    pub names : (r : ℕ) → driver_access form n (event n es word r blank) ≡ load word r

  -- A store of 0 that brings a buffer back.
  pub record MayClear (place : ℕ) : Type 0 where
    pub goes : (q : Ring) (cs : List (ControllerEvent C)) (words : List ℕ) (homes : List (maybe.Option Buffer)) → 1 < n → form.IsLaidOut n mode q es cs words homes → Out place 0 homes cs (slice_set words place 0)
    pub back : (b : Buffer) → OneBack d (drive form d (event n es place 0 b))
    pub names : (b : Buffer) → driver_access form n (event n es place 0 b) ≡ store place 0

  -- A load that brings a buffer back if the word is done. If not, the event is `missed`.
  pub record MayTake (missed : ℕ → ℕ → DriverEvent D) (done : ℕ → Bool) (place : ℕ) : Type 0 where
    pub undone : (q : Ring) (cs : List (ControllerEvent C)) (words : List ℕ) (homes : List (maybe.Option Buffer)) → 1 < n → form.IsLaidOut n mode q es cs words homes → done (slice_index words place) ≡ false
        → Agrees form n mode (es ++ missed place (slice_index words place) ∷ []) cs words homes
    pub goes : (q : Ring) (cs : List (ControllerEvent C)) (words : List ℕ) (homes : List (maybe.Option Buffer)) → 1 < n → form.IsLaidOut n mode q es cs words homes → done (slice_index words place) ≡ true
        → Out place (slice_index words place) homes cs words
    pub same : (r : ℕ) → SameOut d (drive form d (missed place r))
    pub back : (r : ℕ) (b : Buffer) → OneBack d (drive form d (event n es place r b))
    pub names_missed : (r : ℕ) → driver_access form n (missed place r) ≡ load place r
    pub names : (r : ℕ) (b : Buffer) → driver_access form n (event n es place r b) ≡ load place r

module _ {Ring Posted Completed Reaped D C : Type 0} (form : Form Ring Posted Completed Reaped D C) (event : Event (DriverEvent D)) (n : ℕ) (mode : Completion) (es : List (DriverEvent D)) where
  -- A store of 0 that ends the epoch.
  pub record MayEnd (word : ℕ) : Type 0 where
    pub word_is : word < words_of n mode
    pub goes : (q : Ring) (cs : List (ControllerEvent C)) (words : List ℕ) (homes : List (maybe.Option Buffer)) → 1 < n → form.IsLaidOut n mode q es cs words homes
        → Agrees form n mode (es ++ event n es word 0 blank ∷ []) cs (slice_set words word 0) homes
    pub gone : AllGone (drive form (driving form es) (event n es word 0 blank))
    pub names : driver_access form n (event n es word 0 blank) ≡ store word 0

module _ {Ring Posted Completed Reaped D C : Type 0} (form : Form Ring Posted Completed Reaped D C) (event : Event (ControllerEvent C)) (n : ℕ) (mode : Completion) (es : List (ControllerEvent C)) where
  abbrev c : Controlled Completed
  c = controlling form n es

  -- A store.
  pub record MayStore (word v : ℕ) : Type 0 where
    pub word_is : word < words_of n mode
    pub goes : (q : Ring) (ds : List (DriverEvent D)) (words : List ℕ) (homes : List (maybe.Option Buffer)) → 1 < n → form.IsLaidOut n mode q ds es words homes
        → Agrees form n mode ds (es ++ event n es word v blank ∷ []) (slice_set words word v) homes
    pub completed : length (control form n c (event n es word v blank)).completed ≡ length c.completed
    pub held : (control form n c (event n es word v blank)).held ≡ c.held
    pub names : controller_access form n (event n es word v blank) ≡ store word v

  -- A store that gives the slot of the fetched buffer back.
  pub record MayReap (place word v : ℕ) (b : Buffer) : Type 0 where
    pub word_is : word < words_of n mode
    pub goes : (q : Ring) (ds : List (DriverEvent D)) (words : List ℕ) (homes : List (maybe.Option Buffer)) → 1 < n → form.IsLaidOut n mode q ds es words homes
        → Agrees form n mode ds (es ++ event n es word v b ∷ []) (slice_set words word v) (slice_set homes place (some b))
    pub held : (control form n c (event n es word v b)).held ≡ None
    pub names : controller_access form n (event n es word v b) ≡ store word v

-- The result of a load that may bring a buffer back.
module _ {E : Type 0} (event : Event E) (tells : Tells E) (missed : ℕ → ℕ → E) (done : ℕ → Bool) (old : Side E) (place r : ℕ) where
  pub record Missed (new : Side E) : Type 0 where
    pub undone : done r ≡ false
    pub step : new ≡ grown old (missed place r)

  pub record Came (b : Buffer) (new : Side E) : Type 0 where
    pub is_done : done r ≡ true
    pub step : new ≡ grown old (event old.table.slots old.events place r b)
    pub told : tells old.table.slots old.events place r b
