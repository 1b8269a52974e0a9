-- What the agreement of a direction allows each end to do whenever words, slots and records agree with one of its
-- rings.
use Rattle.std.specs.Prelude.{◌≡◌, ℕ, ◌+◌, ◌%◌, ◌<◌, ◌≤◌, true, false, List, [], ◌∷◌, ◌++◌, length, slice_get, slice_index, slice_set, replicate, None, Some}
use mathlib.Core.Option as maybe
use mathlib.Core.Option.{some, none}
use lib.ListN.{get_elem?}
use Rattle.buffer_pool.specs.Buffer.{Buffer}
use Rattle.ring_model.specs.declared.states.Completion.{Completion}
use Rattle.ring_model.specs.shared.Handshakes.{is_open, is_new, is_on, is_stopped, is_cleared, is_serving}
use Rattle.shared_ring.specs.declared.events.DriverEvent.{DriverEvent}
use Rattle.shared_ring.specs.declared.events.DriverEvent.TheVariants as driver
use Rattle.shared_ring.specs.declared.events.ControllerEvent.{ControllerEvent}
use Rattle.shared_ring.specs.declared.events.ControllerEvent.TheVariants as controller
use Rattle.shared_ring.specs.Forms.{Form, driving, controlling}
use Rattle.shared_ring.specs.Records.{Driven, Controlled, count_at}
use Rattle.shared_ring.specs.Registers.{head_index, tail_index, control_index}
use Rattle.shared_ring.specs.Tables.{words_of}

module _ {Ring Posted Completed Reaped D C : Type 0} (form : Form Ring Posted Completed Reaped D C) (n : ℕ) (mode : Completion) where
  -- Words, slots and both records agree with some ring.
  abbrev pub Agrees : List (DriverEvent D) → List (ControllerEvent C) → List ℕ → List (maybe.Option Buffer) → Type 0
  Agrees ds cs words homes = (q : Ring) × form.IsLaidOut n mode q ds cs words homes

  -- A posting's buffer is taken out of the slot of this place.
  pub record TakesOut (d : Driven Posted Reaped) (place : ℕ) (homes : List (maybe.Option Buffer)) (ds : Buffer → List (DriverEvent D)) (cs : List (ControllerEvent C)) (words : List ℕ) : Type 0 where
    pub item : Posted
    pub buf : Buffer
    pub home : get_elem? homes place ≡ some (some buf)
    pub there : slice_get d.posted (length d.reaped + d.reclaimed) ≡ Some item
    pub is_of : form.IsOf item buf
    pub agrees : Agrees (ds buf) cs words (slice_set homes place none)

  -- The buffer of a fetched descriptor is taken out of the slot of this place.
  pub record Fetches (c : Controlled Completed) (place : ℕ) (homes : List (maybe.Option Buffer)) (ds : List (DriverEvent D)) (cs : Buffer → List (ControllerEvent C)) (words : List ℕ) : Type 0 where
    pub buf : Buffer
    pub home : get_elem? homes place ≡ some (some buf)
    pub fetched : form.IsFetched n c (slice_index words place) buf
    pub agrees : Agrees ds (cs buf) words (slice_set homes place none)

  module _ (ds : List (DriverEvent D)) (cs : List (ControllerEvent C)) (words : List ℕ) (homes : List (maybe.Option Buffer)) where
    abbrev d : Driven Posted Reaped
    d = driving form ds

    abbrev c : Controlled Completed
    c = controlling form n cs

    abbrev Does : DriverEvent D → List ℕ → List (maybe.Option Buffer) → Type 0
    Does e ws hs = Agrees (ds ++ e ∷ []) cs ws hs

    abbrev Serves : ControllerEvent C → List ℕ → List (maybe.Option Buffer) → Type 0
    Serves e ws hs = Agrees ds (cs ++ e ∷ []) ws hs

    pub record DriverMay : Type 0 where
      pub post : (place word : ℕ) (b : Buffer) → place ≡ length d.posted % n → is_open d.state ≡ true → length d.posted + 1 < length d.reaped + d.reclaimed + n → form.MayPost n d.posted word b
          → Does (driver.Posted place word b) (slice_set words place word) (slice_set homes place (some b))
      pub publish : (tail : ℕ) → tail ≡ length d.posted % n → is_open d.state ≡ true → form.MayPublish d.posted → Does (driver.Published tail) (slice_set words (tail_index n) tail) homes
      pub ask_enable : is_new d.state ≡ true → Does driver.AskedEnable (slice_set words (control_index n) 1) homes
      pub control : (slice_index words (control_index n) ≤ 3) × Does (driver.LoadedControl (slice_index words (control_index n))) words homes
      pub ask_disable : is_on d.state ≡ true → Does driver.AskedDisable (slice_set words (control_index n) 3) homes
      pub head : is_stopped d.state ≡ true → (slice_index words (head_index n) < n) × Does (driver.LoadedHead (slice_index words (head_index n))) words homes
      pub reclaim : (place : ℕ) → place ≡ (length d.reaped + d.reclaimed) % n → is_stopped d.state ≡ true → length d.reaped + d.reclaimed < length d.posted
          → TakesOut d place homes (λ b. ds ++ driver.Reclaimed place b ∷ []) cs (slice_set words place 0)
      pub clear_head : is_stopped d.state ≡ true → length d.reaped + d.reclaimed ≡ length d.posted → Does driver.ClearedHead (slice_set words (head_index n) 0) homes
      pub clear_tail : form.MayClearTail mode → is_cleared d.state ≡ true → Does driver.ClearedTail (slice_set words (tail_index n) 0) homes

    pub record ControllerMay : Type 0 where
      pub look : is_serving c.state ≡ true → (slice_index words (tail_index n) < n) × (c.known ≤ count_at n (length c.completed) (slice_index words (tail_index n))) × Serves (controller.Looked (slice_index words (tail_index n))) words homes
      pub fetch : (place : ℕ) → place ≡ length c.completed % n → is_serving c.state ≡ true → length c.completed < c.known → c.held ≡ None → c.barred ≡ false
          → Fetches c place homes ds (λ b. cs ++ controller.Fetched place (slice_index words place) b ∷ []) words
      pub request : (slice_index words (control_index n) ≤ 3) × Serves (controller.LoadedRequest (slice_index words (control_index n))) words homes
      pub enable : c.seen ≡ 1 → is_serving c.state ≡ false → Serves controller.Enabled (slice_set words (control_index n) 2) homes
      pub disable : c.seen ≡ 3 → is_serving c.state ≡ true → c.held ≡ None → c.head ≡ length c.completed % n → form.MayDisable c → Serves controller.Disabled (slice_set words (control_index n) 0) homes

  pub record IsAllowed (q : Ring) (ds : List (DriverEvent D)) (cs : List (ControllerEvent C)) (words : List ℕ) (homes : List (maybe.Option Buffer)) : Type 0 where
    pub driver : DriverMay ds cs words homes
    pub controller : ControllerMay ds cs words homes
    -- What both ends know when they meet, and when the table is closed.
    pub agree : form.AreOf n ds cs
    pub left : (slots : List Buffer) → ((k : ℕ) (y : Buffer) → get_elem? homes k ≡ some (some y) → get_elem? slots k ≡ some y) → form.LeftIn n ds cs slots

pub record IsDirection {Ring Posted Completed Reaped D C : Type 0} (form : Form Ring Posted Completed Reaped D C) : Type 0 where
  pub opens : (n : ℕ) (mode : Completion) → 1 < n → form.Reports mode → (q : Ring) × ((words : List ℕ) (homes : List (maybe.Option Buffer)) → words ≡ replicate (words_of n mode) 0 → length homes ≡ n → form.IsLaidOut n mode q [] [] words homes)
  pub allowed : (n : ℕ) (mode : Completion) (q : Ring) (ds : List (DriverEvent D)) (cs : List (ControllerEvent C)) (words : List ℕ) (homes : List (maybe.Option Buffer)) → 1 < n → form.IsLaidOut n mode q ds cs words homes
      → IsAllowed form n mode q ds cs words homes
