-- A descriptor that a controller serves while its buffer stays in its slot: the load takes the slot, and a store of the
-- direction's own gives it back.
use Rattle.std.specs.Prelude.{◌≡◌, ℕ, ◌≤◌, List, [], ◌∷◌, ◌++◌, length}
use Rattle.buffer_pool.specs.Buffer.{Buffer}
use Rattle.ring_model.specs.shared.Frames.{Bytes}
use Rattle.ring_model.specs.declared.states.Completion.{Completion}
use Rattle.shared_ring.specs.declared.events.ControllerEvent.{ControllerEvent}
use Rattle.shared_ring.specs.declared.events.ControllerEvent.TheVariants.{Fetched}
use Rattle.shared_ring.specs.Ends.{Side, grown}
use Rattle.shared_ring.specs.Forms.{Form, controlling}
use Rattle.shared_ring.specs.Own.{Event, MayReap}

-- A buffer with other bytes.
abbrev pub filled : Bytes → Buffer → Buffer
filled bytes b = record b { bytes = bytes }

module _ {Ring Posted Completed Reaped D C : Type 0} (form : Form Ring Posted Completed Reaped D C) (event : Event (ControllerEvent C)) where
  module _ (n : ℕ) (mode : Completion) (es : List (ControllerEvent C)) (place word v : ℕ) where
    -- Whatever is fetched, the store may give it back with these bytes, and it has room for them.
    pub record MayFill (bytes : Bytes) : Type 0 where
      pub fits : (w : ℕ) (b : Buffer) → form.IsFetched n (controlling form n es) w b → length bytes ≤ b.capacity
      pub gives : (w : ℕ) (b : Buffer) → form.IsFetched n (controlling form n es) w b → MayReap form event n mode (es ++ Fetched place w b ∷ []) place word v (filled bytes b)

    -- Whatever is fetched, the store may give it back, and the sink may take it.
    pub record MayRead {S : Type 0} (may : S → ℕ → Buffer → Type 0) (sink : S) : Type 0 where
      pub takes : (w : ℕ) (b : Buffer) → form.IsFetched n (controlling form n es) w b → may sink w b
      pub gives : (w : ℕ) (b : Buffer) → form.IsFetched n (controlling form n es) w b → MayReap form event n mode (es ++ Fetched place w b ∷ []) place word v b

  -- The descriptor was loaded and its buffer came out. The store gave that buffer back, as `left`.
  pub record Served (old : Side (ControllerEvent C)) (place word v w : ℕ) (b left : Buffer) (new : Side (ControllerEvent C)) : Type 0 where
    pub fetched : form.IsFetched old.table.slots (controlling form old.table.slots old.events) w b
    pub step : new ≡ grown (grown old (Fetched place w b)) (event old.table.slots (old.events ++ Fetched place w b ∷ []) word v left)

  -- The buffer was filled with these bytes.
  pub record FilledNext (old : Side (ControllerEvent C)) (place word v : ℕ) (bytes : Bytes) (new : Side (ControllerEvent C)) : Type 0 where
    pub fetched_word : ℕ
    pub buf : Buffer
    pub served : Served old place word v fetched_word buf (filled bytes buf) new

  -- The sink took the buffer's bytes.
  pub record ReadNext {S : Type 0} (took : S → ℕ → Buffer → S → Type 0) (old : Side (ControllerEvent C)) (place word v : ℕ) (sink : S) (w : ℕ) (sink' : S) (new : Side (ControllerEvent C)) : Type 0 where
    pub buf : Buffer
    pub served : Served old place word v w buf buf new
    pub taken : took sink w buf sink'
