-- Frames and segments: how a frame is cut into pieces, how segments join to frames, and what may follow an unfinished
-- frame.
use Rattle.std.specs.Prelude.{◌≡◌, ℕ, zero, suc, ◌+◌, ◌-◌, ◌/◌, ◌<◌, ◌≤◌, Bool, true, false, List, [], ◌∷◌, ◌++◌, map, length, take, drop, Some, slice_get, if◌then◌else◌}
use Rattle.limits.specs.declared.profile.TheConstants.{BUFFER_BYTES, LEAST_FRAME, MOST_FRAME, MOST_SEGMENTS}

-- The bytes of a segment in a running ring. In the pure machine a payload is their number.
abbrev pub Bytes : Type 0
Bytes = List ℕ

-- Some bytes of a frame, and whether they end it.
pub record Piece : Type 0 where
  pub bytes : Bytes
  pub eop : Bool

-- The bytes `f` in the given number of pieces of `b` bytes. The last piece has the remaining bytes, and it alone ends
-- the frame.
abbrev pub pieces : ℕ → ℕ → Bytes → List Piece
pieces b zero f = []
pieces b (suc zero) f = record { bytes = f; eop = true } ∷ []
pieces b (suc (suc k)) f = record { bytes = take b f; eop = false } ∷ pieces b (suc k) (drop b f)

-- The number of buffers, filled to `b` bytes each, that `len` bytes need.
abbrev pub piece_count : ℕ → ℕ → ℕ
piece_count b len = (len + b - 1) / b

abbrev pub cut : ℕ → Bytes → List Piece
cut b f = pieces b (piece_count b (length f)) f

abbrev pub itself : Piece → Piece
itself p = p

-- Whether the last item ends a frame, or `whole` if the list is empty.
abbrev pub ends_frame : {X : Type 0} → (X → Bool) → Bool → List X → Bool
ends_frame ends whole [] = whole
ends_frame ends whole (x ∷ xs) = ends_frame ends (ends x) xs

-- `carries` is the piece that a segment or a posting carries.
module _ {X : Type 0} (carries : X → Piece) where
  -- The bytes of the items, one after another.
  abbrev pub join : List X → Bytes
  join [] = []
  join (x ∷ xs) = (carries x).bytes ++ join xs

  -- The items after the last one that ends a frame. `rest` is an unfinished frame before the list.
  abbrev pub unfinished_from : List X → List X → List X
  unfinished_from rest [] = rest
  unfinished_from rest (x ∷ xs) = unfinished_from (if (carries x).eop then [] else rest ++ x ∷ []) xs

  abbrev pub unfinished : List X → List X
  unfinished xs = unfinished_from [] xs

  -- Each run of items that ends with EOP. An unfinished rest is left out.
  abbrev pub chains_from : List X → List X → List (List X)
  chains_from rest [] = []
  chains_from rest (x ∷ xs) = if (carries x).eop then (rest ++ x ∷ []) ∷ chains_from [] xs else chains_from (rest ++ x ∷ []) xs

  abbrev pub chains : List X → List (List X)
  chains xs = chains_from [] xs

  -- The bytes of each chain.
  abbrev pub frames : List X → List Bytes
  frames xs = map join (chains xs)

  -- A chain of a ring of `n` places: 1 to 15 segments, at most n - 1, of 1 to 2,048 bytes each. Only the last one ends
  -- the frame.
  -- No worked row decides this; `chains_are_lawful` proves it of every chain that was stored or posted.
  pub record IsChain (n : ℕ) (chain : List X) : Type 0 where
    pub some_segments : 0 < length chain
    pub few_segments : length chain ≤ MOST_SEGMENTS
    pub descriptors : length chain ≤ n - 1
    pub some_bytes : (i : ℕ) (x : X) → slice_get chain i ≡ Some x → 0 < length (carries x).bytes
    pub few_bytes : (i : ℕ) (x : X) → slice_get chain i ≡ Some x → length (carries x).bytes ≤ BUFFER_BYTES
    pub goes_on : (i : ℕ) (x : X) → slice_get chain i ≡ Some x → i + 1 < length chain → (carries x).eop ≡ false
    pub ends : (i : ℕ) (x : X) → slice_get chain i ≡ Some x → i + 1 ≡ length chain → (carries x).eop ≡ true

  -- In a ring of `n` places, these bytes may follow the unfinished frame `before`, and may end it if `eop` holds.
  pub record Follows (n : ℕ) (before : List X) (bytes : Bytes) (eop : Bool) : Type 0 where
    pub some_bytes : 0 < length bytes
    pub few_bytes : length bytes ≤ BUFFER_BYTES
    pub segments : length before < MOST_SEGMENTS
    pub descriptors : length before + 1 < n
    pub most : length (join before) + length bytes ≤ MOST_FRAME
    pub least : eop ≡ true → LEAST_FRAME ≤ length (join before) + length bytes

  -- Each item may follow the unfinished frame of the items before it, so every chain that ends is a lawful frame.
  -- No worked row decides this, only `Follows`; the proofs of `chains_are_lawful` rely on it.
  abbrev pub AllFollow : ℕ → List X → Type 0
  AllFollow n xs = (k : ℕ) (x : X) → slice_get xs k ≡ Some x → Follows n (unfinished (take k xs)) (carries x).bytes (carries x).eop

-- The length is within the limits of a frame.
-- No worked row decides this; `chains_are_lawful` proves it of every frame that was stored or posted.
abbrev pub HasFrameLength : Bytes → Type 0
HasFrameLength f = (LEAST_FRAME ≤ length f) × (length f ≤ MOST_FRAME)

-- Each piece but the last has `b` bytes and does not end the frame. The last has 1 to `b` bytes and ends it.
-- No worked row decides this; `frames_are_rejoined` proves it of every frame that is cut.
pub record IsCutBy (b : ℕ) (ps : List Piece) : Type 0 where
  pub full : (k : ℕ) (p : Piece) → slice_get ps k ≡ Some p → k + 1 < length ps → length p.bytes ≡ b
  pub goes_on : (k : ℕ) (p : Piece) → slice_get ps k ≡ Some p → k + 1 < length ps → p.eop ≡ false
  pub some_left : (k : ℕ) (p : Piece) → slice_get ps k ≡ Some p → 0 < length p.bytes
  pub few_left : (k : ℕ) (p : Piece) → slice_get ps k ≡ Some p → length p.bytes ≤ b
  pub ends : (k : ℕ) (p : Piece) → slice_get ps k ≡ Some p → k + 1 ≡ length ps → p.eop ≡ true
