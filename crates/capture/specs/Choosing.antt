-- The records that are read: all, those without a fault, or the first few.
use Rattle.std.specs.Prelude.{ℕ, suc, zero, ◌+◌, Bool, true, false, nat_lt, List, [], ◌∷◌, Option, Some, None, Result, Ok, Err}
use Rattle.std.specs.List.{count_by, filter_map}
use Rattle.limits.specs.declared.profile.TheConstants.{MOST_SCRIPT_FRAMES}
use Rattle.refusals.specs.declared.errors.CaptureError.{CaptureError}
use Rattle.refusals.specs.declared.errors.CaptureError.TheVariants.{TooMany}
use Rattle.capture.specs.declared.entry.Entry.{Entry}
use Rattle.capture.specs.declared.entry.Entry.TheVariants.{Frame, Faulty, Unread}
use Rattle.capture.specs.declared.entry.Fault.{Fault}
use Rattle.capture.specs.declared.entry.Fault.TheVariants.{Truncated, Snapped, Long, Short}
use Rattle.capture.specs.declared.options.ReadOptions.{ReadOptions}
use Rattle.capture.specs.declared.options.Skipped.{Skipped}
use Rattle.capture.specs.Entries.{refusal_of}
use Rattle.capture.specs.Record.{Record}

-- The records up to and including the `n`-th frame.
unfoldable pub first_frames : ℕ → List Entry → List Entry
first_frames n [] = []
first_frames zero (e ∷ entries) = []
first_frames (suc n) (Frame r ∷ entries) = Frame r ∷ first_frames n entries
first_frames (suc n) (Faulty f ∷ entries) = Faulty f ∷ first_frames (suc n) entries
first_frames (suc n) (Unread e ∷ entries) = Unread e ∷ first_frames (suc n) entries

-- Whether a limit allows more than `n` frames.
abbrev pub is_below : Option ℕ → ℕ → Bool
is_below None n = true
is_below (Some limit) n = nat_lt n limit

-- The same for an optional limit.
abbrev pub within : Option ℕ → List Entry → List Entry
within None entries = entries
within (Some n) entries = first_frames n entries

-- The first refusal, if these begin with record `k`: an unskipped fault, or a frame that exceeds the room.
unfoldable pub first_refusal : Bool → ℕ → ℕ → List Entry → Option CaptureError
first_refusal skip room k [] = None
first_refusal skip zero k (Frame r ∷ entries) = Some (TooMany k)
first_refusal skip (suc room) k (Frame r ∷ entries) = first_refusal skip room (k + 1) entries
first_refusal true room k (Faulty f ∷ entries) = first_refusal true room (k + 1) entries
first_refusal false room k (Faulty f ∷ entries) = Some (refusal_of f.fault k)
first_refusal skip room k (Unread e ∷ entries) = Some e

-- The frames among records.
abbrev pub frame_in : Entry → Option Record
frame_in (Frame r) = Some r
frame_in (Faulty f) = None
frame_in (Unread e) = None

abbrev pub frames_of : List Entry → List Record
frames_of entries = filter_map frame_in entries

-- Whether a record has such a fault.
abbrev pub has_fault : (Fault → Bool) → Entry → Bool
has_fault is_such (Faulty f) = is_such f.fault
has_fault is_such (Frame r) = false
has_fault is_such (Unread e) = false

abbrev pub is_truncated : Entry → Bool
is_truncated = has_fault (λ fault. elim fault [ Truncated ↦ true | _ ↦ false ])

abbrev pub is_snapped : Entry → Bool
is_snapped = has_fault (λ fault. elim fault [ Snapped ↦ true | _ ↦ false ])

abbrev pub is_long : Entry → Bool
is_long = has_fault (λ fault. elim fault [ Long ↦ true | _ ↦ false ])

abbrev pub is_short : Entry → Bool
is_short = has_fault (λ fault. elim fault [ Short ↦ true | _ ↦ false ])

abbrev pub skipped_of : List Entry → Skipped
skipped_of entries = record {
  truncated = count_by is_truncated entries;
  snapped = count_by is_snapped entries;
  long = count_by is_long entries;
  short = count_by is_short entries;
}

-- The value, unless there is a refusal.
abbrev pub unless : {X : Type 0} → Option CaptureError → X → Result X CaptureError
unless None x = Ok x
unless (Some e) x = Err e

-- The frames read with these options and the counts of records left out, or the first refusal.
unfoldable pub chosen : ReadOptions → List Entry → Result (List Record × Skipped) CaptureError
chosen options entries =
    let seen = within options.limit entries in
    unless (first_refusal options.skip MOST_SCRIPT_FRAMES 1 seen) (frames_of seen, skipped_of seen)
