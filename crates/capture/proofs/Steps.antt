-- Reading one record after the other, as the loop does, gives what the definition chooses.
use Rattle.std.proofs.Common.{◌≡◌, ℕ, zero, suc, ◌+◌, ◌-◌, ◌<◌, Bool, true, false, cond, List, [], ◌∷◌, ◌++◌, length, Option, Some, None, Result, Ok, Err, refl, ap, ◌∙◌, append_assoc, arith, length-append}
use Rattle.std.proofs.lemmas.List.{append-nil}
use Rattle.std.proofs.lemmas.List.Sums.{sum_by-cons}
use Rattle.limits.specs.declared.profile.TheConstants.{MOST_SCRIPT_FRAMES}
use Rattle.refusals.specs.declared.errors.CaptureError.{CaptureError}
use Rattle.refusals.specs.declared.errors.CaptureError.TheVariants as errors
use Rattle.capture.specs.declared.entry.Entry.{Entry}
use Rattle.capture.specs.declared.entry.Entry.TheVariants.{Frame, Faulty, Unread}
use Rattle.std.specs.List.{count_by}
use Rattle.capture.specs.declared.entry.Fault.{Fault}
use Rattle.capture.specs.declared.entry.Lengths.{Lengths}
use Rattle.capture.specs.declared.entry.Fault.TheVariants.{Truncated, Snapped, Long, Short}
use Rattle.capture.specs.declared.entry.FaultyRecord.{FaultyRecord}
use Rattle.capture.specs.declared.options.Skipped.{Skipped}
use Rattle.capture.specs.CaptureError.{◌>>=◌}
use Rattle.capture.specs.Choosing.{first_refusal, frames_of, is_below, is_long, is_short, is_snapped, is_truncated, skipped_of, unless}
use Rattle.capture.specs.Entries.{refusal_of}
use Rattle.capture.specs.Record.{Record}
use Rattle.capture.specs.SoFar.{SoFar, with_entry, with_fault}

-- what is read of entries after what was read so far
unfoldable pub go : Bool → Option ℕ → SoFar → List Entry → Result SoFar CaptureError
go skip limit s [] = Ok s
go skip limit s (e ∷ entries) = elim (is_below limit (length s.records)) [
  | true ↦ with_entry skip s e >>= λ next. go skip limit next entries
  | false ↦ Ok s
]

-- its frames, and what is left out
abbrev pub parts : SoFar → List Record × Skipped
parts s = (s.records, s.skipped)

-- the counts of both
abbrev pub plus : Skipped → Skipped → Skipped
plus a b = record {
  truncated = a.truncated + b.truncated;
  snapped = a.snapped + b.snapped;
  long = a.long + b.long;
  short = a.short + b.short;
}

-- what the definition says of these entries, after what was read so far
abbrev pub picked : Bool → SoFar → List Entry → Result (List Record × Skipped) CaptureError
picked skip s seen =
    unless (first_refusal skip (MOST_SCRIPT_FRAMES - length s.records) (s.number + 1) seen)
    (s.records ++ frames_of seen, plus s.skipped (skipped_of seen))

-- the frames that a limit leaves after n
abbrev pub left : Option ℕ → ℕ → Option ℕ
left None n = None
left (Some limit) n = Some (limit - n)

same_counts : (a b c d e f g h : ℕ) → a ≡ e → b ≡ f → c ≡ g → d ≡ h
    → (let x : Skipped = record { truncated = a; snapped = b; long = c; short = d } in x)
    ≡ (let y : Skipped = record { truncated = e; snapped = f; long = g; short = h } in y)
same_counts a b c d e f g h p q r s = rw (p, q, r, s) refl

none_more : (s : Skipped) → plus s (skipped_of []) ≡ s
none_more s = same_counts _ _ _ _ s.truncated s.snapped s.long s.short (omega arith) (omega arith) (omega arith) (omega arith)

pub picked_none : (skip : Bool) (s : SoFar) → picked skip s [] ≡ Ok (parts s)
unfolding first_refusal
picked_none skip s = rw (append-nil s.records, none_more s.skipped) refl

-- a frame
abbrev pub with_frame : SoFar → Record → SoFar
with_frame s r = record { records = s.records ++ r ∷ []; skipped = s.skipped; number = s.number + 1 }

frame_more : (skip : Bool) (room more k : ℕ) (r : Record) (seen : List Entry) → room ≡ suc more
    → first_refusal skip room k (Frame r ∷ seen) ≡ first_refusal skip more (k + 1) seen
unfolding first_refusal
frame_more skip room more k r seen same = rw same refl

skip_frame : (s : Skipped) (r : Record) (seen : List Entry) → plus s (skipped_of (Frame r ∷ seen)) ≡ plus s (skipped_of seen)
skip_frame s r seen = same_counts _ _ _ _ _ _ _ _ (omega arith) (omega arith) (omega arith) (omega arith)

pub picked_frame : (skip : Bool) (s : SoFar) (r : Record) (seen : List Entry) → length s.records < MOST_SCRIPT_FRAMES
    → picked skip s (Frame r ∷ seen) ≡ picked skip (with_frame s r) seen
picked_frame skip s r seen few =
    let size : length (s.records ++ r ∷ []) ≡ length s.records + 1 = omega (arith, length-append s.records (r ∷ [])) in
    let room : MOST_SCRIPT_FRAMES - length s.records ≡ suc (MOST_SCRIPT_FRAMES - length (s.records ++ r ∷ [])) = omega arith in
    rw (
      frame_more skip (MOST_SCRIPT_FRAMES - length s.records) (MOST_SCRIPT_FRAMES - length (s.records ++ r ∷ [])) (s.number + 1) r seen room,
      skip_frame s.skipped r seen,
      append_assoc s.records (r ∷ []) (frames_of seen),
    ) refl

full : (skip : Bool) (room k : ℕ) (r : Record) (seen : List Entry) → room ≡ 0
    → first_refusal skip room k (Frame r ∷ seen) ≡ Some (errors.TooMany k)
unfolding first_refusal
full skip room k r seen none = rw none refl

pub picked_full : (skip : Bool) (s : SoFar) (r : Record) (seen : List Entry) → length s.records ≡ MOST_SCRIPT_FRAMES
    → picked skip s (Frame r ∷ seen) ≡ Err (errors.TooMany (s.number + 1))
picked_full skip s r seen most = rw (full skip (MOST_SCRIPT_FRAMES - length s.records) (s.number + 1) r seen (omega arith)) refl

-- a faulty record
abbrev pub with_faulty : SoFar → FaultyRecord → SoFar
with_faulty s f = record { records = s.records; skipped = with_fault s.skipped f.fault; number = s.number + 1 }

counted_first : (e : Entry) (seen : List Entry) → skipped_of (e ∷ seen) ≡ record {
  truncated = cond (is_truncated e) 1 0 + count_by is_truncated seen;
  snapped = cond (is_snapped e) 1 0 + count_by is_snapped seen;
  long = cond (is_long e) 1 0 + count_by is_long seen;
  short = cond (is_short e) 1 0 + count_by is_short seen;
}
counted_first e seen =
    same_counts _ _ _ _ _ _ _ _
    (sum_by-cons (λ x. cond (is_truncated x) 1 0) e seen)
    (sum_by-cons (λ x. cond (is_snapped x) 1 0) e seen)
    (sum_by-cons (λ x. cond (is_long x) 1 0) e seen)
    (sum_by-cons (λ x. cond (is_short x) 1 0) e seen)

one_more : (n m : ℕ) → n + (1 + m) ≡ n + 1 + m
one_more n m = omega arith

as_many : (n m : ℕ) → n + (0 + m) ≡ n + m
as_many n m = omega arith

skip_fault : (s : Skipped) (f : FaultyRecord) (seen : List Entry)
    → plus s (skipped_of (Faulty f ∷ seen)) ≡ plus (with_fault s f.fault) (skipped_of seen)
skip_fault s f seen = by_cases f.fault f.lengths
  where
    by_cases : (fault : Fault) (lengths : Option Lengths)
        → plus s (skipped_of (Faulty (record { fault = fault; lengths = lengths }) ∷ seen)) ≡ plus (with_fault s fault) (skipped_of seen)
    by_cases Truncated lengths = ap (plus s) (counted_first (Faulty (record { fault = Truncated; lengths = lengths })) seen) ∙ same_counts _ _ _ _ _ _ _ _ (one_more s.truncated (count_by is_truncated seen)) (as_many s.snapped (count_by is_snapped seen)) (as_many s.long (count_by is_long seen)) (as_many s.short (count_by is_short seen))
    by_cases Snapped lengths = ap (plus s) (counted_first (Faulty (record { fault = Snapped; lengths = lengths })) seen) ∙ same_counts _ _ _ _ _ _ _ _ (as_many s.truncated (count_by is_truncated seen)) (one_more s.snapped (count_by is_snapped seen)) (as_many s.long (count_by is_long seen)) (as_many s.short (count_by is_short seen))
    by_cases Long lengths = ap (plus s) (counted_first (Faulty (record { fault = Long; lengths = lengths })) seen) ∙ same_counts _ _ _ _ _ _ _ _ (as_many s.truncated (count_by is_truncated seen)) (as_many s.snapped (count_by is_snapped seen)) (one_more s.long (count_by is_long seen)) (as_many s.short (count_by is_short seen))
    by_cases Short lengths = ap (plus s) (counted_first (Faulty (record { fault = Short; lengths = lengths })) seen) ∙ same_counts _ _ _ _ _ _ _ _ (as_many s.truncated (count_by is_truncated seen)) (as_many s.snapped (count_by is_snapped seen)) (as_many s.long (count_by is_long seen)) (one_more s.short (count_by is_short seen))

faulty_more : (room k : ℕ) (f : FaultyRecord) (seen : List Entry)
    → first_refusal true room k (Faulty f ∷ seen) ≡ first_refusal true room (k + 1) seen
unfolding first_refusal
faulty_more zero k f seen = refl
faulty_more (suc room) k f seen = refl

pub picked_faulty : (s : SoFar) (f : FaultyRecord) (seen : List Entry) → picked true s (Faulty f ∷ seen) ≡ picked true (with_faulty s f) seen
picked_faulty s f seen =
    rw (faulty_more (MOST_SCRIPT_FRAMES - length s.records) (s.number + 1) f seen, skip_fault s.skipped f seen) refl

refused : (room k : ℕ) (f : FaultyRecord) (seen : List Entry) → first_refusal false room k (Faulty f ∷ seen) ≡ Some (refusal_of f.fault k)
unfolding first_refusal
refused zero k f seen = refl
refused (suc room) k f seen = refl

pub picked_refused : (s : SoFar) (f : FaultyRecord) (seen : List Entry) → picked false s (Faulty f ∷ seen) ≡ Err (refusal_of f.fault (s.number + 1))
picked_refused s f seen = rw (refused (MOST_SCRIPT_FRAMES - length s.records) (s.number + 1) f seen) refl

-- what cannot be read
unread : (skip : Bool) (room k : ℕ) (e : CaptureError) (seen : List Entry) → first_refusal skip room k (Unread e ∷ seen) ≡ Some e
unfolding first_refusal
unread true zero k e seen = refl
unread true (suc room) k e seen = refl
unread false zero k e seen = refl
unread false (suc room) k e seen = refl

pub picked_unread : (skip : Bool) (s : SoFar) (e : CaptureError) (seen : List Entry) → picked skip s (Unread e ∷ seen) ≡ Err e
picked_unread skip s e seen = rw (unread skip (MOST_SCRIPT_FRAMES - length s.records) (s.number + 1) e seen) refl
