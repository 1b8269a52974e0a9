-- The loop over the pieces of a capture.
use Rattle.std.proofs.Common.{◌≡◌, ℕ, zero, suc, ◌-◌, ◌<◌, ◌≤◌, Bool, true, false, List, [], ◌∷◌, ◌++◌, length, Option, Result, Ok, Err, refl, sym, ap, ◌∙◌, arith}
use Rattle.refusals.specs.declared.errors.CaptureError.{CaptureError}
use Rattle.capture.specs.declared.entry.Entry.{Entry}
use Rattle.capture.specs.declared.options.ReadOptions.{ReadOptions}
use Rattle.capture.specs.declared.piece.Piece.{Piece}
use Rattle.capture.specs.declared.piece.Piece.TheVariants.{Packet, Section, Described, Other}
use Rattle.capture.specs.CaptureError.{◌>>=◌}
use Rattle.capture.specs.Choosing.{is_below}
use Rattle.capture.specs.SoFar.{SoFar, nothing, with_piece}
use Rattle.capture.specs.Sources.{Source, entries_from, entries_in, packets_of, piece_in, source_after}
use Rattle.capture.proofs.Chosen.{go_none, go_on, go_stop}
use Rattle.capture.proofs.Steps.{go}

-- what was read so far goes on in what is left as the whole does
pub record Reads (options : ReadOptions) (total : Result SoFar CaptureError) (source : Source) (s : SoFar) (rest : List ℕ) : Type 0 where
  pub steps : ℕ
  pub enough : length rest ≤ steps
  pub said : go options.skip options.limit s (entries_from source steps rest) ≡ total

pub begins : (options : ReadOptions) (source : Source) (bytes : List ℕ)
    → Reads options (go options.skip options.limit nothing (entries_in source bytes)) source nothing bytes
begins options source bytes = record { steps = length bytes; enough = omega arith; said = refl }

pub unrolled : (source : Source) (steps : ℕ) (rest : List ℕ) (p : Piece) (after : List ℕ) → 0 < length rest → length rest ≤ steps
    → p ≡ (piece_in source rest).0 → after ≡ (piece_in source rest).1
    → entries_from source steps rest ≡ packets_of p ++ entries_from (source_after source p) (steps - 1) after
unfolding entries_from
unrolled source steps [] p after some enough is follows = absurd (omega arith)
unrolled source zero (b ∷ bytes) p after some enough is follows = absurd (omega arith)
unrolled source (suc steps) (b ∷ bytes) p after some enough is follows =
    let same : suc steps - 1 ≡ steps = omega arith in
    rw (same, is, follows) refl

-- the packet of a piece, if it has one
go_piece : (skip : Bool) (limit : Option ℕ) (s : SoFar) (p : Piece) (entries : List Entry) → is_below limit (length s.records) ≡ true
    → go skip limit s (packets_of p ++ entries) ≡ (with_piece skip s p >>= λ next. go skip limit next entries)
go_piece skip limit s (Packet e) entries below = go_on skip limit s e entries below
go_piece skip limit s (Section order) entries below = refl
go_piece skip limit s (Described interface) entries below = refl
go_piece skip limit s Other entries below = refl

-- one step of the loop
stepped : (options : ReadOptions) (total : Result SoFar CaptureError) (source : Source) (s : SoFar) (rest : List ℕ) (p : Piece) (after : List ℕ)
    (before : Reads options total source s rest) → 0 < length rest → is_below options.limit (length s.records) ≡ true
    → p ≡ (piece_in source rest).0 → after ≡ (piece_in source rest).1
    → (with_piece options.skip s p >>= λ next. go options.skip options.limit next (entries_from (source_after source p) (before.steps - 1) after)) ≡ total
stepped options total source s rest p after before some below is follows =
    sym (go_piece options.skip options.limit s p (entries_from (source_after source p) (before.steps - 1) after) below)
    ∙ ap (go options.skip options.limit s) (sym (unrolled source before.steps rest p after some before.enough is follows))
    ∙ before.said

pub goes_on : (options : ReadOptions) (total : Result SoFar CaptureError) (source : Source) (s next : SoFar) (rest : List ℕ) (p : Piece) (after : List ℕ)
    → Reads options total source s rest → 0 < length rest → is_below options.limit (length s.records) ≡ true
    → p ≡ (piece_in source rest).0 → after ≡ (piece_in source rest).1 → length after < length rest
    → with_piece options.skip s p ≡ Ok next → Reads options total (source_after source p) next after
goes_on options total source s next rest p after before some below is follows shorter good =
    record {
      steps = before.steps - 1;
      enough = omega (arith, before.enough);
      said = rw good at (stepped options total source s rest p after before some below is follows);
    }

pub stops : (options : ReadOptions) (total : Result SoFar CaptureError) (source : Source) (s : SoFar) (rest : List ℕ) (p : Piece) (after : List ℕ) (x : CaptureError)
    → Reads options total source s rest → 0 < length rest → is_below options.limit (length s.records) ≡ true
    → p ≡ (piece_in source rest).0 → after ≡ (piece_in source rest).1 → with_piece options.skip s p ≡ Err x → total ≡ Err x
stops options total source s rest p after x before some below is follows bad =
    sym (rw bad at (stepped options total source s rest p after before some below is follows))

pub all_read : (options : ReadOptions) (total : Result SoFar CaptureError) (source : Source) (s : SoFar) (rest : List ℕ)
    → Reads options total source s rest → length rest ≡ 0 → total ≡ Ok s
unfolding entries_from
all_read options total source s [] before none = sym before.said ∙ nothing_left before.steps
  where
    nothing_left : (steps : ℕ) → go options.skip options.limit s (entries_from source steps []) ≡ Ok s
    nothing_left zero = go_none options.skip options.limit s
    nothing_left (suc steps) = go_none options.skip options.limit s
all_read options total source s (b ∷ bytes) before none = absurd (omega arith)

pub enough_read : (options : ReadOptions) (total : Result SoFar CaptureError) (source : Source) (s : SoFar) (rest : List ℕ)
    → Reads options total source s rest → is_below options.limit (length s.records) ≡ false → total ≡ Ok s
enough_read options total source s rest before limit =
    sym before.said ∙ go_stop options.skip options.limit s (entries_from source before.steps rest) limit
