-- The header, and what follows it.
use Rattle.std.proofs.Common.{◌≡◌, List, ℕ, false, None, Result, Ok, Err, refl, sym, ap, ◌∙◌}
use Rattle.refusals.specs.declared.errors.CaptureError.{CaptureError}
use Rattle.capture.specs.CaptureError.{◌>>=◌, Fails}
use Rattle.capture.specs.declared.header.CaptureForm.{CaptureForm}
use Rattle.capture.specs.declared.options.ReadOptions.{ReadOptions}
use Rattle.capture.specs.declared.options.Skipped.{Skipped}
use Rattle.capture.specs.Choosing.{chosen}
use Rattle.capture.specs.Sources.{entries_in, source_of}
use Rattle.capture.specs.Reading.{Content, all_records, capture_in, capture_with, header_in}
use Rattle.capture.specs.Record.{Record}
use Rattle.capture.proofs.Chosen.{carried, refused}

-- the frames with the unit of their times
abbrev pub with_unit : CaptureForm → Result (List Record × Skipped) CaptureError → Result (Content × Skipped) CaptureError
with_unit form r = r >>= λ found. Ok (record { unit = form.unit; records = found.0 }, found.1)

-- the header is refused
pub header_faulty : (options : ReadOptions) (bytes : List ℕ) (e : CaptureError) → header_in bytes ≡ Err e → Fails e (capture_with options bytes)
unfolding capture_with
header_faulty options bytes e bad = refused e (capture_with options bytes) (rw bad refl)

-- the header is good
pub read_on : (options : ReadOptions) (bytes rest : List ℕ) (form : CaptureForm) → header_in bytes ≡ Ok (form, rest)
    → capture_with options bytes ≡ with_unit form (chosen options (entries_in (source_of form) rest))
unfolding capture_with
read_on options bytes rest form good = rw good refl

-- a record is refused
pub record_faulty : (options : ReadOptions) (bytes rest : List ℕ) (form : CaptureForm) (e : CaptureError) → header_in bytes ≡ Ok (form, rest)
    → Fails e (chosen options (entries_in (source_of form) rest)) → Fails e (capture_with options bytes)
record_faulty options bytes rest form e good bad =
    carried e (chosen options (entries_in (source_of form) rest)) (capture_with options bytes)
    (λ same. read_on options bytes rest form good ∙ ap (with_unit form) same) bad

-- with no options
as_all : (options : ReadOptions) → options.skip ≡ false → options.limit ≡ None → options ≡ all_records
as_all options skip limit =
    let same : (let x : ReadOptions = record { skip = options.skip; limit = options.limit } in x) ≡ all_records = rw (skip, limit) refl in
    same

pub all_read : (options : ReadOptions) (bytes : List ℕ) (content : Content) (skipped : Skipped) → options.skip ≡ false → options.limit ≡ None
    → capture_with options bytes ≡ Ok (content, skipped) → capture_in bytes ≡ Ok content
unfolding capture_in
all_read options bytes content skipped skip limit good =
    let is : capture_with all_records bytes ≡ Ok (content, skipped) = ap (λ o. capture_with o bytes) (sym (as_all options skip limit)) ∙ good in
    rw is refl

pub all_refused : (options : ReadOptions) (bytes : List ℕ) (e : CaptureError) → options.skip ≡ false → options.limit ≡ None
    → Fails e (capture_with options bytes) → Fails e (capture_in bytes)
unfolding capture_in
all_refused options bytes e skip limit bad =
    carried e (capture_with options bytes) (capture_in bytes)
    (λ same. let is : capture_with all_records bytes ≡ Err e = ap (λ o. capture_with o bytes) (sym (as_all options skip limit)) ∙ same in rw is refl) bad
