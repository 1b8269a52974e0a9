-- The note of a step that happens, as in the worked rows of both directions.
use Rattle.std.specs.Prelude.{ℕ, Option, Some}
use Rattle.ring_model.specs.declared.notes.Note.{Note}
use Rattle.ring_model.specs.declared.notes.Note.TheVariants as note

abbrev pub place : ℕ → Option Note
place k = Some (note.Place k)

abbrev pub tail : ℕ → Option Note
tail k = Some (note.Tail k)

abbrev pub head : ℕ → Option Note
head k = Some (note.Head k)

abbrev pub buffer : ℕ → Option Note
buffer b = Some (note.Buffer b)

abbrev pub control : ℕ → Option Note
control v = Some (note.Control v)
