-- The outcomes of moves, as pairs distinguish them.
use Rattle.std.specs.Prelude.{ℕ, List, Result, Ok, Err, Some, None, codes}
use Rattle.ring_model.specs.declared.notes.Note.{Note}
use Rattle.ring_model.specs.declared.notes.Note.TheVariants as note
use Rattle.refusals.specs.declared.errors.MachineError.{MachineError}
use Rattle.schedules.specs.declared.covering.outcome.OutcomeKind.{OutcomeKind}
use Rattle.schedules.specs.declared.covering.outcome.OutcomeKind.TheVariants as outcome

-- that the move was not made, or the kind of its note
abbrev pub outcome_of : Result Note MachineError → OutcomeKind
outcome_of (Err e) = outcome.NotEnabled
outcome_of (Ok (note.Place p)) = outcome.Place
outcome_of (Ok (note.Tail t)) = outcome.Tail
outcome_of (Ok (note.Free n)) = outcome.Free
outcome_of (Ok (note.Ready n)) = outcome.Ready
outcome_of (Ok (note.Fetched p b)) = outcome.Fetched
outcome_of (Ok (note.Sending p s)) = outcome.Sending
outcome_of (Ok (note.Taken None)) = outcome.NothingTaken
outcome_of (Ok (note.Taken (Some s))) = outcome.Taken
outcome_of (Ok (note.Reported None)) = outcome.NothingReported
outcome_of (Ok (note.Reported (Some p))) = outcome.Reported
outcome_of (Ok (note.Head h)) = outcome.Head
outcome_of (Ok (note.Buffer b)) = outcome.Buffer
outcome_of (Ok (note.Control v)) = outcome.Control
outcome_of (Ok (note.Quiet v)) = outcome.Quiet

abbrev pub outcome_number : OutcomeKind → ℕ
outcome_number outcome.NotEnabled = 0
outcome_number outcome.Place = 1
outcome_number outcome.Tail = 2
outcome_number outcome.Free = 3
outcome_number outcome.Ready = 4
outcome_number outcome.Fetched = 5
outcome_number outcome.Sending = 6
outcome_number outcome.NothingTaken = 7
outcome_number outcome.Taken = 8
outcome_number outcome.NothingReported = 9
outcome_number outcome.Reported = 10
outcome_number outcome.Head = 11
outcome_number outcome.Buffer = 12
outcome_number outcome.Control = 13
outcome_number outcome.Quiet = 14

-- the note's words without its numbers
abbrev pub outcome_words : OutcomeKind → List ℕ
outcome_words outcome.NotEnabled = codes "not enabled"
outcome_words outcome.Place = codes "place"
outcome_words outcome.Tail = codes "tail"
outcome_words outcome.Free = codes "free"
outcome_words outcome.Ready = codes "ready"
outcome_words outcome.Fetched = codes "place buffer"
outcome_words outcome.Sending = codes "place buffer length eop rs"
outcome_words outcome.NothingTaken = codes "none"
outcome_words outcome.Taken = codes "buffer length eop"
outcome_words outcome.NothingReported = codes "none"
outcome_words outcome.Reported = codes "reported"
outcome_words outcome.Head = codes "head"
outcome_words outcome.Buffer = codes "buffer"
outcome_words outcome.Control = codes "control"
outcome_words outcome.Quiet = codes "quiet"
