-- The printed members of a note in a JSON object: one for each number of its text, each after a comma. If nothing was
-- found, there is no buffer, or no report.
use Rattle.std.specs.Prelude.{ℕ, List, ◌++◌, codes, decimal, Some, None}
use Rattle.ring_model.specs.declared.notes.FetchedSegment.{FetchedSegment}
use Rattle.ring_model.specs.declared.notes.Note.{Note}
use Rattle.ring_model.specs.declared.notes.Note.TheVariants as note
use Rattle.ring_model.specs.declared.notes.TakenSegment.{TakenSegment}
use Rattle.ring_model.specs.shared.Agreement.{bit}

-- a number under its name
abbrev pub member : List ℕ → ℕ → List ℕ
member name n = codes ",\"" ++ name ++ codes "\":" ++ decimal n

-- a place that was fetched, and its buffer
abbrev pub fetched_members : ℕ → ℕ → List ℕ
fetched_members p b = codes ",\"place\":" ++ decimal p ++ codes ",\"buffer\":" ++ decimal b

-- a place that was fetched to be sent, and what its descriptor says
abbrev pub sending_members : ℕ → FetchedSegment → List ℕ
sending_members p s =
    fetched_members p s.buffer ++ codes ",\"length\":" ++ decimal s.len ++ codes ",\"eop\":" ++ decimal (bit s.eop)
    ++ codes ",\"rs\":" ++ decimal (bit s.rs)

-- what a taken descriptor says
abbrev pub taken_members : TakenSegment → List ℕ
taken_members s =
    codes ",\"buffer\":" ++ decimal s.buffer ++ codes ",\"length\":" ++ decimal s.len ++ codes ",\"eop\":" ++ decimal (bit s.eop)

abbrev pub note_members : Note → List ℕ
note_members (note.Place p) = codes ",\"place\":" ++ decimal p
note_members (note.Tail t) = codes ",\"tail\":" ++ decimal t
note_members (note.Free n) = codes ",\"free\":" ++ decimal n
note_members (note.Ready n) = codes ",\"ready\":" ++ decimal n
note_members (note.Fetched p b) = fetched_members p b
note_members (note.Sending p s) = sending_members p s
note_members (note.Taken None) = codes ",\"buffer\":null"
note_members (note.Taken (Some s)) = taken_members s
note_members (note.Reported None) = codes ",\"reported\":null"
note_members (note.Reported (Some p)) = codes ",\"reported\":" ++ decimal p
note_members (note.Head h) = codes ",\"head\":" ++ decimal h
note_members (note.Buffer b) = codes ",\"buffer\":" ++ decimal b
note_members (note.Control v) = codes ",\"control\":" ++ decimal v
note_members (note.Quiet v) = codes ",\"quiet\":" ++ decimal v
