-- The printed text of a note.
use Rattle.std.specs.Prelude.{ℕ, List, ◌++◌, codes, decimal, Some, None}
use Rattle.ring_model.specs.declared.notes.Note.{Note}
use Rattle.ring_model.specs.declared.notes.Note.TheVariants as note
use Rattle.ring_model.specs.shared.Agreement.{bit}

abbrev pub note_text : Note → List ℕ
note_text (note.Place p) = codes "place " ++ decimal p
note_text (note.Tail t) = codes "tail " ++ decimal t
note_text (note.Free n) = codes "free " ++ decimal n
note_text (note.Ready n) = codes "ready " ++ decimal n
note_text (note.Fetched p b) = codes "place " ++ decimal p ++ codes " buffer " ++ decimal b
note_text (note.Sending p s) =
    codes "place " ++ decimal p ++ codes " buffer " ++ decimal s.buffer ++ codes " length " ++ decimal s.len
    ++ codes " eop " ++ decimal (bit s.eop) ++ codes " rs " ++ decimal (bit s.rs)
note_text (note.Taken None) = codes "none"
note_text (note.Taken (Some s)) =
    codes "buffer " ++ decimal s.buffer ++ codes " length " ++ decimal s.len ++ codes " eop " ++ decimal (bit s.eop)
note_text (note.Reported None) = codes "none"
note_text (note.Reported (Some p)) = codes "reported " ++ decimal p
note_text (note.Head h) = codes "head " ++ decimal h
note_text (note.Buffer b) = codes "buffer " ++ decimal b
note_text (note.Control v) = codes "control " ++ decimal v
note_text (note.Quiet v) = codes "quiet " ++ decimal v
