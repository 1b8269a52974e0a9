-- The report of records that were left out of captures.
use Rattle.std.specs.Prelude.{ℕ, ◌+◌, ◌&&◌, Bool, if◌then◌else◌, List, [], ◌∷◌, ◌++◌, codes, decimal}
use Rattle.capture.specs.declared.options.Skipped.{Skipped}

-- how many records were left out of a capture, by fault
abbrev pub skipped_line : Skipped → List ℕ
skipped_line s =
    codes "skipped truncated " ++ (decimal s.truncated ++ (codes " snapped " ++ (decimal s.snapped ++ (codes " long " ++ (decimal s.long
    ++ (codes " short " ++ (decimal s.short ++ 10 ∷ [])))))))

-- the same as a JSON object, for the capture with this number
abbrev pub skipped_object : ℕ → Skipped → List ℕ
skipped_object number s =
    codes "{\"capture\":" ++ (decimal number ++ (codes ",\"truncated\":" ++ (decimal s.truncated ++ (codes ",\"snapped\":" ++ (decimal s.snapped
    ++ (codes ",\"long\":" ++ (decimal s.long ++ (codes ",\"short\":" ++ (decimal s.short ++ codes "}\n")))))))))

-- the objects of captures, numbered from this one on
abbrev pub skipped_objects : ℕ → List Skipped → List ℕ
skipped_objects number [] = []
skipped_objects number (s ∷ ss) = skipped_object number s ++ skipped_objects (number + 1) ss

-- what follows the counts of a report: the objects of all captures, if objects are printed and records may be left out
abbrev pub skipped_text : Bool → Bool → List Skipped → List ℕ
skipped_text json skip skipped = if json && skip then skipped_objects 1 skipped else []
