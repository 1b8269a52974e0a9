-- The text of a run's progress.
use Rattle.std.specs.Prelude.{ℕ, List, ◌∷◌, ◌++◌, codes, decimal}
use Rattle.requests.specs.declared.printing.ProgressForm.{ProgressForm}
use Rattle.requests.specs.declared.printing.ProgressForm.TheVariants.{Lines, Rewritten, Objects}
use Rattle.forward_io.specs.declared.progress.LiveTotals.{LiveTotals}

-- the numbers, each after its word
abbrev pub words_of : LiveTotals → List ℕ
words_of s = codes "offered " ++ decimal s.offered ++ codes " of " ++ decimal s.frames ++ codes " taken " ++ decimal s.taken
    ++ codes " posted " ++ decimal s.posted ++ codes " per-second " ++ decimal s.per_second

-- the numbers as a JSON object
abbrev pub object_of : LiveTotals → List ℕ
object_of s =
    codes "{\"offered\":" ++ (decimal s.offered ++ (codes ",\"frames\":" ++ (decimal s.frames ++ (codes ",\"taken\":" ++ (decimal s.taken
    ++ (codes ",\"posted\":" ++ (decimal s.posted ++ (codes ",\"per_second\":" ++ (decimal s.per_second ++ codes "}")))))))))

-- a rewritten line of a terminal begins with CR, ESC and `[K`, which clear it
abbrev pub line_text : ProgressForm → LiveTotals → List ℕ
line_text Lines s = words_of s
line_text Rewritten s = (13 ∷ 27 ∷ codes "[K") ++ words_of s
line_text Objects s = object_of s
