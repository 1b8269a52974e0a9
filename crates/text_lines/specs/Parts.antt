-- The parts of a text between separators.
use Rattle.std.specs.Prelude.{ℕ, ◌==◌, Bool, false, not, List, [], ◌∷◌, Option, Some, None}
use Rattle.std.specs.Borrow.{Bor}
use Rattle.std.specs.List.{slice_split}

-- the parts before, between and after the bytes that equal the separator
abbrev pub parts : ℕ → List ℕ → List (List ℕ)
parts separator bytes = slice_split (λ b. b == separator) bytes

-- the parts after a separator, if there was one
abbrev pub later_parts : ℕ → Option (Bor (List ℕ)) → List (List ℕ)
later_parts separator None = []
later_parts separator (Some rest) = parts separator rest.now

-- a line ends with LF; the last may lack it
abbrev pub lines_of : List ℕ → List (List ℕ)
lines_of text = parts 10 text

-- an empty line, and one that begins with `#`, say nothing
abbrev pub says_something : List ℕ → Bool
says_something [] = false
says_something (first ∷ rest) = not (first == 35)
