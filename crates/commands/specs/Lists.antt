-- The lists of moves in a text.
use Rattle.std.specs.Prelude.{◌≡◌, ℕ, Bool, List, [], ◌∷◌, ◌++◌, codes, Option, if◌then◌else◌}
use Rattle.std.specs.Borrow.{Bor}
use Rattle.std.specs.List.{filter, list_any}
use Rattle.std.specs.Str.{bytes_eq}
use Rattle.text_lines.specs.Parts.{later_parts, lines_of, says_something}

abbrev pub ends_list : List ℕ → Bool
ends_list line = bytes_eq line (codes "# end")

-- The lists in these lines. `begun` are the lines before them in the first list. A line `# end` ends each list. Lines
-- after the last such line are a list if one of them is a move.
abbrev pub lists_from : List (List ℕ) → List (List ℕ) → List (List (List ℕ))
lists_from begun [] = if list_any says_something begun then begun ∷ [] else []
lists_from begun (line ∷ lines) = if ends_list line then begun ∷ lists_from [] lines else lists_from (begun ++ line ∷ []) lines

abbrev pub lists_of : List (List ℕ) → List (List (List ℕ))
lists_of lines = lists_from [] lines

-- The lists of a text are `lines`, if that is a list, and those of the rest. `list` is the text of `lines`.
pub record IsListCut (text list : List ℕ) (is_list : Bool) (rest : Option (Bor (List ℕ))) : Type 0 where
  pub lines : List (List ℕ)
  pub lists : lists_of (lines_of text) ≡ (if is_list then lines ∷ [] else []) ++ lists_of (later_parts 10 rest)
  pub same_moves : filter says_something (lines_of list) ≡ filter says_something lines
  pub between : List (List ℕ)
  pub split : lines ++ (between ++ later_parts 10 rest) ≡ lines_of text
