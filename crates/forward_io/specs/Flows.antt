-- Skips the lines of flows among those of wires.
use Rattle.std.specs.Prelude.{ℕ, ◌==◌, Bool, ◌&&◌, if◌then◌else◌, List, [], ◌∷◌, codes, drop, take}
use Rattle.std.specs.Str.{bytes_eq}

-- the bytes begin like the line of a flow
abbrev pub tells_of_flow : List ℕ → Bool
tells_of_flow bytes = bytes_eq (take 5 bytes) (codes "flow ")

-- such a line becomes a comment, which the script parser skips
abbrev pub passed_line : List ℕ → List ℕ
passed_line line = if tells_of_flow line then 35 ∷ drop 1 line else line

-- a text with `#` in place of the first byte of each such line: the remaining bytes, and whether they begin a line
abbrev pub without_flows : Bool → List ℕ → List ℕ
without_flows begins [] = []
without_flows begins (b ∷ bytes) =
    (if begins && tells_of_flow (b ∷ bytes) then 35 else b) ∷ without_flows (b == 10) bytes
