use Rattle.std.proofs.Common.{◌≡◌, ℕ, ◌+◌, [], get_or}
use Rattle.text_lines.specs.Parts.{later_parts, lines_of}
use Rattle.requests.proofs.lines.line_at.Given as goal

-- line `k` of what is left is line `counter + k` of the text
abbrev pub invariant-loop : goal.invariant-loop
invariant-loop l = (k : ℕ) → get_or (later_parts 10 l.rest) k [] ≡ get_or (lines_of l.text) (l.counter + k) []
