use Rattle.std.proofs.Common.{◌==◌, ◌+◌, ◌-◌, List, ℕ, arith, drop, length, length-drop, sym}
use Rattle.std.proofs.lemmas.List.{take_all}
use Rattle.text_lines.proofs.Cuts.{split_at_place, split_nowhere}
use Rattle.text_lines.proofs.cutting.cut.Goals as goal

pub returns-in-None-clause-parts : goal.returns-in-None-clause-parts
returns-in-None-clause-parts c = split_nowhere (λ b. b == c.args.separator) c.args.bytes.now (sym c.in-None.ensures)

-- the slice from a place on is written by its length
pub returns-in-Some-clause-parts : goal.returns-in-Some-clause-parts
returns-in-Some-clause-parts c =
    let bytes : List ℕ = c.args.bytes.now in
    let next : ℕ = c.in-Some.at + 1 in
    let h = split_at_place (λ b. b == c.args.separator) bytes c.in-Some.at (sym c.in-Some.ensures) in
    rw (take_all (length bytes - next) (drop next bytes) (omega (arith, length-drop next bytes))) h
