-- The words of each option tell its files, by what is told of one word.
use Rattle.std.proofs.Common.{◌∙◌, map, rules, sym}
use Rattle.requests.specs.Files.{IsSource, IsWireFile, source_word, wire_file_word}
use Rattle.command_line.proofs.Limits.{never-lacks}
use Rattle.command_line.proofs.SaidWords.{each-told, is-none, is-some}
use Rattle.command_line.proofs.files.files_said.Goals as goal

pub returns-in_default : goal.returns-in_default
returns-in_default c files has are =
    is-none _ _ c.in_default.is
    (c.in_ok-sources.ensures (map source_word files.sources) files.sources has.sources
    (each-told _ source_word IsSource files.sources are.sources (λ word found x lawful same is. search rules)))

pub returns-in_default-2 : goal.returns-in_default-2
returns-in_default-2 c files has are =
    is-none _ _ c.in_default-2.is
    (c.in_ok-wires.ensures (map wire_file_word files.wires) files.wires has.wires
    (each-told _ wire_file_word IsWireFile files.wires are.wires (λ word found x lawful same is. search rules)))

pub returns-then-lacks_captures : goal.returns-then-lacks_captures
returns-then-lacks_captures c files has are =
    let sources = is-some _ _ c.in-Some.sources c.in-Some.is
    (c.in_ok-sources.ensures (map source_word files.sources) files.sources has.sources
    (each-told _ source_word IsSource files.sources are.sources (λ word found x lawful same is. search rules))) in
    never-lacks _ files.sources _ files.reading (c.as_slice.ensures.value ∙ sources) (c.reading_in-reading.ensures files.reading has.reading) are.read
    (sym c.lacks_captures.ensures ∙ c.if-lacks_captures.true)

pub returns : goal.returns
returns c files has are = (
  is-some _ _ c.in-Some.sources c.in-Some.is
      (c.in_ok-sources.ensures (map source_word files.sources) files.sources has.sources
      (each-told _ source_word IsSource files.sources are.sources (λ word found x lawful same is. search rules))),
  is-some _ _ c.in-Some-2.wires c.in-Some-2.is
      (c.in_ok-wires.ensures (map wire_file_word files.wires) files.wires has.wires
      (each-told _ wire_file_word IsWireFile files.wires are.wires (λ word found x lawful same is. search rules))),
  c.reading_in-reading.ensures files.reading has.reading,
)
