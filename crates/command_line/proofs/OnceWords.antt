-- What clap makes of `once` and an argument.
use Rattle.std.proofs.Common.{◌≡◌, ◌≢◌, ◌∙◌, ap, refl, ℕ, true, false, List, [], ◌∷◌, ◌==◌, codes, slice_index, Option, Some, option_map}
use Rattle.clap.specs.Words.{App, Row, Text, first_of, subcommand_of, takes}
use Rattle.clap.proofs.OnLiterals.{clap_on_literals}
use Rattle.command_line.specs.CommandLine.{Choices, HasOnce, IsProgram, SaysOnce, program_app}
use Rattle.command_line.proofs.CommandLine.{not_hyphen, rows_in}

abbrev once_words : Text → List Text
once_words digits = codes "once" ∷ digits ∷ []

takes_plain : (rings formats : Choices) (x : ℕ) (xs : List ℕ) → (x == 45) ≡ false → takes (program_app rings formats) (once_words (x ∷ xs)) ≡ true
unfolding clap_on_literals
takes_plain rings formats x xs plain = simp plain refl

takes_once : (rings formats : Choices) (digits : Text) → slice_index digits 0 ≢ 45 → takes (program_app rings formats) (once_words digits) ≡ true
unfolding clap_on_literals
takes_once rings formats [] other = refl
takes_once rings formats (x ∷ xs) other = takes_plain rings formats x xs (not_hyphen x xs other)

abbrev hex_in : Option (Text × List Row) → Option (Text × Option Text)
hex_in = option_map (λ p. (p.0, first_of (codes "hex") p.1))

hex_of_plain : (rings formats : Choices) (x : ℕ) (xs : List ℕ) → (x == 45) ≡ false
    → hex_in (subcommand_of (program_app rings formats) (once_words (x ∷ xs))) ≡ Some (codes "once", Some (x ∷ xs))
unfolding clap_on_literals
hex_of_plain rings formats x xs plain = simp plain refl

hex_of_once : (rings formats : Choices) (digits : Text) → slice_index digits 0 ≢ 45
    → hex_in (subcommand_of (program_app rings formats) (once_words digits)) ≡ Some (codes "once", Some digits)
unfolding clap_on_literals
hex_of_once rings formats [] other = refl
hex_of_once rings formats (x ∷ xs) other = hex_of_plain rings formats x xs (not_hyphen x xs other)

pub once_taken : (app : App) (words : List Text) (digits : Text) → IsProgram app → SaysOnce words digits → takes app words ≡ true
once_taken app words digits program says =
    ap (λ (a : App). takes a words) program.app_is ∙ (ap (takes (program_app program.rings program.formats)) says.words_are
    ∙ takes_once program.rings program.formats digits says.no_option)

pub once_found : (app : App) (words : List Text) (digits : Text) → IsProgram app → SaysOnce words digits
    → (rows : List Row) × (subcommand_of app words ≡ Some (codes "once", rows)) × HasOnce rows digits
once_found app words digits program says =
    let same = ap (λ (a : App). subcommand_of a words) program.app_is ∙ ap (subcommand_of (program_app program.rings program.formats)) says.words_are in
    rows_in (first_of (codes "hex")) (subcommand_of app words) (codes "once") (Some digits)
    (ap hex_in same ∙ hex_of_once program.rings program.formats digits says.no_option)
