-- What words say of a limit, and how captures are read.
use Rattle.std.proofs.Common.{◌≡◌, ◌∙◌, ap₂, sym, refl, arith, ℕ, Bool, true, false, List, [], codes, Option, Some, None, option_map}
use Rattle.std.specs.Prelude.{decimal}
use Rattle.capture.specs.declared.options.ReadOptions.{ReadOptions}
use Rattle.requests.specs.Files.{SourceFile}
use Rattle.command_line.specs.FileWords.{lacks_captures}
use Rattle.command_line.specs.ReadingWords.{IsLimit, limit_words}
use Rattle.command_line.proofs.CommandLine.{is_number}
use Rattle.command_line.proofs.Options.{Given, IsLawful, number_said, words_of}
use Rattle.command_line.proofs.Options.Given.{number}
use Rattle.command_line.proofs.OptionLists.{reads_itself}

abbrev pub limit_given : Option ℕ → Given
limit_given limit = number (codes "limit") 4294967295 [] (option_map decimal limit)

pub limit_words_are : (limit : Option ℕ) → limit_words limit ≡ words_of (limit_given limit)
limit_words_are None = refl
limit_words_are (Some n) = refl

pub limit_lawful : (limit : Option ℕ) → IsLimit limit → IsLawful (limit_given limit)
limit_lawful None fits = tt
limit_lawful (Some n) fits = is_number 4294967295 n (omega (arith, fits)) fits

pub limit_value : (limit : Option ℕ) → IsLimit limit → number_said [] (option_map decimal limit) ≡ option_map decimal limit
limit_value None fits = refl
limit_value (Some n) fits = reads_itself n fits

-- options, from their parts
pub reading_is : (reading : ReadOptions) (s : Bool) (l : Option ℕ) → s ≡ reading.skip → l ≡ reading.limit → ◌≡◌ {A = ReadOptions} (record { skip = s; limit = l }) reading
reading_is reading s l skip_is limit_is = rw (skip_is, limit_is) refl

-- files with captures to read, where there are none
pub never-lacks : (held sources : List SourceFile) (given reading : ReadOptions) → held ≡ sources → given ≡ reading → lacks_captures sources reading ≡ false
    → lacks_captures held given ≡ true → ⊥
never-lacks held sources given reading same is read lacks =
    let no : true ≡ false = sym lacks ∙ (ap₂ lacks_captures same is ∙ read) in cc no
