-- The options `--skip` and `--limit`: how captures are read.
use Rattle.std.specs.Prelude.{◌≡◌, ℕ, ◌^◌, ◌<◌, List, [], ◌∷◌, codes, decimal, Option, Some, None, IfSome, option_map}
use Rattle.clap.specs.Words.{Row, Rule, Text, one_of}
use Rattle.capture.specs.declared.options.ReadOptions.{ReadOptions}
use Rattle.command_line.specs.OptionWords.{HasFlag, flag_rule}
use Rattle.command_line.specs.ScheduleWords.{said_rule}

abbrev pub skip_rule : Rule
skip_rule = flag_rule (codes "skip")

abbrev pub limit_rule : Rule
limit_rule = said_rule (codes "limit")

-- the words of a limit, if there is one
abbrev pub limit_words : Option ℕ → List Text
limit_words None = []
limit_words (Some n) = codes "--limit" ∷ decimal n ∷ []

-- a limit that an option can have
abbrev pub IsLimit : Option ℕ → Type 0
IsLimit limit = IfSome limit (λ n. n < 2 ^ 32)

-- the values of the options
pub record HasReading (rows : List Row) (reading : ReadOptions) : Type 0 where
  pub skip : HasFlag rows (codes "skip") reading.skip
  pub limit : one_of (codes "limit") rows ≡ option_map decimal reading.limit
  pub fits : IsLimit reading.limit
