-- The words of `from-capture` and `to-capture`.
use Rattle.std.specs.Prelude.{◌≡◌, ℕ, ◌<◌, true, pos, List, [], ◌∷◌, ◌++◌, codes, decimal, Some}
use Rattle.clap.specs.Words.{App, Row, Rule, Text, new_rule, one_of}
use Rattle.clap.specs.declared.builder.value_parser.ValueParser.TheVariants.{Signed}
use Rattle.capture.specs.declared.options.ReadOptions.{ReadOptions}
use Rattle.command_line.specs.OptionWords.{explain_rule, flag_words, with_rules}
use Rattle.command_line.specs.ReadingWords.{HasReading, IsLimit, limit_rule, limit_words, skip_rule}
use Rattle.limits.specs.declared.profile.TheConstants.{MOST_PAIRS, PORTS}

-- an argument that is a number up to a given one
abbrev pub place_rule : Text → ℕ → Rule
place_rule id most = record (new_rule id) { value_names = 1; required = true; parser = Some (Signed (pos 0) (pos most)) }

abbrev pub port_rule : Rule
port_rule = place_rule (codes "port") 1

abbrev pub queue_rule : Rule
queue_rule = place_rule (codes "queue") 7

-- the command `from-capture`
abbrev pub from_capture_app : App
from_capture_app = with_rules (codes "from-capture") (port_rule ∷ queue_rule ∷ skip_rule ∷ limit_rule ∷ explain_rule ∷ [])

-- the command `to-capture`
abbrev pub to_capture_app : App
to_capture_app = with_rules (codes "to-capture") (port_rule ∷ explain_rule ∷ [])

-- the words are `from-capture`, `--skip` if faulty records are left out, a port, a queue, and `--limit` with a number if there is one
pub record SaysFromCapture (words : List Text) (port queue : ℕ) (reading : ReadOptions) : Type 0 where
  pub words_are : words ≡ codes "from-capture" ∷ (flag_words (codes "--skip") reading.skip ++ decimal port ∷ decimal queue ∷ limit_words reading.limit)
  pub fits : IsLimit reading.limit
  pub port_is : port < PORTS
  pub queue_is : queue < MOST_PAIRS

-- the words are `to-capture` and a port
pub record SaysToCapture (words : List Text) (port : ℕ) : Type 0 where
  pub words_are : words ≡ codes "to-capture" ∷ decimal port ∷ []
  pub port_is : port < PORTS

-- an argument's value is this port or queue
pub record HasPlace (rows : List Row) (id : Text) (n : ℕ) : Type 0 where
  pub value : one_of id rows ≡ Some (decimal n)
  pub low : n < MOST_PAIRS

-- the values of the arguments
pub record HasFromCapture (rows : List Row) (port queue : ℕ) (reading : ReadOptions) : Type 0 where
  pub has_port : HasPlace rows (codes "port") port
  pub has_queue : HasPlace rows (codes "queue") queue
  pub has_reading : HasReading rows reading
  pub port_is : port < PORTS

pub record HasToCapture (rows : List Row) (port : ℕ) : Type 0 where
  pub has_port : HasPlace rows (codes "port") port
  pub port_is : port < PORTS
