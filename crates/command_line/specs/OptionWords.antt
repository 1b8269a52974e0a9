-- Commands, options and flags: the clap rule of each, its words, and its values.
use Rattle.std.specs.Prelude.{◌≡◌, ◌⊎◌, ℕ, ◌^◌, ◌<◌, Bool, true, false, if◌then◌else◌, pos, List, [], ◌∷◌, codes, decimal, fold, is_some, not, Option, Some, None}
use Rattle.clap.specs.Words.{App, Row, Rule, Text, new_app, new_rule, one_of, with_rule}
use Rattle.clap.specs.Values.{bool_text}
use Rattle.clap.specs.declared.builder.action.ArgAction.TheVariants.{SetTrue}
use Rattle.clap.specs.declared.builder.value_parser.ValueParser.TheVariants.{Signed}
use Rattle.ring_model.specs.declared.states.Completion.{Completion}
use Rattle.ring_model.specs.declared.states.Completion.TheVariants.{Head, Status}
use Rattle.requests.specs.declared.replay.Pictures.{Pictures}
use Rattle.requests.specs.declared.replay.Pictures.TheVariants.{Never, Each, Last, States, Page}

-- a command of this name with these arguments
abbrev pub with_rules : Text → List Rule → App
with_rules name rules = fold with_rule (new_app name) rules

-- an option
abbrev pub named_rule : Text → Rule
named_rule id = record (new_rule id) { long = Some id }

-- an option with a number up to a given one, and its default texts
abbrev pub bounded_rule : Text → ℕ → List Text → Rule
bounded_rule id most defaults = record (new_rule id) { long = Some id; value_names = 1; parser = Some (Signed (pos 0) (pos most)); defaults = defaults }

-- an option with a number of type `u32`, and its default
abbrev pub number_rule : Text → Text → Rule
number_rule id default = bounded_rule id 4294967295 (default ∷ [])

-- an option with a word
abbrev pub word_rule : Text → Rule
word_rule id = record (named_rule id) { value_names = 1 }

-- a flag
abbrev pub flag_rule : Text → Rule
flag_rule id = record (new_rule id) { long = Some id; action = Some SetTrue }

-- the flag of every command that asks for an explanation of a refusal
abbrev pub explain_rule : Rule
explain_rule = flag_rule (codes "explain")

-- an option whose value may be omitted, and the value that it then has
abbrev pub optional_rule : Text → Text → Rule
optional_rule id value = record (new_rule id) {
  long = Some id;
  value_names = 1;
  range = Some (record { start_inclusive = 0; end_inclusive = 1 });
  missing = value ∷ [];
}

-- the options of a list of moves for its queues
abbrev pub queue_rules : List Rule
queue_rules = number_rule (codes "ring") (codes "8") ∷ number_rule (codes "pairs") (codes "1") ∷ flag_rule (codes "off") ∷ flag_rule (codes "head") ∷ []

-- the value of an option is this number, or the flag has this value
pub record HasNumber (rows : List Row) (id : Text) (n : ℕ) : Type 0 where
  pub value : one_of id rows ≡ Some (decimal n)
  pub fits : n < 2 ^ 32

abbrev pub HasFlag : List Row → Text → Bool → Type 0
HasFlag rows id stands = one_of id rows ≡ Some (bool_text stands)

-- an option has a number below a bound, or is omitted if the number is its default
abbrev pub SaysNumberBelow : ℕ → Text → ℕ → List Text → ℕ → Type 0
SaysNumberBelow bound option default words n = ((words ≡ option ∷ decimal n ∷ []) × (n < bound)) ⊎ ((words ≡ []) × (n ≡ default))

abbrev pub SaysNumber : Text → ℕ → List Text → ℕ → Type 0
SaysNumber = SaysNumberBelow (2 ^ 32)

-- a flag is given or not
abbrev pub flag_words : Text → Bool → List Text
flag_words option stands = if stands then option ∷ [] else []

abbrev pub explain_words : Bool → List Text
explain_words explained = flag_words (codes "--explain") explained

abbrev pub is_head : Completion → Bool
is_head Head = true
is_head Status = false

-- the values of the options of a list of moves for its queues: how many pairs of rings of this length, whether they are
-- enabled at the start, and how a transmit queue reports
pub record HasQueueRows (rows : List Row) (length count : ℕ) (enabled : Bool) (completion : Completion) : Type 0 where
  pub ring : HasNumber rows (codes "ring") length
  pub pairs : HasNumber rows (codes "pairs") count
  pub off : HasFlag rows (codes "off") (not enabled)
  pub head : HasFlag rows (codes "head") (is_head completion)

-- the words of pictures, and the option's value
abbrev pub picture_words : Pictures → List Text
picture_words Never = []
picture_words Each = codes "--picture" ∷ []
picture_words Last = codes "--picture=last" ∷ []
picture_words States = []
picture_words Page = []

abbrev pub picture_value : Pictures → Option Text
picture_value Never = None
picture_value Each = Some (codes "each")
picture_value Last = Some (codes "last")
picture_value States = None
picture_value Page = None

-- what the option `--picture` says of them
abbrev pub said_pictures : Pictures → Pictures
said_pictures pictures = if is_some (picture_value pictures) then pictures else Never

abbrev pub draws_any : Pictures → Bool
draws_any Never = false
draws_any _ = true
