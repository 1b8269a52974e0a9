-- The program's command line as clap reads it.
use Rattle.std.specs.Prelude.{◌≡◌, ◌≢◌, Bool, true, not, List, [], ◌∷◌, ◌++◌, codes, fold, map, slice_index, Some, All, Result, IfOk, IfErr}
use Rattle.std.specs.Borrow.{Bor}
use Rattle.clap.specs.Words.{App, FailsBy, Kinds, Row, Rule, Text, fault_of, first_of, kind_of, new_app, new_rule, subcommand_of, subcommand_rows_of, takes, with_subcommand}
use Rattle.clap.specs.declared.error.Error.{Error}
use Rattle.clap.specs.declared.parser.matches.ArgMatches.{ArgMatches}
use Rattle.clap.specs.declared.builder.value_parser.ValueParser.TheVariants.{Names}
use Rattle.clap.specs.declared.error.kind.ErrorKind.{ErrorKind}
use Rattle.clap.specs.declared.error.kind.ErrorKind.TheVariants.{DisplayHelp, DisplayVersion, OutOfMemory}
use Rattle.requests.specs.declared.request.Request.{Request}
use Rattle.requests.specs.declared.request.Request.TheVariants.{Once, Decode, Replay}
use Rattle.requests.specs.declared.decode.DescriptorForm.{DescriptorForm}
use Rattle.requests.specs.declared.replay.QueuePlan.{QueuePlan}
use Rattle.requests.specs.Decoding.{ring_word, format_word}
use Rattle.settings.specs.declared.config.Config.{Config}
use Rattle.requests.specs.declared.printing.Printing.{Printing}
use Rattle.requests.specs.Conversions.{IsPlaced}
use Rattle.requests.specs.declared.conversion.CaptureRequest.{CaptureRequest}
use Rattle.command_line.specs.OptionWords.{HasFlag, HasNumber, HasQueueRows, SaysNumber, explain_rule, explain_words, flag_rule, flag_words, is_head, number_rule, optional_rule, picture_words, queue_rules, with_rules}
use Rattle.command_line.specs.ScheduleWords.{schedules_app}
use Rattle.command_line.specs.ShownWords.{HasShown, IsSayable, says_json, says_registers}
use Rattle.requests.specs.Replaying.{is_page}
use Rattle.requests.specs.declared.lists.ScheduleRequest.{ScheduleRequest}
use Rattle.requests.specs.declared.covers.CoverRequest.{CoverRequest}
use Rattle.command_line.specs.FileWords.{AreFiles, FileOptions, file_rule, words_of_files}
use Rattle.command_line.specs.ReadingWords.{limit_rule, skip_rule}
use Rattle.command_line.specs.CaptureWords.{from_capture_app, to_capture_app}
use Rattle.command_line.specs.declared.command.Asked.{Asked}
use Rattle.command_line.specs.declared.command.Asked.TheVariants as asked

-- the argument of `once`
abbrev pub hex_rule : Rule
hex_rule = record (new_rule (codes "hex")) { value_names = 1; required = true }

-- the command `once`
abbrev pub once_app : App
once_app = with_rules (codes "once") (hex_rule ∷ explain_rule ∷ [])

-- the program without its commands: its words begin with a required command
abbrev pub bare_app : App
bare_app = let new = new_app (codes "poll82599") in record new { top = record new.top { has_version = true; no_binary_name = true; subcommand_required = true } }

-- a list of the words that an argument may be
abbrev pub Choices : Type 0
Choices = Bor (List (Bor Text))

-- an argument that is one of them
abbrev pub choice_rule : Text → Choices → Rule
choice_rule id choices = record (new_rule id) { value_names = 1; required = true; parser = Some (Names choices) }

-- the command `decode`
abbrev pub decode_app : Choices → Choices → App
decode_app rings formats = with_rules (codes "decode") (choice_rule (codes "ring") rings ∷ choice_rule (codes "format") formats ∷ hex_rule ∷ explain_rule ∷ [])

-- the command `replay`
abbrev pub replay_app : App
replay_app =
    with_rules (codes "replay") (queue_rules ++ flag_rule (codes "lists") ∷ flag_rule (codes "json") ∷ flag_rule (codes "registers") ∷ optional_rule (codes "picture") (codes "each") ∷ flag_rule (codes "page") ∷ explain_rule ∷ [])

-- the command `forward`: its queues and buffers, its workers, its behaviour on full rings, its reports, its output, and
-- its files
abbrev pub forward_app : App
forward_app = with_rules (codes "forward") (number_rule (codes "pairs") (codes "1")
    ∷ number_rule (codes "ring") (codes "512")
    ∷ number_rule (codes "buffers") (codes "4096")
    ∷ number_rule (codes "bsize") (codes "2048")
    ∷ number_rule (codes "batch") (codes "32")
    ∷ number_rule (codes "rs-every") (codes "32")
    ∷ number_rule (codes "workers") (codes "1")
    ∷ number_rule (codes "turns") (codes "0")
    ∷ number_rule (codes "repeat") (codes "1")
    ∷ flag_rule (codes "drop")
    ∷ flag_rule (codes "no-retry")
    ∷ flag_rule (codes "head")
    ∷ flag_rule (codes "quiet")
    ∷ flag_rule (codes "json")
    ∷ flag_rule (codes "progress")
    ∷ flag_rule (codes "rate")
    ∷ file_rule (codes "capture")
    ∷ skip_rule
    ∷ limit_rule
    ∷ file_rule (codes "wire-capture")
    ∷ explain_rule
    ∷ [])

-- the program with its first commands
abbrev pub beginning_app : Choices → Choices → App
beginning_app rings formats = fold (λ app command. with_subcommand app command.top) bare_app (once_app ∷ decode_app rings formats ∷ replay_app ∷ [])

-- the program with its commands
abbrev pub program_app : Choices → Choices → App
program_app rings formats = fold (λ app command. with_subcommand app command.top) bare_app (once_app
    ∷ decode_app rings formats
    ∷ replay_app
    ∷ forward_app
    ∷ from_capture_app
    ∷ to_capture_app
    ∷ schedules_app
    ∷ [])

-- the command line is made of the choices of `decode`. clap also keeps the address of a list of choices, which may be any address
pub record IsMade (make : Choices → Choices → App) (app : App) : Type 0 where
  pub rings : Choices
  pub formats : Choices
  pub rings_are : map (λ word. word.now) rings.now ≡ codes "rx" ∷ codes "tx" ∷ []
  pub formats_are : map (λ word. word.now) formats.now ≡ codes "read" ∷ codes "back" ∷ []
  pub app_is : app ≡ make rings formats

-- the command line is this one
abbrev pub IsProgram : App → Type 0
IsProgram = IsMade program_app

-- the same for the program with its first commands
abbrev pub IsBeginning : App → Type 0
IsBeginning = IsMade beginning_app

-- what the program's command line makes of words: the rows of a command, or an error of a kind that fits
pub record AreParsed (words : List Text) (result : Result ArgMatches Error) : Type 0 where
  pub app : App
  pub program : IsProgram app
  pub rows : IfOk result (λ m. subcommand_rows_of m ≡ subcommand_of app words)
  pub passes : IfErr result (λ e. takes app words ≡ true → kind_of e ≡ OutOfMemory)
  pub kinds : FailsBy (fault_of app words) result

-- the words are `once` and its argument, which does not begin with a hyphen
pub record SaysOnce (words : List Text) (digits : Text) : Type 0 where
  pub words_are : words ≡ codes "once" ∷ digits ∷ []
  pub no_option : slice_index digits 0 ≢ 45

-- the words are `decode`, those of a form, and digits that do not begin with a hyphen
pub record SaysDecode (words : List Text) (form : DescriptorForm) (digits : Text) : Type 0 where
  pub words_are : words ≡ codes "decode" ∷ ring_word form ∷ format_word form ∷ digits ∷ []
  pub no_option : slice_index digits 0 ≢ 45

-- The words are `replay` and its options in this order: `--off` if the queues begin disabled, `--head` if they report by a
-- head word, `--lists` if each list has new queues, `--json` if objects are printed, `--registers` if registers are shown,
-- and `--picture` or `--picture=last` if queues are drawn, which excludes `--json`; `--page` if the output is a page, which
-- excludes the three before it; and `--explain` if a refusal is explained.
pub record SaysReplay (words : List Text) (plan : QueuePlan) : Type 0 where
  pub ring : List Text
  pub pairs : List Text
  pub explained : Bool
  pub says_ring : SaysNumber (codes "--ring") 8 ring plan.ring
  pub says_pairs : SaysNumber (codes "--pairs") 1 pairs plan.pairs
  pub words_are : words ≡ codes "replay" ∷ (ring ++ (pairs
      ++ (flag_words (codes "--off") (not plan.enabled)
      ++ (flag_words (codes "--head") (is_head plan.completion)
      ++ (flag_words (codes "--lists") plan.lists
      ++ (flag_words (codes "--json") (says_json plan.shown)
      ++ (flag_words (codes "--registers") (says_registers plan.shown)
      ++ (picture_words plan.shown.pictures ++ (flag_words (codes "--page") (is_page plan.shown.pictures) ++ explain_words explained)))))))))
  pub sayable : IsSayable plan.shown

-- the words are `forward` and its options in this order: `--drop` if frames are dropped, `--no-retry` if packets are,
-- `--head` if the transmit queues report by a head word, `--quiet` if no wire is printed, `--json` if the counts are
-- objects, `--progress` if progress is shown, `--rate` if the rate is, and `--explain` if a refusal is explained; then `--capture` for each
-- source, `--skip` if faulty records of captures are left out, `--limit` if their frames are limited, and `--wire-capture` for each wire file;
-- the frames that were sent are kept
pub record SaysForward (words : List Text) (config : Config) (printing : Printing) (files : FileOptions) : Type 0 where
  pub pairs : List Text
  pub ring : List Text
  pub buffers : List Text
  pub bsize : List Text
  pub batch : List Text
  pub rs_every : List Text
  pub workers : List Text
  pub turns : List Text
  pub repeat : List Text
  pub explained : Bool
  pub says_pairs : SaysNumber (codes "--pairs") 1 pairs config.pairs
  pub says_ring : SaysNumber (codes "--ring") 512 ring config.ring
  pub says_buffers : SaysNumber (codes "--buffers") 4096 buffers config.buffers
  pub says_bsize : SaysNumber (codes "--bsize") 2048 bsize config.bsize
  pub says_batch : SaysNumber (codes "--batch") 32 batch config.batch
  pub says_rs_every : SaysNumber (codes "--rs-every") 32 rs_every config.rs_every
  pub says_workers : SaysNumber (codes "--workers") 1 workers config.workers
  pub says_turns : SaysNumber (codes "--turns") 0 turns config.turns
  pub says_repeat : SaysNumber (codes "--repeat") 1 repeat config.repeat
  pub words_are : words ≡ codes "forward" ∷ (pairs ++ (ring ++ (buffers ++ (bsize ++ (batch ++ (rs_every ++ (workers ++ (turns ++ (repeat
      ++ (flag_words (codes "--drop") config.drop_en ++ (flag_words (codes "--no-retry") (not config.retry)
      ++ (flag_words (codes "--head") (is_head config.completion)
      ++ (flag_words (codes "--quiet") printing.quiet
      ++ (flag_words (codes "--json") printing.json
      ++ (flag_words (codes "--progress") printing.progress
      ++ (flag_words (codes "--rate") printing.rate
      ++ (explain_words explained ++ words_of_files files)))))))))))))))))
  pub keeps : config.keep ≡ true
  pub are_files : AreFiles files

-- the values of the arguments
abbrev pub HasOnce : List Row → Text → Type 0
HasOnce rows digits = first_of (codes "hex") rows ≡ Some digits

pub record HasDecode (rows : List Row) (form : DescriptorForm) (digits : Text) : Type 0 where
  pub ring : first_of (codes "ring") rows ≡ Some (ring_word form)
  pub format : first_of (codes "format") rows ≡ Some (format_word form)
  pub hex : first_of (codes "hex") rows ≡ Some digits

pub record HasReplay (rows : List Row) (plan : QueuePlan) : Type 0 where
  pub queues : HasQueueRows rows plan.ring plan.pairs plan.enabled plan.completion
  pub lists : HasFlag rows (codes "lists") plan.lists
  pub shown : HasShown rows plan.shown

pub record HasForward (rows : List Row) (config : Config) : Type 0 where
  pub pairs : HasNumber rows (codes "pairs") config.pairs
  pub ring : HasNumber rows (codes "ring") config.ring
  pub buffers : HasNumber rows (codes "buffers") config.buffers
  pub bsize : HasNumber rows (codes "bsize") config.bsize
  pub batch : HasNumber rows (codes "batch") config.batch
  pub rs_every : HasNumber rows (codes "rs-every") config.rs_every
  pub workers : HasNumber rows (codes "workers") config.workers
  pub turns : HasNumber rows (codes "turns") config.turns
  pub repeat : HasNumber rows (codes "repeat") config.repeat
  pub drop : HasFlag rows (codes "drop") config.drop_en
  pub no_retry : HasFlag rows (codes "no-retry") (not config.retry)
  pub head : HasFlag rows (codes "head") (is_head config.completion)
  pub keeps : config.keep ≡ true

pub record HasPrinting (rows : List Row) (printing : Printing) : Type 0 where
  pub quiet : HasFlag rows (codes "quiet") printing.quiet
  pub json : HasFlag rows (codes "json") printing.json
  pub progress : HasFlag rows (codes "progress") printing.progress
  pub rate : HasFlag rows (codes "rate") printing.rate

-- the request is `once` with these digits
abbrev pub IsOnce : Request → Text → Type 0
IsOnce (Once given) digits = given.now ≡ digits
IsOnce request digits = ⊥

-- the request is `decode` with these digits in this form
abbrev pub IsDecode : Request → DescriptorForm → Text → Type 0
IsDecode (Decode named given) form digits = (named ≡ form) × (given.now ≡ digits)
IsDecode request form digits = ⊥

-- it is `replay` on queues of this plan
abbrev pub IsReplayOf : Request → QueuePlan → Type 0
IsReplayOf (Replay given) plan = given ≡ plan
IsReplayOf request plan = ⊥

-- a property of what the words ask for, by its kind: a request of `commands`, a forwarding, or a request for captures,
-- for drawn lists, or for covering lists
abbrev pub HoldsBy : (Request → Type 0) → (Config → Printing → Type 0) → (CaptureRequest → Type 0) → (ScheduleRequest → Type 0) → (CoverRequest → Type 0) → Asked → Type 0
HoldsBy P F C S V (asked.Request request) = P request
HoldsBy P F C S V (asked.Forward config printing) = F config printing
HoldsBy P F C S V (asked.Capture request) = C request
HoldsBy P F C S V (asked.Schedules request) = S request
HoldsBy P F C S V (asked.Cover request) = V request

-- it is a request for which this holds
abbrev pub IsRequest : (Request → Type 0) → Asked → Type 0
IsRequest P = HoldsBy P (λ config printing. ⊥) (λ request. ⊥) (λ request. ⊥) (λ request. ⊥)

-- it is to forward under this configuration with this printing
abbrev pub IsForward : Asked → Config → Printing → Type 0
IsForward a config printing = HoldsBy (λ request. ⊥) (λ given shown. (given ≡ config) × (shown ≡ printing)) (λ request. ⊥) (λ request. ⊥) (λ request. ⊥) a

-- it is this request of captures
abbrev pub IsCapture : Asked → CaptureRequest → Type 0
IsCapture a request = HoldsBy (λ r. ⊥) (λ config printing. ⊥) (λ given. given ≡ request) (λ r. ⊥) (λ r. ⊥) a

-- it is this request of lists that are drawn
abbrev pub IsSchedules : Asked → ScheduleRequest → Type 0
IsSchedules a request = HoldsBy (λ r. ⊥) (λ config printing. ⊥) (λ r. ⊥) (λ given. given ≡ request) (λ r. ⊥) a

-- it is this request for covering lists
abbrev pub IsCover : Asked → CoverRequest → Type 0
IsCover a request = HoldsBy (λ r. ⊥) (λ config printing. ⊥) (λ r. ⊥) (λ r. ⊥) (λ given. given ≡ request) a

-- a request of captures is valid
abbrev pub CanBeDone : Asked → Type 0
CanBeDone = HoldsBy (λ r. Unit {0}) (λ config printing. Unit {0}) IsPlaced (λ r. Unit {0}) (λ r. Unit {0})

-- a mistake in the words, neither a call for help nor missing memory
pub record IsMistake (kind : ErrorKind) : Type 0 where
  pub no_help : kind ≢ DisplayHelp
  pub no_version : kind ≢ DisplayVersion
  pub no_memory : kind ≢ OutOfMemory

-- there is an error, and it is a mistake
abbrev pub AreMistakes : Kinds → Type 0
AreMistakes [] = ⊥
AreMistakes (kind ∷ kinds) = All IsMistake (kind ∷ kinds)

-- the words are not a command line of the program
abbrev pub IsMisuse : List Text → Type 0
IsMisuse words = (app : App) → IsProgram app → AreMistakes (fault_of app words)
