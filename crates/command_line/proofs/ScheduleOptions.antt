-- What clap makes of `schedules`, from its options with what the words say of each.
use Rattle.std.proofs.Common.{◌≡◌, ◌∙◌, refl, arith, true, false, ℕ, Bool, List, [], ◌∷◌, codes, slice_index_or, Option, None, Some}
use Rattle.std.specs.Prelude.{◌<◌, ◌^◌, All, decimal, not}
use Rattle.std.specs.Fmt.{digits}
use Rattle.clap.specs.Simple.{Shape, new_shape}
use Rattle.clap.specs.Words.{App, Row, Text, built, subcommand_of, takes}
use Rattle.clap.proofs.OnLiterals.{clap_on_literals}
use Rattle.requests.specs.declared.replay.ReplayOutput.{ReplayOutput}
use Rattle.requests.specs.Lists.{shows_page}
use Rattle.settings.specs.declared.plan.SchedulePlan.{SchedulePlan}
use Rattle.command_line.specs.CommandLine.{Choices, IsProgram, program_app}
use Rattle.command_line.specs.OptionWords.{HasNumber, SaysNumber, is_head}
use Rattle.command_line.specs.ScheduleWords.{HasExpect, HasQueues, IsExpected, expects_json, expects_registers, says_expect}
use Rattle.command_line.proofs.CommandLine.{IsNumber, is_number}
use Rattle.command_line.proofs.Options.{Given}
use Rattle.command_line.proofs.Options.Given.{flag, number, worded}
use Rattle.command_line.proofs.OptionLists.{AreLawful, HasOptions, IsCommand, IsRead, IsSaid, all_words, each_read, is_said, options_hold, options_taken, reads_itself, said_of}

-- `schedules` as clap builds it, which says nothing of the choices of `decode`
abbrev pub shape : Shape
shape = let none : Choices = record { ref_ptr = (0, 0); now = [] } in slice_index_or (built (program_app none none)).subs 6 (new_shape [])

pub is_command : (rings formats : Choices) → IsCommand rings formats (codes "schedules") shape
unfolding clap_on_literals
is_command rings formats = record { taken = λ rest. refl; level = λ rest. refl; met = λ rest. refl; entry = λ rest. refl }

-- ---- options that its forms share

-- the form of the expected output, before other options
abbrev pub expect_options : Option ReplayOutput → List Given → List Given
expect_options expect more =
    flag (codes "expect") (says_expect expect)
    ∷ flag (codes "json") (expects_json expect)
    ∷ flag (codes "registers") (expects_registers expect)
    ∷ flag (codes "page") (shows_page expect)
    ∷ more

-- the same before the last options of lists without a driver
abbrev pub last_options : Option ReplayOutput → Bool → Bool → List Given
last_options expect device_only explained =
    expect_options expect (flag (codes "device-only-real") device_only ∷ worded (codes "driver") None ∷ flag (codes "explain") explained ∷ [])

-- ---- what the words say of a number

pub is_numeral : (n : ℕ) → n < 2 ^ 32 → IsNumber 4294967295 (decimal n)
unfolding digits
is_numeral n fits = is_number 4294967295 n (omega (arith, fits)) fits

pub said_count : (words : List Text) (n : ℕ) (says : SaysNumber (codes "--count") 1 words n) → IsSaid (codes "count") 4294967295 (codes "1") words n (said_of _ _ _ _ _ says)
unfolding digits
said_count words n says = is_said (codes "count") 4294967295 1 (codes "1") words n (omega arith) (omega arith) refl says

pub said_ring : (words : List Text) (n : ℕ) (says : SaysNumber (codes "--ring") 8 words n) → IsSaid (codes "ring") 4294967295 (codes "8") words n (said_of _ _ _ _ _ says)
unfolding digits
said_ring words n says = is_said (codes "ring") 4294967295 8 (codes "8") words n (omega arith) (omega arith) refl says

pub said_pairs : (words : List Text) (n : ℕ) (says : SaysNumber (codes "--pairs") 1 words n) → IsSaid (codes "pairs") 4294967295 (codes "1") words n (said_of _ _ _ _ _ says)
unfolding digits
said_pairs words n says = is_said (codes "pairs") 4294967295 1 (codes "1") words n (omega arith) (omega arith) refl says

-- ---- what clap makes of the words

-- the words are `schedules` and those of its options
pub record AreWords (words : List Text) (gs : List Given) : Type 0 where
  pub has : HasOptions (codes "schedules") shape gs
  pub lawful : AreLawful gs
  pub words_are : words ≡ codes "schedules" ∷ all_words gs

pub words_taken : (app : App) (words : List Text) (gs : List Given) → IsProgram app → AreWords words gs → takes app words ≡ true
words_taken app words gs program are = options_taken app words (codes "schedules") shape gs program are.has are.lawful are.words_are

-- what follows from the values of all options holds of the rows
pub words_found : (app : App) (words : List Text) (gs : List Given) (P : List Row → Type 0) → IsProgram app → AreWords words gs → ((rows : List Row) → All (IsRead rows) gs → P rows)
    → (rows : List Row) × (subcommand_of app words ≡ Some (codes "schedules", rows)) × P rows
words_found app words gs P program are reads =
    let found = options_hold IsRead each_read app words (codes "schedules") shape gs program are.has are.lawful are.words_are in
    (found.0, found.1, reads found.0 found.2)

-- ---- the values of options that its forms share

-- stands for an option behind the last
abbrev pub no_option : Given
no_option = flag [] false

pub numeral_read : (rows : List Row) (id : Text) (n : ℕ) → n < 2 ^ 32 → IsRead rows (number id 4294967295 [] (Some (decimal n))) → HasNumber rows id n
numeral_read rows id n fits read = record { value = read.0 ∙ reads_itself n fits; fits = fits }

pub number_read : (rows : List Row) (id : Text) (most : ℕ) (default : Text) (words : List Text) (n : ℕ) (said : Option Text) → IsSaid id most default words n said
    → IsRead rows (number id most (default ∷ []) said) → HasNumber rows id n
number_read rows id most default words n said is read = record { value = read.0 ∙ is.value; fits = is.fits }

pub expect_read : (rows : List Row) (expect : Option ReplayOutput) → IsRead rows (flag (codes "expect") (says_expect expect)) → IsRead rows (flag (codes "json") (expects_json expect))
    → IsRead rows (flag (codes "registers") (expects_registers expect)) → IsRead rows (flag (codes "page") (shows_page expect)) → IsExpected expect → HasExpect rows expect
expect_read rows expect stands json registers page expected = record { stands = stands.0; json = json.0; registers = registers.0; page = page.0; expected = expected }

pub queues_read : (rows : List Row) (plan : SchedulePlan) → HasNumber rows (codes "ring") plan.ring → HasNumber rows (codes "pairs") plan.pairs
    → IsRead rows (flag (codes "off") (not plan.enabled)) → IsRead rows (flag (codes "head") (is_head plan.completion))
    → IsRead rows (flag (codes "device-only-real") plan.device_only) → HasQueues rows plan
queues_read rows plan ring pairs off head device_only = record { queues = record { ring = ring; pairs = pairs; off = off.0; head = head.0 }; device_only = device_only.0 }
