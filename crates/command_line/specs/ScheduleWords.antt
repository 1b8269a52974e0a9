-- The words of `schedules`.
use Rattle.std.specs.Prelude.{◌≡◌, ℕ, ◌⊎◌, ◌^◌, ◌<◌, ◌||◌, ◌&&◌, Bool, true, false, not, List, [], ◌∷◌, ◌++◌, codes, decimal, find, is_some, option_and_then, IsSomeAnd, Option, Some, None, if◌then◌else◌}
use Rattle.std.specs.Str.{bytes_eq}
use Rattle.clap.specs.Words.{App, Row, Rule, Text, first_of}
use Rattle.clap.specs.declared.parser.matches.ValueSource.{ValueSource}
use Rattle.clap.specs.declared.parser.matches.ValueSource.TheVariants.{CommandLine, DefaultValue}
use Rattle.requests.specs.declared.replay.Pictures.TheVariants.{Never, Each, Last, States, Page}
use Rattle.requests.specs.declared.replay.Pictures.{Pictures}
use Rattle.requests.specs.declared.replay.TheConstants.{PAGE}
use Rattle.requests.specs.declared.replay.ReplayOutput.{ReplayOutput}
use Rattle.requests.specs.declared.covers.CoverRequest.{CoverRequest}
use Rattle.settings.specs.declared.plan.SchedulePlan.{SchedulePlan}
use Rattle.ring_model.specs.declared.states.Completion.TheVariants.{Status}
use Rattle.settings.specs.Thresholds.{Fit, IsThresholds}
use Rattle.settings.specs.declared.thresholds.Thresholds.{Thresholds}
use Rattle.requests.specs.Lists.{shows_page}
use Rattle.requests.specs.declared.lists.ScheduleRequest.{ScheduleRequest}
use Rattle.command_line.specs.OptionWords.{HasFlag, HasNumber, HasQueueRows, SaysNumber, SaysNumberBelow, bounded_rule, explain_rule, explain_words, flag_rule, flag_words, is_head, number_rule, queue_rules, with_rules, word_rule}
use Rattle.command_line.specs.ShownWords.{says_json, says_registers}

-- A required number, and a percentage.
abbrev pub said_rule : Text → Rule
said_rule id = bounded_rule id 4294967295 []

abbrev pub share_rule : Text → Rule
share_rule id = bounded_rule id 100 (codes "0" ∷ [])

-- The command `schedules`.
abbrev pub schedules_app : App
schedules_app = with_rules (codes "schedules") (said_rule (codes "seed")
    ∷ said_rule (codes "moves")
    ∷ number_rule (codes "count") (codes "1")
    ∷ queue_rules
    ++ share_rule (codes "refused")
    ∷ flag_rule (codes "expect")
    ∷ flag_rule (codes "json")
    ∷ flag_rule (codes "registers")
    ∷ flag_rule (codes "page")
    ∷ flag_rule (codes "device-only-real")
    ∷ flag_rule (codes "cover")
    ∷ word_rule (codes "driver")
    ∷ flag_rule (codes "recommended")
    ∷ explain_rule
    ∷ [])

-- Whether the expected output is printed as objects, and whether with registers.
abbrev pub expects_json : Option ReplayOutput → Bool
expects_json None = false
expects_json (Some form) = says_json form

abbrev pub expects_registers : Option ReplayOutput → Bool
expects_registers None = false
expects_registers (Some form) = says_registers form

-- Whether the output of `replay` follows each list. A page has it anyway.
abbrev pub says_expect : Option ReplayOutput → Bool
says_expect expect = is_some expect && not (shows_page expect)

-- The expected output has no pictures, or is a page.
abbrev pub IsExpectedBy : Pictures → Bool → Bool → Type 0
IsExpectedBy Never json registers = Unit {0}
IsExpectedBy Each json registers = ⊥
IsExpectedBy Last json registers = ⊥
IsExpectedBy States json registers = ⊥
IsExpectedBy Page json registers = (json ≡ true) × (registers ≡ true)

abbrev pub IsExpected : Option ReplayOutput → Type 0
IsExpected None = Unit {0}
IsExpected (Some form) = IsExpectedBy form.pictures form.json form.registers

-- What is expected for the values of the four flags, if they may stand together.
abbrev pub expect_of : Bool → Bool → Bool → Bool → Option (Option ReplayOutput)
expect_of page stands json registers = if page then (if stands || (json || registers) then None else Some (Some PAGE))
    else (if stands then Some (Some (record { json = json; registers = registers; pictures = Never }))
    else (if json || registers then None else Some None))

-- The expected output has no pictures.
abbrev pub IsUndrawn : Option ReplayOutput → Type 0
IsUndrawn None = Unit {0}
IsUndrawn (Some form) = form.pictures ≡ Never

-- The last words: `--expect` if the output of `replay` follows each list, `--json` if it is printed as objects,
-- `--registers` if registers are shown, `--page` if the output is a page, which excludes the three before it,
-- `--device-only-real` if only moves of silicon are made, and `--explain` if a refusal is explained.
abbrev pub last_words : Option ReplayOutput → Bool → Bool → List Text
last_words expect device_only explained =
    flag_words (codes "--expect") (says_expect expect)
    ++ (flag_words (codes "--json") (expects_json expect)
    ++ (flag_words (codes "--registers") (expects_registers expect)
    ++ (flag_words (codes "--page") (shows_page expect)
    ++ (flag_words (codes "--device-only-real") device_only ++ explain_words explained))))

-- The words are `schedules` and its options in this order, without `--driver`: the seed and the number of moves; `--off` if the queues
-- begin disabled; `--head` if they report by a head word; and the last words.
pub record SaysSchedules (words : List Text) (request : ScheduleRequest) : Type 0 where
  pub count : List Text
  pub ring : List Text
  pub pairs : List Text
  pub refused : List Text
  pub explained : Bool
  pub undriven : request.plan.driver ≡ None
  pub seed_fits : request.seed < 2 ^ 32
  pub moves_fits : request.plan.moves < 2 ^ 32
  pub says_count : SaysNumber (codes "--count") 1 count request.count
  pub says_ring : SaysNumber (codes "--ring") 8 ring request.plan.ring
  pub says_pairs : SaysNumber (codes "--pairs") 1 pairs request.plan.pairs
  pub says_refused : SaysNumberBelow 101 (codes "--refused") 0 refused request.plan.refused
  pub words_are : words ≡ codes "schedules" ∷ codes "--seed" ∷ decimal request.seed ∷ codes "--moves" ∷ decimal request.plan.moves
      ∷ (count ++ (ring ++ (pairs
      ++ (flag_words (codes "--off") (not request.plan.enabled)
      ++ (flag_words (codes "--head") (is_head request.plan.completion)
      ++ (refused ++ last_words request.expect request.plan.device_only explained))))))
  pub expected : IsExpected request.expect

-- The recommended lists, for any queues, without a driver.
pub record IsRecommended (request : ScheduleRequest) : Type 0 where
  pub seed : request.seed ≡ 82599
  pub count : request.count ≡ 4
  pub moves : request.plan.moves ≡ 2000
  pub refused : request.plan.refused ≡ 10
  pub driver : request.plan.driver ≡ None

-- The words are `schedules --recommended` and its options in the same order.
pub record SaysRecommended (words : List Text) (request : ScheduleRequest) : Type 0 where
  pub recommended : IsRecommended request
  pub ring : List Text
  pub pairs : List Text
  pub explained : Bool
  pub says_ring : SaysNumber (codes "--ring") 8 ring request.plan.ring
  pub says_pairs : SaysNumber (codes "--pairs") 1 pairs request.plan.pairs
  pub words_are : words ≡ codes "schedules" ∷ codes "--recommended"
      ∷ (ring ++ (pairs
      ++ (flag_words (codes "--off") (not request.plan.enabled)
      ++ (flag_words (codes "--head") (is_head request.plan.completion) ++ last_words request.expect request.plan.device_only explained))))
  pub expected : IsExpected request.expect

-- The lists of a driver with these thresholds, which fit the rings: the queues begin enabled and report by status words,
-- and every move happens.
pub record IsDriven (thresholds : Thresholds) (request : ScheduleRequest) : Type 0 where
  pub driver : request.plan.driver ≡ Some thresholds
  pub fit : Fit request.plan.ring thresholds
  pub enabled : request.plan.enabled ≡ true
  pub completion : request.plan.completion ≡ Status
  pub refused : request.plan.refused ≡ 0
  pub device_only : request.plan.device_only ≡ false

-- The words are `schedules` with `--driver` and its options in this order: the seed, the number of moves, the thresholds,
-- the queues, and the last words.
pub record SaysDriver (words : List Text) (request : ScheduleRequest) : Type 0 where
  pub thresholds : Thresholds
  pub driven : IsDriven thresholds request
  pub text : Text
  pub is_text : IsThresholds text thresholds
  pub count : List Text
  pub ring : List Text
  pub pairs : List Text
  pub explained : Bool
  pub seed_fits : request.seed < 2 ^ 32
  pub moves_fits : request.plan.moves < 2 ^ 32
  pub says_count : SaysNumber (codes "--count") 1 count request.count
  pub says_ring : SaysNumber (codes "--ring") 8 ring request.plan.ring
  pub says_pairs : SaysNumber (codes "--pairs") 1 pairs request.plan.pairs
  pub words_are : words ≡ codes "schedules" ∷ codes "--seed" ∷ decimal request.seed ∷ codes "--moves" ∷ decimal request.plan.moves
      ∷ codes "--driver" ∷ text ∷ (count ++ (ring ++ (pairs ++ last_words request.expect false explained)))
  pub expected : IsExpected request.expect

-- The words request drawn lists, in one of the three forms.
abbrev pub SaysLists : List Text → ScheduleRequest → Type 0
SaysLists words request = SaysSchedules words request ⊎ (SaysRecommended words request ⊎ SaysDriver words request)

-- The words are `schedules --cover` and its options in this order: `--head` if the transmit queue reports by a head
-- word, and the last words.
pub record SaysCover (words : List Text) (request : CoverRequest) : Type 0 where
  pub explained : Bool
  pub words_are : words ≡ codes "schedules" ∷ codes "--cover"
      ∷ (flag_words (codes "--head") (is_head request.completion) ++ last_words request.expect request.device_only explained)
  pub undrawn : IsUndrawn request.expect

-- The value comes from the words, and not from the default.
abbrev pub by_words : Option ValueSource → Bool
by_words (Some CommandLine) = true
by_words (Some DefaultValue) = false
by_words None = false

abbrev pub is_said : Text → List Row → Bool
is_said id rows = by_words (option_and_then (λ r. r.source) (find (λ r. bytes_eq r.id id) rows))

-- An option is given that determines the number, length or content of lists.
abbrev pub counts : List Row → Bool
counts rows =
    is_said (codes "seed") rows || (is_said (codes "moves") rows || (is_said (codes "count") rows
    || (is_said (codes "refused") rows || is_said (codes "driver") rows)))

-- An option of drawn lists is given.
abbrev pub draws : List Row → Bool
draws rows =
    counts rows || (is_said (codes "ring") rows || (is_said (codes "pairs") rows || (is_said (codes "off") rows || is_said (codes "recommended") rows)))

-- An option is given that a driver cannot follow.
abbrev pub strays : List Row → Bool
strays rows =
    is_said (codes "off") rows || (is_said (codes "head") rows || (is_said (codes "refused") rows || is_said (codes "device-only-real") rows))

-- The values of the arguments.
pub record HasExpect (rows : List Row) (expect : Option ReplayOutput) : Type 0 where
  pub stands : HasFlag rows (codes "expect") (says_expect expect)
  pub json : HasFlag rows (codes "json") (expects_json expect)
  pub registers : HasFlag rows (codes "registers") (expects_registers expect)
  pub page : HasFlag rows (codes "page") (shows_page expect)
  pub expected : IsExpected expect

pub record HasQueues (rows : List Row) (plan : SchedulePlan) : Type 0 where
  pub queues : HasQueueRows rows plan.ring plan.pairs plan.enabled plan.completion
  pub device_only : HasFlag rows (codes "device-only-real") plan.device_only

pub record HasSchedules (rows : List Row) (request : ScheduleRequest) : Type 0 where
  pub cover : HasFlag rows (codes "cover") false
  pub recommended : HasFlag rows (codes "recommended") false
  pub undriven : is_said (codes "driver") rows ≡ false
  pub driver : request.plan.driver ≡ None
  pub seed : HasNumber rows (codes "seed") request.seed
  pub moves : HasNumber rows (codes "moves") request.plan.moves
  pub count : HasNumber rows (codes "count") request.count
  pub queues : HasQueues rows request.plan
  pub refused : HasNumber rows (codes "refused") request.plan.refused
  pub expect : HasExpect rows request.expect

pub record HasRecommended (rows : List Row) (request : ScheduleRequest) : Type 0 where
  pub cover : HasFlag rows (codes "cover") false
  pub recommended : HasFlag rows (codes "recommended") true
  pub is_recommended : IsRecommended request
  pub queues : HasQueues rows request.plan
  pub expect : HasExpect rows request.expect
  pub uncounted : counts rows ≡ false

pub record HasDriver (rows : List Row) (request : ScheduleRequest) : Type 0 where
  pub cover : HasFlag rows (codes "cover") false
  pub recommended : HasFlag rows (codes "recommended") false
  pub is_driver : is_said (codes "driver") rows ≡ true
  pub follows : strays rows ≡ false
  pub thresholds : Thresholds
  pub driven : IsDriven thresholds request
  pub text : Text
  pub is_text : IsThresholds text thresholds
  pub value : first_of (codes "driver") rows ≡ Some text
  pub seed : HasNumber rows (codes "seed") request.seed
  pub moves : HasNumber rows (codes "moves") request.plan.moves
  pub count : HasNumber rows (codes "count") request.count
  pub queues : HasQueues rows request.plan
  pub expect : HasExpect rows request.expect

abbrev pub HasLists : List Row → ScheduleRequest → Type 0
HasLists rows request = HasSchedules rows request ⊎ (HasRecommended rows request ⊎ HasDriver rows request)

-- Whether an option is given that excludes `--driver`.
pub record Excludes (rows : List Row) (excluded : Bool) : Type 0 where
  pub cover : Bool
  pub recommended : Bool
  pub has_cover : HasFlag rows (codes "cover") cover
  pub has_recommended : HasFlag rows (codes "recommended") recommended
  pub any : excluded ≡ (strays rows || (cover || recommended))

-- The text of `--driver`, the ring length, and whether an option is given that excludes it.
pub record HasText (rows : List Row) (text : Text) (n : ℕ) (excluded : Bool) : Type 0 where
  pub value : first_of (codes "driver") rows ≡ Some text
  pub ring : HasNumber rows (codes "ring") n
  pub excludes : Excludes rows excluded

-- The text states no thresholds that fit rings of n descriptors.
abbrev pub FitNone : Text → ℕ → Type 0
FitNone text n = (t : Thresholds) → IsThresholds text t → ¬ Fit n t

-- The thresholds of a request for a driver's lists fit its rings, and no move may be refused.
pub record FollowsDriver (request : ScheduleRequest) : Type 0 where
  pub fit : IsSomeAnd request.plan.driver (Fit request.plan.ring)
  pub refused : request.plan.refused ≡ 0

pub record HasCover (rows : List Row) (request : CoverRequest) : Type 0 where
  pub cover : HasFlag rows (codes "cover") true
  pub head : HasFlag rows (codes "head") (is_head request.completion)
  pub expect : HasExpect rows request.expect
  pub no_page : HasFlag rows (codes "page") false
  pub device_only : HasFlag rows (codes "device-only-real") request.device_only
  pub undrawn : draws rows ≡ false
