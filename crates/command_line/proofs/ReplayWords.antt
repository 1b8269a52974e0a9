-- What clap makes of `replay` and its options.
use Rattle.std.proofs.Common.{◌≡◌, ◌∙◌, ap, ap₂, refl, arith, ℕ, Bool, true, false, List, [], ◌∷◌, ◌++◌, codes, slice_index_or, Option, Some, None}
use Rattle.std.specs.Prelude.{not}
use Rattle.std.specs.Fmt.{digits}
use Rattle.clap.specs.Simple.{Shape, new_shape}
use Rattle.clap.specs.Words.{App, Row, Text, built, subcommand_of, takes}
use Rattle.clap.proofs.OnLiterals.{clap_on_literals}
use Rattle.ring_model.specs.declared.states.Completion.{Completion}
use Rattle.requests.specs.declared.replay.Pictures.{Pictures}
use Rattle.requests.specs.declared.replay.Pictures.TheVariants.{Never, Each, Last, States, Page}
use Rattle.requests.specs.declared.replay.QueuePlan.{QueuePlan}
use Rattle.requests.specs.Replaying.{is_page}
use Rattle.requests.specs.declared.replay.ReplayOutput.{ReplayOutput}
use Rattle.command_line.specs.CommandLine.{Choices, HasReplay, IsProgram, SaysReplay, program_app}
use Rattle.command_line.specs.OptionWords.{is_head, picture_value, picture_words}
use Rattle.command_line.specs.ShownWords.{says_json, says_registers}
use Rattle.command_line.proofs.Options.{Given, IsLawful, OptionalValue, optional_said, words_of}
use Rattle.command_line.proofs.Options.Given.{flag, number, optional}
use Rattle.command_line.proofs.Options.OptionalValue.{alone, with_word}
use Rattle.command_line.proofs.OptionLists.{AreLawful, HasOptions, IsSaid, IsCommand, all_words, is_said, options_found, options_taken, said_of}

-- `replay` as clap builds it, which says nothing of the choices of `decode`
abbrev shape : Shape
shape = let none : Choices = record { ref_ptr = (0, 0); now = [] } in slice_index_or (built (program_app none none)).subs 2 (new_shape [])

-- what the words say of pictures
abbrev picture_said : Pictures → Option OptionalValue
picture_said Never = None
picture_said Each = Some alone
picture_said Last = Some (with_word (codes "last"))
picture_said States = None
picture_said Page = None

picture_lawful : (pictures : Pictures) → IsLawful (optional (codes "picture") (codes "each") (picture_said pictures))
picture_lawful Never = tt
picture_lawful Each = tt
picture_lawful Last = record { dashes = refl; long = refl }
picture_lawful States = tt
picture_lawful Page = tt

picture_words_are : (pictures : Pictures) → picture_words pictures ≡ words_of (optional (codes "picture") (codes "each") (picture_said pictures))
picture_words_are Never = refl
picture_words_are Each = refl
picture_words_are Last = refl
picture_words_are States = refl
picture_words_are Page = refl

picture_value_is : (pictures : Pictures) → optional_said (codes "each") (picture_said pictures) ≡ picture_value pictures
picture_value_is Never = refl
picture_value_is Each = refl
picture_value_is Last = refl
picture_value_is States = refl
picture_value_is Page = refl

-- ---- its options, with what the words say

abbrev ring_given : (words : List Text) (plan : QueuePlan) → SaysReplay words plan → Given
ring_given words plan says = number (codes "ring") 4294967295 (codes "8" ∷ []) (said_of _ _ _ _ _ says.says_ring)

abbrev pairs_given : (words : List Text) (plan : QueuePlan) → SaysReplay words plan → Given
pairs_given words plan says = number (codes "pairs") 4294967295 (codes "1" ∷ []) (said_of _ _ _ _ _ says.says_pairs)

abbrev options : (words : List Text) (plan : QueuePlan) → SaysReplay words plan → List Given
options words plan says =
    ring_given words plan says
    ∷ pairs_given words plan says
    ∷ flag (codes "off") (not plan.enabled)
    ∷ flag (codes "head") (is_head plan.completion)
    ∷ flag (codes "lists") plan.lists
    ∷ flag (codes "json") (says_json plan.shown)
    ∷ flag (codes "registers") (says_registers plan.shown)
    ∷ optional (codes "picture") (codes "each") (picture_said plan.shown.pictures)
    ∷ flag (codes "page") (is_page plan.shown.pictures)
    ∷ flag (codes "explain") says.explained
    ∷ []

is_command : (rings formats : Choices) → IsCommand rings formats (codes "replay") shape
unfolding clap_on_literals
is_command rings formats = record { taken = λ rest. refl; level = λ rest. refl; met = λ rest. refl; entry = λ rest. refl }

has_options : (words : List Text) (plan : QueuePlan) (says : SaysReplay words plan) → HasOptions (codes "replay") shape (options words plan says)
has_options words plan says = record { command = is_command; among = refl; distinct = refl; valid = λ h. refl }

is_ring : (words : List Text) (plan : QueuePlan) (says : SaysReplay words plan)
    → IsSaid (codes "ring") 4294967295 (codes "8") says.ring plan.ring (said_of _ _ _ _ _ says.says_ring)
unfolding digits
is_ring words plan says = is_said (codes "ring") 4294967295 8 (codes "8") says.ring plan.ring (omega arith) (omega arith) refl says.says_ring

is_pairs : (words : List Text) (plan : QueuePlan) (says : SaysReplay words plan)
    → IsSaid (codes "pairs") 4294967295 (codes "1") says.pairs plan.pairs (said_of _ _ _ _ _ says.says_pairs)
unfolding digits
is_pairs words plan says = is_said (codes "pairs") 4294967295 1 (codes "1") says.pairs plan.pairs (omega arith) (omega arith) refl says.says_pairs

are_lawful : (words : List Text) (plan : QueuePlan) (says : SaysReplay words plan) → AreLawful (options words plan says)
are_lawful words plan says = ((is_ring words plan says).lawful, ((is_pairs words plan says).lawful, (tt, (tt, (tt, (tt, (tt, (picture_lawful plan.shown.pictures, (tt, (tt, tt))))))))))

words_are : (words : List Text) (plan : QueuePlan) (says : SaysReplay words plan) → words ≡ codes "replay" ∷ all_words (options words plan says)
words_are words plan says =
    let last : List Text = words_of (flag (codes "page") (is_page plan.shown.pictures)) ++ words_of (flag (codes "explain") says.explained) in
    let before : List Text → List Text = λ (drawn : List Text). words_of (flag (codes "off") (not plan.enabled))
    ++ (words_of (flag (codes "head") (is_head plan.completion)) ++ (words_of (flag (codes "lists") plan.lists)
    ++ (words_of (flag (codes "json") (says_json plan.shown)) ++ (words_of (flag (codes "registers") (says_registers plan.shown))
    ++ (drawn ++ last))))) in
    let flags : List Text = before (picture_words plan.shown.pictures) in
    says.words_are
    ∙ (ap₂ (λ (a b : List Text). codes "replay" ∷ (a ++ (b ++ flags))) (is_ring words plan says).words_are (is_pairs words plan says).words_are
    ∙ ap (λ (drawn : List Text). codes "replay" ∷ (words_of (ring_given words plan says) ++ (words_of (pairs_given words plan says) ++ before drawn))) (picture_words_are plan.shown.pictures))

-- ---- what clap makes of them

pub replay_taken : (app : App) (words : List Text) (plan : QueuePlan) → IsProgram app → SaysReplay words plan → takes app words ≡ true
replay_taken app words plan program says =
    options_taken app words (codes "replay") shape (options words plan says) program (has_options words plan says) (are_lawful words plan says) (words_are words plan says)

pub replay_found : (app : App) (words : List Text) (plan : QueuePlan) → IsProgram app → SaysReplay words plan
    → (rows : List Row) × (subcommand_of app words ≡ Some (codes "replay", rows)) × HasReplay rows plan
replay_found app words plan program says =
    let found = options_found app words (codes "replay") shape (options words plan says) program (has_options words plan says) (are_lawful words plan says) (words_are words plan says) in
    let none : Given = flag [] false in
    let ring = is_ring words plan says in
    let pairs = is_pairs words plan says in (
      found.0,
      found.1,
      record {
        queues = record {
          ring = record { value = found.2 0 none (omega arith) ∙ ring.value; fits = ring.fits };
          pairs = record { value = found.2 1 none (omega arith) ∙ pairs.value; fits = pairs.fits };
          off = found.2 2 none (omega arith);
          head = found.2 3 none (omega arith);
        };
        lists = found.2 4 none (omega arith);
        shown = record {
          json = found.2 5 none (omega arith);
          registers = found.2 6 none (omega arith);
          picture = found.2 7 none (omega arith) ∙ picture_value_is plan.shown.pictures;
          page = found.2 8 none (omega arith);
          sayable = says.sayable;
        };
      },
    )

-- a plan, from its parts
pub begins_as : (b read : Bool) → read ≡ not b → not read ≡ b
begins_as true read is = ap not is
begins_as false read is = ap not is

pub plan_is : (plan : QueuePlan) (n k : ℕ) (b : Bool) (c : Completion) (l : Bool) (s : ReplayOutput) → k ≡ plan.pairs → n ≡ plan.ring → b ≡ plan.enabled → c ≡ plan.completion → l ≡ plan.lists
    → s ≡ plan.shown → ◌≡◌ {A = QueuePlan} (record { pairs = k; ring = n; enabled = b; completion = c; lists = l; shown = s }) plan
plan_is plan n k b c l s pairs_are ring_is enabled_is completion_is lists_are shown_are =
    rw (pairs_are, ring_is, enabled_is, completion_is, lists_are, shown_are) refl
