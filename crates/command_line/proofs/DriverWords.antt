-- What clap makes of `schedules --driver` and its options, and of any words that ask for lists that are drawn.
use Rattle.std.proofs.Common.{◌≡◌, ◌≢◌, ◌∙◌, ap, ap₂, sym, subst, refl, arith, inl, inr, Bool, true, false, List, [], ◌∷◌, ◌++◌, codes, slice_index, Some, None}
use Rattle.std.specs.Prelude.{All, decimal, not}
use Rattle.clap.specs.Values.{bool_text}
use Rattle.clap.specs.Words.{App, Row, Text, subcommand_of, takes}
use Rattle.settings.specs.Thresholds.{IsThresholds}
use Rattle.settings.specs.declared.thresholds.Thresholds.{Thresholds}
use Rattle.requests.specs.declared.lists.ScheduleRequest.{ScheduleRequest}
use Rattle.command_line.specs.CommandLine.{IsProgram}
use Rattle.command_line.specs.OptionWords.{HasFlag, is_head}
use Rattle.command_line.specs.ScheduleWords.{HasDriver, HasLists, SaysDriver, SaysLists, last_words}
use Rattle.command_line.proofs.CommandLine.{is_plain}
use Rattle.command_line.proofs.OptionRows.{both-false}
use Rattle.command_line.proofs.Options.{Given}
use Rattle.command_line.proofs.Options.Given.{flag, number, worded}
use Rattle.command_line.proofs.OptionLists.{IsRead, said_of}
use Rattle.command_line.proofs.RecommendedWords.{recommended_read, recommended_words}
use Rattle.command_line.proofs.ScheduleOptions.{AreWords, expect_options, expect_read, is_command, is_numeral, no_option, number_read, numeral_read, said_count, said_pairs, said_ring, words_found, words_taken}
use Rattle.command_line.proofs.ScheduleWords.{schedules_read, schedules_words}

-- its options, with what the words say
abbrev options : (words : List Text) (request : ScheduleRequest) → SaysDriver words request → List Given
options words request says =
    flag (codes "cover") false
    ∷ flag (codes "recommended") false
    ∷ flag (codes "off") false
    ∷ flag (codes "head") false
    ∷ number (codes "refused") 100 (codes "0" ∷ []) None
    ∷ number (codes "seed") 4294967295 [] (Some (decimal request.seed))
    ∷ number (codes "moves") 4294967295 [] (Some (decimal request.plan.moves))
    ∷ worded (codes "driver") (Some says.text)
    ∷ number (codes "count") 4294967295 (codes "1" ∷ []) (said_of _ _ _ _ _ says.says_count)
    ∷ number (codes "ring") 4294967295 (codes "8" ∷ []) (said_of _ _ _ _ _ says.says_ring)
    ∷ number (codes "pairs") 4294967295 (codes "1" ∷ []) (said_of _ _ _ _ _ says.says_pairs)
    ∷ expect_options request.expect (flag (codes "device-only-real") false ∷ flag (codes "explain") says.explained ∷ [])

-- The thresholds begin with `r`.
begins : (text : Text) (t : Thresholds) → IsThresholds text t → slice_index text 0 ≢ 45
begins text t is = subst (λ (l : Text). slice_index l 0 ≢ 45) (sym is.text_is) (λ h. let bad : ⊥ = cc h in bad)

driver_words : (words : List Text) (request : ScheduleRequest) (says : SaysDriver words request) → AreWords words (options words request says)
driver_words words request says =
    let text = is_plain says.text (begins says.text says.thresholds says.is_text) in
    let seed = is_numeral request.seed says.seed_fits in
    let moves = is_numeral request.plan.moves says.moves_fits in
    let count = said_count says.count request.count says.says_count in
    let ring = said_ring says.ring request.plan.ring says.says_ring in
    let pairs = said_pairs says.pairs request.plan.pairs says.says_pairs in
    let last : List Text = last_words request.expect false says.explained in
    record {
      has = record { command = is_command; among = refl; distinct = refl; valid = λ h. refl };
      lawful = (tt, (tt, (tt, (tt, (tt, (seed, (moves, (text, (count.lawful, (ring.lawful, (pairs.lawful, (tt, (tt, (tt, (tt, (tt, (tt, tt)))))))))))))))));
      words_are =
          says.words_are
          ∙ ap (λ (l : List Text). codes "schedules" ∷ codes "--seed" ∷ decimal request.seed ∷ codes "--moves" ∷ decimal request.plan.moves ∷ codes "--driver" ∷ says.text ∷ l)
          (ap₂ (λ (a b : List Text). a ++ b) count.words_are
          (ap₂ (λ (a b : List Text). a ++ b) ring.words_are (ap (λ (l : List Text). l ++ last) pairs.words_are)));
    }

-- a flag that is left out, as the request has it
flag-left : (rows : List Row) (id : Text) (b : Bool) → HasFlag rows id false → b ≡ false → HasFlag rows id b
flag-left rows id b has is = has ∙ ap (λ (v : Bool). Some (bool_text v)) (sym is)

driver_read : (words : List Text) (request : ScheduleRequest) (says : SaysDriver words request) (rows : List Row) → All (IsRead rows) (options words request says) → HasDriver rows request
driver_read words request says rows each = record {
  cover = (each 0 no_option (omega arith)).0;
  recommended = (each 1 no_option (omega arith)).0;
  is_driver = (each 7 no_option (omega arith)).1;
  follows = both-false _ _ (each 2 no_option (omega arith)).1 (both-false _ _ (each 3 no_option (omega arith)).1
      (both-false _ _ (each 4 no_option (omega arith)).1 (each 15 no_option (omega arith)).1));
  thresholds = says.thresholds;
  driven = says.driven;
  text = says.text;
  is_text = says.is_text;
  value = (each 7 no_option (omega arith)).0;
  seed = numeral_read rows (codes "seed") request.seed says.seed_fits (each 5 no_option (omega arith));
  moves = numeral_read rows (codes "moves") request.plan.moves says.moves_fits (each 6 no_option (omega arith));
  count = number_read rows _ _ _ _ _ _ (said_count says.count request.count says.says_count) (each 8 no_option (omega arith));
  queues = record {
    queues = record {
      ring = number_read rows _ _ _ _ _ _ (said_ring says.ring request.plan.ring says.says_ring) (each 9 no_option (omega arith));
      pairs = number_read rows _ _ _ _ _ _ (said_pairs says.pairs request.plan.pairs says.says_pairs) (each 10 no_option (omega arith));
      off = flag-left rows (codes "off") (not request.plan.enabled) (each 2 no_option (omega arith)).0 (ap not says.driven.enabled);
      head = flag-left rows (codes "head") (is_head request.plan.completion) (each 3 no_option (omega arith)).0 (ap is_head says.driven.completion);
    };
    device_only = flag-left rows (codes "device-only-real") request.plan.device_only (each 15 no_option (omega arith)).0 says.driven.device_only;
  };
  expect =
      expect_read rows request.expect (each 11 no_option (omega arith)) (each 12 no_option (omega arith)) (each 13 no_option (omega arith))
      (each 14 no_option (omega arith)) says.expected;
}

-- ---- lists that are drawn, by any of the words

pub lists_taken : (app : App) (words : List Text) (request : ScheduleRequest) → IsProgram app → SaysLists words request → takes app words ≡ true
lists_taken app words request program (inl says) = words_taken app words _ program (schedules_words words request says)
lists_taken app words request program (inr (inl says)) = words_taken app words _ program (recommended_words words request says)
lists_taken app words request program (inr (inr says)) = words_taken app words _ program (driver_words words request says)

pub lists_found : (app : App) (words : List Text) (request : ScheduleRequest) → IsProgram app → SaysLists words request
    → (rows : List Row) × (subcommand_of app words ≡ Some (codes "schedules", rows)) × HasLists rows request
lists_found app words request program (inl says) =
    words_found app words _ (λ (rows : List Row). HasLists rows request) program (schedules_words words request says) (λ rows each. inl (schedules_read words request says rows each))
lists_found app words request program (inr (inl says)) =
    words_found app words _ (λ (rows : List Row). HasLists rows request) program (recommended_words words request says) (λ rows each. inr (inl (recommended_read words request says rows each)))
lists_found app words request program (inr (inr says)) =
    words_found app words _ (λ (rows : List Row). HasLists rows request) program (driver_words words request says) (λ rows each. inr (inr (driver_read words request says rows each)))
