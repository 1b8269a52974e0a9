-- What clap makes of `schedules` with a seed and a number of moves.
use Rattle.std.proofs.Common.{◌∙◌, ap, ap₂, refl, arith, false, ℕ, List, [], ◌∷◌, ◌++◌, codes, Some}
use Rattle.std.specs.Prelude.{All, decimal, not}
use Rattle.std.specs.Fmt.{digits}
use Rattle.clap.specs.Words.{Row, Text}
use Rattle.requests.specs.declared.lists.ScheduleRequest.{ScheduleRequest}
use Rattle.command_line.specs.OptionWords.{SaysNumberBelow, is_head}
use Rattle.command_line.specs.ScheduleWords.{HasSchedules, SaysSchedules, last_words}
use Rattle.command_line.proofs.Options.{Given, words_of}
use Rattle.command_line.proofs.Options.Given.{flag, number}
use Rattle.command_line.proofs.OptionLists.{IsRead, IsSaid, is_said, said_of}
use Rattle.command_line.proofs.ScheduleOptions.{AreWords, expect_read, is_command, is_numeral, last_options, no_option, number_read, numeral_read, queues_read, said_count, said_pairs, said_ring}

-- its options, with what the words say
abbrev pub options : (words : List Text) (request : ScheduleRequest) → SaysSchedules words request → List Given
options words request says =
    flag (codes "cover") false
    ∷ flag (codes "recommended") false
    ∷ number (codes "seed") 4294967295 [] (Some (decimal request.seed))
    ∷ number (codes "moves") 4294967295 [] (Some (decimal request.plan.moves))
    ∷ number (codes "count") 4294967295 (codes "1" ∷ []) (said_of _ _ _ _ _ says.says_count)
    ∷ number (codes "ring") 4294967295 (codes "8" ∷ []) (said_of _ _ _ _ _ says.says_ring)
    ∷ number (codes "pairs") 4294967295 (codes "1" ∷ []) (said_of _ _ _ _ _ says.says_pairs)
    ∷ flag (codes "off") (not request.plan.enabled)
    ∷ flag (codes "head") (is_head request.plan.completion)
    ∷ number (codes "refused") 100 (codes "0" ∷ []) (said_of _ _ _ _ _ says.says_refused)
    ∷ last_options request.expect request.plan.device_only says.explained

said_refused : (words : List Text) (n : ℕ) (says : SaysNumberBelow 101 (codes "--refused") 0 words n) → IsSaid (codes "refused") 100 (codes "0") words n (said_of _ _ _ _ _ says)
unfolding digits
said_refused words n says = is_said (codes "refused") 100 0 (codes "0") words n (omega arith) (omega arith) refl says

pub schedules_words : (words : List Text) (request : ScheduleRequest) (says : SaysSchedules words request) → AreWords words (options words request says)
schedules_words words request says =
    let seed = is_numeral request.seed says.seed_fits in
    let moves = is_numeral request.plan.moves says.moves_fits in
    let count = said_count says.count request.count says.says_count in
    let ring = said_ring says.ring request.plan.ring says.says_ring in
    let pairs = said_pairs says.pairs request.plan.pairs says.says_pairs in
    let refused = said_refused says.refused request.plan.refused says.says_refused in
    let begins : List Text = words_of (flag (codes "off") (not request.plan.enabled)) in
    let head : List Text = words_of (flag (codes "head") (is_head request.plan.completion)) in
    let last : List Text = last_words request.expect request.plan.device_only says.explained in
    let behind = ap (λ (r : List Text). begins ++ (head ++ (r ++ last))) refused.words_are in
    record {
      has = record { command = is_command; among = refl; distinct = refl; valid = λ h. refl };
      lawful = (tt, (tt, (seed, (moves, (count.lawful, (ring.lawful, (pairs.lawful, (tt, (tt, (refused.lawful, (tt, (tt, (tt, (tt, (tt, (tt, (tt, tt)))))))))))))))));
      words_are =
          says.words_are
          ∙ ap (λ (l : List Text). codes "schedules" ∷ codes "--seed" ∷ decimal request.seed ∷ codes "--moves" ∷ decimal request.plan.moves ∷ l)
          (ap₂ (λ (a b : List Text). a ++ b) count.words_are
          (ap₂ (λ (a b : List Text). a ++ b) ring.words_are (ap₂ (λ (a b : List Text). a ++ b) pairs.words_are behind)));
    }

pub schedules_read : (words : List Text) (request : ScheduleRequest) (says : SaysSchedules words request) (rows : List Row) → All (IsRead rows) (options words request says)
    → HasSchedules rows request
schedules_read words request says rows each = record {
  cover = (each 0 no_option (omega arith)).0;
  recommended = (each 1 no_option (omega arith)).0;
  undriven = (each 15 no_option (omega arith)).1;
  driver = says.undriven;
  seed = numeral_read rows (codes "seed") request.seed says.seed_fits (each 2 no_option (omega arith));
  moves = numeral_read rows (codes "moves") request.plan.moves says.moves_fits (each 3 no_option (omega arith));
  count = number_read rows _ _ _ _ _ _ (said_count says.count request.count says.says_count) (each 4 no_option (omega arith));
  queues =
      queues_read rows request.plan (number_read rows _ _ _ _ _ _ (said_ring says.ring request.plan.ring says.says_ring) (each 5 no_option (omega arith)))
      (number_read rows _ _ _ _ _ _ (said_pairs says.pairs request.plan.pairs says.says_pairs) (each 6 no_option (omega arith)))
      (each 7 no_option (omega arith)) (each 8 no_option (omega arith)) (each 14 no_option (omega arith));
  refused = number_read rows _ _ _ _ _ _ (said_refused says.refused request.plan.refused says.says_refused) (each 9 no_option (omega arith));
  expect =
      expect_read rows request.expect (each 10 no_option (omega arith)) (each 11 no_option (omega arith)) (each 12 no_option (omega arith))
      (each 13 no_option (omega arith)) says.expected;
}
