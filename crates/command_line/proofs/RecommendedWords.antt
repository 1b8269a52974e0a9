-- What clap makes of `schedules --recommended` and its options.
use Rattle.std.proofs.Common.{◌∙◌, ap, ap₂, refl, arith, true, false, List, [], ◌∷◌, ◌++◌, codes, None}
use Rattle.std.specs.Prelude.{All, not}
use Rattle.clap.specs.Words.{Row, Text}
use Rattle.requests.specs.declared.lists.ScheduleRequest.{ScheduleRequest}
use Rattle.command_line.specs.OptionWords.{is_head}
use Rattle.command_line.specs.ScheduleWords.{HasRecommended, SaysRecommended, last_words}
use Rattle.command_line.proofs.OptionRows.{both-false}
use Rattle.command_line.proofs.Options.{Given, words_of}
use Rattle.command_line.proofs.Options.Given.{flag, number}
use Rattle.command_line.proofs.OptionLists.{IsRead, said_of}
use Rattle.command_line.proofs.ScheduleOptions.{AreWords, expect_read, is_command, last_options, no_option, number_read, queues_read, said_pairs, said_ring}

-- its options, with what the words say: none of those for other drawn lists
abbrev pub options : (words : List Text) (request : ScheduleRequest) → SaysRecommended words request → List Given
options words request says =
    number (codes "seed") 4294967295 [] None
    ∷ number (codes "moves") 4294967295 [] None
    ∷ number (codes "count") 4294967295 (codes "1" ∷ []) None
    ∷ number (codes "refused") 100 (codes "0" ∷ []) None
    ∷ flag (codes "cover") false
    ∷ flag (codes "recommended") true
    ∷ number (codes "ring") 4294967295 (codes "8" ∷ []) (said_of _ _ _ _ _ says.says_ring)
    ∷ number (codes "pairs") 4294967295 (codes "1" ∷ []) (said_of _ _ _ _ _ says.says_pairs)
    ∷ flag (codes "off") (not request.plan.enabled)
    ∷ flag (codes "head") (is_head request.plan.completion)
    ∷ last_options request.expect request.plan.device_only says.explained

pub recommended_words : (words : List Text) (request : ScheduleRequest) (says : SaysRecommended words request) → AreWords words (options words request says)
recommended_words words request says =
    let ring = said_ring says.ring request.plan.ring says.says_ring in
    let pairs = said_pairs says.pairs request.plan.pairs says.says_pairs in
    let begins : List Text = words_of (flag (codes "off") (not request.plan.enabled)) in
    let head : List Text = words_of (flag (codes "head") (is_head request.plan.completion)) in
    let behind : List Text = begins ++ (head ++ last_words request.expect request.plan.device_only says.explained) in
    record {
      has = record { command = is_command; among = refl; distinct = refl; valid = λ h. refl };
      lawful = (tt, (tt, (tt, (tt, (tt, (tt, (ring.lawful, (pairs.lawful, (tt, (tt, (tt, (tt, (tt, (tt, (tt, (tt, (tt, tt)))))))))))))))));
      words_are =
          says.words_are
          ∙ ap (λ (l : List Text). codes "schedules" ∷ codes "--recommended" ∷ l)
          (ap₂ (λ (a b : List Text). a ++ b) ring.words_are (ap (λ (l : List Text). l ++ behind) pairs.words_are));
    }

pub recommended_read : (words : List Text) (request : ScheduleRequest) (says : SaysRecommended words request) (rows : List Row) → All (IsRead rows) (options words request says)
    → HasRecommended rows request
recommended_read words request says rows each = record {
  cover = (each 4 no_option (omega arith)).0;
  recommended = (each 5 no_option (omega arith)).0;
  is_recommended = says.recommended;
  queues =
      queues_read rows request.plan (number_read rows _ _ _ _ _ _ (said_ring says.ring request.plan.ring says.says_ring) (each 6 no_option (omega arith)))
      (number_read rows _ _ _ _ _ _ (said_pairs says.pairs request.plan.pairs says.says_pairs) (each 7 no_option (omega arith)))
      (each 8 no_option (omega arith)) (each 9 no_option (omega arith)) (each 14 no_option (omega arith));
  expect =
      expect_read rows request.expect (each 10 no_option (omega arith)) (each 11 no_option (omega arith)) (each 12 no_option (omega arith))
      (each 13 no_option (omega arith)) says.expected;
  uncounted = both-false _ _ (each 0 no_option (omega arith)).1 (both-false _ _ (each 1 no_option (omega arith)).1
      (both-false _ _ (each 2 no_option (omega arith)).1 (both-false _ _ (each 3 no_option (omega arith)).1 (each 15 no_option (omega arith)).1)));
}
