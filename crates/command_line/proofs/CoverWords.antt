-- What clap makes of `schedules --cover` and its options.
use Rattle.std.proofs.Common.{◌≡◌, ◌∙◌, refl, ap, sym, subst, arith, Bool, true, false, List, [], ◌∷◌, codes, Some, None}
use Rattle.std.specs.Prelude.{All, Option}
use Rattle.clap.specs.Values.{bool_text}
use Rattle.requests.specs.Replaying.{is_page}
use Rattle.requests.specs.declared.replay.Pictures.{Pictures}
use Rattle.requests.specs.declared.replay.ReplayOutput.{ReplayOutput}
use Rattle.clap.specs.Words.{App, Row, Text, subcommand_of, takes}
use Rattle.requests.specs.declared.covers.CoverRequest.{CoverRequest}
use Rattle.requests.specs.Lists.{shows_page}
use Rattle.command_line.specs.CommandLine.{IsProgram}
use Rattle.command_line.specs.OptionWords.{is_head}
use Rattle.command_line.specs.ScheduleWords.{HasCover, IsExpected, IsExpectedBy, IsUndrawn, SaysCover}
use Rattle.command_line.proofs.OptionRows.{both-false}
use Rattle.command_line.proofs.Options.{Given}
use Rattle.command_line.proofs.Options.Given.{flag, number}
use Rattle.command_line.proofs.OptionLists.{IsRead}
use Rattle.command_line.proofs.ScheduleOptions.{AreWords, expect_read, is_command, last_options, no_option, words_found, words_taken}

-- its options, with what the words say: none of those for drawn lists
abbrev options : CoverRequest → Bool → List Given
options request explained =
    number (codes "seed") 4294967295 [] None
    ∷ number (codes "moves") 4294967295 [] None
    ∷ number (codes "count") 4294967295 (codes "1" ∷ []) None
    ∷ number (codes "ring") 4294967295 (codes "8" ∷ []) None
    ∷ number (codes "pairs") 4294967295 (codes "1" ∷ []) None
    ∷ flag (codes "off") false
    ∷ number (codes "refused") 100 (codes "0" ∷ []) None
    ∷ flag (codes "recommended") false
    ∷ flag (codes "cover") true
    ∷ flag (codes "head") (is_head request.completion)
    ∷ last_options request.expect request.device_only explained

cover_words : (words : List Text) (request : CoverRequest) (says : SaysCover words request) → AreWords words (options request says.explained)
cover_words words request says = record {
  has = record { command = is_command; among = refl; distinct = refl; valid = λ h. refl };
  lawful = (tt, (tt, (tt, (tt, (tt, (tt, (tt, (tt, (tt, (tt, (tt, (tt, (tt, (tt, (tt, (tt, (tt, tt)))))))))))))))));
  words_are = says.words_are;
}

-- what has no picture is no page
no_page-undrawn : (expect : Option ReplayOutput) → IsUndrawn expect → shows_page expect ≡ false
no_page-undrawn None undrawn = refl
no_page-undrawn (Some form) undrawn = ap is_page undrawn

expected-undrawn : (expect : Option ReplayOutput) → IsUndrawn expect → IsExpected expect
expected-undrawn None undrawn = tt
expected-undrawn (Some form) undrawn = subst (λ (p : Pictures). IsExpectedBy p form.json form.registers) (sym undrawn) tt

cover_read : (words : List Text) (request : CoverRequest) (says : SaysCover words request) (rows : List Row) → All (IsRead rows) (options request says.explained) → HasCover rows request
cover_read words request says rows each = record {
  cover = (each 8 no_option (omega arith)).0;
  head = (each 9 no_option (omega arith)).0;
  expect =
      expect_read rows request.expect (each 10 no_option (omega arith)) (each 11 no_option (omega arith)) (each 12 no_option (omega arith))
      (each 13 no_option (omega arith)) (expected-undrawn request.expect says.undrawn);
  no_page = (each 13 no_option (omega arith)).0 ∙ ap (λ (b : Bool). Some (bool_text b)) (no_page-undrawn request.expect says.undrawn);
  device_only = (each 14 no_option (omega arith)).0;
  undrawn = both-false _ _ (both-false _ _ (each 0 no_option (omega arith)).1 (both-false _ _ (each 1 no_option (omega arith)).1
      (both-false _ _ (each 2 no_option (omega arith)).1 (both-false _ _ (each 6 no_option (omega arith)).1 (each 15 no_option (omega arith)).1))))
      (both-false _ _ (each 3 no_option (omega arith)).1 (both-false _ _ (each 4 no_option (omega arith)).1
      (both-false _ _ (each 5 no_option (omega arith)).1 (each 7 no_option (omega arith)).1)));
}

-- ---- what clap makes of them

pub cover_taken : (app : App) (words : List Text) (request : CoverRequest) → IsProgram app → SaysCover words request → takes app words ≡ true
cover_taken app words request program says = words_taken app words _ program (cover_words words request says)

pub cover_found : (app : App) (words : List Text) (request : CoverRequest) → IsProgram app → SaysCover words request
    → (rows : List Row) × (subcommand_of app words ≡ Some (codes "schedules", rows)) × HasCover rows request
cover_found app words request program says =
    words_found app words _ (λ (rows : List Row). HasCover rows request) program (cover_words words request says) (cover_read words request says)
