-- What follows, step by step, of a command that is built, and of a program.
use Rattle.std.proofs.Common.{inl, ◌≡◌, ◌∙◌, ◌+◌, ◌<◌, ◌≤◌, ap, ap₂, codes, refl, get_or, length, List, [], ◌∷◌, map, ℕ, subst, sym, take, false, true}
use Rattle.std.specs.Prelude.{Result, Ok, Err, IfErr, IfOk, IsErrAnd}
use Rattle.std.proofs.lemmas.List.{map_more, take_all, take_more}
use Rattle.std.proofs.lemmas.List.Sums.{fold_push}
use Rattle.clap.specs.Words.{App, FailsBy, HasMatchesOf, Rule, Text, app_of, fault_of, is_simple_and_free, kind_of, new_app, takes, with_rule, with_subcommand}
use Rattle.clap.specs.declared.error.Error.{Error}
use Rattle.clap.specs.declared.error.kind.ErrorKind.TheVariants.{OutOfMemory}
use Rattle.clap.specs.declared.parser.matches.ArgMatches.{ArgMatches}
use Rattle.clap.specs.declared.builder.command.Command.{Command}
use Rattle.clap.specs.declared.builder.command.Command.TheViews.{out-Command}
use Rattle.command_line.specs.Building.{BeginProgram, CompleteProgram, Grows, IsJoined, IsNew, Joins, entry_app, with_entries}
use Rattle.command_line.proofs.CommandLine.{free, simple}
use Rattle.command_line.specs.CommandLine.{AreParsed, Choices, IsBeginning, IsMade, IsProgram, bare_app, beginning_app, program_app}
use Rattle.command_line.specs.OptionWords.{with_rules}
use Rattle.command_line.specs.Params.{rule_for}
use Rattle.command_line.specs.declared.arguments.Param.{Param}
use Rattle.command_line.specs.declared.building.CommandEntry.{CommandEntry}

-- ---- a command

-- with one argument more, of a list
pub one-more : {E F : Type 0} → (name : Text) (params : List Param) (k : ℕ) (d : Param) (rule : Rule) (command : Result Command E) (next : Result Command F) → k < length params
    → IfOk command (IsNew (with_rules name (map rule_for (take k params)))) → rule ≡ rule_for (get_or params k d) → IfOk next (Grows rule command)
    → IfOk next (IsNew (with_rules name (map rule_for (take (k + 1) params))))
one-more name params k d rule (Ok c) (Ok n) low before is step = record {
  app_is = step.app_is ∙ (ap₂ with_rule before.app_is is ∙ (sym (fold_push with_rule (new_app name) (map rule_for (take k params)) (rule_for (get_or params k d)))
      ∙ sym (ap (with_rules name) (map_more rule_for params k d low))));
  local = step.local ∙ before.local;
}
one-more name params k d rule command (Err e) low before is step = tt
one-more name params k d rule (Err e) (Ok n) low before is step = absurd step

-- at last with all of them
pub all-params : {E : Type 0} → (name : Text) (params : List Param) (k : ℕ) (command : Result Command E) → length params ≤ k
    → IfOk command (IsNew (with_rules name (map rule_for (take k params)))) → IfOk command (IsNew (with_rules name (map rule_for params)))
all-params name params k command end before = subst (λ (ps : List Param). IfOk command (IsNew (with_rules name (map rule_for ps)))) (take_all k params end) before

-- ---- a program

-- a command that is added, where there are both
pub joins : (E F : Type 0) → (program : Result Command E) (command : Result Command F) (p c new : Command) → program ≡ Ok p → command ≡ Ok c
    → ((out-Command c).has_globals ≡ false → app_of new ≡ with_subcommand (app_of p) (app_of c).top) → Joins program command new
joins E F program command p c new is has shape =
    let made : Result Command E = Ok p in
    subst (λ (r : Result Command E). Joins r command new) (sym is) (subst (λ (r : Result Command F). Joins made r new) (sym has) shape)

-- with no command more
pub begun : {E : Type 0} → (start : App) (program : Result Command E) → IfOk program (λ p. app_of p ≡ start) → IfOk program (IsJoined start [])
begun start (Ok p) is = record { app_is = is }
begun start (Err e) is = tt

-- with one more, of a list of entries
pub one-entry : {E F G : Type 0} → (start : App) (entries : List CommandEntry) (k : ℕ) (d : CommandEntry) (program : Result Command E) (command : Result Command F) (next : Result Command G)
    → k < length entries → IfOk program (IsJoined start (take k entries)) → IfOk command (IsNew (entry_app (get_or entries k d))) → IfOk next (Joins program command)
    → IfOk next (IsJoined start (take (k + 1) entries))
one-entry start entries k d (Ok p) (Ok c) (Ok n) low before is joins = record {
  app_is = joins is.local
      ∙ (ap₂ with_subcommand before.app_is (ap (λ (app : App). app.top) is.app_is)
      ∙ (sym (fold_push (λ (app : App) (entry : CommandEntry). with_subcommand app (entry_app entry).top) start (take k entries) (get_or entries k d))
      ∙ sym (ap (with_entries start) (take_more entries k d low))));
}
one-entry start entries k d program command (Err e) low before is joins = tt
one-entry start entries k d (Err e) command (Ok n) low before is joins = absurd joins
one-entry start entries k d (Ok p) (Err e) (Ok n) low before is joins = absurd joins

-- at last with all of them
pub all-entries : {E : Type 0} → (start : App) (entries : List CommandEntry) (k : ℕ) (program : Result Command E) → length entries ≤ k → IfOk program (IsJoined start (take k entries))
    → IfOk program (IsJoined start entries)
all-entries start entries k program end before = subst (λ (es : List CommandEntry). IfOk program (IsJoined start es)) (take_all k entries end) before

-- a program that is made with these choices
pub made : (make : Choices → Choices → App) (app : App) (rings formats : Choices) → app ≡ make rings formats → map (λ word. word.now) rings.now ≡ codes "rx" ∷ codes "tx" ∷ []
    → map (λ word. word.now) formats.now ≡ codes "read" ∷ codes "back" ∷ [] → IsMade make app
made make app rings formats same rings_are formats_are =
    record { rings = rings; formats = formats; rings_are = rings_are; formats_are = formats_are; app_is = same }

-- with its first commands
pub beginning_is : {E : Type 0} → (entries : List CommandEntry) (program : Result Command E) → BeginProgram entries
    → IfOk program (IsJoined bare_app entries) → IfOk program (λ p. IsBeginning (app_of p))
beginning_is entries (Ok p) are is = subst IsBeginning (sym is.app_is) are
beginning_is entries (Err e) are is = tt

-- choices with these words, at any address
abbrev choices : List Text → Choices
choices words = record { ref_ptr = (0, 0); now = map (λ (word : Text). record { ref_ptr = (0, 0); now = word }) words }

-- a program to speak of where none was built
abbrev two_rings : Choices
two_rings = choices (codes "rx" ∷ codes "tx" ∷ [])

abbrev two_formats : Choices
two_formats = choices (codes "read" ∷ codes "back" ∷ [])

some_program : IsProgram (program_app two_rings two_formats)
some_program = made program_app (program_app two_rings two_formats) two_rings two_formats refl refl refl

-- with all its commands
pub program_is : {E F : Type 0} → (entries : List CommandEntry) (begun : Result Command F) (program : Result Command E) → CompleteProgram entries
    → IfOk begun (λ c. IsBeginning (app_of c)) → ((app : App) → IfOk begun (λ c. app_of c ≡ app) → IfOk program (IsJoined app entries))
    → IfOk program (λ p. IsProgram (app_of p))
program_is entries (Ok b) (Ok p) same is joined =
    made program_app (app_of p) is.rings is.formats ((joined (beginning_app is.rings is.formats) is.app_is).app_is ∙ same is.rings is.formats) is.rings_are is.formats_are
program_is entries (Err e) (Ok p) same is joined =
    subst IsProgram (sym ((joined (beginning_app two_rings two_formats) tt).app_is ∙ same two_rings two_formats)) some_program
program_is entries begun (Err e) same is joined = tt

-- ---- parsed words

pub parsed_by : (app : App) (words : List Text) (result : Result ArgMatches Error) → IsProgram app → IfOk result (HasMatchesOf app words)
    → IfErr result (λ e. takes app words ≡ true → kind_of e ≡ OutOfMemory) → (is_simple_and_free app ≡ true → FailsBy (fault_of app words) result) → AreParsed words result
parsed_by app words (Ok m) program matches passes kinds = record {
  app = app;
  program = program;
  rows = (matches (simple app program)).1;
  passes = tt;
  kinds = kinds (free app program);
}
parsed_by app words (Err e) program matches passes kinds = record {
  app = app;
  program = program;
  rows = tt;
  passes = passes;
  kinds = kinds (free app program);
}

-- where there was no memory for the program
pub unbuilt : (words : List Text) (result : Result ArgMatches Error) → IsErrAnd result (λ e. kind_of e ≡ OutOfMemory) → AreParsed words result
unbuilt words (Ok m) none = absurd none
unbuilt words (Err e) none = record {
  app = program_app two_rings two_formats;
  program = some_program;
  rows = tt;
  passes = λ taken. none;
  kinds = inl none;
}
