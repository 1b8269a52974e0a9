-- How commands are built. Each step takes a result that may be an allocation failure.
use Rattle.std.specs.Prelude.{◌≡◌, false, List, fold, map, Result, IsOkAnd}
use Rattle.clap.specs.Words.{App, Rule, app_of, with_rule, with_subcommand}
use Rattle.clap.specs.declared.builder.command.Command.{Command}
use Rattle.clap.specs.declared.builder.command.Command.TheViews.{out-Command}
use Rattle.command_line.specs.CommandLine.{Choices, IsBeginning, bare_app, beginning_app, program_app}
use Rattle.command_line.specs.OptionWords.{with_rules}
use Rattle.command_line.specs.Params.{rule_for}
use Rattle.command_line.specs.declared.building.CommandEntry.{CommandEntry}

-- the command of an entry
abbrev pub entry_app : CommandEntry → App
entry_app entry = with_rules entry.name.now (map rule_for entry.params.now)

-- a program with the commands of entries added
abbrev pub with_entries : App → List CommandEntry → App
with_entries start entries = fold (λ app entry. with_subcommand app (entry_app entry).top) start entries

-- entries of the first commands of the program, and of the others
abbrev pub BeginProgram : List CommandEntry → Type 0
BeginProgram entries = IsBeginning (with_entries bare_app entries)

abbrev pub CompleteProgram : List CommandEntry → Type 0
CompleteProgram entries = (rings formats : Choices) → with_entries (beginning_app rings formats) entries ≡ program_app rings formats

pub record IsJoined (start : App) (entries : List CommandEntry) (command : Command) : Type 0 where
  pub app_is : app_of command ≡ with_entries start entries

-- a command is this one, and has no global option
pub record IsNew (app : App) (command : Command) : Type 0 where
  pub app_is : app_of command ≡ app
  pub local : (out-Command command).has_globals ≡ false

-- a command is another with one more rule, which is not global
pub record IsGrown (rule : Rule) (old new : Command) : Type 0 where
  pub app_is : app_of new ≡ with_rule (app_of old) rule
  pub local : (out-Command new).has_globals ≡ (out-Command old).has_globals

abbrev pub Grows : {E : Type 0} → Rule → Result Command E → Command → Type 0
Grows rule command new = IsOkAnd command (λ old. IsGrown rule old new)

-- a program is another with one more command, which has no global option
abbrev pub Joins : {E F : Type 0} → Result Command E → Result Command F → Command → Type 0
Joins program command joined = IsOkAnd program (λ p. IsOkAnd command (λ c.
    (out-Command c).has_globals ≡ false → app_of joined ≡ with_subcommand (app_of p) (app_of c).top))
