-- What words say, whichever the command is: clap takes them and finds it.
use Rattle.std.proofs.Common.{◌≡◌, ◌∙◌, ap, refl, subst, suc, zero, true, false, ℕ, Bool, List, Option, Some, None}
use Rattle.clap.specs.Words.{App, Row, Text, subcommand_of, takes}
use Rattle.requests.specs.declared.conversion.CaptureRequest.{CaptureRequest}
use Rattle.requests.specs.declared.conversion.CaptureRequest.TheVariants.{FromCapture, ToCapture}
use Rattle.requests.specs.declared.decode.DescriptorForm.{DescriptorForm}
use Rattle.requests.specs.declared.replay.QueuePlan.{QueuePlan}
use Rattle.capture.specs.declared.options.ReadOptions.{ReadOptions}
use Rattle.requests.specs.declared.covers.CoverRequest.{CoverRequest}
use Rattle.requests.specs.declared.printing.Printing.{Printing}
use Rattle.settings.specs.declared.config.Config.{Config}
use Rattle.requests.specs.declared.lists.ScheduleRequest.{ScheduleRequest}
use Rattle.command_line.specs.CommandLine.{IsMisuse, IsProgram, SaysForward}
use Rattle.command_line.specs.FileWords.{FileOptions}
use Rattle.command_line.specs.ParsedCommands.{Holds, IsAsked, IsUnshown, Says, ParsedCommand, forward_shows, is_shown, name_of}
use Rattle.requests.specs.Conversions.{may_skip}
use Rattle.requests.specs.Files.{streamed_port}
use Rattle.command_line.specs.ParsedCommands.ParsedCommand.{once, decode, replay, forward, from_capture, to_capture, schedules, cover}
use Rattle.command_line.specs.ParsedCommands.IsUnshown.{is_misuse, asks}
use Rattle.command_line.specs.declared.command.Asked.{Asked}
use Rattle.command_line.specs.declared.command.Asked.TheVariants as asked
use Rattle.command_line.proofs.CaptureWords.{from_found, from_taken, to_found, to_taken}
use Rattle.command_line.proofs.CoverWords.{cover_found, cover_taken}
use Rattle.command_line.proofs.DecodeWords.{decode_found, decode_taken}
use Rattle.command_line.proofs.ForwardWords.{forward_found, forward_taken}
use Rattle.command_line.proofs.OnceWords.{once_found, once_taken}
use Rattle.command_line.proofs.ReplayWords.{replay_found, replay_taken}
use Rattle.command_line.proofs.DriverWords.{lists_found, lists_taken}

-- ---- clap's part

pub taken : (app : App) (words : List Text) (saying : ParsedCommand) → IsProgram app → Says words saying → takes app words ≡ true
taken app words (once digits) program says = once_taken app words digits program says
taken app words (decode form digits) program says = decode_taken app words form digits program says
taken app words (replay plan) program says = replay_taken app words plan program says
taken app words (forward config printing files) program says = forward_taken app words config printing files program says
taken app words (from_capture port queue reading) program says = from_taken app words port queue reading program says
taken app words (to_capture port) program says = to_taken app words port program says
taken app words (schedules request) program says = lists_taken app words request program says
taken app words (cover request) program says = cover_taken app words request program says

pub found : (app : App) (words : List Text) (saying : ParsedCommand) → IsProgram app → Says words saying
    → (rows : List Row) × (subcommand_of app words ≡ Some (name_of saying, rows)) × Holds rows saying
found app words (once digits) program says = once_found app words digits program says
found app words (decode form digits) program says = decode_found app words form digits program says
found app words (replay plan) program says = replay_found app words plan program says
found app words (forward config printing files) program says =
    let all = forward_found app words config printing files program says in (all.0, all.1, (all.2, all.3))
found app words (from_capture port queue reading) program says = from_found app words port queue reading program says
found app words (to_capture port) program says = to_found app words port program says
found app words (schedules request) program says = lists_found app words request program says
found app words (cover request) program says = cover_found app words request program says

-- one case for each command
pub each : (P : ParsedCommand → Type 0) → ((digits : Text) → P (once digits)) → ((form : DescriptorForm) (digits : Text) → P (decode form digits)) → ((plan : QueuePlan) → P (replay plan))
    → ((config : Config) (printing : Printing) (files : FileOptions) → P (forward config printing files)) → ((port queue : ℕ) (reading : ReadOptions) → P (from_capture port queue reading))
    → ((port : ℕ) → P (to_capture port)) → ((request : ScheduleRequest) → P (schedules request)) → ((request : CoverRequest) → P (cover request))
    → (saying : ParsedCommand) → P saying
each P of-once of-decode of-replay of-forward of-from of-to of-schedules of-cover (once digits) = of-once digits
each P of-once of-decode of-replay of-forward of-from of-to of-schedules of-cover (decode form digits) = of-decode form digits
each P of-once of-decode of-replay of-forward of-from of-to of-schedules of-cover (replay plan) = of-replay plan
each P of-once of-decode of-replay of-forward of-from of-to of-schedules of-cover (forward config printing files) = of-forward config printing files
each P of-once of-decode of-replay of-forward of-from of-to of-schedules of-cover (from_capture port queue reading) = of-from port queue reading
each P of-once of-decode of-replay of-forward of-from of-to of-schedules of-cover (to_capture port) = of-to port
each P of-once of-decode of-replay of-forward of-from of-to of-schedules of-cover (schedules request) = of-schedules request
each P of-once of-decode of-replay of-forward of-from of-to of-schedules of-cover (cover request) = of-cover request

-- ---- what is not shown

-- the words ask to forward, with no progress, no rate and no capture on standard output
pub record IsUnseen (words : List Text) (given : Config) (shown : Printing) : Type 0 where
  pub config : Config
  pub printing : Printing
  pub files : FileOptions
  pub says : SaysForward words config printing files
  pub no_progress : shown.progress ≡ false
  pub no_rate : shown.rate ≡ false
  pub no_stream : streamed_port files.wires ≡ None
  pub no_skip : files.reading.skip ≡ false
  pub no_turns : given.turns ≡ 0

record ShowsNothing (progress rate : Bool) (stream : Option ℕ) (skip : Bool) (turns : ℕ) : Type 0 where
  no_progress : progress ≡ false
  no_rate : rate ≡ false
  no_stream : stream ≡ None
  no_skip : skip ≡ false
  no_turns : turns ≡ 0

shows-nothing : (progress rate : Bool) (stream : Option ℕ) (skip : Bool) (turns : ℕ) → forward_shows progress rate stream skip turns ≡ false → ShowsNothing progress rate stream skip turns
shows-nothing true rate stream skip turns e = let bad : ⊥ = cc e in absurd bad
shows-nothing false true stream skip turns e = let bad : ⊥ = cc e in absurd bad
shows-nothing false false (Some port) skip turns e = let bad : ⊥ = cc e in absurd bad
shows-nothing false false None true turns e = let bad : ⊥ = cc e in absurd bad
shows-nothing false false None false (suc n) e = let bad : ⊥ = cc e in absurd bad
shows-nothing false false None false zero e = record { no_progress = refl; no_rate = refl; no_stream = refl; no_skip = refl; no_turns = refl }

unseen : (words : List Text) (config given : Config) (printing shown : Printing) (files : FileOptions) → SaysForward words config printing files → given ≡ config → shown ≡ printing
    → forward_shows printing.progress printing.rate (streamed_port files.wires) files.reading.skip config.turns ≡ false → IsUnseen words given shown
unseen words config given printing shown files says one same dark =
    let no = shows-nothing printing.progress printing.rate (streamed_port files.wires) files.reading.skip config.turns dark in
    record {
      config = config;
      printing = printing;
      files = files;
      says = says;
      no_progress = ap (λ (p : Printing). p.progress) same ∙ no.no_progress;
      no_rate = ap (λ (p : Printing). p.rate) same ∙ no.no_rate;
      no_stream = no.no_stream;
      no_skip = no.no_skip;
      no_turns = ap (λ (c : Config). c.turns) one ∙ no.no_turns;
    }

-- the words say what was asked for, if they are a command line of the program; so a forwarding that is asked for isn't shown, and no
-- lists that cover what a queue can do are asked for
pub unshown-forward : (words : List Text) (a : Asked) (given : Config) (shown : Printing) → a ≡ asked.Forward given shown
    → ((saying : ParsedCommand) → Says words saying → IsAsked saying a) → (IsMisuse words → ⊥) → IsUnshown words → IsUnseen words given shown
unshown-forward words a given shown is said misuse (is_misuse wrong) = absurd (misuse wrong)
unshown-forward words a given shown is said misuse (asks saying says dark) =
    each (λ s. Says words s → IsAsked s (asked.Forward given shown) → is_shown s ≡ false → IsUnseen words given shown) (λ d says is dark. absurd is) (λ f d says is dark. absurd is)
    (λ p says is dark. absurd is) (λ config printing files says is dark. unseen words config given printing shown files says is.0 is.1 dark) (λ p q r says is dark. absurd is)
    (λ p says is dark. absurd is) (λ r says is dark. absurd is) (λ r says is dark. absurd is) saying says (subst (IsAsked saying) is (said saying says)) dark

pub unshown-cover : (words : List Text) (a : Asked) (given : CoverRequest) → a ≡ asked.Cover given
    → ((saying : ParsedCommand) → Says words saying → IsAsked saying a) → (IsMisuse words → ⊥) → IsUnshown words → ⊥
unshown-cover words a given is said misuse (is_misuse wrong) = misuse wrong
unshown-cover words a given is said misuse (asks saying says dark) =
    each (λ s. IsAsked s (asked.Cover given) → is_shown s ≡ false → ⊥) (λ d is dark. is) (λ f d is dark. is) (λ p is dark. is) (λ c p f is dark. is)
    (λ p q r is dark. is) (λ p is dark. is) (λ r is dark. is) (λ r is dark. cc dark) saying (subst (IsAsked saying) is (said saying says)) dark

-- a conversion of a capture that is not shown leaves no records out
unskipped : (given request : CaptureRequest) → given ≡ request → may_skip request ≡ false → may_skip given ≡ false
unskipped given request is dark = ap may_skip is ∙ dark

pub unshown-capture : (words : List Text) (a : Asked) (given : CaptureRequest) → a ≡ asked.Capture given
    → ((saying : ParsedCommand) → Says words saying → IsAsked saying a) → (IsMisuse words → ⊥) → IsUnshown words → may_skip given ≡ false
unshown-capture words a given is said misuse (is_misuse wrong) = absurd (misuse wrong)
unshown-capture words a given is said misuse (asks saying says dark) =
    each (λ s. IsAsked s (asked.Capture given) → is_shown s ≡ false → may_skip given ≡ false) (λ d is dark. absurd is) (λ f d is dark. absurd is) (λ p is dark. absurd is)
    (λ c p f is dark. absurd is) (λ p q r is dark. unskipped given (FromCapture p q r) is dark) (λ p is dark. unskipped given (ToCapture p) is refl)
    (λ r is dark. absurd is) (λ r is dark. absurd is) saying (subst (IsAsked saying) is (said saying says)) dark
