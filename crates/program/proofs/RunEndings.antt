-- From what the words ask for to how the run ends.
use Rattle.std.proofs.Common.{◌≡◌, inl, inr, refl, ℕ, Bool, List, Option, Some, subst}
use Rattle.std.specs.Prelude.{Result, Ok, Err}
use Rattle.std.specs.Io.KnownBytes.{Keeps}
use Rattle.requests.specs.declared.answers.TheConstants.{EXIT_SUCCESS, EXIT_REFUSED}
use Rattle.requests.specs.declared.decode.DescriptorForm.{DescriptorForm}
use Rattle.requests.specs.declared.replay.QueuePlan.{QueuePlan}
use Rattle.requests.specs.declared.request.Request.{Request}
use Rattle.requests.specs.declared.request.Request.TheVariants.{Once, Decode, Replay}
use Rattle.commands.specs.Answers.{Ends, EndsAs, EndsDecode}
use Rattle.requests.specs.Answers.{EndsBy}
use Rattle.commands.specs.Frame.{frame_in}
use Rattle.commands.specs.Replay.{EndsReplay, HasReplayed}
use Rattle.forward_io.proofs.Piping.{kept as capture-kept-by}
use Rattle.forward_io.specs.Meanings.{meant, capture_meant, lines_meant}
use Rattle.requests.specs.declared.conversion.CaptureRequest.{CaptureRequest}
use Rattle.requests.specs.declared.refusal.Refusal.{Refusal}
use Rattle.program.proofs.Endings.{kept as script-kept}
use Rattle.settings.specs.declared.config.Config.{Config}
use Rattle.requests.specs.declared.printing.Printing.{Printing}
use Rattle.capture.specs.declared.options.ReadOptions.{ReadOptions}
use Rattle.forward_io.specs.Intakes.{FrameIntake}
use Rattle.requests.specs.Files.{PortFile, SourceFile}
use Rattle.forward_io.specs.Streams.{Outlet, outlet}
use Rattle.program.specs.RunEnds.{EndsForwarding, EndsSaid, config_for, intake_of}
use Rattle.schedule_command.specs.Lists.{EndsSchedules}
use Rattle.requests.specs.declared.lists.ScheduleRequest.{ScheduleRequest}
use Rattle.schedule_command.specs.Covers.{EndsCover}
use Rattle.requests.specs.declared.covers.CoverRequest.{CoverRequest}
use Rattle.command_line.specs.CommandLine.{IsDecode, IsOnce, IsReplayOf, SaysForward}
use Rattle.clap.specs.Words.{Text}
use Rattle.requests.specs.declared.conversion.CaptureRequest.TheVariants.{FromCapture, ToCapture}
use Rattle.command_line.specs.FileWords.{FileOptions}
use Rattle.command_line.specs.ParsedCommands.{IsAsked, Says, ParsedCommand}
use Rattle.command_line.specs.ParsedCommands.ParsedCommand.{once, decode, replay, forward, from_capture, to_capture, schedules, cover}
use Rattle.command_line.proofs.ParsedCommands.{each}
use Rattle.command_line.specs.declared.command.Asked.TheVariants as asked

pub capture-ends : (given request : CaptureRequest) (bytes : List ℕ) (input : Option (List ℕ)) (status : ℕ) (old new : Option (List ℕ)) → given ≡ request
    → input ≡ Some bytes → ((b : List ℕ) → input ≡ Some b → EndsBy (meant given b) status old new) → EndsBy (meant request bytes) status old new
capture-ends given request bytes input status old new is known ends = subst (λ (r : CaptureRequest). EndsBy (meant r bytes) status old new) is (ends bytes known)

pub capture-kept : (answer : Result (List ℕ) Refusal) (old new : Option (List ℕ)) → Keeps old new → EndsBy answer EXIT_REFUSED old new
capture-kept answer old new keeps = capture-kept-by answer old new keeps

pub once-ends : (request : Request) (digits : List ℕ) (input : Option (List ℕ)) (status : ℕ) (old new : Option (List ℕ)) → IsOnce request digits
    → EndsAs request input status old new → Ends (frame_in digits) status old new
once-ends (Once given) digits input status old new is ends = subst (λ ds. Ends (frame_in ds) status old new) is ends
once-ends (Decode form given) digits input status old new is ends = absurd is
once-ends (Replay plan) digits input status old new is ends = absurd is

pub decode-ends : (request : Request) (form : DescriptorForm) (digits : List ℕ) (input : Option (List ℕ)) (status : ℕ) (old new : Option (List ℕ)) → IsDecode request form digits
    → EndsAs request input status old new → EndsDecode form digits status old new
decode-ends (Once given) form digits input status old new is ends = absurd is
decode-ends (Replay plan) form digits input status old new is ends = absurd is
decode-ends (Decode named given) form digits input status old new is ends =
    subst (λ f. EndsDecode f digits status old new) is.0 (subst (λ ds. EndsDecode named ds status old new) is.1 ends)

pub replay-ends : (request : Request) (plan : QueuePlan) (text : List ℕ) (input : Option (List ℕ)) (status : ℕ) (old new : Option (List ℕ)) → IsReplayOf request plan
    → input ≡ Some text → EndsAs request input status old new → EndsReplay plan text status old new
replay-ends (Once given) plan text input status old new is known ends = absurd is
replay-ends (Decode form given) plan text input status old new is known ends = absurd is
replay-ends (Replay given) plan text input status old new is known ends = subst (λ (p : QueuePlan). EndsReplay p text status old new) is (ends text known)

undone : (plan : QueuePlan) (text : List ℕ) (old new : Option (List ℕ)) → EXIT_REFUSED ≡ EXIT_SUCCESS → HasReplayed plan text old new
undone plan text old new e = let bad : ⊥ = cc e in absurd bad

-- whatever the text is, a refusal that prints nothing ends it
pub replay-kept : (plan : QueuePlan) (text : List ℕ) (old new : Option (List ℕ)) → Keeps old new → EndsReplay plan text EXIT_REFUSED old new
replay-kept plan text old new kept = record { done = undone plan text old new; either = inr refl; faulty = λ k f. (refl, kept); no_queues = λ no. (refl, kept) }

pub forward-ends : (given config : Config) (shown printing : Printing) (wires : List PortFile) (intake : FrameIntake) (input : Option (List ℕ)) (status : ℕ)
    (old new : Option (List ℕ)) → (given ≡ config) × (shown ≡ printing) → EndsForwarding (config_for given shown.quiet wires) (outlet shown wires) intake input status old new
    → EndsForwarding (config_for config printing.quiet wires) (outlet printing wires) intake input status old new
forward-ends given config shown printing wires intake input status old new is ends =
    subst (λ (c : Config). EndsForwarding (config_for c printing.quiet wires) (outlet printing wires) intake input status old new) is.0
    (subst (λ (p : Printing). EndsForwarding (config_for given p.quiet wires) (outlet p wires) intake input status old new) is.1 ends)

-- a refusal that prints nothing ends it, whatever is forwarded
pub forward-kept : (config : Config) (to : Outlet) (intake : FrameIntake) (input old new : Option (List ℕ)) → Keeps old new
    → EndsForwarding config to intake input EXIT_REFUSED old new
forward-kept config to intake input old new keeps = record {
  script = λ none whole text known. script-kept config to.printing text old new keeps;
  captured = λ e. let bad : ⊥ = cc e in absurd bad;
  refused = λ e. inl keeps;
}

-- with other names of the same files, and of the configuration for them
pub forward-of : (config made : Config) (printing : Printing) (held-wires wires : List PortFile) (held intake : FrameIntake) (input : Option (List ℕ)) (status : ℕ)
    (old new : Option (List ℕ)) → made ≡ config_for config printing.quiet held-wires → held-wires ≡ wires → held ≡ intake → EndsForwarding made (outlet printing held-wires) held input status old new
    → EndsForwarding (config_for config printing.quiet wires) (outlet printing wires) intake input status old new
forward-of config made printing held-wires wires held intake input status old new is same-wires same ends =
    subst (λ (i : FrameIntake). EndsForwarding (config_for config printing.quiet wires) (outlet printing wires) i input status old new) same
    (subst (λ (ws : List PortFile). EndsForwarding (config_for config printing.quiet ws) (outlet printing ws) held input status old new) same-wires
    (subst (λ (c : Config). EndsForwarding c (outlet printing held-wires) held input status old new) is ends))

-- an intake, from its parts
pub intake-is : (held sources : List SourceFile) (given reading : ReadOptions) (is_terminal : Bool) → held ≡ sources → given ≡ reading
    → ◌≡◌ {A = FrameIntake} (record { sources = held; reading = given; is_terminal = is_terminal }) (record { sources = sources; reading = reading; is_terminal = is_terminal })
intake-is held sources given reading is_terminal same is = rw (same, is) refl

-- of lists, the same
pub schedules-ends : (given request : ScheduleRequest) (status : ℕ) (old new : Option (List ℕ)) → given ≡ request → EndsSchedules given status old new
    → EndsSchedules request status old new
schedules-ends given request status old new is ends = subst (λ (r : ScheduleRequest). EndsSchedules r status old new) is ends

pub schedules-kept : (request : ScheduleRequest) (old new : Option (List ℕ)) → Keeps old new → EndsSchedules request EXIT_REFUSED old new
schedules-kept request old new keeps = record {
  done = λ e. let bad : ⊥ = cc e in absurd bad;
  either = inr refl;
  no_queues = λ off some. (refl, keeps);
}

pub cover-kept : (request : CoverRequest) (old new : Option (List ℕ)) → EndsCover request EXIT_REFUSED old new
cover-kept request old new = record { done = λ e. let bad : ⊥ = cc e in absurd bad; either = inr refl }

-- ---- from a request to the end of its run

-- a refusal that prints nothing ends each
once-kept : (frame : Result (List ℕ) Refusal) (old new : Option (List ℕ)) → Keeps old new → Ends frame EXIT_REFUSED old new
once-kept (Ok bytes) old new keeps = inr refl
once-kept (Err e) old new keeps = (refl, keeps)

pub kept : (saying : ParsedCommand) (is_terminal : Bool) (input old new : Option (List ℕ)) → Keeps old new → EndsSaid saying is_terminal input EXIT_REFUSED old new
kept (once digits) is_terminal input old new keeps = once-kept (frame_in digits) old new keeps
kept (decode form digits) is_terminal input old new keeps = inr (refl, keeps)
kept (replay plan) is_terminal input old new keeps = λ text known. replay-kept plan text old new keeps
kept (forward config printing files) is_terminal input old new keeps = forward-kept (config_for config printing.quiet files.wires) (outlet printing files.wires) (intake_of files is_terminal) input old new keeps
kept (from_capture port queue reading) is_terminal input old new keeps = λ bytes known. capture-kept (lines_meant port queue reading bytes) old new keeps
kept (to_capture port) is_terminal input old new keeps = λ text known. capture-kept (capture_meant port text) old new keeps
kept (schedules request) is_terminal input old new keeps = schedules-kept request old new keeps
kept (cover request) is_terminal input old new keeps = cover-kept request old new

-- what is asked for ends as it is said to
pub request-ends : (saying : ParsedCommand) (request : Request) (is_terminal : Bool) (input : Option (List ℕ)) (status : ℕ) (old new : Option (List ℕ)) → IsAsked saying (asked.Request request)
    → EndsAs request input status old new → EndsSaid saying is_terminal input status old new
request-ends (once digits) request is_terminal input status old new is ends = once-ends request digits input status old new is ends
request-ends (decode form digits) request is_terminal input status old new is ends = decode-ends request form digits input status old new is ends
request-ends (replay plan) request is_terminal input status old new is ends = λ text known. replay-ends request plan text input status old new is known ends
request-ends (forward config printing files) request is_terminal input status old new is ends = absurd is
request-ends (from_capture port queue reading) request is_terminal input status old new is ends = absurd is
request-ends (to_capture port) request is_terminal input status old new is ends = absurd is
request-ends (schedules request′) request is_terminal input status old new is ends = absurd is
request-ends (cover request′) request is_terminal input status old new is ends = absurd is

pub forward-said : (words : List Text) (saying : ParsedCommand) (given : Config) (shown : Printing) (is_terminal : Bool) (input : Option (List ℕ)) (status : ℕ) (old new : Option (List ℕ))
    → IsAsked saying (asked.Forward given shown) → Says words saying
    → ((config : Config) (printing : Printing) (files : FileOptions) → SaysForward words config printing files → EndsForwarding (config_for given shown.quiet files.wires) (outlet shown files.wires) (intake_of files is_terminal) input status old new)
    → EndsSaid saying is_terminal input status old new
forward-said words saying given shown is_terminal input status old new is says ends =
    each (λ s. IsAsked s (asked.Forward given shown) → Says words s → EndsSaid s is_terminal input status old new) (λ d is says. absurd is) (λ f d is says. absurd is)
    (λ p is says. absurd is)
    (λ config printing files is says. forward-ends given config shown printing files.wires (intake_of files is_terminal) input status old new is (ends config printing files says))
    (λ p q r is says. absurd is) (λ p is says. absurd is) (λ r is says. absurd is) (λ r is says. absurd is) saying is says

pub capture-said : (saying : ParsedCommand) (given : CaptureRequest) (is_terminal : Bool) (input : Option (List ℕ)) (status : ℕ) (old new : Option (List ℕ)) → IsAsked saying (asked.Capture given)
    → ((bytes : List ℕ) → input ≡ Some bytes → EndsBy (meant given bytes) status old new) → EndsSaid saying is_terminal input status old new
capture-said saying given is_terminal input status old new is ends =
    each (λ s. IsAsked s (asked.Capture given) → EndsSaid s is_terminal input status old new) (λ d is. absurd is) (λ f d is. absurd is) (λ p is. absurd is) (λ c p f is. absurd is)
    (λ port queue reading is bytes known. capture-ends given (FromCapture port queue reading) bytes input status old new is known ends)
    (λ port is text known. capture-ends given (ToCapture port) text input status old new is known ends) (λ r is. absurd is) (λ r is. absurd is) saying is

pub schedules-said : (saying : ParsedCommand) (given : ScheduleRequest) (is_terminal : Bool) (input : Option (List ℕ)) (status : ℕ) (old new : Option (List ℕ)) → IsAsked saying (asked.Schedules given)
    → EndsSchedules given status old new → EndsSaid saying is_terminal input status old new
schedules-said saying given is_terminal input status old new is ends =
    each (λ s. IsAsked s (asked.Schedules given) → EndsSaid s is_terminal input status old new) (λ d is. absurd is) (λ f d is. absurd is) (λ p is. absurd is) (λ c p f is. absurd is)
    (λ p q r is. absurd is) (λ p is. absurd is) (λ request is. schedules-ends given request status old new is ends) (λ r is. absurd is) saying is

pub cover-said : (saying : ParsedCommand) (given : CoverRequest) (is_terminal : Bool) (input : Option (List ℕ)) (status : ℕ) (old new : Option (List ℕ)) → IsAsked saying (asked.Cover given)
    → EndsCover given status old new → EndsSaid saying is_terminal input status old new
cover-said saying given is_terminal input status old new is ends =
    each (λ s. IsAsked s (asked.Cover given) → EndsSaid s is_terminal input status old new) (λ d is. absurd is) (λ f d is. absurd is) (λ p is. absurd is) (λ c p f is. absurd is)
    (λ p q r is. absurd is) (λ p is. absurd is) (λ r is. absurd is)
    (λ request is. subst (λ (r : CoverRequest). EndsCover r status old new) is ends) saying is
