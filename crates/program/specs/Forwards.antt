-- The input, the output and the refusals of `forward`.
use Rattle.std.specs.Prelude.{◌≡◌, ◌⊎◌, ℕ, ◌*◌, ◌<◌, List, length, slice_index_or, Option, Ok, Err, IfSome}
use Rattle.std.specs.Io.KnownBytes.{Appends, Keeps}
use Rattle.limits.specs.declared.profile.TheConstants.{PORTS}
use Rattle.requests.specs.declared.answers.TheConstants.{EXIT_SUCCESS, EXIT_REFUSED}
use Rattle.requests.specs.Answers.{AppendsFirst}
use Rattle.requests.specs.declared.refusal.Refusal.{Refusal}
use Rattle.requests.specs.declared.refusal.Refusal.TheVariants as refusal
use Rattle.flows.specs.Reports.{IsReport}
use Rattle.forwarding.specs.declared.report.FlowReport.{FlowReport}
use Rattle.settings.specs.Configs.{FitsIn}
use Rattle.forwarder.specs.Plans.{plan}
use Rattle.settings.specs.declared.config.Config.{Config}
use Rattle.refusals.specs.declared.errors.ForwardError.{ForwardError}
use Rattle.refusals.specs.declared.errors.ForwardError.TheVariants as forward
use Rattle.wire_script.specs.Frame.{Frame}
use Rattle.wire_script.specs.Script.{script_of}
use Rattle.wire_script.specs.ScriptError.{Fails}
use Rattle.refusals.specs.declared.errors.ScriptError.{ScriptError}
use Rattle.forward_io.specs.Text.{report_text}
use Rattle.requests.specs.declared.printing.Printing.{Printing}

-- these are the reports of the flows of a script that fits the configuration
pub record AreReports (config : Config) (script : List Frame) (flows : List FlowReport) : Type 0 where
  pub fits : FitsIn script config
  pub count : length flows ≡ PORTS * config.pairs
  pub reports : (flow : ℕ) (d : FlowReport) → flow < PORTS * config.pairs → IsReport (plan config script flow) (slice_index_or flows flow d)

-- why there are none: the script does not fit; or it fits, and memory or a thread is missing. The gate never refuses
abbrev pub IsUnrun : Config → List Frame → ForwardError → Type 0
IsUnrun config script forward.Config = ¬ (FitsIn script config)
IsUnrun config script forward.Memory = FitsIn script config
IsUnrun config script forward.Thread = FitsIn script config
IsUnrun config script forward.Gate = ⊥

abbrev pub IsUnforwarded : Config → List Frame → Refusal → Type 0
IsUnforwarded config script e = (why : ForwardError) × (e ≡ refusal.Forward why) × IsUnrun config script why

-- these are the reports of the flows of a text's script
pub record HasReport (config : Config) (text : List ℕ) (flows : List FlowReport) : Type 0 where
  pub script : List Frame
  pub says : script_of text ≡ Ok script
  pub reports : AreReports config script flows

-- the page is the text of a report of it
pub record HasPage (config : Config) (printing : Printing) (text page : List ℕ) : Type 0 where
  pub flows : List FlowReport
  pub report : HasReport config text flows
  pub printed : page ≡ report_text printing config.pairs flows

-- a report of it was printed
pub record HasForwarded (config : Config) (printing : Printing) (text : List ℕ) (old new : Option (List ℕ)) : Type 0 where
  pub flows : List FlowReport
  pub report : HasReport config text flows
  pub printed : Appends old new (report_text printing config.pairs flows)

-- Why a text that was read is refused, the first that applies: its own fault, then a configuration that does not fit,
-- then missing memory or threads
abbrev pub ForwardRefused : Config → List ℕ → Refusal → Type 0
ForwardRefused config text (refusal.Script e) = Fails e (script_of text)
ForwardRefused config text (refusal.Forward why) = (script : List Frame) × (script_of text ≡ Ok script) × IsUnrun config script why
ForwardRefused config text refusal.Memory = (script : List Frame) × (script_of text ≡ Ok script) × FitsIn script config
ForwardRefused config text e = ⊥

-- a text was read, which is the input if the input is known, and the page is the text of a report of it
abbrev pub IsForwarded : Config → Printing → Option (List ℕ) → List ℕ → Type 0
IsForwarded config printing input page = (text : List ℕ) × IfSome input (λ known. text ≡ known) × HasPage config printing text page

-- nothing was read, or the text was refused
abbrev pub RefusesForward : Config → Option (List ℕ) → Refusal → Type 0
RefusesForward config input e =
    (e ≡ refusal.Input) ⊎ ((e ≡ refusal.Memory) ⊎ ((text : List ℕ) × IfSome input (λ known. text ≡ known) × ForwardRefused config text e))

-- the whole page was printed, if the output's bytes are known
abbrev pub PrintsForward : Config → Printing → Option (List ℕ) → Option (List ℕ) → Option (List ℕ) → Type 0
PrintsForward config printing input old new = (page : List ℕ) × IsForwarded config printing input page × Appends old new page

-- it was refused: there is no page, and the output is unchanged; or the output failed, and has only the first bytes of the
-- page
abbrev pub WithholdsForward : Config → Printing → Option (List ℕ) → Refusal → Option (List ℕ) → Option (List ℕ) → Type 0
WithholdsForward config printing input e old new =
    (RefusesForward config input e × Keeps old new)
    ⊎ ((page : List ℕ) × IsForwarded config printing input page × AppendsFirst old new page × (e ≡ refusal.Output))

-- How `forward` ends for this text: it is forwarded and printed, or refused. A refusal prints nothing, or the first bytes
-- of a page of this text. A faulty text and a configuration that
-- does not fit are always refused, with nothing printed
pub record EndsForward (config : Config) (printing : Printing) (text : List ℕ) (status : ℕ) (old new : Option (List ℕ)) : Type 0 where
  pub done : status ≡ EXIT_SUCCESS → HasForwarded config printing text old new
  pub either : (status ≡ EXIT_SUCCESS) ⊎ (status ≡ EXIT_REFUSED)
  pub refused : status ≡ EXIT_REFUSED → Keeps old new ⊎ ((page : List ℕ) × HasPage config printing text page × AppendsFirst old new page)
  pub faulty : (e : ScriptError) → script_of text ≡ Err e → (status ≡ EXIT_REFUSED) × Keeps old new
  pub unfit : (script : List Frame) → script_of text ≡ Ok script → ¬ (FitsIn script config) → (status ≡ EXIT_REFUSED) × Keeps old new
