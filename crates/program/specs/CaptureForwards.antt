-- The input, the output and the refusals of `forward` with captures.
use Rattle.std.specs.Prelude.{◌≡◌, ◌⊎◌, ℕ, List, Option}
use Rattle.std.specs.Io.KnownBytes.{Appends, Keeps}
use Rattle.requests.specs.declared.refusal.Refusal.TheVariants as refusal
use Rattle.requests.specs.Answers.{AppendsFirst}
use Rattle.forwarding.specs.declared.report.FlowReport.{FlowReport}
use Rattle.program.specs.Forwards.{AreReports, IsUnforwarded}
use Rattle.forward_io.specs.Streams.{Outlet, output_bytes}
use Rattle.settings.specs.declared.config.Config.{Config}
use Rattle.wire_script.specs.Frame.{Frame}
use Rattle.forward_io.specs.declared.captured.refused.RefusalSubject.TheVariants.{Command}
use Rattle.forward_io.specs.declared.captured.refused.FileRefusal.{FileRefusal}
use Rattle.forward_io.specs.ScriptIntakes.{IsNoScript, IsScript}
use Rattle.forward_io.specs.WireFiles.{IsUnpaged, IsUntargeted}
use Rattle.forward_io.specs.Refusals.{refused_itself}
use Rattle.forward_io.specs.Intakes.{FrameIntake}
use Rattle.forward_io.specs.Skips.{skipped_text}
use Rattle.requests.specs.Files.{PortFile}
use Rattle.capture.specs.declared.options.Skipped.{Skipped}

-- these are the reports of the flows of this script
pub record HasReports (config : Config) (intake : FrameIntake) (input : Option (List ℕ)) (flows : List FlowReport) (skipped : List Skipped) : Type 0 where
  pub script : List Frame
  pub says : IsScript intake input script skipped
  pub reports : AreReports config script flows

-- why there are no reports: there is no script, or its forwarding is refused
pub record IsScriptUnforwarded (config : Config) (intake : FrameIntake) (input : Option (List ℕ)) (e : FileRefusal) : Type 0 where
  pub script : List Frame
  pub skipped : List Skipped
  pub says : IsScript intake input script skipped
  pub place : e.place ≡ Command
  pub why : IsUnforwarded config script e.refusal

abbrev pub HasNoReports : Config → FrameIntake → Option (List ℕ) → FileRefusal → Type 0
HasNoReports config intake input e = IsNoScript intake input e ⊎ IsScriptUnforwarded config intake input e

-- the page is the standard output for these reports
pub record IsPage (config : Config) (to : Outlet) (intake : FrameIntake) (input : Option (List ℕ)) (page : List ℕ) : Type 0 where
  pub flows : List FlowReport
  pub skipped : List Skipped
  pub reports : HasReports config intake input flows skipped
  pub printed : page ≡ output_bytes to.printing to.stream config.pairs flows (skipped_text to.printing.json intake.reading.skip skipped)

-- there are reports, and the page or a file is not written
pub record IsReportLost (config : Config) (intake : FrameIntake) (wires : List PortFile) (input : Option (List ℕ)) (e : FileRefusal) : Type 0 where
  pub flows : List FlowReport
  pub skipped : List Skipped
  pub reports : HasReports config intake input flows skipped
  pub why : IsUnpaged wires e

-- why there is no page: a wire file is refused at the start, there are no reports, or a page or file is not written
abbrev pub HasNoPage : Config → FrameIntake → List PortFile → Option (List ℕ) → FileRefusal → Type 0
HasNoPage config intake wires input e = IsUntargeted wires e ⊎ (HasNoReports config intake input e ⊎ IsReportLost config intake wires input e)

-- the whole page was printed
abbrev pub PrintsPage : Config → Outlet → FrameIntake → Option (List ℕ) → Option (List ℕ) → Option (List ℕ) → Type 0
PrintsPage config to intake input old new = (page : List ℕ) × IsPage config to intake input page × Appends old new page

-- there is no page, and the output is unchanged; or the output failed, and has only the first bytes of the page
abbrev pub WithholdsPage : Config → Outlet → FrameIntake → List PortFile → Option (List ℕ) → FileRefusal → Option (List ℕ) → Option (List ℕ) → Type 0
WithholdsPage config to intake wires input e old new =
    (HasNoPage config intake wires input e × Keeps old new)
    ⊎ ((page : List ℕ) × IsPage config to intake input page × AppendsFirst old new page × (e ≡ refused_itself refusal.Output))

-- the run was refused with nothing printed, or with the first bytes of a page whose output failed
abbrev pub EndsRefused : Config → Outlet → FrameIntake → Option (List ℕ) → Option (List ℕ) → Option (List ℕ) → Type 0
EndsRefused config to intake input old new =
    Keeps old new ⊎ ((page : List ℕ) × IsPage config to intake input page × AppendsFirst old new page)
