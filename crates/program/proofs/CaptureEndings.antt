-- How a forwarding with captures ends, from what it did to the output.
use Rattle.std.proofs.Common.{◌≡◌, ◌∙◌, ap, sym, inl, inr, ℕ, Bool, true, false, nat_lt, List, [], ◌++◌, length, Option, Some, None, Result, Ok, Err, refl, subst}
use Rattle.std.specs.Prelude.{if◌then◌else◌}
use Rattle.std.proofs.lemmas.List.{append-nil}
use Rattle.std.specs.Io.KnownBytes.{Keeps}
use Rattle.requests.specs.declared.answers.TheConstants.{EXIT_SUCCESS, EXIT_REFUSED}
use Rattle.requests.specs.declared.refusal.Refusal.TheVariants as refusal
use Rattle.requests.specs.Answers.{AppendsFirst}
use Rattle.forwarding.specs.declared.report.FlowReport.{FlowReport}
use Rattle.program.specs.Forwards.{AreReports, EndsForward, IsForwarded, IsUnforwarded}
use Rattle.forward_io.specs.Streams.{Outlet, output_bytes}
use Rattle.requests.specs.declared.printing.Printing.{Printing}
use Rattle.program.proofs.Endings.{done-ends, kept, refused-ends}
use Rattle.settings.specs.declared.config.Config.{Config}
use Rattle.forward_io.specs.Refusals.{refused_itself}
use Rattle.requests.specs.Files.{PortFile, SourceFile}
use Rattle.forward_io.specs.declared.captured.refused.FileRefusal.{FileRefusal}
use Rattle.wire_script.specs.Frame.{Frame}
use Rattle.forward_io.specs.declared.captured.refused.RefusalSubject.TheVariants.{Command}
use Rattle.capture.specs.declared.options.ReadOptions.{ReadOptions}
use Rattle.capture.specs.declared.options.Skipped.{Skipped}
use Rattle.refusals.specs.declared.errors.ScriptError.{ScriptError}
use Rattle.refusals.specs.declared.errors.ScriptError.TheVariants.{TooMany}
use Rattle.text_lines.specs.Parts.{lines_of}
use Rattle.wire_script.specs.Script.{script_of}
use Rattle.forward_io.specs.Gathering.{AreGathered}
use Rattle.forward_io.specs.Intakes.{FrameIntake, frame_line, room_after, script_within}
use Rattle.forward_io.specs.Skips.{skipped_objects, skipped_text}
use Rattle.forward_io.specs.Text.{report_text}
use Rattle.forward_io.proofs.Piping.{unchanged}
use Rattle.forward_io.proofs.Scripts.{fitting}
use Rattle.program.specs.CaptureForwards.{EndsRefused, HasNoPage, IsPage, PrintsPage, WithholdsPage}
use Rattle.forward_io.specs.ScriptIntakes.{IsScript}
use Rattle.forward_io.specs.WireFiles.{IsUnpaged}

-- there were reports, and no page of them
pub unpaged : (config : Config) (intake : FrameIntake) (wires : List PortFile) (input : Option (List ℕ)) (e : FileRefusal)
    (script : List Frame) (skipped : List Skipped) (flows : List FlowReport) → IsScript intake input script skipped → AreReports config script flows → IsUnpaged wires e
    → HasNoPage config intake wires input e
unpaged config intake wires input e script skipped flows says reports why =
    inr (inr (record { flows = flows; skipped = skipped; reports = record { script = script; says = says; reports = reports }; why = why }))

-- a script is there, and its forwarding is refused
pub unforwarded : (config : Config) (intake : FrameIntake) (wires : List PortFile) (input : Option (List ℕ)) (e : FileRefusal)
    (script : List Frame) (skipped : List Skipped) → IsScript intake input script skipped → e.place ≡ Command → IsUnforwarded config script e.refusal
    → HasNoPage config intake wires input e
unforwarded config intake wires input e script skipped says place why =
    inr (inl (inr (record { script = script; skipped = skipped; says = says; place = place; why = why })))

-- there is no page, and nothing was printed
pub withheld : (config : Config) (to : Outlet) (intake : FrameIntake) (wires : List PortFile) (input old : Option (List ℕ)) (e : FileRefusal)
    → HasNoPage config intake wires input e → WithholdsPage config to intake wires input e old old
withheld config to intake wires input old e why = inl (why, unchanged old)

-- the page that reports print
pub page-of : (config : Config) (to : Outlet) (intake : FrameIntake) (input : Option (List ℕ)) (script : List Frame) (skipped : List Skipped) (flows : List FlowReport) (page : List ℕ)
    → IsScript intake input script skipped → AreReports config script flows
    → page ≡ output_bytes to.printing to.stream config.pairs flows (skipped_text to.printing.json intake.reading.skip skipped) → IsPage config to intake input page
page-of config to intake input script skipped flows page says reports printed =
    record { flows = flows; skipped = skipped; reports = record { script = script; says = says; reports = reports }; printed = printed }

-- a page of which an output took no more than the first bytes
pub unprinted : (config : Config) (to : Outlet) (intake : FrameIntake) (wires : List PortFile) (input old new : Option (List ℕ)) (e : FileRefusal) (page : List ℕ)
    → IsPage config to intake input page → AppendsFirst old new page → e ≡ refused_itself refusal.Output → WithholdsPage config to intake wires input e old new
unprinted config to intake wires input old new e page is first out = inr (page, is, first, out)

-- the wires and counts, with no capture in their place
abbrev pub text_of : Printing → Outlet
text_of printing = record { printing = printing; stream = None }

-- with no capture there is no frame of one, and nothing was left out
abbrev alone : ReadOptions → Bool → FrameIntake
alone reading is_terminal = record { sources = []; reading = reading; is_terminal = is_terminal }

none-gathered : (reading : ReadOptions) (captured : List Frame) (skipped : List Skipped) → AreGathered reading [] captured skipped → (captured ≡ []) × (skipped ≡ [])
none-gathered reading captured skipped is = (sym is.0, is.1)

-- and a script is that of the text
fits-alone : (room : ℕ) (text : List ℕ) (frames : List Frame) (r : Result (List Frame) ScriptError) → script_of text ≡ r → script_within room text ≡ Ok frames → r ≡ Ok frames
fits-alone room text frames (Err f) says is =
    let bad : ◌≡◌ {A = Result (List Frame) ScriptError} (Err f) (Ok frames) = sym (ap (fitting room text) says) ∙ is in cc bad
fits-alone room text frames (Ok fs) says is = by-size (nat_lt room (length fs)) refl (sym (ap (fitting room text) says) ∙ is)
  where
    by-size : (b : Bool) → nat_lt room (length fs) ≡ b
        → ◌≡◌ {A = Result (List Frame) ScriptError} (if b then Err (TooMany (frame_line 1 room (lines_of text))) else Ok fs) (Ok frames)
        → ◌≡◌ {A = Result (List Frame) ScriptError} (Ok fs) (Ok frames)
    by-size true is bad = cc bad
    by-size false is same = same

of-text : (text : List ℕ) (captured script frames : List Frame) → captured ≡ [] → script_within (room_after captured) text ≡ Ok frames → script ≡ captured ++ frames → script_of text ≡ Ok script
of-text text captured script frames none within same =
    let whole : script ≡ frames = same ∙ ap (λ (l : List Frame). l ++ frames) none in
    fits-alone (room_after captured) text frames (script_of text) refl within ∙ ap (λ (l : List Frame). Ok l) (sym whole)

no-objects : (json skip : Bool) (skipped : List Skipped) → skipped ≡ [] → skipped_text json skip skipped ≡ []
no-objects true true skipped none = ap (skipped_objects 1) none
no-objects true false skipped none = refl
no-objects false skip skipped none = refl

-- so it is a forwarding of the input's script
as-forwarded : (config : Config) (printing : Printing) (reading : ReadOptions) (is_terminal : Bool) (input : Option (List ℕ)) (page : List ℕ)
    → IsPage config (text_of printing) (alone reading is_terminal) input page → IsForwarded config printing input page
as-forwarded config printing reading is_terminal input page is =
    let says = is.reports.says in
    let none = none-gathered reading says.captured is.skipped says.gathered in (
      says.continued.0,
      says.continued.1,
      record {
        flows = is.flows;
        report = record {
          script = is.reports.script;
          says = of-text says.continued.0 says.captured is.reports.script says.continued.2 none.0 says.continued.3 says.continued.4;
          reports = is.reports.reports;
        };
        printed = is.printed
            ∙ (ap (λ (l : List ℕ). report_text printing config.pairs is.flows ++ l) (no-objects printing.json reading.skip is.skipped none.1)
            ∙ append-nil (report_text printing config.pairs is.flows));
      },
    )

-- a page of no capture, and with none on standard output
as-page : (config : Config) (printing : Printing) (stream : Option ℕ) (intake : FrameIntake) (input : Option (List ℕ)) (page : List ℕ) → intake.sources ≡ [] → stream ≡ None
    → IsPage config (record { printing = printing; stream = stream }) intake input page → IsForwarded config printing input page
as-page config printing stream intake input page none text is =
    as-forwarded config printing intake.reading intake.is_terminal input page
    (subst (λ (ss : List SourceFile). IsPage config (text_of printing) (record { sources = ss; reading = intake.reading; is_terminal = intake.is_terminal }) input page) none
    (subst (λ (s : Option ℕ). IsPage config (record { printing = printing; stream = s }) intake input page) text is))

pub script-done : (config : Config) (printing : Printing) (stream : Option ℕ) (intake : FrameIntake) (input old new : Option (List ℕ)) (text : List ℕ) → intake.sources ≡ [] → stream ≡ None
    → PrintsPage config (record { printing = printing; stream = stream }) intake input old new → input ≡ Some text → EndsForward config printing text EXIT_SUCCESS old new
script-done config printing stream intake input old new text none whole prints known =
    done-ends config printing input old new text (prints.0, as-page config printing stream intake input prints.0 none whole prints.1, prints.2) known

pub script-refused : (config : Config) (printing : Printing) (stream : Option ℕ) (intake : FrameIntake) (wires : List PortFile) (input old new : Option (List ℕ)) (e : FileRefusal) (text : List ℕ)
    → intake.sources ≡ [] → stream ≡ None → WithholdsPage config (record { printing = printing; stream = stream }) intake wires input e old new → input ≡ Some text
    → EndsForward config printing text EXIT_REFUSED old new
script-refused config printing stream intake wires input old new e text none whole (inl withheld) known = kept config printing text old new withheld.1
script-refused config printing stream intake wires input old new e text none whole (inr was) known =
    refused-ends config printing input refusal.Output old new text (inr (was.0, as-page config printing stream intake input was.0 none whole was.1, was.2, refl)) known

-- a refusal
pub ends-refused : (config : Config) (to : Outlet) (intake : FrameIntake) (wires : List PortFile) (input old new : Option (List ℕ)) (e : FileRefusal)
    → WithholdsPage config to intake wires input e old new → EndsRefused config to intake input old new
ends-refused config to intake wires input old new e (inl withheld) = inl withheld.1
ends-refused config to intake wires input old new e (inr was) = inr (was.0, was.1, was.2)
