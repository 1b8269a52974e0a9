-- How a forwarding ends, from what it did to the output.
use Rattle.std.proofs.Common.{◌≡◌, inl, inr, ℕ, List, Option, Some, refl, subst}
use Rattle.std.specs.Prelude.{Ok, Err}
use Rattle.std.specs.Io.KnownBytes.{Appends, Keeps}
use Rattle.requests.specs.declared.answers.TheConstants.{EXIT_SUCCESS, EXIT_REFUSED}
use Rattle.requests.specs.Answers.{AppendsFirst}
use Rattle.requests.specs.declared.refusal.Refusal.{Refusal}
use Rattle.forwarding.specs.declared.report.FlowReport.{FlowReport}
use Rattle.settings.specs.Configs.{FitsIn}
use Rattle.settings.specs.declared.config.Config.{Config}
use Rattle.wire_script.specs.Frame.{Frame}
use Rattle.wire_script.specs.Script.{script_of}
use Rattle.refusals.specs.declared.errors.ScriptError.{ScriptError}
use Rattle.requests.specs.declared.printing.Printing.{Printing}
use Rattle.program.specs.Forwards.{AreReports, EndsForward, HasForwarded, HasPage, HasReport, IsForwarded, PrintsForward, WithholdsForward}
use Rattle.forward_io.specs.Text.{report_text}

-- the page that the reports of a text's script print
pub page-of : (config : Config) (printing : Printing) (text page : List ℕ) (script : List Frame) (flows : List FlowReport) → script_of text ≡ Ok script
    → AreReports config script flows → page ≡ report_text printing config.pairs flows → HasPage config printing text page
page-of config printing text page script flows says reports printed =
    record { flows = flows; report = record { script = script; says = says; reports = reports }; printed = printed }

-- a text that was forwarded has no fault
no-fault : (config : Config) (text : List ℕ) (flows : List FlowReport) (e : ScriptError) → HasReport config text flows → script_of text ≡ Err e → ⊥
no-fault config text flows e report bad = let says = report.says in cc

-- and fits
no-misfit : (config : Config) (text : List ℕ) (flows : List FlowReport) (other : List Frame) → HasReport config text flows → script_of text ≡ Ok other
    → ¬ (FitsIn other config) → ⊥
no-misfit config text flows other report says not =
    let same : report.script ≡ other = (let mine = report.says in cc) in not (subst (λ (s : List Frame). FitsIn s config) same report.reports.fits)

-- refused is not done
undone : (config : Config) (printing : Printing) (text : List ℕ) (old new : Option (List ℕ)) → EXIT_REFUSED ≡ EXIT_SUCCESS → HasForwarded config printing text old new
undone config printing text old new e = let bad : ⊥ = cc e in absurd bad

done : (config : Config) (printing : Printing) (text page : List ℕ) (old new : Option (List ℕ)) → IsForwarded config printing (Some text) page → Appends old new page
    → EndsForward config printing text EXIT_SUCCESS old new
done config printing text page old new (read, same, has) printed = subst (λ (t : List ℕ). EndsForward config printing t EXIT_SUCCESS old new) same (record {
  done = λ e. record { flows = has.flows; report = has.report; printed = subst (λ (t : List ℕ). Appends old new t) has.printed printed };
  either = inl refl;
  refused = λ e. (let bad : ⊥ = cc e in absurd bad);
  faulty = λ e bad. absurd (no-fault config read has.flows e has.report bad);
  unfit = λ script says not. absurd (no-misfit config read has.flows script has.report says not);
})

-- a refusal that prints nothing ends it, whatever the text is
pub kept : (config : Config) (printing : Printing) (text : List ℕ) (old new : Option (List ℕ)) → Keeps old new → EndsForward config printing text EXIT_REFUSED old new
kept config printing text old new keeps = record { done = undone config printing text old new; either = inr refl; refused = λ _. inl keeps; faulty = λ e bad. (refl, keeps); unfit = λ script says not. (refl, keeps) }

-- what was made and not printed is of a script that could be forwarded
unprinted : (config : Config) (printing : Printing) (text page : List ℕ) (old new : Option (List ℕ)) → IsForwarded config printing (Some text) page → AppendsFirst old new page
    → EndsForward config printing text EXIT_REFUSED old new
unprinted config printing text page old new (read, same, has) first = subst (λ (t : List ℕ). EndsForward config printing t EXIT_REFUSED old new) same (record {
  done = undone config printing read old new;
  either = inr refl;
  refused = λ _. inr (page, has, first);
  faulty = λ e bad. absurd (no-fault config read has.flows e has.report bad);
  unfit = λ script says not. absurd (no-misfit config read has.flows script has.report says not);
})

pub done-ends : (config : Config) (printing : Printing) (input old new : Option (List ℕ)) (text : List ℕ) → PrintsForward config printing input old new → input ≡ Some text
    → EndsForward config printing text EXIT_SUCCESS old new
done-ends config printing input old new text (page, is, printed) known =
    done config printing text page old new (subst (λ (i : Option (List ℕ)). IsForwarded config printing i page) known is) printed

pub refused-ends : (config : Config) (printing : Printing) (input : Option (List ℕ)) (e : Refusal) (old new : Option (List ℕ)) (text : List ℕ)
    → WithholdsForward config printing input e old new → input ≡ Some text → EndsForward config printing text EXIT_REFUSED old new
refused-ends config printing input e old new text (inl (why, keeps)) known = kept config printing text old new keeps
refused-ends config printing input e old new text (inr (page, is, first, out)) known =
    unprinted config printing text page old new (subst (λ (i : Option (List ℕ)). IsForwarded config printing i page) known is) first
