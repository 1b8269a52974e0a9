use Rattle.std.proofs.Common.{◌∙◌, ap, ℕ, sym, subst}
use Rattle.capture.specs.declared.options.ReadOptions.{ReadOptions}
use Rattle.forward_io.specs.Intakes.{reads_script}
use Rattle.settings.specs.declared.config.Config.{Config}
use Rattle.program.specs.RunEnds.{EndsForwarding, config_for, intake_of}
use Rattle.forward_io.specs.Streams.{outlet}
use Rattle.requests.specs.Files.{streamed_port}
use Rattle.requests.specs.Files.{PortFile}
use Rattle.std.proofs.Common.{◌≡◌, List, None}
use Rattle.program.proofs.RunEndings.{forward-kept, forward-of, intake-is}
use Rattle.program.proofs.running.forward.Goals as goal

pub returns-in-Ok-clause-ends : goal.returns-in-Ok-clause-ends
returns-in-Ok-clause-ends g c = λ said shown files says.
    let held = c.in-Ok.ensures said shown files says in
    forward-of c.args.config.now c.config_for.result c.args.printing c.as_slice-wires.result.now files.wires _ (intake_of files c.args.is_terminal) _ _ _ _ c.config_for.ensures
    (c.as_slice-wires.ensures.value ∙ held.1) (intake-is _ files.sources _ files.reading c.args.is_terminal (c.as_slice.ensures.value ∙ held.0) held.2)
    (record { script = c.answer.ensures.forward; captured = c.answer.ensures.captured; refused = c.answer.ensures.refused })

pub returns-in-Ok-clause-screen : goal.returns-in-Ok-clause-screen
returns-in-Ok-clause-screen g c = λ said shown files says unshown unrated whole unskipped uncut.
    let held = c.in-Ok.ensures said shown files says in
    c.answer.ensures.screen unshown unrated (subst (λ (ws : List PortFile). streamed_port ws ≡ None) (sym (c.as_slice-wires.ensures.value ∙ held.1)) whole)
    (ap (λ (r : ReadOptions). r.skip) held.2 ∙ unskipped) (ap (λ (made : Config). made.turns) c.config_for.ensures ∙ uncut)

pub returns-in-Ok-clause-unread : goal.returns-in-Ok-clause-unread
returns-in-Ok-clause-unread g c = λ said shown files says unread.
    let held = c.in-Ok.ensures said shown files says in
    let same = intake-is _ files.sources _ files.reading c.args.is_terminal (c.as_slice.ensures.value ∙ held.0) held.2 in
    c.answer.ensures.unread (ap reads_script same ∙ unread)

pub returns-in-Err-clause-ends : goal.returns-in-Err-clause-ends
returns-in-Err-clause-ends g c = λ said shown files says.
    let m = c.tell.ensures.memory (c.in-Err.ensures said shown files says) in
    subst (λ (status : ℕ). EndsForwarding (config_for c.args.config.now c.args.printing.quiet files.wires) (outlet c.args.printing files.wires) (intake_of files c.args.is_terminal) (g.I.Read.remaining c.args.input.now) status
    (g.W.Write.contents c.args.output.now) (g.W.Write.contents c.tell.new.output)) (sym m.0)
    (forward-kept (config_for c.args.config.now c.args.printing.quiet files.wires) (outlet c.args.printing files.wires) (intake_of files c.args.is_terminal) (g.I.Read.remaining c.args.input.now) (g.W.Write.contents c.args.output.now)
    (g.W.Write.contents c.tell.new.output) m.1)
