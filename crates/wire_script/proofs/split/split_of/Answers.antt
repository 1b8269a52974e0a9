use Rattle.std.proofs.Common.{◌≡◌, ℕ, List, None, rules, sym, ap, ◌∙◌}
use Rattle.text_lines.specs.Parts.{parts}
use Rattle.wire_script.specs.Line.{fields_say}
use Rattle.wire_script.specs.Split.{frame_of_split}
use Rattle.wire_script.proofs.SplitLemmas.{no_port, no_queue}
use Rattle.wire_script.proofs.split.split_of.Goals as goal

pub returns-in_err-port : goal.returns-in_err-port
returns-in_err-port c = λ k.
    let none : c.from_residual.result ≡ None = search rules in
    no_port k (parts 32 c.args.line.now) c.in_err-port.ensures.none ∙ sym (ap (frame_of_split k) none)

pub returns-in_err-queue : goal.returns-in_err-queue
returns-in_err-queue c = λ k.
    let port : List ℕ = c.in_ok-port.port.now in
    let none : c.from_residual-in_err-queue.result ≡ None = search rules in
    ap (fields_say k) c.in_ok-port.ensures.found ∙ no_queue k port (parts 32 c.in_ok-port.rest.now) c.in_err-queue.ensures.none
    ∙ sym (ap (frame_of_split k) none)
