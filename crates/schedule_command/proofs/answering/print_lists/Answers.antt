use Rattle.std.proofs.Common.{ℕ, List, subst}
use Rattle.std.specs.Io.KnownBytes.{Appends}
use Rattle.std.specs.String.{string_bytes}
use Rattle.schedule_command.proofs.Printing.{one-printed}
use Rattle.schedule_command.proofs.answering.print_lists.Goals as goal

pub loop-number-preserved : goal.loop-number-preserved
loop-number-preserved g c =
    let now = g.W.Write.contents c.loop-number.output in let later = g.W.Write.contents c.print.new.output in
    let text = string_bytes c.in_ok-text.text in
    let adds = subst (λ (t : List ℕ). Appends now later t) c.as_str.ensures.value c.in_ok-print.ensures.done in
    record {
      so_far = one-printed c.args.request.now c.loop-number.number (g.W.Write.contents c.args.output.now) now later text c.in_ok-text.ensures.done adds c.loop-number.invariant.so_far;
      able = λ some off. let bad = c.in_ok-text.ensures.no_queues off in let never : ⊥ = cc bad in never;
    }
