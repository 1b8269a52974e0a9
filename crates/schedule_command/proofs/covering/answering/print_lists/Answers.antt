use Rattle.std.proofs.Common.{◌<◌, ℕ, List, length, subst, inl, inr, rules, arith}
use Rattle.std.specs.Prelude.{IfErr}
use Rattle.std.specs.Io.KnownBytes.{Appends}
use Rattle.std.specs.String.{string_bytes}
use Rattle.std.proofs.lemmas.Result.{IfErr-weaker}
use Rattle.schedule_command.specs.Covers.{NotPrinted, Refuses}
use Rattle.schedule_command.proofs.CoverPrinting.{item-meets, next-printed}
use Rattle.schedule_command.proofs.covering.answering.print_lists.Goals as goal

pub returns-in_err-text-clause-refused : goal.returns-in_err-text-clause-refused
returns-in_err-text-clause-refused g c =
    let below : c.loop-list.list-index < length c.args.lists.now = omega arith in
    let meets = item-meets c.args.scope c.args.lists.now c.loop-list.list-index c.list-item.result below c.list-item.is c.requires in
    let not : IfErr c.from_residual.result (NotPrinted c.args.scope c.list-item.result) = search rules in
    IfErr-weaker c.from_residual.result (NotPrinted c.args.scope c.list-item.result) (Refuses c.args.scope) (λ e n. inr (inl (c.list-item.result, meets, n))) not

pub loop-list-preserved : goal.loop-list-preserved
loop-list-preserved g c =
    let now = g.W.Write.contents c.loop-list.output in let later = g.W.Write.contents c.print.new.output in
    let adds = subst (λ (t : List ℕ). Appends now later t) c.as_str.ensures.value c.in_ok-print.ensures.done in
    next-printed c.args.scope c.args.expect c.args.lists.now c.loop-list.list-index c.list-item.result (g.W.Write.contents c.args.output.now) now later (string_bytes c.in_ok-text.text)
    (omega arith) c.list-item.is c.in_ok-text.ensures.done adds c.loop-list.invariant
