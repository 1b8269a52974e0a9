-- The lists are shown as a page, or printed.
use Rattle.std.proofs.Common.{Bool, subst}
use Rattle.std.specs.Prelude.{OnOk}
use Rattle.schedule_command.specs.Lists.{PrintsBy}
use Rattle.schedule_command.proofs.answering.perform.Goals as goal

pub returns-then-shows_page-clause-done : goal.returns-then-shows_page-clause-done
returns-then-shows_page-clause-done g c =
    subst (λ (b : Bool). OnOk c.print_page.result (PrintsBy b c.args.request.now (g.W.Write.contents c.args.output.now) (g.W.Write.contents c.print_page.new.output)))
    c.if-shows_page.ensures c.print_page.ensures.done

pub returns-else-shows_page-clause-done : goal.returns-else-shows_page-clause-done
returns-else-shows_page-clause-done g c =
    subst (λ (b : Bool). OnOk c.print_lists.result (PrintsBy b c.args.request.now (g.W.Write.contents c.args.output.now) (g.W.Write.contents c.print_lists.new.output)))
    c.if-shows_page.ensures c.print_lists.ensures.done
