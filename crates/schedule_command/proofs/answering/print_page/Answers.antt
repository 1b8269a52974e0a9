-- The page has the data of all lists.
use Rattle.std.proofs.Common.{◌∙◌, ℕ, List, ap, subst}
use Rattle.std.specs.Io.KnownBytes.{Appends}
use Rattle.std.specs.String.{string_bytes}
use Rattle.commands.specs.Page.{page_of}
use Rattle.schedule_command.proofs.answering.print_page.Goals as goal

pub returns-clause-done : goal.returns-clause-done
returns-clause-done g c =
    let old = g.W.Write.contents c.args.output.now in let new = g.W.Write.contents c.print.new.output in
    record {
      content = string_bytes c.in_ok-content.content;
      shown = c.in_ok-content.ensures.done;
      appends = subst (λ (t : List ℕ). Appends old new t) (c.as_str-2.ensures.value ∙ c.in_ok-page.ensures ∙ ap page_of c.as_str.ensures.value) c.in_ok-print.ensures.done;
    }
