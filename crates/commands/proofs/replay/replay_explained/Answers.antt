-- The page has the content for the input's text.
use Rattle.std.proofs.Common.{List, ℕ, subst}
use Rattle.std.specs.String.{string_bytes}
use Rattle.commands.specs.Replay.{HasData}
use Rattle.commands.proofs.replay.replay_explained.Goals as goal

pub returns-clause-done : goal.returns-clause-done
returns-clause-done g c =
    let content = string_bytes c.in_ok-content.content in (
      c.in_ok-text.text.items,
      c.in_ok-text.ensures.read,
      record {
        content = content;
        has = subst (λ (t : List ℕ). HasData c.args.plan t content) c.as_slice.ensures.value c.in_ok-content.ensures.done;
        page_is = c.in_ok-framed.ensures;
      },
    )
