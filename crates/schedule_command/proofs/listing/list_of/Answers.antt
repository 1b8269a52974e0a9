-- The text of the list, and the output of `replay` behind it, if that is asked for.
use Rattle.std.proofs.Common.{◌≡◌, ◌∙◌, ◌++◌, ap, rules}
use Rattle.std.specs.String.{string_bytes}
use Rattle.commands.specs.Replay.{HasPage}
use Rattle.schedule_command.specs.Lists.{list_text, queues_of}
use Rattle.schedule_command.proofs.Printing.{printed-alone, printed-with}
use Rattle.schedule_command.proofs.listing.list_of.Goals.{in-Some+in_ok-expected+in_ok-push_str, in_default}
use Rattle.schedule_command.proofs.listing.list_of.Goals as goal

pub returns-clause-done : goal.returns-clause-done
returns-clause-done c =
    let r = c.args.request.now in
    let list = c.in_ok-drawn.drawn.items in
    let text : string_bytes c.in_ok-text.text ≡ list_text list = c.in_ok-text.ensures ∙ ap list_text c.as_slice.ensures.value in
    elim c.match-request.branch [
      | in-Some+in_ok-expected+in_ok-push_str w ↦
          let expected = string_bytes w.in_ok-expected.expected in
          let has : HasPage (queues_of r w.in-Some.shown) (list_text list) expected = search rules in
          let bytes : string_bytes c.match-request.text ≡ list_text list ++ expected = search rules in
          printed-with r list w.in-Some.shown expected (string_bytes c.match-request.text) w.in-Some.is c.in_ok-drawn.ensures.drawn has bytes
      | in_default w ↦
          printed-alone r list (string_bytes c.match-request.text) w.in_default.is c.in_ok-drawn.ensures.drawn (ap string_bytes w.text-is ∙ text)
    ]
