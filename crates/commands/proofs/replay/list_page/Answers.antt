-- The page is that of the plan's queues as they are made.
use Rattle.std.specs.String.{string_bytes}
use Rattle.commands.proofs.Replaying.{list-page}
use Rattle.commands.proofs.replay.list_page.Goals as goal

pub returns-clause-done : goal.returns-clause-done
returns-clause-done c = list-page c.args.plan c.args.list.now (string_bytes c.in_ok-page_of.field-0) c.in_ok-queues.queues c.in_ok-queues.ensures.made c.in_ok-page_of.ensures
