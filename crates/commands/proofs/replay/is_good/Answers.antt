-- A line that is read is a move's text, and one that is not is none.
use Rattle.std.proofs.Common.{sym, ◌∙◌}
use Rattle.commands.proofs.Replaying.{read-line, unread-line}
use Rattle.commands.proofs.replay.is_good.Goals as goal

pub returns-else-not-says_something-clause-read : goal.returns-else-not-says_something-clause-read
returns-else-not-says_something-clause-read c ok = read-line c.args.line.now c.parse.result c.parse.ensures.exact (sym c.is_ok.ensures.value ∙ ok)

pub returns-else-not-says_something-clause-faulty : goal.returns-else-not-says_something-clause-faulty
returns-else-not-says_something-clause-faulty c bad = unread-line c.args.line.now c.parse.result c.parse.ensures.exact (sym c.if-not-says_something.ensures) (sym c.is_ok.ensures.value ∙ bad)
