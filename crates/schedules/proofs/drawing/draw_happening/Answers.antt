use Rattle.schedules.proofs.Foretelling.{surely}
use Rattle.schedules.proofs.drawing.draw_happening.Goals as goal

pub returns-then-drawn-clause-happens : goal.returns-then-drawn-clause-happens
returns-then-drawn-clause-happens c = surely c.args.queues.now c.make-drawn.result c.if-drawn.true
