-- The buffer that was taken was the oldest that was out of the stock.
use Rattle.buffer_pool.proofs.Numbers.{IsOut-from_Shares}
use Rattle.rx_ring.specs.Meeting.{out_of}
use Rattle.examples.proofs.Posted.{shared-taken}
use Rattle.examples.proofs.closing.take_one.Goals as goal

pub give-requires-clause-out : goal.give-requires-clause-out
give-requires-clause-out c = IsOut-from_Shares c.args.stock.now c.in-Segment.buf.number (out_of c.poll.new.self)
    (shared-taken c.args.stock.now c.args.driver.now c.poll.new.self c.in-Segment.buf c.in-Segment.eop c.in-Segment.ensures.found c.requires.shared)

pub returns-in-Segment-clause-shared : goal.returns-in-Segment-clause-shared
returns-in-Segment-clause-shared c = c.give.ensures.shared (out_of c.poll.new.self)
    (shared-taken c.args.stock.now c.args.driver.now c.poll.new.self c.in-Segment.buf c.in-Segment.eop c.in-Segment.ensures.found c.requires.shared)
