use Rattle.std.proofs.Common.{Bool, subst}
use Rattle.ring_model.specs.transmit.Ring.{carried}
use Rattle.ring_laws.specs.Frames.{whole-unfinished}
use Rattle.tx_ring.specs.Ends.{sent}
use Rattle.controller.specs.Sending.{SentBytes}
use Rattle.controller.proofs.Putting.{starts_on, sends_on, sends_last, settled}
use Rattle.controller.proofs.sending.send_frame.Goals as goal

pub loop-init : goal.loop-init
loop-init c = let r = c.requires in starts_on _ _ r.idle.unheld r.idle.paid (whole-unfinished carried (sent c.args.end.now) r.idle.at_frame_end) r.serving r.ready r.begun r.room

pub loop-preserved : goal.loop-preserved
loop-preserved c = sends_on _ _ _ _ _ _ c.loop.invariant (subst (λ (ends : Bool). SentBytes c.loop.end c.loop.arena ends c.send_segment.new.end c.send_segment.new.arena) c.loop-test.true c.send_segment.ensures)

pub returns-clause-sent : goal.returns-clause-sent
returns-clause-sent c =
    let last = subst (λ (ends : Bool). SentBytes c.loop.end c.loop.arena ends c.send_segment.new.end c.send_segment.new.arena) c.loop-test.false c.send_segment.ensures in
    sends_last _ _ _ _ _ _ _ _ c.loop.invariant last c.end_frame.ensures.frames c.end_frame.ensures.begun c.settle.ensures.step c.settle.ensures.record

pub returns-clause-state : goal.returns-clause-state
returns-clause-state c =
    let last = subst (λ (ends : Bool). SentBytes c.loop.end c.loop.arena ends c.send_segment.new.end c.send_segment.new.arena) c.loop-test.false c.send_segment.ensures in
    (settled _ _ _ _ _ c.loop.invariant.sending last.went c.settle.ensures.step c.settle.ensures.record).state

pub returns-clause-seen : goal.returns-clause-seen
returns-clause-seen c =
    let last = subst (λ (ends : Bool). SentBytes c.loop.end c.loop.arena ends c.send_segment.new.end c.send_segment.new.arena) c.loop-test.false c.send_segment.ensures in
    (settled _ _ _ _ _ c.loop.invariant.sending last.went c.settle.ensures.step c.settle.ensures.record).seen_is

pub returns-clause-idle : goal.returns-clause-idle
returns-clause-idle c =
    let last = subst (λ (ends : Bool). SentBytes c.loop.end c.loop.arena ends c.send_segment.new.end c.send_segment.new.arena) c.loop-test.false c.send_segment.ensures in
    (settled _ _ _ _ _ c.loop.invariant.sending last.went c.settle.ensures.step c.settle.ensures.record).idle
