use Rattle.std.proofs.Common.{Bool, ◌∙◌, subst, sym, if◌then◌else◌, ◌<◌}
use Rattle.ring_model.specs.transmit.Ring.{carried}
use Rattle.ring_laws.specs.Frames.{whole-unfinished}
use Rattle.tx_ring.specs.Ends.{known_ready, sent}
use Rattle.controller.proofs.Putting.{fewer, settled, starts}
use Rattle.controller.proofs.PuttingInto.{begins_into, can_put, ends_in_room, ends_on_wire, goes_into, has_ended, has_entry, own_ended, still_going}
use Rattle.controller.proofs.sending_into.send_frame_into.Goals as goal

pub loop-ends-init : goal.loop-ends-init
loop-ends-init c =
    let r = c.requires in
    let whole = whole-unfinished carried (sent c.args.end.now) r.idle.at_frame_end in
    goes_into _ _ _ _ _ _ _ _ _ _ _ _ (begins_into _ _ _ (starts _ r.idle.unheld r.idle.paid whole r.serving r.ready) whole r.begun r.room) c.put_segment-ends.ensures

pub put_later-requires-clause-own : goal.put_later-requires-clause-own
put_later-requires-clause-own c = (still_going _ _ _ _ _ _ _ _ c.loop-ends-test.true c.loop-ends.invariant).sending.own ∙ c.requires.own

pub put_later-requires-clause-can : goal.put_later-requires-clause-can
put_later-requires-clause-can c = can_put _ _ _ _ _ _ _ (still_going _ _ _ _ _ _ _ _ c.loop-ends-test.true c.loop-ends.invariant)

pub loop-ends-smaller : goal.loop-ends-smaller
loop-ends-smaller c = subst (λ (e : Bool). (if c.put_later.result.0 then 0 else known_ready c.put_later.new.end) < (if e then 0 else known_ready c.loop-ends.end)) (sym c.loop-ends-test.true)
    (fewer _ _ _ _ (still_going _ _ _ _ _ _ _ _ c.loop-ends-test.true c.loop-ends.invariant).sending.next c.put_later.ensures.went)

pub loop-ends-preserved : goal.loop-ends-preserved
loop-ends-preserved c = goes_into _ _ _ _ _ _ _ _ _ _ _ _ (still_going _ _ _ _ _ _ _ _ c.loop-ends-test.true c.loop-ends.invariant) c.put_later.ensures

pub settle-requires : goal.settle-requires
settle-requires c = record { own = own_ended _ _ _ _ _ _ _ (has_ended _ _ _ _ _ _ _ _ c.loop-ends-test.false c.loop-ends.invariant) ∙ c.requires.own }

pub end_frame-requires : goal.end_frame-requires
end_frame-requires c = let e = has_ended _ _ _ _ _ _ _ _ c.loop-ends-test.false c.loop-ends.invariant in has_entry _ _ _ _ _ _ _ _ _ _ _ e.i e.st c.if-past-eq0.true c.requires.entries

pub returns-then-past-eq0-clause-sent : goal.returns-then-past-eq0-clause-sent
returns-then-past-eq0-clause-sent c =
    let e = has_ended _ _ _ _ _ _ _ _ c.loop-ends-test.false c.loop-ends.invariant in
    ends_on_wire _ _ _ _ _ _ _ _ _ _ _ e.i e.st _ c.settle.ensures.step c.settle.ensures.record _ c.if-past-eq0.true c.end_frame.ensures.frames c.end_frame.ensures.begun

pub returns-then-past-eq0-clause-state : goal.returns-then-past-eq0-clause-state
returns-then-past-eq0-clause-state c = let e = has_ended _ _ _ _ _ _ _ _ c.loop-ends-test.false c.loop-ends.invariant in (settled _ _ _ _ _ e.i.sending e.st.went c.settle.ensures.step c.settle.ensures.record).state

pub returns-then-past-eq0-clause-seen : goal.returns-then-past-eq0-clause-seen
returns-then-past-eq0-clause-seen c = let e = has_ended _ _ _ _ _ _ _ _ c.loop-ends-test.false c.loop-ends.invariant in (settled _ _ _ _ _ e.i.sending e.st.went c.settle.ensures.step c.settle.ensures.record).seen_is

pub returns-then-past-eq0-clause-idle : goal.returns-then-past-eq0-clause-idle
returns-then-past-eq0-clause-idle c = let e = has_ended _ _ _ _ _ _ _ _ c.loop-ends-test.false c.loop-ends.invariant in (settled _ _ _ _ _ e.i.sending e.st.went c.settle.ensures.step c.settle.ensures.record).idle

pub returns-clause-sent : goal.returns-clause-sent
returns-clause-sent c = let e = has_ended _ _ _ _ _ _ _ _ c.loop-ends-test.false c.loop-ends.invariant in ends_in_room _ _ _ _ _ _ _ _ _ _ _ e.i e.st _ c.settle.ensures.step c.settle.ensures.record c.if-past-eq0.false

pub returns-clause-state : goal.returns-clause-state
returns-clause-state c = let e = has_ended _ _ _ _ _ _ _ _ c.loop-ends-test.false c.loop-ends.invariant in (settled _ _ _ _ _ e.i.sending e.st.went c.settle.ensures.step c.settle.ensures.record).state

pub returns-clause-seen : goal.returns-clause-seen
returns-clause-seen c = let e = has_ended _ _ _ _ _ _ _ _ c.loop-ends-test.false c.loop-ends.invariant in (settled _ _ _ _ _ e.i.sending e.st.went c.settle.ensures.step c.settle.ensures.record).seen_is

pub returns-clause-idle : goal.returns-clause-idle
returns-clause-idle c = let e = has_ended _ _ _ _ _ _ _ _ c.loop-ends-test.false c.loop-ends.invariant in (settled _ _ _ _ _ e.i.sending e.st.went c.settle.ensures.step c.settle.ensures.record).idle
