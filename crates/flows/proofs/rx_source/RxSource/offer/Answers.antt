use Rattle.std.proofs.Common.{rules}
use Rattle.std.proofs.lemmas.Option.{get_or_from_slice_get, slice_get_within}
use Rattle.flows.proofs.Offers.{decided-on}
use Rattle.flows.proofs.rx_source.RxSource.offer.Goals as goal

pub advance-requires : goal.advance-requires
advance-requires g c = let i = c.self.inside in slice_get_within i.frames.frames i.frames.next c.in-Some.frame.now (search rules)

pub invariant_of-self-then-decided : goal.invariant_of-self-then-decided
invariant_of-self-then-decided g c =
    let i = c.self.inside in let frame = c.in-Some.frame.now in
    let here = slice_get_within i.frames.frames i.frames.next frame (search rules) in
    rw (c.advance.ensures.frames, c.advance.ensures.next)
    (decided-on i.ring.now i.frames.frames i.controller c.offer.new.self i.frames.next i.stored_bytes i.queue_phase frame c.in-Ok.offer c.self.invariant (search rules)
    here (get_or_from_slice_get i.frames.frames i.frames.next frame frame (search rules)) (search rules) (search rules) (search rules) (search rules) (search rules)
    c.bytes_by.result c.bytes_by.ensures.value (search rules))
