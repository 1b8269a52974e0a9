-- The agreement allows the step, and the word is the write-back of the buffer's bytes.
use Rattle.std.proofs.Common.{◌≤◌, length, ◌∙◌, arith}
use Rattle.rx_ring.specs.Records.{controlling}
use Rattle.rx_ring.proofs.Owning.{may-write_back}
use Rattle.rx_ring.proofs.Words.{word-is, number-some}
use Rattle.rx_ring.proofs.steps.controller.write_back.Goals as goal

pub give_own-requires-clause-held : goal.give_own-requires-clause-held
give_own-requires-clause-held c = let e = c.args.seat.now in let h = number-some (controlling e.table.slots e.events).held c.args.buf.number c.requires.held in (h.0, h.1.0)

pub give_own-requires-clause-may : goal.give_own-requires-clause-may
give_own-requires-clause-may c = let e = c.args.seat.now in let h = number-some (controlling e.table.slots e.events).held c.args.buf.number c.requires.held in let z = c.size-size.ensures in
    may-write_back e.table.slots e.completion e.events (let g : 8 ≤ c.size-size.result = z.lawful.0 in let v = z.value in omega arith) c.args.place c.second_word-word.result c.args.buf c.args.eop
    (word-is c.args.eop c.new.result.eop (length c.args.buf.bytes) c.new.result.len c.new.ensures.eop (c.new.ensures.len ∙ c.len.ensures.value) c.second_word-word.result c.second_word-word.ensures.value)
    c.requires.place c.requires.serving h.0 h.1.0 h.1.1 c.requires.real c.requires.follows
