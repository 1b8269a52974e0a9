-- The agreement allows the step, and the word is the write-back of the bytes.
use Rattle.std.proofs.Common.{◌≤◌, length, arith}
use Rattle.rx_ring.proofs.InPlace.{may-fill, stored-at}
use Rattle.rx_ring.proofs.Words.{word-is}
use Rattle.rx_ring.proofs.steps.controller.store.Goals as goal

pub fill_own-requires-clause-may : goal.fill_own-requires-clause-may
fill_own-requires-clause-may c = let e = c.args.seat.now in let z = c.size-size.ensures in
    may-fill e.table.slots e.completion e.events c.args.place c.second_word-word.result c.args.bytes.now c.args.eop
    (word-is c.args.eop c.new.result.eop (length c.args.bytes.now) c.new.result.len c.new.ensures.eop c.new.ensures.len c.second_word-word.result c.second_word-word.ensures.value)
    (let g : 8 ≤ c.size-size.result = z.lawful.0 in let v = z.value in omega arith) c.requires.place c.requires.serving c.requires.follows

pub returns : goal.returns
returns c = let e = c.args.seat.now in
    stored-at e.table.slots e.completion e.events c.args.place c.second_word-word.result c.args.bytes.now c.args.eop
    (word-is c.args.eop c.new.result.eop (length c.args.bytes.now) c.new.result.len c.new.ensures.eop c.new.ensures.len c.second_word-word.result c.second_word-word.ensures.value)
    e c.fill_own.new.self c.fill_own.ensures
