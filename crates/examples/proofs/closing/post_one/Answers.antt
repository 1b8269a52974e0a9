-- The buffer that is posted came out of the stock.
use Rattle.std.proofs.Common.{◌∙◌, ◌+◌, ◌≤◌, ap, arith, length, subst, sym}
use Rattle.buffer_pool.specs.Stocked.{Shares}
use Rattle.rx_ring.specs.Ends.{posted, returned}
use Rattle.rx_ring.specs.Records.{RxDriven}
use Rattle.examples.proofs.Posted.{out_in, shared-posted}
use Rattle.rx_ring.specs.Meeting.{out_of}
use Rattle.examples.proofs.closing.post_one.Goals as goal

pub returns-in-Some-clause-shared : goal.returns-in-Some-clause-shared
returns-in-Some-clause-shared c =
    let within : returned c.args.driver.now ≤ length (posted c.args.driver.now) = let most = c.room.ensures.most in let room = c.room.ensures.value in omega arith in
    let had = c.in-Some.ensures.shared (out_of c.args.driver.now) c.requires.shared in
    subst (Shares c.take.new.self) (sym (ap out_in c.publish.ensures.record))
    (shared-posted c.take.new.self c.in-Some.buf.number c.args.driver.now c.post.new.self within c.post.ensures.record had)
