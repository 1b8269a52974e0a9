use Rattle.std.proofs.Common.{◌≡◌, ◌∙◌, arith}
use Rattle.ring_bench.proofs.Sent.{posted_all, under_way-clean}
use Rattle.ring_bench.proofs.tx.posting.post_all.Goals as goal

pub loop-preserved : goal.loop-preserved
loop-preserved g c = let more = c.post_more.ensures in let back = c.clean.ensures in record {
  run = under_way-clean c.args.ring.now c.args.frame.now c.post_more.new.driver c.clean.new.driver c.post_more.new.stock c.clean.new.stock c.post_more.new.course more.run back.only back.stock;
  plan = more.plan ∙ c.loop.invariant.plan;
}

pub returns-then-room-size : goal.returns-then-room-size
returns-then-room-size g c =
    let more = c.post_more.ensures in let back = c.clean.ensures in let course = c.post_more.new.course in let size = c.size.ensures in let least = size.lawful in let few = least.0 in
    let run = under_way-clean c.args.ring.now c.args.frame.now c.post_more.new.driver c.clean.new.driver c.post_more.new.stock c.clean.new.stock course more.run back.only back.stock in
    let none_left : course.posted ≡ course.plan.load.frames = omega (arith, c.left.ensures, c.if-left-eq0.true) in
    posted_all c.args.ring.now c.args.frame.now c.args.plan c.clean.new.driver c.clean.new.stock course c.room.result c.size.result run (more.plan ∙ c.loop.invariant.plan)
    none_left c.room.ensures.value size.value (omega arith) c.if-room-size.true
