use Rattle.std.proofs.Common.{◌++◌, ap}
use Rattle.rx_ring.specs.Records.{RxDriven}
use Rattle.rx_ring.specs.Ends.{posted, fill_place}
use Rattle.shared_ring.specs.declared.events.DriverEvent.TheVariants.{Posted}
use Rattle.flows.proofs.FlowDrivers.{posted-one, posts-kept}
use Rattle.flows.proofs.starting.post_fitting.Goals as goal

pub loop-stash-preserved : goal.loop-stash-preserved
loop-stash-preserved c =
    let l = c.loop-stash in let end = c.post.new.self in let n = c.in-Some.buf.number in record {
      did = posted-one c.args.end.now l.end end n (Posted (fill_place l.end) 0 c.in-Some.buf) l.invariant.did c.post.ensures.step c.post.ensures.record;
      kept = posts-kept (c.args.stash.now ++ posted c.args.end.now) l.stash c.take.new.self (posted l.end) (posted end) n l.invariant.kept c.in-Some.ensures.left
          (ap (λ (x : RxDriven). x.posted) c.post.ensures.record);
    }
