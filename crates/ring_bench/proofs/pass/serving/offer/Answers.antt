use Rattle.ring_bench.proofs.Layered.{offered_copies}
use Rattle.ring_bench.proofs.pass.serving.offer.Goals as goal

pub returns-then-ne-clause-stores : goal.returns-then-ne-clause-stores
returns-then-ne-clause-stores c = let told = c.offer.ensures in let had = c.loop-stored.invariant in record {
  own = told.own;
  copies = offered_copies c.args.frame.now _ _ c.offer.result had.copies told.frames;
}

pub loop-stored-preserved : goal.loop-stored-preserved
loop-stored-preserved c = let told = c.offer.ensures in let had = c.loop-stored.invariant in record {
  own = told.own;
  copies = offered_copies c.args.frame.now _ _ c.offer.result had.copies told.frames;
}
