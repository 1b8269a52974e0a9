use Rattle.std.proofs.Common.{arith, length, refl}
use Rattle.poll82599_c.proofs.Supplying.{refill_ends, sum_kept}
use Rattle.poll82599_c.proofs.batches.packets.Packets.refill.Goals as goal

pub returns : goal.returns
returns c =
    let pool = c.args.pool.now in let stash = c.self.inside.stash in let pool' = c.give.new.self in let stash' = c.give.new.stash in
    let least = c.min-count.ensures in let p = c.len.ensures.value in let s = c.len-2.ensures.value in let few = c.len-2.ensures.few in
    let some = c.if-count-eq0.false in let came = c.give.ensures.came in record {
      step = rw (← c.self.view_is) (record {
        kept = record { buffers = c.give.ensures.kept; packets = refl };
        came = came;
        some = omega (arith, some);
        enough = refill_ends (length pool) (length stash) (length pool') (length stash') c.min-count.result (omega (arith, least, p, s)) (omega (arith, s, few)) came
            (sum_kept pool stash pool' stash' c.give.ensures.kept);
      });
    }
