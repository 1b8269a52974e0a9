use Rattle.std.proofs.Common.{◌-◌, arith, length, refl}
use Rattle.poll82599_c.proofs.Supplying.{return_ends, sum_kept}
use Rattle.poll82599_c.proofs.batches.packets.Packets.give_back.Goals as goal

pub returns : goal.returns
returns c =
    let pool = c.args.pool.now in let stash = c.self.inside.stash in let pool' = c.receive.new.self in let stash' = c.receive.new.stash in
    let least = c.min-count.ensures in let least_room = c.min.ensures in let p = c.len-room.ensures.value in let few = c.len-room.ensures.few in let s = c.len.ensures.value in
    let some = c.if-count-eq0.false in let went = c.receive.ensures.left in record {
      step = rw (← c.self.view_is) (record {
        kept = record { buffers = c.receive.ensures.kept; packets = refl };
        went = went;
        some = omega (arith, some);
        few = omega (arith, least, least_room);
        enough = return_ends c.args.wanted (65536 - length pool) (length pool) (length stash) (length pool') (length stash') c.min-count.result refl
            (omega (arith, least, least_room, p, s)) (omega (arith, p, few)) went (sum_kept pool stash pool' stash' c.receive.ensures.kept);
      });
    }
