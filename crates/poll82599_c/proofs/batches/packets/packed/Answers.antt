use Rattle.std.proofs.Common.{arith, refl}
use Rattle.limits.specs.declared.profile.TheConstants.{BUFFER_BYTES}
use Rattle.poll82599_c.proofs.Packing.{begun_ended, begun_more, split_is}
use Rattle.poll82599_c.proofs.batches.packets.packed.Goals as goal

pub loop-rest-preserved : goal.loop-rest-preserved
loop-rest-preserved c =
    let l = c.loop-rest in let s = c.split_at in let p = c.push_piece in
    let more = c.loop-rest-test.true in let front = s.ensures.front_len in let back = s.ensures.back_len in record {
      begun = begun_more c.args.frame.now c.args.stash.now c.requires.frame l.packet l.stash l.rest.now l.invariant.begun s.result.0.now p.new.packet p.new.stash p.ensures (omega (arith, front))
          s.result.1.now (split_is BUFFER_BYTES l.rest.now s.result.0.now s.result.1.now s.ensures.front s.ensures.back) front (omega (arith, more, back));
    }

pub returns : goal.returns
returns c =
    let l = c.loop-rest in let p = c.push_piece-2 in
    begun_ended c.args.frame.now c.args.stash.now c.requires.frame l.packet l.stash l.rest.now l.invariant.begun l.rest.now p.new.packet p.new.stash p.ensures l.invariant.begun.some_left refl
