use Rattle.std.proofs.Common.{List, subst, sym}
use Rattle.buffer_pool.specs.Buffer.{Buffer}
use Rattle.poll82599_c.proofs.Patching.{IsPatching, patching_more, patching_some}
use Rattle.poll82599_c.proofs.batches.ranges.patch.Goals as goal

pub push_back-requires-clause-some_bytes : goal.push_back-requires-clause-some_bytes
push_back-requires-clause-some_bytes c =
    let l = c.loop-buf in
    patching_some c.args.at c.args.bytes.now c.args.packet.now l.done l.skip l.rest.now l.packet c.pop_front.new.self c.in-Some.buf c.overlay.new.buf
    c.overlay.result.0 c.overlay.result.1.now l.invariant.going c.in-Some.ensures.rest c.overlay.ensures

pub loop-buf-preserved : goal.loop-buf-preserved
loop-buf-preserved c =
    let l = c.loop-buf in record {
      going = subst (λ (done : List Buffer). IsPatching c.args.at c.args.bytes.now c.args.packet.now done c.overlay.result.0 c.overlay.result.1.now c.pop_front.new.self)
          (sym c.push_back.ensures)
          (patching_more c.args.at c.args.bytes.now c.args.packet.now l.done l.skip l.rest.now l.packet c.pop_front.new.self c.in-Some.buf c.overlay.new.buf
          c.overlay.result.0 c.overlay.result.1.now l.invariant.going c.in-Some.ensures.rest c.overlay.ensures);
    }
