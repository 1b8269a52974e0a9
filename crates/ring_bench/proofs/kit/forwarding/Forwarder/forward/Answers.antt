use Rattle.std.proofs.Common.{◌∙◌}
use Rattle.buffer_pool.specs.Packed.{bytes_of}
use Rattle.ring_bench.proofs.Forwards.{passes_on}
use Rattle.ring_bench.proofs.kit.forwarding.Forwarder.forward.Goals as goal

pub returns-clause-can : goal.returns-clause-can
returns-clause-can c =
    let can = c.requires.can in let got = c.in_ok-received.ensures.done in let grew = got.grew in let went = c.in_ok-sent.ensures in let posted = went.done in let posting = posted.posting in record {
      receives = grew.own ∙ can.receives;
      sends = went.ring ∙ can.sends;
      whole = went.whole;
      relayed = passes_on bytes_of _ _ _ _ _ grew.packets _ _ c.in_ok-sent.sent can.relayed grew.framed grew.appended went.frames posting.left;
    }
