use Rattle.std.proofs.Common.{◌≡◌, ◌+◌, vec_len}
use Rattle.std.specs.List.{AllZip}
use Rattle.std.specs.Vec.Iter.{into_iter_items, into_iter_len}
use Rattle.pool.specs.Owned.{IsOf}
use Rattle.forwarder.specs.Stopped.{IsStopped}
use Rattle.forwarder.proofs.stopping.close_all.Given as goal

abbrev pub invariant-loop-flow_rings : goal.invariant-loop-flow_rings
invariant-loop-flow_rings g l =
    record {
      both : into_iter_len l.stopped ≡ into_iter_len l.flow_rings-iterator;
      pool : IsOf l.pool l.pass;
      share : l.pass.hand.share + into_iter_len l.flow_rings-iterator ≡ l.initial.pass.hand.share + vec_len l.fn.rings;
      held : l.pass.hand.held ≡ l.initial.pass.hand.held;
      stopped : AllZip (IsStopped l.pool) (into_iter_items l.flow_rings-iterator) (into_iter_items l.stopped);
    }
