use Rattle.std.proofs.Common.{take, length, vec_items}
use Rattle.std.specs.List.{AllZip}
use Rattle.std.specs.Vec.Iter.{into_iter_items, into_iter_len}
use Rattle.forwarder.specs.Stopped.{IsStopped}
use Rattle.forwarder.proofs.Walking.{Meets}
use Rattle.forwarder.proofs.stopping.stop_all.Given as goal

abbrev pub invariant-loop-driver : goal.invariant-loop-driver
invariant-loop-driver l =
    record {
      both : Meets l.number (length l.rings) l.fn.drivers.items (into_iter_items l.driver-iterator) (into_iter_len l.driver-iterator)
          l.fn.controllers.items (into_iter_items l.controllers) (into_iter_len l.controllers) l.stopped;
      stopped : AllZip (IsStopped l.pool) (take l.number l.rings) (vec_items l.stopped);
    }
