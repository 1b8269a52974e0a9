use Rattle.std.proofs.Common.{◌≡◌, ◌+◌, ◌++◌, map, length, vec_items}
use Rattle.std.specs.Vec.Iter.{into_iter_items, into_iter_len}
use Rattle.pool.specs.Owned.{IsOf}
use Rattle.forwarder.specs.Plans.{AreReports}
use Rattle.forwarder.proofs.Walking.{Meets}
use Rattle.forwarder.proofs.concluding.conclude_all.Given as goal

abbrev pub ghost-conclude_flow : goal.ghost-conclude_flow
ghost-conclude_flow a = (a.driver.key, a.controller.key)

abbrev pub invariant-loop-driver : goal.invariant-loop-driver
invariant-loop-driver l =
    record {
      both : Meets l.number (length l.rings) l.fn.drivers.items (into_iter_items l.driver-iterator) (into_iter_len l.driver-iterator)
          l.fn.controllers.items (into_iter_items l.controllers) (into_iter_len l.controllers) l.reports;
      pool : IsOf l.pool l.pass;
      share : l.pass.hand.share ≡ l.initial.pass.hand.share + l.number;
      held : l.pass.hand.held ≡ l.initial.pass.hand.held;
      driven : map (λ r. r.driven) (vec_items l.reports) ++ map (λ f. f.counts) (into_iter_items l.driver-iterator) ≡ map (λ f. f.counts) l.fn.drivers.items;
      offered : map (λ r. r.tally) (vec_items l.reports) ++ map (λ f. f.tally) (into_iter_items l.controllers) ≡ map (λ f. f.tally) l.fn.controllers.items;
      reports : AreReports l.number (map (λ f. f.key) l.fn.drivers.items) (map (λ f. f.key) l.fn.controllers.items) (vec_items l.reports);
    }
