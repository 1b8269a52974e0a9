use Rattle.std.proofs.Common.{◌≡◌, ◌+◌, ◌≤◌, ◌++◌, All, map, vec_items, vec_len, vec_capacity}
use Rattle.std.specs.Vec.Iter.{into_iter_items, into_iter_len}
use Rattle.forwarder.specs.LiveStatistics.{DrivenGoesOn, TallyGoesOn}
use Rattle.forwarder.proofs.wrapping.unwrap_all.Given as goal

abbrev pub invariant-loop-driver : goal.invariant-loop-driver
invariant-loop-driver l =
    record {
      both : into_iter_len l.controllers ≡ into_iter_len l.driver-iterator;
      driver_room : vec_len l.room.drivers + into_iter_len l.driver-iterator ≤ vec_capacity l.room.drivers;
      controller_room : vec_len l.room.controllers + into_iter_len l.driver-iterator ≤ vec_capacity l.room.controllers;
      pen_room : vec_len l.room.pens + into_iter_len l.driver-iterator ≤ vec_capacity l.room.pens;
      drivers : vec_items l.room.drivers ++ map (λ w. w.flow) (into_iter_items l.driver-iterator) ≡ map (λ w. w.flow) l.fn.drivers.items;
      controllers : vec_items l.room.controllers ++ map (λ w. w.flow) (into_iter_items l.controllers) ≡ map (λ w. w.flow) l.fn.controllers.items;
      drive : map (λ p. p.drive) (vec_items l.room.pens) ++ map (λ w. w.pen) (into_iter_items l.driver-iterator) ≡ map (λ w. w.pen) l.fn.drivers.items;
      stat : map (λ p. p.stat) (vec_items l.room.pens) ++ map (λ w. w.pen) (into_iter_items l.controllers) ≡ map (λ w. w.pen) l.fn.controllers.items;
      driven : All (λ w. DrivenGoesOn w.base w.flow.counts w.pen.last) (into_iter_items l.driver-iterator) → All (λ w. DrivenGoesOn w.base w.flow.counts w.pen.last) l.fn.drivers.items;
      offered : All (λ w. TallyGoesOn w.base w.flow.tally w.pen.last) (into_iter_items l.controllers) → All (λ w. TallyGoesOn w.base w.flow.tally w.pen.last) l.fn.controllers.items;
    }
