use Rattle.std.proofs.Common.{◌≡◌, ◌+◌, ◌≤◌, ◌++◌, All, drop, map, length, vec_items, vec_len, vec_capacity}
use Rattle.std.specs.Vec.Iter.{into_iter_items, into_iter_len}
use Rattle.counters.specs.Kinds.{none_taken, nothing}
use Rattle.counters.specs.Paired.{ArePensOf}
use Rattle.forwarder.proofs.wrapping.wrap_all.Given as goal

abbrev pub invariant-loop-driver : goal.invariant-loop-driver
invariant-loop-driver g l =
    record {
      count : l.number + into_iter_len l.driver-iterator ≡ length l.cells;
      both : l.number + into_iter_len l.controllers ≡ length l.cells;
      all : l.number + into_iter_len l.pens ≡ length l.cells;
      watched : vec_len l.rooms.drivers ≡ l.number;
      shown : vec_len l.rooms.controllers ≡ l.number;
      room : (length l.cells ≤ vec_capacity l.rooms.drivers) × (length l.cells ≤ vec_capacity l.rooms.controllers);
      pens : ArePensOf (drop l.number l.cells) (into_iter_items l.pens);
      counts : All (λ f. f.counts ≡ none_taken) (into_iter_items l.driver-iterator);
      tallies : All (λ f. f.tally ≡ nothing) (into_iter_items l.controllers);
      drivers : map (λ w. w.flow) (vec_items l.rooms.drivers) ++ into_iter_items l.driver-iterator ≡ l.fn.drivers.items;
      controllers : map (λ w. w.flow) (vec_items l.rooms.controllers) ++ into_iter_items l.controllers ≡ l.fn.controllers.items;
      drive : map (λ w. w.pen.cell) (vec_items l.rooms.drivers) ++ map (λ c. c.drive) (drop l.number l.cells) ≡ map (λ c. c.drive) l.cells;
      stat : map (λ w. w.pen.cell) (vec_items l.rooms.controllers) ++ map (λ c. c.stat) (drop l.number l.cells) ≡ map (λ c. c.stat) l.cells;
      drive_base : map (λ w. w.base) (vec_items l.rooms.drivers) ++ map (λ p. p.drive.last) (into_iter_items l.pens) ≡ map (λ p. p.drive.last) l.fn.pens.items;
      stat_base : map (λ w. w.base) (vec_items l.rooms.controllers) ++ map (λ p. p.stat.last) (into_iter_items l.pens) ≡ map (λ p. p.stat.last) l.fn.pens.items;
    }
