use Rattle.std.proofs.Common.{rules, arith, ◌≡◌, ◌∙◌, ◌+◌, ◌<◌, ◌∷◌, ap, drop, get_or, length, map, subst, All}
use Rattle.std.specs.Vec.Iter.{into_iter_items}
use Rattle.std.proofs.lemmas.List.{drop_more}
use Rattle.std.proofs.lemmas.List.Elements.{All-head, All-rest}
use denote.Param.Send.{sendable}
use Rattle.counters.specs.Kinds.{none_taken, nothing}
use Rattle.counters.specs.Paired.{ArePensOf}
use Rattle.flows.proofs.Sent.{controller_flow, driver_flow}
use Rattle.forwarder.proofs.Moving.{moved-as, pens-rest}
use Rattle.forwarder.proofs.wrapping.wrap_all.Goals as goal
use Rattle.forwarder.proofs.wrapping.wrap_all.Goals.{After-index-cells-number}

pub new-requires-send-F : goal.new-requires-send-F
new-requires-send-F g c κs = search (sendable, driver_flow)

pub new-requires-in-loop-driver-send-F : goal.new-requires-in-loop-driver-send-F
new-requires-in-loop-driver-send-F g c κs = search (sendable, controller_flow)

-- the cell of this number is the first of those that are left
cell-first : (g : _) (c : After-index-cells-number g) → drop c.loop-driver.number c.args.cells.now ≡ c.index-cells-number.result ∷ drop (c.loop-driver.number + 1) c.args.cells.now
cell-first g c =
    let n = c.loop-driver.number in
    let cells = c.args.cells.now in
    let cell = c.index-cells-number.result in
    let here : get_or cells n cell ≡ cell = search rules in
    let low : n < length cells = search rules in
    drop_more cells n cell low ∙ ap (λ x. x ∷ drop (n + 1) cells) here

-- its pens are the first of those that are left, and the others are those of the other cells
pens-first : (g : _) (c : After-index-cells-number g)
    → (c.in-Some-next-2.own.stat.cell ≡ c.index-cells-number.result.stat) × (c.in-Some-next-2.own.drive.cell ≡ c.index-cells-number.result.drive) × ArePensOf (drop (c.loop-driver.number + 1) c.args.cells.now) (into_iter_items c.next-in-loop-driver-2.new.self)
pens-first g c =
    let n = c.loop-driver.number in
    let cells = c.args.cells.now in
    let pens = into_iter_items c.loop-driver.pens in
    let pens' = into_iter_items c.next-in-loop-driver-2.new.self in
    let pen : pens ≡ c.in-Some-next-2.own ∷ pens' = search rules in
    pens-rest c.index-cells-number.result (drop n cells) (drop (n + 1) cells) c.in-Some-next-2.own pens pens' (cell-first g c) pen c.loop-driver.invariant.pens

pub new-requires-after_bounds : goal.new-requires-after_bounds
new-requires-after_bounds g c κs lives =
    let own = pens-first g (goal.at.new-requires-after_bounds g c).After-index-cells-number in
    let counts = All-head (λ f. f.counts ≡ none_taken) c.in-Some.driver (into_iter_items c.next.new.self) (subst (All (λ f. f.counts ≡ none_taken)) c.in-Some.ensures.steps.0 c.loop-driver.invariant.counts) in
    (omega arith, (omega arith, (omega arith, (own.1, counts))))

pub new-requires-in-loop-driver-after_bounds : goal.new-requires-in-loop-driver-after_bounds
new-requires-in-loop-driver-after_bounds g c κs lives =
    let own = pens-first g (goal.at.new-requires-in-loop-driver-after_bounds g c).After-index-cells-number in
    let other : into_iter_items c.loop-driver.controllers ≡ c.in-Some-next.controller ∷ into_iter_items c.next-in-loop-driver.new.self = search rules in
    let tally = All-head (λ f. f.tally ≡ nothing) c.in-Some-next.controller (into_iter_items c.next-in-loop-driver.new.self) (subst (All (λ f. f.tally ≡ nothing)) other c.loop-driver.invariant.tallies) in
    (omega arith, (omega arith, (omega arith, (own.0, tally))))

pub loop-driver-preserved : goal.loop-driver-preserved
loop-driver-preserved g c =
    let was = c.loop-driver.invariant in
    let n = c.loop-driver.number in
    let cells = c.args.cells.now in
    let cell = c.index-cells-number.result in
    let next = (goal.at.loop-driver-preserved g c).After-index-cells-number in
    let at = cell-first g next in
    let paired = pens-first g next in
    let rest = into_iter_items c.loop-driver.driver-iterator in
    let rest' = into_iter_items c.next.new.self in
    let others = into_iter_items c.loop-driver.controllers in
    let others' = into_iter_items c.next-in-loop-driver.new.self in
    let first : rest ≡ c.in-Some.driver ∷ rest' = c.in-Some.ensures.steps.0 in
    let other : others ≡ c.in-Some-next.controller ∷ others' = search rules in
    let watched = c.loop-driver.rooms.drivers.items in
    let watched' = c.push_reserved.new.self.items in
    let shown = c.loop-driver.rooms.controllers.items in
    let shown' = c.push_reserved-in-loop-driver.new.self.items in
    let made = c.new in
    let also = c.new-in-loop-driver in
    let pens = into_iter_items c.loop-driver.pens in
    let pens' = into_iter_items c.next-in-loop-driver-2.new.self in
    let pen : pens ≡ c.in-Some-next-2.own ∷ pens' = search rules in
    record {
      count = search rules;
      both = search rules;
      all = search rules;
      watched = search rules;
      shown = search rules;
      room = search rules;
      pens = paired.2;
      counts = All-rest (λ f. f.counts ≡ none_taken) c.in-Some.driver rest' rest first was.counts;
      tallies = All-rest (λ f. f.tally ≡ nothing) c.in-Some-next.controller others' others other was.tallies;
      drivers = moved-as (λ w. w.flow) watched watched' made.result rest rest' c.args.drivers.items c.in-Some.driver was.drivers first c.push_reserved.ensures.items made.ensures.flow;
      controllers = moved-as (λ w. w.flow) shown shown' also.result others others' c.args.controllers.items c.in-Some-next.controller was.controllers other c.push_reserved-in-loop-driver.ensures.items also.ensures.flow;
      drive = moved-as (λ w. w.pen.cell) watched watched' made.result (map (λ c. c.drive) (drop n cells)) (map (λ c. c.drive) (drop (n + 1) cells)) (map (λ c. c.drive) cells) cell.drive was.drive
          (ap (map (λ c. c.drive)) at) c.push_reserved.ensures.items (ap (λ p. p.cell) made.ensures.pen ∙ paired.1);
      stat = moved-as (λ w. w.pen.cell) shown shown' also.result (map (λ c. c.stat) (drop n cells)) (map (λ c. c.stat) (drop (n + 1) cells)) (map (λ c. c.stat) cells) cell.stat was.stat
          (ap (map (λ c. c.stat)) at) c.push_reserved-in-loop-driver.ensures.items (ap (λ p. p.cell) also.ensures.pen ∙ paired.0);
      drive_base = moved-as (λ w. w.base) watched watched' made.result (map (λ p. p.drive.last) pens) (map (λ p. p.drive.last) pens') (map (λ p. p.drive.last) c.args.pens.items) c.in-Some-next-2.own.drive.last was.drive_base
          (ap (map (λ p. p.drive.last)) pen) c.push_reserved.ensures.items made.ensures.base;
      stat_base = moved-as (λ w. w.base) shown shown' also.result (map (λ p. p.stat.last) pens) (map (λ p. p.stat.last) pens') (map (λ p. p.stat.last) c.args.pens.items) c.in-Some-next-2.own.stat.last was.stat_base
          (ap (map (λ p. p.stat.last)) pen) c.push_reserved-in-loop-driver.ensures.items also.ensures.base;
    }
