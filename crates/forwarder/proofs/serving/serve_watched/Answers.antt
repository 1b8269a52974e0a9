use Rattle.std.proofs.Common.{rules, arith, ◌≡◌, ◌∙◌, ◌≤◌, true, All, length, map, sym, subst, ap, vec_capacity}
use Rattle.std.proofs.lemmas.List.{length-map}
use Rattle.std.proofs.lemmas.Simd.{map-map}
use denote.Param.Send.{sendable}
use Rattle.std.proofs.Crossing.{crosses}
use Rattle.counters.proofs.cell.SnapshotCell.TheSendSync as Cell
use Rattle.counters.proofs.cell.SnapshotPen.TheSendSync as Pen
use Rattle.flows.proofs.Sent.{controller_flow, driver_flow}
use Rattle.flows.specs.Driven.{is_over}
use Rattle.forwarder.specs.LiveStatistics.{DrivenGoesOn, TallyGoesOn}
use Rattle.forwarder.proofs.Continuing.{continue-all, pens-count, still}
use Rattle.forwarder.proofs.Moving.{all-map, as-many, by-parts, keys-of, marks-by, part-of}
use Rattle.forwarder.proofs.serving.serve_watched.Goals as goal
use Rattle.forwarder.proofs.serving.serve_watched.Goals.{After-serve_flows-served}

ruleset watched = (sendable, crosses, driver_flow, controller_flow, Cell.the_send, Cell.the_sync, Pen.the_send)

pub serve_flows-served-requires-send-D : goal.serve_flows-served-requires-send-D
serve_flows-served-requires-send-D g c κs = search watched depth 60 fits 20000

pub serve_flows-served-requires-send-C : goal.serve_flows-served-requires-send-C
serve_flows-served-requires-send-C g c κs = search watched depth 60 fits 20000

pub wrap_all-flows-requires-clause-count : goal.wrap_all-flows-requires-clause-count
wrap_all-flows-requires-clause-count g c = let count = pens-count c.args.cells.now c.args.pens.items c.requires.pens in omega (arith, count)

-- as many came back as there are cells
back-drivers : (g : _) (c : After-serve_flows-served g) → length c.serve_flows-served.result.drivers.items ≡ length c.args.cells.now
back-drivers g c =
    let back = as-many (λ f. f.key) (λ w. w.flow) (λ w. (w.pen.cell, w.base)) c.serve_flows-served.result.drivers.items c.wrap_all-flows.result.drivers.items c.serve_flows-served.ensures.drivers c.args.drivers.items c.wrap_all-flows.ensures.drivers in
    omega (arith, back, c.requires.flows.0)

back-controllers : (g : _) (c : After-serve_flows-served g) → length c.serve_flows-served.result.controllers.items ≡ length c.args.cells.now
back-controllers g c =
    let back = as-many (λ f. f.key) (λ w. w.flow) (λ w. (w.pen.cell, w.base)) c.serve_flows-served.result.controllers.items c.wrap_all-flows.result.controllers.items c.serve_flows-served.ensures.controllers c.args.controllers.items c.wrap_all-flows.ensures.controllers in
    omega (arith, back, c.requires.flows.1)

pub unwrap_all-back-requires-clause-flows : goal.unwrap_all-back-requires-clause-flows
unwrap_all-back-requires-clause-flows g c =
    let served = (goal.at.unwrap_all-back-requires-clause-flows g c).After-serve_flows-served in
    let drivers = back-drivers g served in
    let controllers = back-controllers g served in
    omega (arith, drivers, controllers)

pub unwrap_all-back-requires-clause-room : goal.unwrap_all-back-requires-clause-room
unwrap_all-back-requires-clause-room g c =
    let back = back-drivers g (goal.at.unwrap_all-back-requires-clause-room g c).After-serve_flows-served in
    let room = c.in-Ok-Ok.back in
    let ds : length c.args.cells.now ≤ vec_capacity room.drivers = search rules in
    let cs : length c.args.cells.now ≤ vec_capacity room.controllers = search rules in
    let ps : length c.args.cells.now ≤ vec_capacity room.pens = search rules in
    (omega (arith, back, ds), omega (arith, back, cs), omega (arith, back, ps))

pub returns-clause-drivers : goal.returns-clause-drivers
returns-clause-drivers g c =
    let served = c.serve_flows-served in
    let given = c.wrap_all-flows.result in
    keys-of (λ f. f.key) (λ w. w.flow) (λ w. (w.pen.cell, w.base)) served.result.drivers.items given.drivers.items served.ensures.drivers c.args.drivers.items c.unwrap_all-back.result.drivers.items c.wrap_all-flows.ensures.drivers c.unwrap_all-back.ensures.drivers

pub returns-clause-controllers : goal.returns-clause-controllers
returns-clause-controllers g c =
    let served = c.serve_flows-served in
    let given = c.wrap_all-flows.result in
    keys-of (λ f. f.key) (λ w. w.flow) (λ w. (w.pen.cell, w.base)) served.result.controllers.items given.controllers.items served.ensures.controllers c.args.controllers.items c.unwrap_all-back.result.controllers.items c.wrap_all-flows.ensures.controllers c.unwrap_all-back.ensures.controllers

pub returns-clause-over : goal.returns-clause-over
returns-clause-over g c = λ none.
    subst (All (λ f. is_over f.phase ≡ true)) (sym c.unwrap_all-back.ensures.drivers)
    (all-map (λ f. is_over f.phase ≡ true) (λ w. w.flow) c.serve_flows-served.result.drivers.items (c.serve_flows-served.ensures.over none))

-- the cells of the flows that came back, and the numbers that these cells showed before
drive-cells : (g : _) (c : After-serve_flows-served g) → map (λ w. w.pen.cell) c.serve_flows-served.result.drivers.items ≡ map (λ x. x.drive) c.args.cells.now
drive-cells g c = part-of (λ f. f.key) (λ w. w.flow) (λ w. w.pen.cell) (λ w. w.base) (λ p. p.1.0) c.serve_flows-served.result.drivers.items c.wrap_all-flows.result.drivers.items _ c.serve_flows-served.ensures.drivers c.wrap_all-flows.ensures.drive

stat-cells : (g : _) (c : After-serve_flows-served g) → map (λ w. w.pen.cell) c.serve_flows-served.result.controllers.items ≡ map (λ x. x.stat) c.args.cells.now
stat-cells g c = part-of (λ f. f.key) (λ w. w.flow) (λ w. w.pen.cell) (λ w. w.base) (λ p. p.1.0) c.serve_flows-served.result.controllers.items c.wrap_all-flows.result.controllers.items _ c.serve_flows-served.ensures.controllers c.wrap_all-flows.ensures.stat

drive-bases : (g : _) (c : After-serve_flows-served g) → map (λ w. w.base) c.serve_flows-served.result.drivers.items ≡ map (λ p. p.drive.last) c.args.pens.items
drive-bases g c = part-of (λ f. f.key) (λ w. w.flow) (λ w. w.pen.cell) (λ w. w.base) (λ p. p.1.1) c.serve_flows-served.result.drivers.items c.wrap_all-flows.result.drivers.items _ c.serve_flows-served.ensures.drivers c.wrap_all-flows.ensures.drive_base

stat-bases : (g : _) (c : After-serve_flows-served g) → map (λ w. w.base) c.serve_flows-served.result.controllers.items ≡ map (λ p. p.stat.last) c.args.pens.items
stat-bases g c = part-of (λ f. f.key) (λ w. w.flow) (λ w. w.pen.cell) (λ w. w.base) (λ p. p.1.1) c.serve_flows-served.result.controllers.items c.wrap_all-flows.result.controllers.items _ c.serve_flows-served.ensures.controllers c.wrap_all-flows.ensures.stat_base

pub returns-clause-pens : goal.returns-clause-pens
returns-clause-pens g c =
    let back = (goal.at.returns-clause-pens g c).After-serve_flows-served in
    let served = c.serve_flows-served.result in
    let pens = c.unwrap_all-back.result.pens.items in
    record {
      stat = marks-by (λ p. p.stat) (λ k. k.cell) (λ w. w.pen) pens served.controllers.items _ c.unwrap_all-back.ensures.stat (stat-cells g back);
      drive = marks-by (λ p. p.drive) (λ k. k.cell) (λ w. w.pen) pens served.drivers.items _ c.unwrap_all-back.ensures.drive (drive-cells g back);
    }

pub returns-clause-go_on : goal.returns-clause-go_on
returns-clause-go_on g c =
    let at = (goal.at.returns-clause-go_on g c).After-serve_flows-served in
    let served = c.serve_flows-served.result in
    let back = c.unwrap_all-back in
    let n = length c.args.cells.now in
    let drivers = back-drivers g at in
    let controllers = back-controllers g at in
    let pens : length back.result.pens.items ≡ n = sym (length-map back.result.pens.items (λ p. p.drive)) ∙ (ap length back.ensures.drive ∙ (length-map served.drivers.items (λ w. w.pen) ∙ drivers)) in
    continue-all n c.args.pens.items back.result.pens.items _ _ (pens-count c.args.cells.now c.args.pens.items c.requires.pens) pens
    (λ k b t s low. by-parts TallyGoesOn (λ w. w.base) (λ w. w.flow.tally) (λ w. w.pen.last) served.controllers.items _ _ _ back.ensures.offered (stat-bases g at)
    (sym (map-map (λ f. f.tally) (λ w. w.flow) served.controllers.items) ∙ ap (map (λ f. f.tally)) (sym back.ensures.controllers))
    (sym (map-map (λ k. k.last) (λ w. w.pen) served.controllers.items) ∙ (ap (map (λ k. k.last)) (sym back.ensures.stat) ∙ map-map (λ k. k.last) (λ p. p.stat) back.result.pens.items)) k b t s (omega (arith, low, controllers)))
    (λ k b d s low. by-parts DrivenGoesOn (λ w. w.base) (λ w. w.flow.counts) (λ w. w.pen.last) served.drivers.items _ _ _ back.ensures.driven (drive-bases g at)
    (sym (map-map (λ f. f.counts) (λ w. w.flow) served.drivers.items) ∙ ap (map (λ f. f.counts)) (sym back.ensures.drivers))
    (sym (map-map (λ k. k.last) (λ w. w.pen) served.drivers.items) ∙ (ap (map (λ k. k.last)) (sym back.ensures.drive) ∙ map-map (λ k. k.last) (λ p. p.drive) back.result.pens.items)) k b d s (omega (arith, low, drivers)))

pub returns-in_default-clause-go_on : goal.returns-in_default-clause-go_on
returns-in_default-clause-go_on g c =
    still (λ f. f.tally) (λ f. f.counts) (length c.args.cells.now) c.args.pens.items c.args.controllers.items c.args.drivers.items (pens-count c.args.cells.now c.args.pens.items c.requires.pens) (omega (arith, c.requires.flows.1)) (omega (arith, c.requires.flows.0)) c.requires.tallies c.requires.counts
