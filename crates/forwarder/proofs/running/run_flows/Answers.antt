use Rattle.std.proofs.Common.{rules, ◌≡◌, ◌∙◌, ◌*◌, ap, length, map, sym, subst, arith}
use Rattle.std.specs.Option.{is_some, IfSome}
use Rattle.std.specs.Prelude.{slice_index_or}
use Rattle.std.proofs.lemmas.Bool.{false≢true}
use Rattle.std.proofs.lemmas.List.{length-map}
use Rattle.flows.specs.Reports.{IsReport}
use Rattle.limits.specs.declared.profile.TheConstants.{PORTS}
use Rattle.forwarder.specs.Plans.{plan_with}
use Rattle.forwarder.proofs.Plans.{rings-of, reports-of, sides-at}
use Rattle.forwarder.specs.ShownCounts.{ContinueByReports}
use Rattle.forwarder.proofs.Continuing.{watched}
use Rattle.forwarder.proofs.running.run_flows.Goals as goal
use Rattle.forwarder.proofs.running.run_flows.Goals.{then-is_some, else-is_some}

pub stop_all-requires-clause-flows : goal.stop_all-requires-clause-flows
stop_all-requires-clause-flows g c =
    let sides = c.in_ok-sides.sides in
    let served = c.serve_sides-shown.result.served in
    let ds : length (map (λ f. f.key) served.drivers.items) ≡ length (map (λ f. f.key) sides.drivers.items) = ap length c.serve_sides-shown.ensures.drivers in
    let cs : length (map (λ f. f.key) served.controllers.items) ≡ length (map (λ f. f.key) sides.controllers.items) = ap length c.serve_sides-shown.ensures.controllers in
    (search (rules, length-map, ds), search (rules, length-map, cs))

pub stop_all-requires-clause-rings : goal.stop_all-requires-clause-rings
stop_all-requires-clause-rings g c =
    let sides = c.in_ok-sides.sides in
    let served = c.serve_sides-shown.result.served in
    rings-of c.args.pool.now (PORTS * c.args.job.config.now.pairs) (length c.args.rings.now) (plan_with (is_some c.args.stop) c.args.job.config.now c.args.job.script.now) c.args.rings.now
    (map (λ f. f.key) sides.drivers.items) (map (λ f. f.key) served.drivers.items) (map (λ f. f.key) sides.controllers.items) (map (λ f. f.key) served.controllers.items)
    (sym c.requires.ready.all_rings) c.serve_sides-shown.ensures.drivers c.serve_sides-shown.ensures.controllers c.in_ok-sides.ensures.sides

pub conclude_all-flows-requires-clause-flows : goal.conclude_all-flows-requires-clause-flows
conclude_all-flows-requires-clause-flows g c =
    let sides = c.in_ok-sides.sides in
    let served = c.serve_sides-shown.result.served in
    let ds : length (map (λ f. f.key) served.drivers.items) ≡ length (map (λ f. f.key) sides.drivers.items) = ap length c.serve_sides-shown.ensures.drivers in
    let cs : length (map (λ f. f.key) served.controllers.items) ≡ length (map (λ f. f.key) sides.controllers.items) = ap length c.serve_sides-shown.ensures.controllers in
    (search (rules, length-map, ds), search (rules, length-map, cs))

pub conclude_all-flows-requires-clause-rings : goal.conclude_all-flows-requires-clause-rings
conclude_all-flows-requires-clause-rings g c =
    let sides = c.in_ok-sides.sides in
    let served = c.serve_sides-shown.result.served in
    rings-of c.args.pool.now (PORTS * c.args.job.config.now.pairs) (length c.args.rings.now) (plan_with (is_some c.args.stop) c.args.job.config.now c.args.job.script.now) c.args.rings.now
    (map (λ f. f.key) sides.drivers.items) (map (λ f. f.key) served.drivers.items) (map (λ f. f.key) sides.controllers.items) (map (λ f. f.key) served.controllers.items)
    (sym c.requires.ready.all_rings) c.serve_sides-shown.ensures.drivers c.serve_sides-shown.ensures.controllers c.in_ok-sides.ensures.sides

pub returns-clause-reports : goal.returns-clause-reports
returns-clause-reports g c = λ none flow r low.
    let sides = c.in_ok-sides.sides in
    let served = c.serve_sides-shown.result.served in
    let n = length c.args.rings.now in
    let plans = plan_with (is_some c.args.stop) c.args.job.config.now c.args.job.script.now in
    let ds = map (λ f. f.key) sides.drivers.items in
    let cs = map (λ f. f.key) sides.controllers.items in
    let ds' = map (λ f. f.key) served.drivers.items in
    let cs' = map (λ f. f.key) served.controllers.items in
    let ds_long : length ds' ≡ length ds = ap length c.serve_sides-shown.ensures.drivers in
    let cs_long : length cs' ≡ length cs = ap length c.serve_sides-shown.ensures.controllers in
    let many : length ds' ≡ n = search (rules, length-map, ds_long) in
    let many' : length cs' ≡ n = search (rules, length-map, cs_long) in
    elim c.if-is_some.branch [
      | then-is_some w ↦ absurd (false≢true (sym (w.if-is_some.ensures ∙ ap is_some none)))
      | else-is_some w ↦ subst (λ p. IsReport (plans flow) (slice_index_or p.0.items flow r)) (sym w.flows-is)
          (reports-of c.args.pool.now n plans c.args.rings.now ds' cs' w.conclude_all-flows.result.items (omega arith) many many'
          (sides-at c.args.pool.now (PORTS * c.args.job.config.now.pairs) n plans c.args.rings.now ds ds' cs cs' (sym c.requires.ready.all_rings) c.serve_sides-shown.ensures.drivers c.serve_sides-shown.ensures.controllers c.in_ok-sides.ensures.sides)
          w.conclude_all-flows.ensures.reports flow r (omega (arith, low, c.requires.ready.all_rings)))
    ]

pub returns-clause-shown : goal.returns-clause-shown
returns-clause-shown g c = λ none.
    let served = c.serve_sides-shown.result.served in
    elim c.if-is_some.branch [
      | then-is_some w ↦ absurd (false≢true (sym (w.if-is_some.ensures ∙ ap is_some none)))
      | else-is_some w ↦ (let all = w.conclude_all-flows.ensures in let sides = c.in_ok-sides.ensures.flows in let ready = c.requires.ready.all_rings in
          subst (λ p. IfSome c.args.watch (λ x. ContinueByReports x.cells.now x.pens.items c.serve_sides-shown.result.pens.items p.0.items)) (sym w.flows-is)
          (watched c.args.watch c.serve_sides-shown.result.pens.items _ _ w.conclude_all-flows.result.items (λ x is. (let many = c.requires.cells x is in let flows = all.flows in omega (arith, many, flows, ready)))
          all.offered all.driven c.serve_sides-shown.ensures.pens c.serve_sides-shown.ensures.go_on))
    ]
