use Rattle.std.proofs.Common.{rules, ◌≡◌, ◌∙◌, [], ◌∷◌, ◌++◌, true, length, map, get_or, ap, sym, subst, refl}
use Rattle.std.specs.Vec.Iter.{into_iter_items, into_iter_len}
use Rattle.std.proofs.lemmas.List.{map-append}
use Rattle.flows.specs.Driven.{is_over}
use Rattle.flows.specs.Keys.{ControllerKey, DriverKey, plan_of}
use Rattle.flows.specs.Reports.{IsReport}
use Rattle.forwarder.proofs.Places.{by-map}
use Rattle.forwarder.proofs.Plans.{all-at, drop-first, drop-within, list-more}
use Rattle.forwarder.proofs.Walking.{Grew, flow_rings-met, meets-on}
use Rattle.forwarder.proofs.Moving.{moved}
use Rattle.forwarder.proofs.concluding.conclude_all.Goals as goal

pub conclude_flow-report-requires : goal.conclude_flow-report-requires
conclude_flow-report-requires c =
    let was = c.loop-driver.invariant in
    let other : into_iter_items c.loop-driver.controllers ≡ c.in-Some-next.controller ∷ into_iter_items c.next-in-loop-driver.new.self = search rules in (
      (refl, refl),
      (
        all-at (λ f. is_over f.phase ≡ true) c.loop-driver.number c.args.drivers.items c.in-Some.driver _ (sym was.both.one.rest ∙ c.in-Some.ensures.steps.0) c.requires.over,
        (
          flow_rings-met c.args.pool.now c.loop-driver.number (length c.args.rings.now) c.args.rings.now c.index-rings-number.result c.args.drivers.items (into_iter_items c.loop-driver.driver-iterator) (into_iter_items c.next.new.self) _ c.in-Some.driver
              c.args.controllers.items (into_iter_items c.loop-driver.controllers) (into_iter_items c.next-in-loop-driver.new.self) _ c.in-Some-next.controller c.loop-driver.reports
              c.requires.rings was.both (search rules) (search rules) c.in-Some.ensures.steps.0 other,
          was.pool,
        ),
      ),
    )

pub loop-driver-preserved : goal.loop-driver-preserved
loop-driver-preserved c =
    let was = c.loop-driver.invariant in
    let n = c.loop-driver.number in
    let driver = c.in-Some.driver in
    let controller = c.in-Some-next.controller in
    let drivers = c.args.drivers.items in
    let controllers = c.args.controllers.items in
    let first = sym was.both.one.rest ∙ c.in-Some.ensures.steps.0 in
    let other : into_iter_items c.loop-driver.controllers ≡ controller ∷ into_iter_items c.next-in-loop-driver.new.self = search rules in
    let first' = sym was.both.other.rest ∙ other in
    let within = drop-within n drivers driver _ first in
    let within' = drop-within n controllers controller _ first' in
    let report = c.conclude_flow-report.result in
    let reports = c.loop-driver.reports.items in
    let reports' = c.push_reserved.new.self.items in
    let pushed : reports' ≡ reports ++ report ∷ [] = c.push_reserved.ensures.items in
    let key : (d : DriverKey) → get_or (map (λ f. f.key) drivers) n d ≡ driver.key = λ d. by-map (λ f. f.key) drivers n driver.key d within (λ e. ap (λ f. f.key) (drop-first n drivers driver _ first e)) in
    let key' : (k : ControllerKey) → get_or (map (λ f. f.key) controllers) n k ≡ controller.key = λ k. by-map (λ f. f.key) controllers n controller.key k within' (λ e. ap (λ f. f.key) (drop-first n controllers controller _ first' e)) in
    let grew : Grew c.loop-driver.reports c.push_reserved.new.self = record { len = search rules; capacity = search rules } in
    record {
      both = meets-on n (length c.args.rings.now) drivers (into_iter_items c.loop-driver.driver-iterator) (into_iter_items c.next.new.self)
          (into_iter_len c.loop-driver.driver-iterator) (into_iter_len c.next.new.self) driver controllers (into_iter_items c.loop-driver.controllers) (into_iter_items c.next-in-loop-driver.new.self)
          (into_iter_len c.loop-driver.controllers) (into_iter_len c.next-in-loop-driver.new.self) controller c.loop-driver.reports c.push_reserved.new.self was.both c.in-Some.ensures.steps.0 (search rules) (search rules) (search rules) grew;
      pool = c.conclude_flow-report.ensures.pool;
      share = (let more = c.conclude_flow-report.ensures.share in let so = was.share in search rules);
      held = c.conclude_flow-report.ensures.held ∙ was.held;
      driven = moved (map (λ r. r.driven) reports) (map (λ r. r.driven) reports') (map (λ f. f.counts) (into_iter_items c.loop-driver.driver-iterator)) (map (λ f. f.counts) (into_iter_items c.next.new.self)) (map (λ f. f.counts) drivers) driver.counts was.driven
          (ap (map (λ f. f.counts)) c.in-Some.ensures.steps.0) (ap (map (λ r. r.driven)) pushed ∙ map-append (λ r. r.driven) reports (report ∷ []) ∙ ap (λ n. map (λ r. r.driven) reports ++ n ∷ []) c.conclude_flow-report.ensures.driven);
      offered = moved (map (λ r. r.tally) reports) (map (λ r. r.tally) reports') (map (λ f. f.tally) (into_iter_items c.loop-driver.controllers)) (map (λ f. f.tally) (into_iter_items c.next-in-loop-driver.new.self)) (map (λ f. f.tally) controllers) controller.tally was.offered
          (ap (map (λ f. f.tally)) other) (ap (map (λ r. r.tally)) pushed ∙ map-append (λ r. r.tally) reports (report ∷ []) ∙ ap (λ n. map (λ r. r.tally) reports ++ n ∷ []) c.conclude_flow-report.ensures.offered);
      reports = (λ flow d k r low. list-more (λ i report. (a : DriverKey) (b : ControllerKey) → IsReport (plan_of (get_or (map (λ f. f.key) drivers) i a) (get_or (map (λ f. f.key) controllers) i b)) report)
          c.loop-driver.reports.items c.push_reserved.new.self.items c.conclude_flow-report.result n (search rules) c.push_reserved.ensures.items
          (λ a b. subst (λ p. IsReport (plan_of p (get_or (map (λ f. f.key) controllers) n b)) c.conclude_flow-report.result) (sym (key a))
          (subst (λ p. IsReport (plan_of driver.key p) c.conclude_flow-report.result) (sym (key' b)) c.conclude_flow-report.ensures.report))
          (λ i e less a b. was.reports i a b e less) flow r low d k);
    }
