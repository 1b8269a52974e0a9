use Rattle.std.proofs.Common.{rules, ◌≡◌, ◌∙◌, ◌<◌, length, get_or, sym, subst, arith}
use Rattle.forwarder.proofs.Plans.{drop-first, drop-later, drop-within}
use Rattle.forwarder.specs.Rings.{AreEnds}
use Rattle.forward_bench.proofs.sides.make_sides.Goals as goal

pub make_side-driver-requires-clause-ends : goal.make_side-driver-requires-clause-ends
make_side-driver-requires-clause-ends g c =
    let was = c.loop-own.invariant in
    let n = c.loop-own.number in
    let size = c.args.config.now.ring in
    let mode = c.args.config.now.completion in
    let rings = c.index-flow_rings-number.result in
    let own = c.in-Some.own in
    let first = sym was.ends ∙ c.in-Some.ensures.steps.0 in
    let within = drop-within n c.args.ends.items own _ first in
    let low : n < length c.args.flow_rings.now = search rules in
    let at : get_or c.args.flow_rings.now n rings ≡ rings = search rules in
    subst (λ l. AreEnds size mode l own) at
    (subst (λ e. AreEnds size mode (get_or c.args.flow_rings.now n rings) e) (drop-first n c.args.ends.items own _ first own) (c.requires.ends n rings own low))

pub loop-own-preserved : goal.loop-own-preserved
loop-own-preserved g c =
    let was = c.loop-own.invariant in
    let n = c.loop-own.number in
    let first = sym was.ends ∙ c.in-Some.ensures.steps.0 in
    record {
      ends = drop-later n c.args.ends.items c.in-Some.own _ first;
      count = search rules;
      drivers = search rules;
      controllers = search rules;
      room = search rules;
      pool = search rules;
      share = omega (arith, c.make_side-driver.ensures.share, was.share);
    }
