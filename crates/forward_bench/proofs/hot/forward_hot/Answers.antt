use Rattle.std.proofs.Common.{rules, ◌≡◌, ap, length, subst, sym, arith}
use Rattle.std.specs.Prelude.{slice_index_or}
use denote.Param.Send.{sendable}
use Rattle.flows.proofs.Sent.{driver_flow}
use Rattle.forwarder.specs.Rings.{AreEnds}
use Rattle.forward_bench.proofs.Sent.{hot_flow}
use Rattle.forward_bench.proofs.hot.forward_hot.Goals as goal

pub make_sides-requires-clause-ends : goal.make_sides-requires-clause-ends
make_sides-requires-clause-ends g c =
    let made = c.in_ok-flow_rings in
    let same : c.deref.result.now ≡ made.flow_rings.items = search rules in
    λ k d e low. subst (λ xs. AreEnds c.args.config.now.ring c.args.config.now.completion (slice_index_or xs k d) (slice_index_or made.ends.items k e)) (sym same)
    (made.ensures.made k d e (omega (arith, low, ap length same, made.ensures.flows.0)))

pub serve_flows-served-requires-send-D : goal.serve_flows-served-requires-send-D
serve_flows-served-requires-send-D g c κs = search (sendable, driver_flow)

pub serve_flows-served-requires-send-C : goal.serve_flows-served-requires-send-C
serve_flows-served-requires-send-C g c κs = search (sendable, hot_flow)
