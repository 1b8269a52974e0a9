use Rattle.std.proofs.Common.{rules, ◌≡◌, subst, sym}
use Rattle.std.specs.Prelude.{slice_index_or}
use Rattle.forwarder.specs.Rings.{AreEnds}
use Rattle.forwarder.proofs.calls.forward_with.Goals as goal

pub run_flows-requires-clause-ready : goal.run_flows-requires-clause-ready
run_flows-requires-clause-ready g c =
    let same : c.deref.result.now ≡ c.in_ok-rings.rings.items = search rules in
    λ κs lasts. record {
      all_rings = search rules;
      all_ends = search rules;
      all_places = search rules;
      made = λ k d e low. subst (λ xs. AreEnds c.args.config.now.ring c.args.config.now.completion (slice_index_or xs k d) (slice_index_or c.in_ok-rings.ends.items k e)) (sym same) (c.in_ok-rings.ensures.made k d e low);
      places = c.in_ok-index.ensures.places;
    }
