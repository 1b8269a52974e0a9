use Rattle.std.proofs.Common.{rules, ◌≡◌, ◌+◌, ◌*◌, ◌++◌, [], ◌∷◌, ap, sym, ◌∙◌, take, length}
use Rattle.std.proofs.Math.Seq.{take-length}
use Rattle.std.proofs.lemmas.List.{take_more, length-take-le}
use Rattle.limits.specs.declared.profile.TheConstants.{PORTS}
use Rattle.forwarder.specs.Flows.{places_of}
use Rattle.forwarder.proofs.Places.{by-map, placed}
use Rattle.forwarder.proofs.index.Index.of.Goals as goal

pub loop-k-preserved : goal.loop-k-preserved
loop-k-preserved c =
    let was = c.loop-k.invariant in
    let frames = c.frames-frames.result.now in
    let k = c.loop-k.k in
    let frame = c.index-frames-k.result in
    let pairs = c.args.pairs in
    let own = c.flow_of-flow.result in
    let hands = c.loop-k.flows.items in
    let more : take (k + 1) frames ≡ take k frames ++ frame ∷ [] = take_more frames k frame (search rules) ∙ ap (λ f. take k frames ++ f ∷ []) (search rules) in
    let long : length (take k frames) ≡ k = length-take-le k frames (search rules) in
    record {
      len = search rules;
      places = (λ flow d low.
          placed (λ v. v.items) pairs (PORTS * pairs) own hands c.push.new.self (take k frames) frame (sym c.flow_of-flow.ensures.is) c.flow_of-flow.ensures.few (search rules)
          (λ e. search rules) was.places flow d low ∙ ap (λ xs. places_of pairs flow xs) (sym more));
    }

pub returns-clause-places : goal.returns-clause-places
returns-clause-places c = λ flow d low.
    let was = c.loop-k.invariant in
    let end : c.loop-k.k ≡ length c.frames-frames.result.now = search rules in
    let whole : take c.loop-k.k c.frames-frames.result.now ≡ c.args.script.now = ap (λ n. take n c.frames-frames.result.now) end ∙ take-length c.frames-frames.result.now ∙ c.frames-frames.ensures.value in
    by-map (λ v. v.items) c.loop-k.flows.items flow (places_of c.args.pairs flow c.args.script.now) d (search rules) (λ e. was.places flow e low ∙ ap (λ xs. places_of c.args.pairs flow xs) whole)
