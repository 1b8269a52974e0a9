use Rattle.std.proofs.Common.{◌≡◌, ◌∙◌, ◌<◌, ap, sym, subst, length, List, arith, rules}
use Rattle.std.proofs.lemmas.Slice.Zip.{AllZip-long}
use Rattle.counters.specs.Paired.{ArePaired, IsFresh}
use Rattle.counters.specs.declared.flows.FlowPens.{FlowPens}
use Rattle.forwarder.proofs.Pairs.{zip-at}
use Rattle.forwarder_tests.proofs.tests.readers.readers_of.Goals as goal

pub bounds-pens-k : goal.bounds-pens-k
bounds-pens-k g c =
    let same : c.loop-k.pens ≡ c.args.pens.now = c.loop-k.invariant in
    let long = AllZip-long IsFresh c.args.cells.now c.args.pens.now c.requires.pens in
    let whole : length c.loop-k.pens ≡ length c.args.cells.now = ap (λ (ps : List FlowPens). length ps) same ∙ long in
    omega (arith, whole)

pub new-requires : goal.new-requires
new-requires g c =
    let same : c.loop-k.pens ≡ c.args.pens.now = c.loop-k.invariant in
    let paired = subst (λ (ps : List FlowPens). ArePaired c.args.cells.now ps) (sym same) c.requires.pens in
    let low : c.loop-k.k < length c.args.cells.now = omega arith in
    record { pens = rw c.index-cells-k.is (zip-at IsFresh c.args.cells.now c.loop-k.pens c.loop-k.k c.index-cells-k.result c.index-pens-k.result paired low) }
