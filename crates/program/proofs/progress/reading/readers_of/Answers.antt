use Rattle.std.proofs.Common.{◌≡◌, ◌∙◌, ◌<◌, ◌++◌, [], ◌∷◌, ap, sym, subst, length, List, map, arith, rules, slice_index_or, slice_set}
use Rattle.std.proofs.lemmas.List.{set-get_or}
use Rattle.std.proofs.lemmas.Slice.Zip.{AllZip-long}
use Rattle.counters.specs.Paired.{ArePaired, IsFresh}
use Rattle.counters.specs.declared.flows.FlowPens.{FlowPens}
use Rattle.forwarder.proofs.Pairs.{zip-at}
use Rattle.program.proofs.Sums.{one-more}
use Rattle.program.specs.declared.progress.reader.Reader.{Reader}
use Rattle.program.specs.ShownSums.{read_by}
use Rattle.program.proofs.progress.reading.readers_of.Goals as goal

pub bounds-pens-k : goal.bounds-pens-k
bounds-pens-k c =
    let same : c.loop-k.pens ≡ c.args.pens.now = c.loop-k.invariant.same in
    let long = AllZip-long IsFresh c.args.cells.now c.args.pens.now c.requires.pens in
    let whole : length c.loop-k.pens ≡ length c.args.cells.now = ap (λ (ps : List FlowPens). length ps) same ∙ long in
    omega (arith, whole)

pub new-requires : goal.new-requires
new-requires c =
    let same : c.loop-k.pens ≡ c.args.pens.now = c.loop-k.invariant.same in
    let paired = subst (λ (ps : List FlowPens). ArePaired c.args.cells.now ps) (sym same) c.requires.pens in
    let low : c.loop-k.k < length c.args.cells.now = omega arith in
    record { pens = rw c.index-cells-k.is (zip-at IsFresh c.args.cells.now c.loop-k.pens c.loop-k.k c.index-cells-k.result c.index-pens-k.result paired low) }

pub loop-k-preserved : goal.loop-k-preserved
loop-k-preserved c =
    let was = c.loop-k.invariant in
    let low : c.loop-k.k < length c.args.cells.now = omega (arith, c.loop-k-test.true) in
    let pushed : c.push.new.self.items ≡ c.loop-k.readers.items ++ c.new.result ∷ [] = search (rules, c.in_ok-push.ensures) in
    let its : read_by c.new.result ≡ slice_index_or c.args.cells.now c.loop-k.k c.index-cells-k.result = c.new.ensures.cells ∙ c.index-cells-k.is in
    record {
      same = ap (λ (p : FlowPens). slice_set c.loop-k.pens c.loop-k.k p) c.new.ensures.same ∙ set-get_or c.loop-k.pens c.loop-k.k c.index-pens-k.result ∙ was.same;
      cells = ap (λ (rs : List Reader). map read_by rs) pushed ∙ one-more c.loop-k.readers.items c.new.result c.args.cells.now c.loop-k.k c.index-cells-k.result was.cells low its;
    }
