use Rattle.std.proofs.Common.{◌∙◌, ◌++◌, ◌∷◌, [], ap, sym, subst, take, arith, rules}
use Rattle.std.proofs.lemmas.List.{take_more}
use Rattle.forward_io.specs.Gathering.{Gathers}
use Rattle.forward_io.proofs.Captures.{gathers-more}
use Rattle.forward_io.proofs.captured.gathering.gather.Goals as goal

pub loop-source-preserved : goal.loop-source-preserved
loop-source-preserved g c =
    let sources = c.args.sources.now in
    let source = c.source-item.result in
    let k = c.loop-source.source-index in
    let more = take_more sources k source (omega arith) ∙ ap (λ (s : _). take k sources ++ s ∷ []) (sym c.source-item.is) in
    let one = c.in_default.ensures.added in
    record {
      gathered = subst (λ (ss : _). Gathers c.args.reading ss [] c.add_file-added.new.frames.items c.add_file-added.new.skipped.items) (sym more)
          (subst (λ (ks : _). Gathers c.args.reading (take k sources ++ source ∷ []) [] c.add_file-added.new.frames.items ks) (sym one.counts)
          (gathers-more c.args.reading (take k sources) source [] c.loop-source.frames.items _ c.loop-source.skipped.items one.left_out one.bytes c.loop-source.invariant.gathered one.frames));
      place = search rules;
      room = search rules;
    }
