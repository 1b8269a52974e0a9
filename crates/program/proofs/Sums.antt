-- Lists of readers with one more at the end.
use Rattle.std.proofs.Common.{◌≡◌, ◌∙◌, refl, ap, sym, ℕ, ◌+◌, ◌<◌, List, [], ◌∷◌, ◌++◌, length, map, take, slice_index_or}
use Rattle.std.proofs.lemmas.List.{map-append, take_more}
use Rattle.counters.specs.declared.flows.FlowCells.{FlowCells}
use Rattle.program.specs.declared.progress.reader.Reader.{Reader}
use Rattle.program.specs.declared.progress.reading.Seen.{Seen}
use Rattle.program.specs.ShownSums.{read_by, sum_from, with_flow}

pub sum-snoc : (seen : Seen) (rs : List Reader) (r : Reader) → sum_from seen (rs ++ r ∷ []) ≡ with_flow (sum_from seen rs) r
sum-snoc seen [] r = refl
sum-snoc seen (x ∷ rs) r = sum-snoc (with_flow seen x) rs r

pub one-more : (rs : List Reader) (r : Reader) (cells : List FlowCells) (k : ℕ) (d : FlowCells) → map read_by rs ≡ take k cells → k < length cells
    → read_by r ≡ slice_index_or cells k d → map read_by (rs ++ r ∷ []) ≡ take (k + 1) cells
one-more rs r cells k d so_far low its =
    let both = ap (λ (cs : List FlowCells). cs ++ read_by r ∷ []) so_far in
    let last = ap (λ (c : FlowCells). take k cells ++ c ∷ []) its in
    map-append read_by rs (r ∷ []) ∙ both ∙ last ∙ sym (take_more cells k d low)
