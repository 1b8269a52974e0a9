-- A pool that is whole stays so while its pass has the same share and holds the same buffers.
use Rattle.std.proofs.Common.{◌≡◌, ◌∙◌, ℕ, List, ◌++◌, sym, subst}
use Rattle.std.specs.Prelude.{IsPermutation}
use Rattle.std.specs.List.{range_with_len}
use Rattle.pool.specs.declared.hand.Hand.{Hand}
use Rattle.pool.specs.Hands.{HoldsWhole}

pub still_whole : (v w : Hand) → w.share ≡ v.share → w.count ≡ v.count → w.held ≡ v.held → HoldsWhole v → HoldsWhole w
still_whole v w share count held whole = λ all.
    let had = whole (sym share ∙ all) in (
      had.0,
      subst (λ (n : ℕ). IsPermutation (range_with_len 0 n) (w.held ++ had.0)) (sym count)
          (subst (λ (hs : List ℕ). IsPermutation (range_with_len 0 v.count) (hs ++ had.0)) (sym held) had.1),
    )
