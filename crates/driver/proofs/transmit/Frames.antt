-- How many descriptors packets need, and how many frames are posted.
use Rattle.std.proofs.Common.{◌≡◌, ℕ, ◌+◌, ◌<◌, List, [], ◌∷◌, ◌++◌, length, take, drop, get_or, ap, sym, ◌∙◌, subst, arith, add-one}
use Rattle.std.proofs.Math.Seq.{take-suc, drop-cons}
use Rattle.buffer_pool.specs.Buffer.{Buffer}
use Rattle.driver.specs.transmit.Frames.{segment_count, NeedsMore}

pub segment_count-append : (ps qs : List (List Buffer)) → segment_count (ps ++ qs) ≡ segment_count ps + segment_count qs
segment_count-append [] qs = omega arith
segment_count-append (p ∷ ps) qs = let rest = segment_count-append ps qs in omega (arith, rest)

module _ (ps : List (List Buffer)) (j : ℕ) (p : List Buffer) (there : j < length ps) (is : p ≡ get_or ps j p) where
  -- one packet more
  pub segment_count-take : segment_count (take (j + 1) ps) ≡ segment_count (take j ps) + length p
  segment_count-take = ap segment_count (ap (λ n. take n ps) (add-one j) ∙ take-suc ps j p there)
      ∙ segment_count-append (take j ps) (get_or ps j p ∷ [])
      ∙ (let same = ap length is in let e : segment_count (take j ps) + (length (get_or ps j p) + 0) ≡ segment_count (take j ps) + length p = omega (arith, same) in e)

  -- which is the first of those that stay
  pub needs_more : (room : ℕ) → room < length p → NeedsMore room (drop j ps)
  needs_more room more = subst (NeedsMore room) (sym (drop-cons ps j p there)) (subst (λ (q : List Buffer). room < length q) is more)

pub needs_none : (room : ℕ) (ps : List (List Buffer)) → NeedsMore room (drop (length ps) ps)
needs_none room [] = tt
needs_none room (p ∷ ps) = needs_none room ps
