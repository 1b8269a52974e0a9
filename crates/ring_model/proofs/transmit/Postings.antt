-- Postings that may follow one another: what a beginning and one more keep, and what holds of their chains.
use Rattle.std.proofs.Common.{◌≡◌, ℕ, true, List, [], ◌∷◌, ◌++◌, length, Some, sym, ◌∙◌, ⊎_elim, ap}
use Rattle.std.specs.Prelude.{slice_get}
use Rattle.ring_model.specs.shared.Lists.{IsBeginning}
use Rattle.ring_model.specs.shared.Frames.{Bytes, join, unfinished, chains, frames, AllFollow, HasFrameLength}
use Rattle.ring_model.specs.transmit.Ring.{Posting, carried}
use Rattle.ring_model.specs.transmit.Frames.{MayFollow, AllMayFollow}
use Rattle.ring_model.proofs.shared.Beginnings.{slice_get-snoc}
use Rattle.ring_model.proofs.shared.FrameLaws.{length-join-snoc, stands-nil, stands-snoc, stands-beginning, stands_next, each_chain, AllFollow-lengths}

pub AllMayFollow-nil : (n : ℕ) → AllMayFollow n []
AllMayFollow-nil n = stands-nil carried (MayFollow n)

pub AllMayFollow-snoc : (n : ℕ) (ps : List (Posting Bytes)) (p : Posting Bytes) → AllMayFollow n ps → MayFollow n (unfinished carried ps) p → AllMayFollow n (ps ++ p ∷ [])
AllMayFollow-snoc n ps p all f = stands-snoc carried (MayFollow n) ps p all f

-- postings of a beginning may follow as they may in the whole
pub AllMayFollow-beginning : (n : ℕ) (ps qs : List (Posting Bytes)) → IsBeginning ps qs → AllMayFollow n qs → AllMayFollow n ps
AllMayFollow-beginning n ps qs b all = stands-beginning carried (MayFollow n) ps qs b all

-- the next posting after those of a beginning may follow their unfinished frame
pub may_follow_next : (n : ℕ) (ps qs : List (Posting Bytes)) (p : Posting Bytes) → IsBeginning ps qs → slice_get qs (length ps) ≡ Some p → AllMayFollow n qs → MayFollow n (unfinished carried ps) p
may_follow_next n ps qs p b e all = stands_next carried (MayFollow n) ps qs p b e all

-- what may follow follows
pub AllMayFollow-follow : (n : ℕ) (ps : List (Posting Bytes)) → AllMayFollow n ps → AllFollow carried n ps
AllMayFollow-follow n ps all = λ k p e. let f = all k p e in f.follows

-- each frame has a lawful length
pub AllMayFollow-lengths : (n : ℕ) (ps : List (Posting Bytes)) → AllMayFollow n ps → (k : ℕ) (f : Bytes) → slice_get (frames carried ps) k ≡ Some f → HasFrameLength f
AllMayFollow-lengths n ps all = AllFollow-lengths carried n ps (AllMayFollow-follow n ps all)

-- a posting that ends its frame, behind those before it
ended : (n : ℕ) (rest : List (Posting Bytes)) (q : Posting Bytes) → (carried q).eop ≡ true → MayFollow n rest q → (i : ℕ) (p : Posting Bytes) → slice_get (rest ++ q ∷ []) i ≡ Some p
    → p.paylen ≡ length (join carried (rest ++ q ∷ []))
ended n rest q ends f i p e = let all : length (join carried (rest ++ q ∷ [])) ≡ q.paylen = length-join-snoc carried rest q ∙ f.whole ends in
    ⊎_elim (λ a. f.same_frame i p a.1 ∙ sym all) (λ b. ap (λ (r : Posting Bytes). r.paylen) (sym b.1) ∙ sym all) (slice_get-snoc rest q p i e)

pub chains-paylen : (n : ℕ) (ps : List (Posting Bytes)) → AllMayFollow n ps → (k : ℕ) (chain : List (Posting Bytes)) → slice_get (chains carried ps) k ≡ Some chain
    → (i : ℕ) (p : Posting Bytes) → slice_get chain i ≡ Some p → p.paylen ≡ length (join carried chain)
chains-paylen n ps all = each_chain carried (MayFollow n) (λ chain. (i : ℕ) (p : Posting Bytes) → slice_get chain i ≡ Some p → p.paylen ≡ length (join carried chain)) (ended n) ps all
