-- Where the last of some postings ends its frame, or there is none, nothing is unfinished.
use Rattle.std.proofs.Common.{◌≡◌, Bool, true, List, [], ◌∷◌, ◌++◌, refl, ap, if◌then◌else◌}
use Rattle.ring_model.specs.shared.Frames.{ends_frame, unfinished, unfinished_from}
use Rattle.ring_model.specs.transmit.Ring.{are_whole, carried, ends_posting}
use Rattle.tx_ring.specs.Records.{Posting}

rest-none : (whole : Bool) (rest xs : List Posting) → (whole ≡ true → rest ≡ []) → ends_frame ends_posting whole xs ≡ true → unfinished_from carried rest xs ≡ []
rest-none whole rest [] h e = h e
rest-none whole rest (x ∷ xs) h e = rest-none x.eop (if x.eop then [] else rest ++ x ∷ []) xs (λ f. ap (λ (b : Bool). if b then [] else rest ++ x ∷ []) f) e

pub whole-rest : (xs : List Posting) → are_whole xs ≡ true → unfinished carried xs ≡ []
whole-rest xs e = rest-none true [] xs (λ f. refl) e
