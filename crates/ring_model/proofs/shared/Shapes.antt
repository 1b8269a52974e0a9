-- How long the pieces of a frame are, computed from its length alone.
use Rattle.std.proofs.Common.{◌≡◌, ℕ, zero, suc, ◌-◌, Bool, true, false, List, [], ◌∷◌, map, length, drop, min, refl, ap, ◌∙◌, length-take, length-drop}
use Rattle.ring_model.specs.shared.Frames.{Bytes, pieces, piece_count, cut}
use Rattle.ring_model.specs.rows.Frames.{shape_of}

abbrev pub shapes_of : ℕ → ℕ → ℕ → List (ℕ × Bool)
shapes_of b zero len = []
shapes_of b (suc zero) len = (len, true) ∷ []
shapes_of b (suc (suc k)) len = (min b len, false) ∷ shapes_of b (suc k) (len - b)

shapes-pieces : (b count : ℕ) (f : Bytes) → map shape_of (pieces b count f) ≡ shapes_of b count (length f)
shapes-pieces b zero f = refl
shapes-pieces b (suc zero) f = refl
shapes-pieces b (suc (suc k)) f = ap (λ (n : ℕ). (n, false) ∷ map shape_of (pieces b (suc k) (drop b f))) (length-take b f)
    ∙ ap (λ (l : List (ℕ × Bool)). (min b (length f), false) ∷ l) (shapes-pieces b (suc k) (drop b f) ∙ ap (shapes_of b (suc k)) (length-drop b f))

pub shapes-cut : (b : ℕ) (f : Bytes) (len : ℕ) → length f ≡ len → map shape_of (cut b f) ≡ shapes_of b (piece_count b len) len
shapes-cut b f len e = shapes-pieces b (piece_count b (length f)) f ∙ ap (λ (n : ℕ). shapes_of b (piece_count b n) n) e
