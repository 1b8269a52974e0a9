-- Lists of cells and pens that grow together.
use Rattle.std.proofs.Common.{◌≡◌, ◌∙◌, List, [], ◌∷◌, ◌++◌, ap, refl}
use Rattle.std.specs.List.{AllZip}
use Rattle.counters.specs.Paired.{ArePaired, ArePensOf}
use Rattle.counters.specs.declared.flows.FlowCells.{FlowCells}
use Rattle.counters.specs.declared.flows.FlowPens.{FlowPens}

-- each list got one more item at its end, and these belong together
pub zip_push : {A B : Type 0} (R : A → B → Type 0) (xs : List A) (ys : List B) (x : A) (y : B) → AllZip R xs ys → R x y → AllZip R (xs ++ x ∷ []) (ys ++ y ∷ [])
zip_push R [] [] x y all r = (r, tt)
zip_push R [] (b ∷ ys) x y all r = absurd all
zip_push R (a ∷ xs) [] x y all r = absurd all
zip_push R (a ∷ xs) (b ∷ ys) x y all r = (all.0, zip_push R xs ys x y all.1 r)

same_cons : {X : Type 0} (x y : X) (xs ys : List X) → x ≡ y → xs ≡ ys → x ∷ xs ≡ y ∷ ys
same_cons x y xs ys first rest = ap (λ z. z ∷ xs) first ∙ ap (λ l. y ∷ l) rest

-- new pens are those of their cells
pub pens_of : (cells : List FlowCells) (pens : List FlowPens) → ArePaired cells pens → ArePensOf cells pens
pens_of [] [] all = record { stat = refl; drive = refl }
pens_of [] (p ∷ ps) all = absurd all
pens_of (c ∷ cs) [] all = absurd all
pens_of (c ∷ cs) (p ∷ ps) all =
    let rest = pens_of cs ps all.1 in
    record {
      stat = same_cons p.stat.cell c.stat _ _ (ap (λ k. k.cell) all.0.stat) rest.stat;
      drive = same_cons p.drive.cell c.drive _ _ (ap (λ k. k.cell) all.0.drive) rest.drive;
    }
