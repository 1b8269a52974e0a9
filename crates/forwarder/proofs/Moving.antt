-- Lists whose items go from one to another, the first of what is left each time.
use Rattle.std.proofs.Common.{◌≡◌, ◌∙◌, ℕ, ◌<◌, List, [], ◌∷◌, ◌++◌, All, append_assoc, ap, drop, get_or, map, refl, subst, suc, sym, arith, length}
use Rattle.std.proofs.lemmas.List.{get_or-map, length-map, map-append}
use Rattle.std.proofs.lemmas.List.Elements.{All-cons, All-head, All-tail}
use Rattle.std.proofs.lemmas.Simd.{map-map}
use Rattle.std.specs.List.{AllZip}
use Rattle.counters.specs.declared.flows.FlowCells.{FlowCells}
use Rattle.counters.specs.declared.flows.FlowPens.{FlowPens}
use Rattle.counters.specs.Paired.{ArePensOf}

-- the first of what is left goes to what was done
pub moved : {X : Type 0} (done done' left left' all : List X) (x : X) → done ++ left ≡ all → left ≡ x ∷ left' → done' ≡ done ++ x ∷ [] → done' ++ left' ≡ all
moved done done' left left' all x so first pushed = ap (λ l. l ++ left') pushed ∙ (append_assoc done (x ∷ []) left' ∙ (ap (λ l. done ++ l) (sym first) ∙ so))

-- what holds of two lists, place by place, holds of the first of both, and of the others
pub zip-first : {A B : Type 0} (R : A → B → Type 0) (xs xs' : List A) (x : A) (ys ys' : List B) (y : B) → xs ≡ x ∷ xs' → ys ≡ y ∷ ys' → AllZip R xs ys → R x y × AllZip R xs' ys'
zip-first R xs xs' x ys ys' y first first' all = subst (λ l. AllZip R (x ∷ xs') l) first' (subst (λ l. AllZip R l ys) first all)

-- what two lists that begin alike begin with, and what follows
same-parts : {X : Type 0} (x y : X) (xs ys : List X) → x ∷ xs ≡ y ∷ ys → (x ≡ y) × (xs ≡ ys)
same-parts x y xs ys same = (ap (λ l. get_or l 0 x) same, ap (drop 1) same)

-- the first pens are those of the first cell, and the others are those of the others
pub pens-rest : (cell : FlowCells) (cells cells' : List FlowCells) (pen : FlowPens) (pens pens' : List FlowPens) → cells ≡ cell ∷ cells' → pens ≡ pen ∷ pens' → ArePensOf cells pens
    → (pen.stat.cell ≡ cell.stat) × (pen.drive.cell ≡ cell.drive) × ArePensOf cells' pens'
pens-rest cell cells cells' pen pens pens' first first' are =
    let stat = same-parts _ _ _ _ (ap (map (λ p. p.stat.cell)) (sym first') ∙ are.stat ∙ ap (map (λ c. c.stat)) first) in
    let drive = same-parts _ _ _ _ (ap (map (λ p. p.drive.cell)) (sym first') ∙ are.drive ∙ ap (map (λ c. c.drive)) first) in
    (stat.0, drive.0, record { stat = stat.1; drive = drive.1 })

-- the first of what is left goes to what was done, as f shows it
pub moved-as : {A C : Type 0} (f : A → C) (done done' : List A) (x : A) (left left' all : List C) (y : C)
    → map f done ++ left ≡ all → left ≡ y ∷ left' → done' ≡ done ++ x ∷ [] → f x ≡ y → map f done' ++ left' ≡ all
moved-as f done done' x left left' all y so first pushed same =
    moved (map f done) (map f done') left left' all y so first (ap (map f) pushed ∙ (map-append f done (x ∷ []) ∙ ap (λ z. map f done ++ z ∷ []) same))

-- what holds of what each item shows
pub all-map : {A B : Type 0} (P : B → Type 0) (f : A → B) (xs : List A) → All (λ x. P (f x)) xs → All P (map f xs)
all-map P f [] all = λ i d low. absurd (omega (arith, low))
all-map P f (x ∷ xs) all = All-cons P (f x) (map f xs) (All-head (λ y. P (f y)) x xs all) (all-map P f xs (All-tail (λ y. P (f y)) x xs all))

-- ---- flows with what shows them: each item has a part and a mark

module _ {A F K C : Type 0} (key : F → K) (flow : A → F) (mark : A → C) (back given : List A) (same : map {B = K × C} (λ w. (key (flow w), mark w)) back ≡ map {B = K × C} (λ w. (key (flow w), mark w)) given) where
  abbrev seen : A → K × C
  seen w = (key (flow w), mark w)

  -- as many came back as were given
  pub as-many : (fs : List F) → map flow given ≡ fs → length back ≡ length fs
  as-many fs of = let a = length-map back seen in let b = length-map given seen in let e = ap length same in let c = length-map given flow in let f = ap length of in omega (arith, a, b, c, e, f)

  -- the keys of what came back are those of what was given
  pub keys-of : (fs bs : List F) → map flow given ≡ fs → bs ≡ map flow back → map key bs ≡ map key fs
  keys-of fs bs of is =
      ap (map key) is ∙ (map-map key flow back ∙ (sym (map-map (λ (p : K × C). p.0) seen back) ∙ (ap (map (λ (p : K × C). p.0)) same
      ∙ (map-map (λ (p : K × C). p.0) seen given ∙ (sym (map-map key flow given) ∙ ap (map key) of)))))

-- marks that are seen through parts
pub marks-by : {A N P C : Type 0} (part : P → N) (mark : N → C) (pen : A → N) (pens : List P) (back : List A) (cs : List C)
    → map part pens ≡ map pen back → map (λ w. mark (pen w)) back ≡ cs → map (λ p. mark (part p)) pens ≡ cs
marks-by part mark pen pens back cs same of = sym (map-map mark part pens) ∙ (ap (map mark) same ∙ (map-map mark pen back ∙ of))

-- a part of the keys, which no turn changes
pub part-of : {A F K C T P : Type 0} (key : F → K) (flow : A → F) (cell : A → C) (base : A → T) (part : K × (C × T) → P) (back given : List A) (ps : List P)
    → map {B = K × (C × T)} (λ w. (key (flow w), (cell w, base w))) back ≡ map {B = K × (C × T)} (λ w. (key (flow w), (cell w, base w))) given
    → map (λ w. part (key (flow w), (cell w, base w))) given ≡ ps → map (λ w. part (key (flow w), (cell w, base w))) back ≡ ps
part-of {K = K} {C = C} {T = T} key flow cell base part back given ps same of =
    let all : _ → K × (C × T) = λ w. (key (flow w), (cell w, base w)) in
    sym (map-map part all back) ∙ (ap (map part) same ∙ (map-map part all given ∙ of))

-- what holds of each item holds of the lists of its parts, place by place
pub by-parts : {A T : Type 0} (R : T → T → T → Type 0) (base count shown : A → T) (ws : List A) (bases counts shows : List T) → All (λ w. R (base w) (count w) (shown w)) ws
    → map base ws ≡ bases → map count ws ≡ counts → map shown ws ≡ shows
    → (k : ℕ) (b c s : T) → k < length ws → R (get_or bases k b) (get_or counts k c) (get_or shows k s)
by-parts R base count shown [] bases counts shows all eb ec es k b c s low = absurd (let bad : ⊥ = omega (arith, low) in bad)
by-parts R base count shown (w ∷ ws) bases counts shows all eb ec es k b c s low =
    let xs = w ∷ ws in
    subst (λ z. R z (get_or counts k c) (get_or shows k s)) (sym (get_or-map base xs k w b low) ∙ ap (λ l. get_or l k b) eb)
    (subst (λ z. R (base (get_or xs k w)) z (get_or shows k s)) (sym (get_or-map count xs k w c low) ∙ ap (λ l. get_or l k c) ec)
    (subst (λ z. R (base (get_or xs k w)) (count (get_or xs k w)) z) (sym (get_or-map shown xs k w s low) ∙ ap (λ l. get_or l k s) es) (all k w low)))

-- lists that show the same at each place
pub same-by-places : {A B C : Type 0} (f : A → C) (g : B → C) (xs : List A) (ys : List B) → length xs ≡ length ys
    → ((k : ℕ) (d : A) (e : B) → k < length xs → f (get_or xs k d) ≡ g (get_or ys k e)) → map f xs ≡ map g ys
same-by-places f g [] [] same at = refl
same-by-places f g [] (y ∷ ys) same at = absurd (let bad : ⊥ = omega (arith, same) in bad)
same-by-places f g (x ∷ xs) [] same at = absurd (let bad : ⊥ = omega (arith, same) in bad)
same-by-places f g (x ∷ xs) (y ∷ ys) same at =
    let rest : map f xs ≡ map g ys = same-by-places f g xs ys (omega (arith, same)) (λ k d e low. at (suc k) d e (let more : suc k < length (x ∷ xs) = omega (arith, low) in more)) in
    ap (λ z. z ∷ map f xs) (at 0 x y (omega arith)) ∙ ap (λ l. g y ∷ l) rest
