-- Dealing one item more, and taking one back.
use Rattle.std.proofs.Common.{◌≡◌, ◌≢◌, ◌∙◌, ℕ, ◌+◌, ◌-◌, ◌<◌, ◌⊎◌, inl, inr, List, [], ◌∷◌, ◌++◌, refl, ap, sym, subst, length, map, zero, suc, get_or, set, arith, All, Vec, vec_capacity, ◌≤◌}
use Rattle.std.proofs.lemmas.Bool.{cases_eq}
use Rattle.std.proofs.lemmas.List.{get_or-set_other, length-set}
use Rattle.std.proofs.lemmas.Grind.{get_or-set_at}
use Rattle.std.proofs.lemmas.List.{length-map}
use Rattle.std.proofs.lemmas.List.Elements.{All-set}
use Rattle.std.specs.Global.{Global}
use Rattle.teams.specs.Dealing.{every, IsDealt, Passes}
use Rattle.teams.proofs.Lists.{mapped-at}

-- how many others stand before the next item that is taken, after these
abbrev pub after : {X : Type 0} → ℕ → ℕ → List X → ℕ
after count k [] = k
after count zero (x ∷ xs) = after count (count - 1) xs
after count (suc k) (x ∷ xs) = after count k xs

-- the same after one item more
abbrev pub stepped : ℕ → ℕ → ℕ
stepped count zero = count - 1
stepped count (suc k) = k

every-next : {X : Type 0} (count k : ℕ) (xs : List X) (x : X) → after count k xs ≡ 0 → every count k (xs ++ x ∷ []) ≡ every count k xs ++ x ∷ []
every-next count zero [] x here = refl
every-next count (suc k) [] x here = absurd (omega (arith, here))
every-next count zero (y ∷ ys) x here = ap (λ l. y ∷ l) (every-next count (count - 1) ys x here)
every-next count (suc k) (y ∷ ys) x here = every-next count k ys x here

every-skip : {X : Type 0} (count k : ℕ) (xs : List X) (x : X) → 0 < after count k xs → every count k (xs ++ x ∷ []) ≡ every count k xs
every-skip count zero [] x away = absurd (omega (arith, away))
every-skip count (suc k) [] x away = refl
every-skip count zero (y ∷ ys) x away = ap (λ l. y ∷ l) (every-skip count (count - 1) ys x away)
every-skip count (suc k) (y ∷ ys) x away = every-skip count k ys x away

after-more : {X : Type 0} (count k : ℕ) (xs : List X) (x : X) → after count k (xs ++ x ∷ []) ≡ stepped count (after count k xs)
after-more count zero [] x = refl
after-more count (suc k) [] x = refl
after-more count zero (y ∷ ys) x = after-more count (count - 1) ys x
after-more count (suc k) (y ∷ ys) x = after-more count k ys x

-- at this hand's turn, so many others stand before the next item of hand w
abbrev pub Gap : ℕ → ℕ → ℕ → ℕ → Type 0
Gap count worker w k = (k < count) × ((k + worker ≡ w) ⊎ (k + worker ≡ w + count))

pub gap-more : (count worker worker' w k : ℕ) → w < count → Passes count worker worker' → Gap count worker w k → Gap count worker' w (stepped count k)
gap-more count worker worker' w zero low (inl last) gap = (omega (arith, low), inl (zero-last gap.1))
  where
    zero-last : (0 + worker ≡ w) ⊎ (0 + worker ≡ w + count) → count - 1 + worker' ≡ w
    zero-last (inl h) = omega (arith, h, last.0, last.1)
    zero-last (inr h) = absurd (omega (arith, h, last.0))
gap-more count worker worker' w zero low (inr more) gap = (omega (arith, low), inr (zero-more gap.1))
  where
    zero-more : (0 + worker ≡ w) ⊎ (0 + worker ≡ w + count) → count - 1 + worker' ≡ w + count
    zero-more (inl h) = omega (arith, h, more.0, more.1)
    zero-more (inr h) = absurd (omega (arith, h, more.0))
gap-more count worker worker' w (suc k) low (inl last) gap = (omega (arith, gap.0), inl (suc-last gap.1))
  where
    suc-last : (suc k + worker ≡ w) ⊎ (suc k + worker ≡ w + count) → k + worker' ≡ w
    suc-last (inl h) = absurd (omega (arith, h, last.0, low))
    suc-last (inr h) = omega (arith, h, last.0, last.1)
gap-more count worker worker' w (suc k) low (inr more) gap = (omega (arith, gap.0), suc-more gap.1)
  where
    suc-more : (suc k + worker ≡ w) ⊎ (suc k + worker ≡ w + count) → (k + worker' ≡ w) ⊎ (k + worker' ≡ w + count)
    suc-more (inl h) = inl (omega (arith, h, more.1))
    suc-more (inr h) = inr (omega (arith, h, more.1))

-- it is nobody's but this hand's turn
at-worker : (count worker k : ℕ) → Gap count worker worker k → k ≡ 0
at-worker count worker k (low, inl h) = omega (arith, h)
at-worker count worker k (low, inr h) = absurd (omega (arith, low, h))

off-worker : (count worker w k : ℕ) → worker < count → w ≢ worker → Gap count worker w k → 0 < k
off-worker count worker w zero low other (within, inl h) = absurd (other (omega (arith, h)))
off-worker count worker w zero low other (within, inr h) = absurd (omega (arith, low, h))
off-worker count worker w (suc k) low other gap = omega arith

-- the places of all hands, one item more
pub gaps-more : {X : Type 0} (count worker worker' : ℕ) (items : List X) (x : X) → Passes count worker worker'
    → ((w : ℕ) → w < count → Gap count worker w (after count w items)) → (w : ℕ) → w < count → Gap count worker' w (after count w (items ++ x ∷ []))
gaps-more count worker worker' items x passes gaps w low =
    subst (Gap count worker' w) (sym (after-more count w items x)) (gap-more count worker worker' w (after count w items) low passes (gaps w low))

pub gaps-first : (X : Type 0) (count : ℕ) (w : ℕ) → w < count → Gap count 0 w (after {X = X} count w [])
gaps-first X count w low = (low, inl (omega arith))

-- one item more, which goes to the hand whose turn it is
pub dealt-more : {X : Type 0} (items : List X) (hands : List (List X)) (x : X) (worker : ℕ) (more : List X)
    → worker < length hands
    → ((d : List X) → more ≡ get_or hands worker d ++ x ∷ [])
    → (count : ℕ) → length hands ≡ count → ((w : ℕ) → w < count → Gap count worker w (after count w items))
    → IsDealt items hands → IsDealt (items ++ x ∷ []) (set hands worker more)
dealt-more items hands x worker more in-row grown count many gaps' was w d low = elim (cases_eq w worker) [
  | inl same ↦ get_or-set_at hands worker w more d same in-row ∙ grown d ∙ ap (λ l. l ++ x ∷ []) (was worker d in-row)
      ∙ sym (every-next (length hands) worker items x (at-worker (length hands) worker _ (gaps worker in-row)))
      ∙ ap (λ i. every (length hands) i (items ++ x ∷ [])) (sym same) ∙ ap (λ n. every n w (items ++ x ∷ [])) (sym (length-set hands worker more))
  | inr other ↦ get_or-set_other hands worker w more d other ∙ was w d within
      ∙ sym (every-skip (length hands) w items x (off-worker (length hands) worker w _ in-row other (gaps w within))) ∙ ap (λ n. every n w (items ++ x ∷ [])) (sym (length-set hands worker more))
]
  where
    within : w < length hands
    within = subst (λ n. w < n) (length-set hands worker more) low

    gaps : (v : ℕ) → v < length hands → Gap (length hands) worker v (after (length hands) v items)
    gaps = subst (λ n. (v : ℕ) → v < n → Gap n worker v (after n v items)) (sym many) gaps'

-- what is left in the hands, where it is this hand's turn and these are left of all
abbrev pub Left : {X : Type 0} → ℕ → ℕ → List X → List (List X) → Type 0
Left {X} count worker items hands = (w : ℕ) (d : List X) → w < count → (k : ℕ) × Gap count worker w k × (get_or hands w d ≡ every count k items)

pub left-first : {X : Type 0} (items : List X) (hands : List (List X)) (count : ℕ) → length hands ≡ count → IsDealt items hands → Left count 0 items hands
left-first items hands count many dealt w d low = (w, (low, inl (omega arith)), dealt w d (omega (arith, many, low)) ∙ ap (λ n. every n w items) many)

-- the hand whose turn it is has the next item in front
pub worker-has : {X : Type 0} (count worker : ℕ) (x : X) (tail : List X) (hands : List (List X)) (d : List X) → worker < count → Left count worker (x ∷ tail) hands
    → get_or hands worker d ≡ x ∷ every count (count - 1) tail
worker-has count worker x tail hands d in-row left =
    let h = left worker d in-row in h.2 ∙ ap (λ k. every count k (x ∷ tail)) (at-worker count worker h.0 h.1)

-- and once it is taken, the rest are left
pub left-less : {X : Type 0} (count worker worker' : ℕ) (x : X) (tail : List X) (hands : List (List X)) (less : List X)
    → worker < count → length hands ≡ count → Passes count worker worker' → less ≡ every count (count - 1) tail
    → Left count worker (x ∷ tail) hands → Left count worker' tail (set hands worker less)
left-less count worker worker' x tail hands less in-row many passes is left w d low = elim (cases_eq w worker) [
  | inl same ↦ (
    count - 1,
    gap-more count worker worker' w 0 low passes (omega (arith, in-row), inl (omega (arith, same))),
    get_or-set_at hands worker w less d same (omega (arith, in-row, many)) ∙ is,
  )
  | inr other ↦ others other (left w d low)
]
  where
    others : w ≢ worker → (k : ℕ) × Gap count worker w k × (get_or hands w d ≡ every count k (x ∷ tail)) → (k : ℕ) × Gap count worker' w k × (get_or (set hands worker less) w d ≡ every count k tail)
    others other (zero, gap, at) = absurd (omega (arith, off-worker count worker w 0 in-row other gap))
    others other (suc k, gap, at) = (k, gap-more count worker worker' w (suc k) low passes gap, get_or-set_other hands worker w less d other ∙ at)

-- empty hands were dealt nothing
pub none-dealt : {X : Type 0} (hands : List (Vec X Global)) → All (λ h. h.items ≡ []) hands → IsDealt [] (map (λ h. h.items) hands)
none-dealt hands none w d low = mapped-at (λ h. h.items) hands w [] d (omega (arith, low, length-map hands (λ h. h.items))) (λ e. none w e (omega (arith, low, length-map hands (λ h. h.items))))

-- a hand has room for all, of which so many are not dealt yet
abbrev pub HasRoom : {X : Type 0} → ℕ → ℕ → Vec X Global → Type 0
HasRoom all left hand = (all ≤ vec_capacity hand) × (length hand.items + left ≤ all)

pub rooms-first : {X : Type 0} (all left : ℕ) (hands : List (Vec X Global)) → left ≡ all → All (λ h. h.items ≡ []) hands → All (λ h. all ≤ vec_capacity h) hands → All (HasRoom all left) hands
rooms-first all left hands same none room w d low = (room w d low, omega (arith, same, ap length (none w d low)))

-- one item more is dealt to the hand whose turn it is
pub rooms-less : {X : Type 0} (all left less : ℕ) (hands : List (Vec X Global)) (worker : ℕ) (more : Vec X Global) → left ≡ less + 1 → HasRoom all less more
    → All (HasRoom all left) hands → All (HasRoom all less) (set hands worker more)
rooms-less all left less hands worker more one has room = All-set (HasRoom all less) hands worker more has (λ w d low. (let h = room w d low in (h.0, omega (arith, h.1, one))))
