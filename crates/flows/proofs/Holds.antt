-- What is held, by weights.
use Rattle.std.proofs.Common.{◌≡◌, ◌∙◌, ℕ, ◌+◌, ◌≤◌, List, [], ◌∷◌, ◌++◌, Contains, length, length-append, reverse, ap, refl, arith}
use Rattle.std.proofs.lemmas.List.{length-reverse}
use Rattle.buffer_pool.specs.Buffer.{Buffer}
use Rattle.pool.specs.Hands.{total, without}
use Rattle.pool.proofs.Totals.{total-append, total-without}
use Rattle.pool.proofs.Accounts.{contained, only, only-itself}
use Rattle.driver.specs.receive.Returns.{numbers_of}
use Rattle.driver.specs.transmit.Frames.{numbers_in}
use Rattle.buffer_accounting.proofs.Weights.{total-packets}
use Rattle.flows.specs.Holding.{HoldsJust, Holds, Keeps}

-- nothing was done
pub keeps-still : (held has : List ℕ) → Keeps held has held has
keeps-still held has = λ h. refl

pub keeps-on : (a x b y c z : List ℕ) → Keeps a x b y → Keeps b y c z → Keeps a x c z
keeps-on a x b y c z k l = λ h. (let e = k h in let f = l h in omega (arith, e, f))

-- what is at hand is still held
pub holds-on : (a x b y : List ℕ) → Holds a x → Keeps a x b y → Holds b y
holds-on a x b y h k = λ w. (let e = h w in let f = k w in omega (arith, e, f))

-- a number that is held and weighs is among them
pub is-held : (held has : List ℕ) (n : ℕ) (front back : List ℕ) → has ≡ front ++ n ∷ back → Holds held has → Contains held n
is-held held has n front back e h =
    contained n held (let low = h (only n) in let one = only-itself n n refl in let split = ap (total (only n)) e ∙ total-append (only n) front (n ∷ back) in omega (arith, low, one, split))

-- one was given to the pool
pub gave-one : (held has held' has' : List ℕ) (n : ℕ) (front back : List ℕ) → has ≡ front ++ n ∷ back → has' ≡ front ++ back → Holds held has → held' ≡ without n held → Keeps held has held' has'
gave-one held has held' has' n front back e e' h gone = λ w.
    (let there = total-without w n held (is-held held has n front back e h) in
    let now = ap (total w) gone in let was = ap (total w) e ∙ total-append w front (n ∷ back) in let is = ap (total w) e' ∙ total-append w front back in
    omega (arith, there, now, was, is))

-- one went from behind to the front
pub moved-one : (held has has' : List ℕ) (n : ℕ) (front back : List ℕ) → has ≡ front ++ n ∷ back → has' ≡ (n ∷ front) ++ back → Keeps held has held has'
moved-one held has has' n front back e e' = λ w.
    (let was = ap (total w) e ∙ total-append w front (n ∷ back) in let is = ap (total w) e' ∙ total-append w (n ∷ front) back in omega (arith, was, is))

-- two lists that weigh the same are as good as each other
pub keeps-as : (held has held' has' x : List ℕ) → Keeps held has held' has' → ((h : ℕ → ℕ) → total h x ≡ total h has) → Keeps held x held' has'
keeps-as held has held' has' x k e = λ w. (let a = k w in let b = e w in omega (arith, a, b))

pub holds-as : (held has x : List ℕ) → Holds held has → ((h : ℕ → ℕ) → total h x ≡ total h has) → Holds held x
holds-as held has x k e = λ w. (let a = k w in let b = e w in omega (arith, a, b))

-- the last packet was taken off the list
pub last-packet : (h : ℕ → ℕ) (ps : List (List Buffer)) (p : List Buffer) → total h (numbers_in (ps ++ p ∷ [])) ≡ total h (numbers_in ps) + total h (numbers_of p)
last-packet h ps p = let a = total-packets h ps (p ∷ []) in let b = total-append h (numbers_of p) [] in omega (arith, a, b)

-- what weighs nothing is empty
pub weighs-nothing : (held has : List ℕ) → has ≡ [] → HoldsJust held has → held ≡ []
weighs-nothing [] has e h = refl
weighs-nothing (x ∷ xs) has e h = let w = h (λ k. 1) in let n = ap (total (λ k. 1)) e in absurd (omega (arith, w, n))

-- the last packet of those that are held, with the stash
pub holds-last : (held stash : List ℕ) (ps qs : List (List Buffer)) (p : List Buffer) → ps ≡ qs ++ p ∷ [] → Holds held (stash ++ numbers_in ps) → Holds held (stash ++ numbers_of p)
holds-last held stash ps qs p e h = λ w.
    (let all = h w in let a = total-append w stash (numbers_in ps) in let b = ap (λ l. total w (numbers_in l)) e ∙ last-packet w qs p in let c = total-append w stash (numbers_of p) in
    omega (arith, all, a, b, c))

pub drops-one : (held held' stash stash' : List ℕ) (ps qs : List (List Buffer)) (p : List Buffer) → ps ≡ qs ++ p ∷ [] → Keeps held (stash ++ numbers_of p) held' stash' → Keeps held (stash ++ numbers_in ps) held' (stash' ++ numbers_in qs)
drops-one held held' stash stash' ps qs p e k = λ w.
    (let one = k w in let a = total-append w stash (numbers_of p) in let b = total-append w stash (numbers_in ps) in let c = ap (λ l. total w (numbers_in l)) e ∙ last-packet w qs p in let d = total-append w stash' (numbers_in qs) in
    omega (arith, one, a, b, c, d))

-- what is at hand is held with all else
pub holds-part : (held has all : List ℕ) → HoldsJust held all → ((h : ℕ → ℕ) → total h has ≤ total h all) → Holds held has
holds-part held has all just part = λ h. (let a = just h in let b = part h in omega (arith, a, b))

-- how many are held, by weights of 1
ones : (xs : List ℕ) → total (λ k. 1) xs ≡ length xs
ones [] = refl
ones (x ∷ xs) = let e = ones xs in let more : 1 + total (λ k. 1) xs ≡ length (x ∷ xs) = omega (arith, e) in more

-- one less is held after one was given
pub gave-less : (held has held' has' : List ℕ) (n : ℕ) (front back : List ℕ) → has ≡ front ++ n ∷ back → has' ≡ front ++ back → Keeps held has held' has' → length held' + 1 ≡ length held
gave-less held has held' has' n front back e e' k =
    let one = k (λ i. 1) in let a = ones held in let b = ones held' in
    let was = ap (total (λ i. 1)) e ∙ total-append (λ i. 1) front (n ∷ back) in let is = ap (total (λ i. 1)) e' ∙ total-append (λ i. 1) front back in
    omega (arith, one, a, b, was, is)

-- and as many more as were taken
pub took-more : (held held' ns : List ℕ) (n : ℕ) → length ns ≡ n → held' ≡ reverse ns ++ held → length held' ≡ length held + n
took-more held held' ns n many is = let split = ap length is ∙ length-append (reverse ns) held in let same = length-reverse ns in omega (arith, split, same, many)
