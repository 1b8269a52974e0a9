-- Places of a script, and lists that go together place by place.
use Rattle.std.proofs.Common.{◌≡◌, ◌∙◌, ℕ, ◌+◌, ◌<◌, ◌≤◌, ◌==◌, Bool, true, false, List, [], ◌∷◌, ◌++◌, All, refl, ap, sym, subst, cond, drop, take, map, length, get_or, zero, suc, inl, inr, arith}
use Rattle.std.proofs.lemmas.Nat.{mul-le}
use Rattle.std.proofs.lemmas.Bool.{cases_eq}
use Rattle.std.proofs.lemmas.List.{take_more}
use Rattle.std.proofs.lemmas.List.Elements.{All-push}
use Rattle.std.specs.List.{AllZip}
use Rattle.std.specs.Prelude.{slice_index_or}
use Rattle.limits.specs.declared.profile.TheConstants.{MOST_SCRIPT_FRAMES}
use Rattle.settings.specs.declared.config.TheConstants.{MOST_REPEAT}
use Rattle.flows.proofs.Rounds.{as-many, length-repeated}
use Rattle.flows.specs.declared.flow_frames.TheConstants.{MOST_OFFERED}
use Rattle.flows.specs.Keys.{ControllerKey, DriverKey, Plan, frames_at, repeated}
use Rattle.flows.specs.Reports.{IsReport}
use Rattle.forwarding.specs.declared.report.FlowReport.{FlowReport}
use Rattle.pool.specs.Owned.{Pooled}
use Rattle.wire_script.specs.Frame.{Frame}
use Rattle.forwarder.specs.Plans.{AreAllSides, AreOfRings, AreOfAllRings, AreReports}
use Rattle.forwarder.specs.declared.flow_rings.FlowRings.{FlowRings}
use Rattle.forwarder.specs.Flows.{flow_of, places_from, places_of}
use Rattle.flows.specs.Driven.{Relaying}
use Rattle.flows.specs.Sides.{Controlling}
use Rattle.forwarder.proofs.Pairs.{before, last}
use Rattle.forwarder.proofs.Places.{by-map}

all-more : {X : Type 0} (P : X → Type 0) (x : X) (xs : List X) → P x → All P xs → All P (x ∷ xs)
all-more P x xs one later zero d low = one
all-more P x xs one later (suc i) d low = later i d (omega (arith, low))

places-from-low : (pairs flow k n : ℕ) (xs : List Frame) → k + length xs ≤ n → All (λ p. p < n) (places_from pairs flow k xs)
places-from-low pairs flow k n [] low = λ i d far. absurd (omega (arith, far))
places-from-low pairs flow k n (x ∷ xs) low = by-case (flow_of pairs x == flow) (places_from pairs flow (k + 1) xs) (omega (arith, low)) (places-from-low pairs flow (k + 1) n xs (omega (arith, low)))
  where
    by-case : (b : Bool) (later : List ℕ) → k < n → All (λ p. p < n) later → All (λ p. p < n) (cond b (k ∷ later) later)
    by-case true later here all = all-more (λ p. p < n) k later here all
    by-case false later here all = all

places-from-few : (pairs flow k : ℕ) (xs : List Frame) → length (places_from pairs flow k xs) ≤ length xs
places-from-few pairs flow k [] = omega arith
places-from-few pairs flow k (x ∷ xs) = by-case (flow_of pairs x == flow) (places_from pairs flow (k + 1) xs) (places-from-few pairs flow (k + 1) xs)
  where
    by-case : (b : Bool) (later : List ℕ) → length later ≤ length xs → length (cond b (k ∷ later) later) ≤ length (x ∷ xs)
    by-case true later few = omega (arith, few)
    by-case false later few = omega (arith, few)

-- the places of a flow's frames are places of the script
pub places-low : (pairs flow : ℕ) (xs : List Frame) → All (λ p. p < length xs) (places_of pairs flow xs)
places-low pairs flow xs = places-from-low pairs flow 0 (length xs) xs (omega arith)

-- and no more than it has
pub places-few : (pairs flow : ℕ) (xs : List Frame) → length (places_of pairs flow xs) ≤ length xs
places-few pairs flow xs = places-from-few pairs flow 0 xs

-- and repeated they are no more than a flow may be offered
pub repeated-few : (repeat : ℕ) (script : List Frame) (places : List ℕ) → repeat ≤ MOST_REPEAT → length places ≤ MOST_SCRIPT_FRAMES → length (repeated repeat (frames_at script places)) ≤ MOST_OFFERED
repeated-few repeat script places often few =
    let long = length-repeated repeat (frames_at script places) in let same = as-many script places in
    let most = mul-le repeat (length (frames_at script places)) MOST_REPEAT MOST_SCRIPT_FRAMES often (omega (arith, same, few)) in
    omega (arith, long, most)

-- all of a list, and one item more
pub all-last : {X : Type 0} (P : X → Type 0) (xs xs' : List X) (x : X) → xs' ≡ xs ++ x ∷ [] → All P xs → P x → All P xs'
all-last P xs xs' x pushed all one = subst (All P) (sym pushed) (All-push P xs x all one)

-- two lists whose items go together, one item more in each
pub zip-last : {A B : Type 0} (R : A → B → Type 0) (xs xs' : List A) (x : A) (ys ys' : List B) (y : B) → xs' ≡ xs ++ x ∷ [] → ys' ≡ ys ++ y ∷ [] → AllZip R xs ys → R x y → AllZip R xs' ys'
zip-last R xs xs' x ys ys' y pushed pushed' all one = subst (λ l. AllZip R l ys') (sym pushed) (subst (λ l. AllZip R (xs ++ x ∷ []) l) (sym pushed') (further xs ys all))
  where
    further : (us : List _) (vs : List _) → AllZip R us vs → AllZip R (us ++ x ∷ []) (vs ++ y ∷ [])
    further [] [] both = (one, tt)
    further [] (v ∷ vs) both = absurd both
    further (u ∷ us) [] both = absurd both
    further (u ∷ us) (v ∷ vs) both = (both.0, further us vs both.1)

-- the first n of a list and another whose items go together, one item more
pub zip-further : {A B : Type 0} (R : A → B → Type 0) (n : ℕ) (xs : List A) (x : A) (ys ys' : List B) (y : B) → n < length xs → get_or xs n x ≡ x → ys' ≡ ys ++ y ∷ [] → AllZip R (take n xs) ys → R x y → AllZip R (take (n + 1) xs) ys'
zip-further R n xs x ys ys' y low here pushed all one = zip-last R (take n xs) (take (n + 1) xs) x ys ys' y (take_more xs n x low ∙ ap (λ z. take n xs ++ z ∷ []) here) pushed all one

-- two lists that go together place by place, one item more in each
pub places-more : {A B : Type 0} (R : ℕ → A → B → Type 0) (xs xs' : List A) (x : A) (ys ys' : List B) (y : B) (n : ℕ)
    → length xs ≡ n → length ys ≡ n → xs' ≡ xs ++ x ∷ [] → ys' ≡ ys ++ y ∷ [] → R n x y
    → ((k : ℕ) (d : A) (e : B) → k < n → R k (get_or xs k d) (get_or ys k e))
    → (k : ℕ) (d : A) (e : B) → k < n + 1 → R k (get_or xs' k d) (get_or ys' k e)
places-more R xs xs' x ys ys' y n many many' pushed pushed' new old k d e low = elim (cases_eq k n) [
  | inl same ↦ subst (λ a. R k a (get_or ys' k e))
      (sym (ap (λ l. get_or l k d) pushed ∙ ap (λ i. get_or (xs ++ x ∷ []) i d) (same ∙ sym many) ∙ last xs x d))
      (subst (λ b. R k x b) (sym (ap (λ l. get_or l k e) pushed' ∙ ap (λ i. get_or (ys ++ y ∷ []) i e) (same ∙ sym many') ∙ last ys y e)) (subst (λ i. R i x y) (sym same) new))
  | inr other ↦ (let less : k < n = omega (arith, low, other) in
      subst (λ a. R k a (get_or ys' k e)) (sym (ap (λ l. get_or l k d) pushed ∙ before xs x d k (omega (arith, less, many))))
      (subst (λ b. R k (get_or xs k d) b) (sym (ap (λ l. get_or l k e) pushed' ∙ before ys y e k (omega (arith, less, many')))) (old k d e less)))
]

-- the first of what is left, where n were taken, and what is left then
pub drop-first : {X : Type 0} (n : ℕ) (xs : List X) (x : X) (tail : List X) → drop n xs ≡ x ∷ tail → (d : X) → get_or xs n d ≡ x
drop-first zero xs x tail e d = ap (λ l. get_or l 0 d) e
drop-first (suc n) [] x tail e d = absurd (omega (arith, ap length e))
drop-first (suc n) (y ∷ ys) x tail e d = drop-first n ys x tail e d

pub drop-later : {X : Type 0} (n : ℕ) (xs : List X) (x : X) (tail : List X) → drop n xs ≡ x ∷ tail → tail ≡ drop (n + 1) xs
drop-later zero xs x tail e = sym (ap (drop 1) e)
drop-later (suc n) [] x tail e = absurd (omega (arith, ap length e))
drop-later (suc n) (y ∷ ys) x tail e = drop-later n ys x tail e ∙ ap (λ k. drop k (y ∷ ys)) (next n)
  where
    next : (k : ℕ) → suc (k + 1) ≡ suc k + 1
    next k = omega arith

pub drop-within : {X : Type 0} (n : ℕ) (xs : List X) (x : X) (tail : List X) → drop n xs ≡ x ∷ tail → n < length xs
drop-within zero [] x tail e = absurd (omega (arith, ap length e))
drop-within zero (y ∷ ys) x tail e = omega arith
drop-within (suc n) [] x tail e = absurd (omega (arith, ap length e))
drop-within (suc n) (y ∷ ys) x tail e = (let h = drop-within n ys x tail e in omega (arith, h))

-- what holds of all holds of the first of what is left
pub all-at : {X : Type 0} (P : X → Type 0) (n : ℕ) (xs : List X) (x : X) (tail : List X) → drop n xs ≡ x ∷ tail → All P xs → P x
all-at P n xs x tail e all = subst P (drop-first n xs x tail e x) (all n x (drop-within n xs x tail e))

-- a list whose items say something of their places, one item more
pub list-more : {B : Type 0} (R : ℕ → B → Type 0) (ys ys' : List B) (y : B) (n : ℕ) → length ys ≡ n → ys' ≡ ys ++ y ∷ [] → R n y
    → ((k : ℕ) (e : B) → k < n → R k (get_or ys k e)) → (k : ℕ) (e : B) → k < n + 1 → R k (get_or ys' k e)
list-more R ys ys' y n many pushed new old k e low = places-more (λ i a b. R i b) ys ys' y ys ys' y n many many pushed pushed new (λ i d f less. old i f less) k e e low

-- an item that is there is the same whatever stands for a missing one
pub any-default : {X : Type 0} (xs : List X) (n : ℕ) (d e : X) → n < length xs → get_or xs n d ≡ get_or xs n e
any-default [] n d e low = absurd (omega (arith, low))
any-default (x ∷ xs) zero d e low = refl
any-default (x ∷ xs) (suc n) d e low = any-default xs n d e (omega (arith, low))

-- the sides at other lists of the same keys, and another name for how many there are
pub sides-at : (pool : Pooled) (n m : ℕ) (plans : ℕ → Plan) (rings : List FlowRings) (ds ds' : List DriverKey) (cs cs' : List ControllerKey)
    → n ≡ m → ds' ≡ ds → cs' ≡ cs → AreAllSides plans pool n rings ds cs → AreAllSides plans pool m rings ds' cs'
sides-at pool n m plans rings ds ds' cs cs' e same same' sides =
    subst (λ k. AreAllSides plans pool k rings ds' cs') e
    (subst (λ a. AreAllSides plans pool n rings a cs') (sym same) (subst (λ b. AreAllSides plans pool n rings ds b) (sym same') sides))

pub rings-of : (pool : Pooled) (n m : ℕ) (plans : ℕ → Plan) (rings : List FlowRings) (ds ds' : List DriverKey) (cs cs' : List ControllerKey)
    → n ≡ m → ds' ≡ ds → cs' ≡ cs → AreAllSides plans pool n rings ds cs → AreOfAllRings pool m rings ds' cs'
rings-of pool n m plans rings ds ds' cs cs' e same same' sides flow l d c low = (sides-at pool n m plans rings ds ds' cs cs' e same same' sides flow l d c low).of_flow_rings

-- an item that is there
item : {X : Type 0} (xs : List X) (i : ℕ) → i < length xs → X
item [] i low = absurd (omega (arith, low))
item (x ∷ xs) zero low = x
item (x ∷ xs) (suc i) low = item xs i (omega (arith, low))

-- the reports are of the plans that the sides were told
pub reports-of : (pool : Pooled) (n : ℕ) (plans : ℕ → Plan) (rings : List FlowRings) (ds : List DriverKey) (cs : List ControllerKey) (reports : List FlowReport)
    → length rings ≡ n → length ds ≡ n → length cs ≡ n → AreAllSides plans pool n rings ds cs → AreReports n ds cs reports
    → (flow : ℕ) (r : FlowReport) → flow < n → IsReport (plans flow) (slice_index_or reports flow r)
reports-of pool n plans rings ds cs reports many many' many'' sides are flow r low =
    let l = item rings flow (omega (arith, low, many)) in
    let d = item ds flow (omega (arith, low, many')) in
    let c = item cs flow (omega (arith, low, many'')) in
    subst (λ p. IsReport p (slice_index_or reports flow r)) (sides flow l d c low).plan (are flow d c r low)

-- both sides of the flow that comes next are of the rings at its place
pub flow_rings-at : (pool : Pooled) (n k : ℕ) (rings : List FlowRings) (flow_rings : FlowRings) (drivers ds : List Relaying) (driver : Relaying) (controllers cs : List Controlling) (controller : Controlling)
    → AreOfAllRings pool n rings (map (λ f. f.key) drivers) (map (λ f. f.key) controllers) → k < n → get_or rings k flow_rings ≡ flow_rings → drop k drivers ≡ driver ∷ ds → drop k controllers ≡ controller ∷ cs → AreOfRings pool flow_rings driver.key controller.key
flow_rings-at pool n k rings flow_rings drivers ds driver controllers cs controller are low here first first' =
    let key = by-map (λ f. f.key) drivers k driver.key driver.key (drop-within k drivers driver ds first) (λ e. ap (λ f. f.key) (drop-first k drivers driver ds first e)) in
    let key' = by-map (λ f. f.key) controllers k controller.key controller.key (drop-within k controllers controller cs first') (λ e. ap (λ f. f.key) (drop-first k controllers controller cs first' e)) in
    subst (λ l. AreOfRings pool l driver.key controller.key) here
    (subst (λ a. AreOfRings pool (get_or rings k flow_rings) a controller.key) key
    (subst (λ b. AreOfRings pool (get_or rings k flow_rings) (get_or (map (λ f. f.key) drivers) k driver.key) b) key' (are k flow_rings driver.key controller.key low)))
