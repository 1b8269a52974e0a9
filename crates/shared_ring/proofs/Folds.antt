-- A record with one more event, and the slots that the ends have by their records.
use Rattle.std.proofs.Common.{◌≡◌, ℕ, zero, suc, ◌+◌, ◌-◌, ◌%◌, ◌<◌, ◌≤◌, List, [], ◌∷◌, ◌++◌, length, length-append, sym, refl, ap, ◌∙◌, arith}
use Rattle.std.proofs.Math.Nat.{mod-add-mod}
use Rattle.atomic_table.specs.Table.{turned}
use Rattle.buffer_pool.specs.Buffer.{Buffer, blank}
use Rattle.ring_laws.specs.Places.{lap}
use Rattle.shared_ring.specs.declared.events.DriverEvent.{DriverEvent}
use Rattle.shared_ring.specs.declared.events.ControllerEvent.{ControllerEvent}
use Rattle.shared_ring.specs.Slots.{empty_slots}
use Rattle.shared_ring.specs.Records.{Driven, drive, driving_from, know, knowing_from, Controlled, control, controlling_from}

module _ {Posted Reaped Own : Type 0} (posting : ℕ → Buffer → Posted) (own : Driven Posted Reaped → Own → Driven Posted Reaped) where
  pub driving-snoc : (d : Driven Posted Reaped) (es : List (DriverEvent Own)) (e : DriverEvent Own) → driving_from posting own d (es ++ e ∷ []) ≡ drive posting own (driving_from posting own d es) e
  driving-snoc d [] e = refl
  driving-snoc d (x ∷ es) e = driving-snoc (drive posting own d x) es e

module _ {Posted Reaped Own Known : Type 0} (posting : ℕ → Buffer → Posted) (own : Driven Posted Reaped → Own → Driven Posted Reaped) (saw_head : Known → ℕ → Known) (know_own : Driven Posted Reaped → Known → Own → Known) where
  pub knowing-snoc : (d : Driven Posted Reaped) (k : Known) (es : List (DriverEvent Own)) (e : DriverEvent Own)
      → knowing_from posting own saw_head know_own d k (es ++ e ∷ []) ≡ know posting own saw_head know_own (driving_from posting own d es) (knowing_from posting own saw_head know_own d k es) e
  knowing-snoc d k [] e = refl
  knowing-snoc d k (x ∷ es) e = knowing-snoc (drive posting own d x) (know posting own saw_head know_own d k x) es e

-- a list that is longer is another
pub longer : {X : Type 0} (xs ys : List X) (y : X) (zs : List X) → xs ++ (y ∷ ys) ≡ zs → zs ≡ xs → ⊥
longer xs ys y zs e f = let a : length (xs ++ (y ∷ ys)) ≡ length xs = ap length (e ∙ f) in let b = length-append xs (y ∷ ys) in omega arith

module _ {Completed Own : Type 0} (n : ℕ) (own : Controlled Completed → Own → Controlled Completed) where
  pub controlling-snoc : (c : Controlled Completed) (es : List (ControllerEvent Own)) (e : ControllerEvent Own) → controlling_from n own c (es ++ e ∷ []) ≡ control n own (controlling_from n own c es) e
  controlling-snoc c [] e = refl
  controlling-snoc c (x ∷ es) e = controlling-snoc (control n own c x) es e

-- the front slot of some
pub empty_slots-front : (n k more fewer : ℕ) → more ≡ suc fewer → empty_slots n k more ≡ (k % n, blank) ∷ empty_slots n (k + 1) fewer
empty_slots-front n k more fewer e = ap (empty_slots n k) e

-- one more at the back
pub empty_slots-back : (n k more : ℕ) → empty_slots n k more ++ ((k + more) % n, blank) ∷ [] ≡ empty_slots n k (suc more)
empty_slots-back n k zero = ap (λ (j : ℕ). (j % n, blank) ∷ []) (let e : k + 0 ≡ k = omega arith in e)
empty_slots-back n k (suc more) = ap (λ (xs : List (ℕ × Buffer)). (k % n, blank) ∷ xs)
    (ap (λ (j : ℕ). empty_slots n (k + 1) more ++ (j % n, blank) ∷ []) (let e : k + suc more ≡ (k + 1) + more = omega arith in e) ∙ empty_slots-back n (k + 1) more)

-- the slots of a driver that posted p buffers, of which r came back, as it posts one more
pub slots-post : (n p r : ℕ) → p < r + n → empty_slots n p (r + n - p) ≡ (p % n, blank) ∷ empty_slots n (p + 1) (r + n - (p + 1))
slots-post n p r h = empty_slots-front n p (r + n - p) (r + n - (p + 1)) (omega arith)

-- and as one comes back
pub slots-return : (n p r : ℕ) → p ≤ r + n → empty_slots n p (r + n - p) ++ (r % n, blank) ∷ [] ≡ empty_slots n p ((r + 1) + n - p)
slots-return n p r h =
    ap (λ (j : ℕ). empty_slots n p (r + n - p) ++ (j, blank) ∷ []) (sym (lap n r) ∙ ap (λ (j : ℕ). j % n) (let e : r + n ≡ p + (r + n - p) = omega arith in e))
    ∙ empty_slots-back n p (r + n - p) ∙ ap (empty_slots n p) (let e : suc (r + n - p) ≡ (r + 1) + n - p = omega arith in e)

-- all slots, of which the front one goes behind the others
pub slots-turn : (n k more : ℕ) → suc more ≡ n → empty_slots n (k + 1) more ++ (k % n, blank) ∷ [] ≡ empty_slots n (k + 1) n
slots-turn n k more e =
    ap (λ (j : ℕ). empty_slots n (k + 1) more ++ (j, blank) ∷ []) (sym (lap n k) ∙ ap (λ (j : ℕ). j % n) (let f : k + n ≡ (k + 1) + more = omega arith in f))
    ∙ empty_slots-back n (k + 1) more ∙ ap (empty_slots n (k + 1)) e

pub slots-turned : (n k : ℕ) → 0 < n → turned (empty_slots n k n) ≡ empty_slots n (k + 1) n
slots-turned zero k pos = absurd (omega arith)
slots-turned (suc more) k pos = slots-turn (suc more) k more refl

-- slots go by places alone
pub slots-alike : (n j k more : ℕ) → j % n ≡ k % n → empty_slots n j more ≡ empty_slots n k more
slots-alike n j k zero e = refl
slots-alike n j k (suc more) e = ap (λ (p : ℕ). (p, blank) ∷ empty_slots n (j + 1) more) e
    ∙ ap (λ (xs : List (ℕ × Buffer)). (k % n, blank) ∷ xs) (slots-alike n (j + 1) (k + 1) more (sym (mod-add-mod j n 1) ∙ ap (λ (p : ℕ). (p + 1) % n) e ∙ mod-add-mod k n 1))
