-- Words and slots in the table's lists, read by place.
use Rattle.std.proofs.Common.{◌≡◌, ◌≢◌, ℕ, zero, suc, ◌+◌, ◌<◌, ◌≤◌, Bool, true, false, ◌&&◌, if◌then◌else◌, List, [], ◌∷◌, ◌++◌, length, replicate, set, Option, Some, None, refl, ap, ◌∙◌, arith, get_or-set_same, get_or-set_other}
use Rattle.std.specs.Prelude.{slice_get, slice_index, slice_set, ◌==◌}
use Rattle.std.proofs.lemmas.Bool.{eqb-true}
use Rattle.std.proofs.lemmas.Option.{none-some}
use mathlib.Core.Option as maybe
use mathlib.Core.Option.{some, none}
use lib.ListN.{get_elem?}
use Rattle.atomic_table.proofs.Lists.{set_here, set_else}
use Rattle.shared_ring.specs.Registers.{Registers, HasRegisters}
use Rattle.ring_model.specs.kept.Writes.{Writes}
use Rattle.buffer_pool.specs.Buffer.{Buffer}
use Rattle.shared_ring.specs.Slots.{at_home, home_at}

-- a load leaves the words
pub set-same : (ws : List ℕ) (i : ℕ) → slice_set ws i (slice_index ws i) ≡ ws
set-same [] i = refl
set-same (w ∷ ws) zero = refl
set-same (w ∷ ws) (suc i) = ap (λ (l : List ℕ). w ∷ l) (set-same ws i)

module _ (n : ℕ) (g : Registers) (ws : List ℕ) (r : HasRegisters n g ws) where
  -- a descriptor's word leaves the registers
  pub registers-stay : (p x : ℕ) → p < n → HasRegisters n g (slice_set ws p x)
  registers-stay p x h = record {
    head = get_or-set_other ws p n x 0 (λ e. omega arith) ∙ r.head;
    tail = get_or-set_other ws p (n + 1) x 0 (λ e. omega arith) ∙ r.tail;
    control = get_or-set_other ws p (n + 2) x 0 (λ e. omega arith) ∙ r.control;
    quiet = get_or-set_other ws p (n + 3) x 0 (λ e. omega arith) ∙ r.quiet;
  }

  -- each register, as it is stored
  pub registers-head : (x : ℕ) → n + 4 ≤ length ws → HasRegisters n (record g { head = x }) (slice_set ws n x)
  registers-head x h = record {
    head = get_or-set_same ws n x 0 (omega arith);
    tail = get_or-set_other ws n (n + 1) x 0 (λ e. omega arith) ∙ r.tail;
    control = get_or-set_other ws n (n + 2) x 0 (λ e. omega arith) ∙ r.control;
    quiet = get_or-set_other ws n (n + 3) x 0 (λ e. omega arith) ∙ r.quiet;
  }

  pub registers-tail : (x : ℕ) → n + 4 ≤ length ws → HasRegisters n (record g { tail = x }) (slice_set ws (n + 1) x)
  registers-tail x h = record {
    head = get_or-set_other ws (n + 1) n x 0 (λ e. omega arith) ∙ r.head;
    tail = get_or-set_same ws (n + 1) x 0 (omega arith);
    control = get_or-set_other ws (n + 1) (n + 2) x 0 (λ e. omega arith) ∙ r.control;
    quiet = get_or-set_other ws (n + 1) (n + 3) x 0 (λ e. omega arith) ∙ r.quiet;
  }

  pub registers-control : (x : ℕ) → n + 4 ≤ length ws → HasRegisters n (record g { control = x }) (slice_set ws (n + 2) x)
  registers-control x h = record {
    head = get_or-set_other ws (n + 2) n x 0 (λ e. omega arith) ∙ r.head;
    tail = get_or-set_other ws (n + 2) (n + 1) x 0 (λ e. omega arith) ∙ r.tail;
    control = get_or-set_same ws (n + 2) x 0 (omega arith);
    quiet = get_or-set_other ws (n + 2) (n + 3) x 0 (λ e. omega arith) ∙ r.quiet;
  }

  pub registers-quiet : (x : ℕ) → n + 4 ≤ length ws → HasRegisters n (record g { quiet = x }) (slice_set ws (n + 3) x)
  registers-quiet x h = record {
    head = get_or-set_other ws (n + 3) n x 0 (λ e. omega arith) ∙ r.head;
    tail = get_or-set_other ws (n + 3) (n + 1) x 0 (λ e. omega arith) ∙ r.tail;
    control = get_or-set_other ws (n + 3) (n + 2) x 0 (λ e. omega arith) ∙ r.control;
    quiet = get_or-set_same ws (n + 3) x 0 (omega arith);
  }

-- a register's word leaves the descriptors
pub descriptors-stay : (n p x j : ℕ) (ws : List ℕ) → n ≤ p → j < n → slice_index (slice_set ws p x) j ≡ slice_index ws j
descriptors-stay n p x j ws h b = get_or-set_other ws p j x 0 (λ e. omega arith)

-- what is at home, where a buffer is found there
full_home : (o : maybe.Option (maybe.Option Buffer)) (b : Buffer) → at_home o ≡ Some b → o ≡ some (some b)
full_home none b e = absurd (none-some b e)
full_home (some none) b e = absurd (none-some b e)
full_home (some (some x)) b e = ap some_of e
  where
    some_of : Option Buffer → maybe.Option (maybe.Option Buffer)
    some_of None = none
    some_of (Some y) = some (some y)

pub home-full : (homes : List (maybe.Option Buffer)) (p : ℕ) (b : Buffer) → home_at homes p ≡ Some b → get_elem? homes p ≡ some (some b)
home-full homes p b e = full_home (get_elem? homes p) b e

-- a slot that comes home with a buffer, and one that goes out
pub home-reaped : (homes : List (maybe.Option Buffer)) (n p : ℕ) (b : Buffer) → p < length homes → Writes n (home_at homes) (home_at (set homes p (some b))) p (Some b)
home-reaped homes n p b h = record {
  here = ap at_home (set_here homes p (some b) h);
  rest = λ j below ne. ap at_home (set_else homes p j (some b) ne);
}

pub home-taken : (homes : List (maybe.Option Buffer)) (n p : ℕ) → p < length homes → Writes n (home_at homes) (home_at (set homes p none)) p None
home-taken homes n p h = record {
  here = ap at_home (set_here homes p none h);
  rest = λ j below ne. ap at_home (set_else homes p j none ne);
}

pub home-left : (homes : List (maybe.Option Buffer)) (p j : ℕ) → j ≢ p → home_at (set homes p none) j ≡ home_at homes j
home-left homes p j ne = ap at_home (set_else homes p j none ne)

-- lists read by place, as they grow
module _ {X : Type 0} where
  pub slice_get-past : (xs : List X) (k : ℕ) → length xs ≤ k → slice_get xs k ≡ None
  slice_get-past [] k h = refl
  slice_get-past (x ∷ xs) zero h = absurd (omega arith)
  slice_get-past (x ∷ xs) (suc k) h = slice_get-past xs k (omega arith)

  pub slice_get-last : (xs : List X) (x : X) → slice_get (xs ++ x ∷ []) (length xs) ≡ Some x
  slice_get-last [] x = refl
  slice_get-last (y ∷ ys) x = slice_get-last ys x

  -- one more at the back leaves every other place
  pub slice_get-snoc_other : (xs : List X) (x : X) (k : ℕ) → k ≢ length xs → slice_get (xs ++ x ∷ []) k ≡ slice_get xs k
  slice_get-snoc_other [] x zero ne = absurd (ne refl)
  slice_get-snoc_other [] x (suc k) ne = refl
  slice_get-snoc_other (y ∷ ys) x zero ne = refl
  slice_get-snoc_other (y ∷ ys) x (suc k) ne = slice_get-snoc_other ys x k (λ e. ne (ap suc e))

  -- nothing there is an empty list
  pub none-empty : (xs : List X) → length xs ≡ 0 → xs ≡ []
  none-empty [] e = refl
  none-empty (x ∷ xs) e = absurd (omega arith)

-- an item that the controller does not hold has its buffer in its slot
pub unheld_item : (held : Bool) (k s : ℕ) (o : Option Buffer) → (held ≡ true → ¬ (k ≡ s)) → (if held && (k == s) then None else o) ≡ o
unheld_item true k s o h = other (k == s) refl
  where
    other : (same : Bool) → (k == s) ≡ same → (if same then None else o) ≡ o
    other true e = absurd (h refl (eqb-true k s e))
    other false e = refl
unheld_item false k s o h = refl

pub index_there : (xs : List ℕ) (k : ℕ) → k < length xs → slice_get xs k ≡ Some (slice_index xs k)
index_there [] k h = absurd (omega arith)
index_there (x ∷ xs) zero h = refl
index_there (x ∷ xs) (suc k) h = index_there xs k (omega arith)

-- the words of a made ring
zero-words : (m k : ℕ) → slice_index (replicate m 0) k ≡ 0
zero-words zero k = refl
zero-words (suc m) zero = refl
zero-words (suc m) (suc k) = zero-words m k

pub at_zero : (words : List ℕ) (m k : ℕ) → words ≡ replicate m 0 → slice_index words k ≡ 0
at_zero words m k e = ap (λ (ws : List ℕ). slice_index ws k) e ∙ zero-words m k
