-- A seat at a ring's table: what the table asks of a step, over what the seat keeps.
use Rattle.std.proofs.Common.{◌≡◌, ℕ, ◌+◌, ◌%◌, ◌<◌, ◌≤◌, List, ◌∷◌, sym, refl, ap, ◌∙◌, subst, arith, mod-lt}
use mathlib.Core.Option.{none}
use Rattle.atomic_table.specs.Table.{Allows, Step, rest, step}
use Rattle.atomic_table.specs.Seated.{TableId}
use Rattle.buffer_pool.specs.Buffer.{Buffer}
use Rattle.ring_model.specs.declared.states.Completion.{Completion}
use Rattle.ring_model.specs.declared.states.Completion.TheVariants.{Status, Head}
use Rattle.shared_ring.specs.declared.events.DriverEvent.{DriverEvent}
use Rattle.shared_ring.specs.declared.events.ControllerEvent.{ControllerEvent}
use Rattle.shared_ring.specs.Forms.{Form}
use Rattle.shared_ring.specs.Keeping.{IsRuled, IsSeat}
use Rattle.shared_ring.specs.declared.events.View.{View}
use Rattle.shared_ring.specs.Plays.{End, SeatOf}
use Rattle.shared_ring.specs.Tables.{IsTableOf, words_of}

-- a table's words tell how its ring reports
pub same-words : (n : ℕ) (a b : Completion) → words_of n a ≡ words_of n b → a ≡ b
same-words n Status Status e = refl
same-words n Status Head e = absurd (omega arith)
same-words n Head Status e = absurd (omega arith)
same-words n Head Head e = refl

pub words-big : (n : ℕ) (mode : Completion) → n + 4 ≤ words_of n mode
words-big n Status = omega arith
words-big n Head = omega arith

-- a place's word is one of the table's
pub below : (n : ℕ) (mode : Completion) (place i : ℕ) → 8 ≤ n → place ≡ i % n → place < words_of n mode
below n mode place i big e = let w = words-big n mode in let m : i % n < n = mod-lt i (omega arith) in omega arith

pub low : (n : ℕ) (mode : Completion) (i : ℕ) → i < n + 4 → i < words_of n mode
low n mode i h = let w = words-big n mode in omega arith

-- the front slot is what the list says
pub front-is : (xs ys : List (ℕ × Buffer)) (x : ℕ × Buffer) → xs ≡ x ∷ ys → xs ≡ x ∷ rest xs
front-is xs ys x e = subst (λ (zs : List (ℕ × Buffer)). zs ≡ x ∷ rest zs) (sym e) refl

-- a step leaves what a seat keeps, where its record and its slots go on together
pub as-made : {Ring Posted Completed Reaped D C E : Type 0} {form : Form Ring Posted Completed Reaped D C} {whose : End (View (DriverEvent D) (ControllerEvent C)) E} (table table' : TableId) (me me' it : SeatOf D C) (size : ℕ) (mode : Completion) → IsSeat form whose table me size mode
    → table' ≡ table → me' ≡ it → it ≡ (whose.seat (whose.part it.0), whose.slots size (whose.part it.0)) → whose.Stands size (whose.part it.0) → IsSeat form whose table' me' size mode
as-made {form = form} {whose = whose} table table' me me' it size mode inv t m whole stands =
    subst (λ (x : TableId). IsSeat form whose x me' size mode) (sym t)
    (subst (λ x. IsSeat form whose table x size mode) (sym m) (record { law = inv.law; size_is = inv.size_is; words = inv.words; lawful = inv.lawful; me_is = whole; stands = stands }))

-- what the ring's table asks of a store and of a load that a seat makes
module _ {Ring Posted Completed Reaped D C : Type 0} (form : Form Ring Posted Completed Reaped D C) (table ring : TableId) (key : ℕ × Completion) (me : SeatOf D C) where
  abbrev pub Asks : (Step Buffer → SeatOf D C → ℕ → SeatOf D C → Type 0) → ℕ → ℕ → ℕ → Type 0
  Asks T id i v = (table ≡ ring) × (i < ring.words) × Allows (IsRuled form key.0 key.1) ring.slots id me i (λ _. v) (λ _. T (step ring.slots i v 0 none) me v)

  abbrev pub LoadAsks : (Step Buffer → SeatOf D C → ℕ → SeatOf D C → Type 0) → ℕ → ℕ → Type 0
  LoadAsks T id i = (table ≡ ring) × (i < ring.words) × Allows (IsRuled form key.0 key.1) ring.slots id me i (λ r. r) (T (step ring.slots i 0 0 none) me)

-- A seat at a ring's table: the table is the ring's, and the seat is `it`
pub record StandsAt {D C : Type 0} (table : TableId) (size : ℕ) (mode : Completion) (ring : TableId) (key : ℕ × Completion) (me it : SeatOf D C) : Type 0 where
  pub size_is : table.slots ≡ size
  pub words : table.words ≡ words_of size mode
  pub ruled : IsTableOf ring key.0 key.1
  pub own : table ≡ ring
  pub me_is : me ≡ it

module _ {D C : Type 0} {table : TableId} {size : ℕ} {mode : Completion} {ring : TableId} {key : ℕ × Completion} {me it : SeatOf D C} (at : StandsAt table size mode ring key me it) where
  pub counts : ring.slots ≡ size
  counts = ap (λ (z : TableId). z.slots) (sym at.own) ∙ at.size_is

  key-is : key.0 ≡ size
  key-is = let r = at.ruled in sym r.slots ∙ counts

  mode-is : key.1 ≡ mode
  mode-is = let r = at.ruled in same-words size key.1 mode (ap (λ (n : ℕ). words_of n key.1) (sym key-is) ∙ sym r.words ∙ ap (λ (z : TableId). z.words) (sym at.own) ∙ at.words)

  pub within : (i : ℕ) → i < words_of size mode → i < ring.words
  within i h = let b : ring.words ≡ words_of size mode = ap (λ (z : TableId). z.words) (sym at.own) ∙ at.words in omega arith

  module _ {Ring Posted Completed Reaped : Type 0} (form : Form Ring Posted Completed Reaped D C) where
    pub allow-at : (T : ℕ → SeatOf D C → ℕ → SeatOf D C → Type 0) (id i : ℕ) (f : ℕ → ℕ) (m m' : SeatOf D C) → m' ≡ m → Allows (IsRuled form size mode) size id m i f (T size m) → Allows (IsRuled form key.0 key.1) ring.slots id m' i f (T ring.slots m')
    allow-at T id i f m m' e a =
        subst (λ (x : ℕ). Allows (IsRuled form x key.1) ring.slots id m' i f (T ring.slots m')) (sym key-is)
        (subst (λ (x : Completion). Allows (IsRuled form size x) ring.slots id m' i f (T ring.slots m')) (sym mode-is)
        (subst (λ (x : ℕ). Allows (IsRuled form size mode) x id m' i f (T x m')) (sym counts)
        (subst (λ (x : SeatOf D C). Allows (IsRuled form size mode) size id x i f (T size x)) (sym e) a)))

    -- what a store and a load ask
    pub store-asks : (T : Step Buffer → SeatOf D C → ℕ → SeatOf D C → Type 0) (id i v : ℕ) → i < words_of size mode → Allows (IsRuled form size mode) size id it i (λ _. v) (λ _ m. T (step size i v 0 none) it v m) → Asks form table ring key me T id i v
    store-asks T id i v h a = (at.own, within i h, allow-at (λ n m r m'. T (step n i v 0 none) m v m') id i (λ _. v) it me at.me_is a)

    pub load-asks : (T : Step Buffer → SeatOf D C → ℕ → SeatOf D C → Type 0) (id i : ℕ) → i < words_of size mode → Allows (IsRuled form size mode) size id it i (λ r. r) (T (step size i 0 0 none) it) → LoadAsks form table ring key me T id i
    load-asks T id i h a = (at.own, within i h, allow-at (λ n m r m'. T (step n i 0 0 none) m r m') id i (λ r. r) it me at.me_is a)
