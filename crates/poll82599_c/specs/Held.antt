-- Statements about objects that handles may hold.
use Rattle.std.specs.Prelude.{◌≡◌, ◌≢◌, ⊤, ℕ, ℤ, negsuc, Option, Some, None}

-- both are there, and this holds of them
abbrev pub Both : {A B : Type 0} → (A → B → Type 0) → Option A → Option B → Type 0
Both Holds (Some a) (Some b) = Holds a b
Both Holds _ _ = ⊥

-- this holds of both, if both are there
abbrev pub OfBoth : {A B : Type 0} → (A → B → Type 0) → Option A → Option B → Type 0
OfBoth Holds (Some a) (Some b) = Holds a b
OfBoth Holds (Some a) None = ⊤
OfBoth Holds None b = ⊤

-- if both handles held their object, closing does not return -2 and leaves both handles empty
abbrev pub AreClosed : {A B X : Type 0} → Option A → Option B → ℤ → Option X → Option X → Type 0
AreClosed one other answer new has = OfBoth (λ a b. (answer ≢ negsuc 1) × (new ≡ None) × (has ≡ None)) one other

-- it is there, and this holds of it
abbrev pub There : {A : Type 0} → (A → Type 0) → Option A → Type 0
There Holds (Some a) = Holds a
There Holds None = ⊥

-- if it is there, this holds of it
abbrev pub Of : {A : Type 0} → (A → Type 0) → Option A → Type 0
Of Holds (Some a) = Holds a
Of Holds None = ⊤

-- if it was there before a call, it is there after it, and this holds of both
abbrev pub Between : {A B : Type 0} → (A → B → Type 0) → Option A → Option B → Type 0
Between Holds (Some old) (Some new) = Holds old new
Between Holds (Some old) None = ⊥
Between Holds None new = ⊤

-- if two were there before a call, they are there after it, and this holds of all four
abbrev pub Among : {A B : Type 0} → (A → B → A → B → Type 0) → Option A → Option B → Option A → Option B → Type 0
Among Holds (Some a) (Some b) (Some c) (Some d) = Holds a b c d
Among Holds (Some a) (Some b) (Some c) None = ⊥
Among Holds (Some a) (Some b) None new = ⊥
Among Holds (Some a) None old new = ⊤
Among Holds None b old new = ⊤

-- the result is 1 if the step is made; with any other result nothing changes
abbrev pub Tried : {A : Type 0} → (A → A → Type 0) → ℕ → A → A → Type 0
Tried Step answer old new = (answer ≡ 1 → Step old new) × (answer ≢ 1 → new ≡ old)
