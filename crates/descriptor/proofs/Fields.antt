-- Words that are made of fields side by side.
use Rattle.std.proofs.Common.{◌≡◌, ℕ, ◌+◌, ◌*◌, ◌/◌, ◌%◌, ◌^◌, ◌<◌, List, [], ◌∷◌, refl, sym, ap, subst, ◌∙◌, arith}
use Rattle.std.proofs.lemmas.Nat.{pow-add, shr-shr, shr_split, shr_high, mod_low}
use Rattle.std.proofs.Math.Nat.{mul-le-mul_right}
use Rattle.refusals.specs.declared.errors.DescError.{DescError}
use Rattle.refusals.specs.declared.errors.DescError.TheVariants.{Reserved}
use Rattle.descriptor.specs.Layout.{Name, WordLayout, Field, Content, fixed, word_of, read, EachField, Keeps, KeepsField, KeepsWords, number_in, first_word, second_word}

-- the fields lie side by side from bit b up to bit 63
abbrev pub Tiles : ℕ → List Field → Type 0
Tiles b [] = b ≡ 64
Tiles b (f ∷ fs) = (f.first ≡ b) × Tiles (f.first + f.width) fs

-- ---- a word is the sum of what its fields have

read-step : (w b k : ℕ) → w / 2 ^ b % 2 ^ k * 2 ^ b + w / 2 ^ (b + k) * 2 ^ (b + k) ≡ w / 2 ^ b * 2 ^ b
read-step w b k =
    let whole = shr_split (w / 2 ^ b) k in
    let high = shr-shr w b k in
    let power = pow-add 2 b k in
    let scaled : (w / 2 ^ b / 2 ^ k * 2 ^ k + w / 2 ^ b % 2 ^ k) * 2 ^ b ≡ w / 2 ^ b * 2 ^ b = ap (λ (n : ℕ). n * 2 ^ b) whole in
    rw (← high, power) (omega (arith, scaled))

pub word_of-read : (w : ℕ) → w < 2 ^ 64 → (b : ℕ) (fs : List Field) → Tiles b fs → word_of (read w) fs ≡ w / 2 ^ b * 2 ^ b
word_of-read w h b [] end = rw end (omega arith)
word_of-read w h b (f ∷ fs) (here, rest) =
    let more = word_of-read w h (f.first + f.width) fs rest in
    ap (λ (n : ℕ). read w f * 2 ^ f.first + n) more ∙ read-step w f.first f.width ∙ ap (λ (p : ℕ). w / 2 ^ p * 2 ^ p) here

-- ---- a field has the number that was put there

abbrev pub Narrow : (Field → ℕ) → Field → Type 0
Narrow n f = n f < 2 ^ f.width

word_of-multiple : (n : Field → ℕ) (b : ℕ) (fs : List Field) → Tiles b fs → (m : ℕ) × (word_of n fs ≡ m * 2 ^ b)
word_of-multiple n b [] end = (0, omega arith)
word_of-multiple n b (f ∷ fs) (here, rest) =
    let tail = word_of-multiple n (f.first + f.width) fs rest in
    let e = tail.1 in
    (n f + tail.0 * 2 ^ f.width, rw (← here, e, pow-add 2 f.first f.width) (omega arith))

-- what lies below a field, and above it, is not read
read-middle : (low v m b k : ℕ) → low < 2 ^ b → v < 2 ^ k → (low + (v * 2 ^ b + m * 2 ^ (b + k))) / 2 ^ b % 2 ^ k ≡ v
read-middle low v m b k hl hv =
    let power = pow-add 2 b k in
    let shape : low + (v * 2 ^ b + m * 2 ^ (b + k)) ≡ (m * 2 ^ k + v) * 2 ^ b + low = rw power (omega arith) in
    rw (shape, shr_high (m * 2 ^ k + v) b low hl) (mod_low m k v hv)

below-next : (low v b k : ℕ) → low < 2 ^ b → v < 2 ^ k → low + v * 2 ^ b < 2 ^ (b + k)
below-next low v b k hl hv = rw (pow-add 2 b k) (omega (arith, mul-le-mul_right {m = v + 1} {n = 2 ^ k} (2 ^ b) (omega arith)))

pub read-word_of : (n : Field → ℕ) (low b : ℕ) (fs : List Field) → Tiles b fs → EachField (Narrow n) fs → low < 2 ^ b
    → EachField (λ f. read (low + word_of n fs) f ≡ n f) fs
read-word_of n low b [] end narrow h = tt
read-word_of n low b (f ∷ fs) (here, rest) (fits, others) h =
    let below : low < 2 ^ f.first = rw here h in
    let tail = word_of-multiple n (f.first + f.width) fs rest in
    let mine : read (low + (n f * 2 ^ f.first + word_of n fs)) f ≡ n f =
    rw tail.1 (read-middle low (n f) tail.0 f.first f.width below fits) in
    let shape : low + n f * 2 ^ f.first + word_of n fs ≡ low + (n f * 2 ^ f.first + word_of n fs) = omega arith in
    let P : ℕ → Type 0 = λ w. EachField (λ g. read w g ≡ n g) fs in
    let next = below-next low (n f) f.first f.width below fits in
    (mine, subst P shape (read-word_of n (low + n f * 2 ^ f.first) (f.first + f.width) fs rest others next))

pub word_of-lt : (n : Field → ℕ) (low b : ℕ) (fs : List Field) → Tiles b fs → EachField (Narrow n) fs → low < 2 ^ b
    → low + word_of n fs < 2 ^ 64
word_of-lt n low b [] end narrow h = subst (λ (p : ℕ). low + 0 < 2 ^ p) end (omega arith)
word_of-lt n low b (f ∷ fs) (here, rest) (fits, others) h =
    let below : low < 2 ^ f.first = rw here h in
    let next = below-next low (n f) f.first f.width below fits in
    let more = word_of-lt n (low + n f * 2 ^ f.first) (f.first + f.width) fs rest others next in
    omega arith

-- ---- the word with its fixed fields as the profile has them, and the others as they are

abbrev pub settle : Content → ℕ → ℕ
settle (fixed m) _ = m
settle _ n = n

abbrev pub settled : ℕ → Field → ℕ
settled w f = settle f.content (read w f)

settle-is : (c : Content) (w n : ℕ) → Keeps Reserved w c n → settle c n ≡ n
settle-is (fixed m) w n h = sym h
settle-is _ w n h = refl

settled-read : (w : ℕ) (fs : List Field) → EachField (KeepsField Reserved w) fs → word_of (settled w) fs ≡ word_of (read w) fs
settled-read w [] h = refl
settled-read w (f ∷ fs) (here, rest) =
    let mine = settle-is f.content w (read w f) here in
    let more = settled-read w fs rest in
    rw (mine, more) refl

-- a word whose fixed fields are right is the sum of its settled fields
pub word_of-settled : (w : ℕ) → w < 2 ^ 64 → (fs : List Field) → Tiles 0 fs → EachField (KeepsField Reserved w) fs → word_of (settled w) fs ≡ w
word_of-settled w h fs tiles keeps = settled-read w fs keeps ∙ word_of-read w h 0 fs tiles ∙ omega arith

-- the fields of a word that is such a sum
pub read-made : (n : Field → ℕ) (fs : List Field) → Tiles 0 fs → EachField (Narrow n) fs → (w : ℕ) → w ≡ word_of n fs
    → EachField (λ f. read w f ≡ n f) fs
read-made n fs tiles narrow w e =
    let P : ℕ → Type 0 = λ v. EachField (λ f. read v f ≡ n f) fs in
    let whole : 0 + word_of n fs ≡ w = omega arith in
    subst P whole (read-word_of n 0 0 fs tiles narrow (omega arith))

-- ---- a whole form

pub record IsWhole (form : WordLayout) : Type 0 where
  pub first : Tiles 0 form.first
  pub second : Tiles 0 form.second

keeps-made : (e : DescError) (w : ℕ) (n : Field → ℕ) (fs : List Field) → EachField (λ f. read w f ≡ n f) fs
    → EachField (λ f. Keeps e w f.content (n f)) fs → EachField (KeepsField e w) fs
keeps-made e w n [] made keeps = tt
keeps-made e w n (f ∷ fs) (here, rest) (mine, others) =
    (subst (Keeps e w f.content) (sym here) mine, keeps-made e w n fs rest others)

-- numbers that fit into the fields
pub record IsNarrow (form : WordLayout) (numbers : Name → ℕ) : Type 0 where
  pub first : EachField (Narrow (number_in numbers)) form.first
  pub second : EachField (Narrow (number_in numbers)) form.second

-- a word with these numbers in it keeps what the refusal e speaks of
pub record IsKept (form : WordLayout) (numbers : Name → ℕ) (e : DescError) : Type 0 where
  pub first : (w : ℕ) → EachField (λ f. read w f ≡ number_in numbers f) form.first → EachField (λ f. Keeps e w f.content (number_in numbers f)) form.first
  pub second : (w : ℕ) → EachField (λ f. read w f ≡ number_in numbers f) form.second → EachField (λ f. Keeps e w f.content (number_in numbers f)) form.second

pub keeps-form : (form : WordLayout) (numbers : Name → ℕ) → IsWhole form → IsNarrow form numbers → (e : DescError) → IsKept form numbers e
    → (first second : ℕ) → first ≡ first_word form numbers → second ≡ second_word form numbers → KeepsWords form first second e
keeps-form form numbers whole narrow e kept first second one two =
    let n : Field → ℕ = number_in numbers in
    let a = read-made n form.first whole.first narrow.first first one in
    let b = read-made n form.second whole.second narrow.second second two in
    record {
      in_first = keeps-made e first n form.first a (kept.first first a);
      in_second = keeps-made e second n form.second b (kept.second second b);
    }

-- the words of two descriptors are the same only where each field is
made-same : (n m : Field → ℕ) (fs : List Field) → Tiles 0 fs → EachField (Narrow n) fs → EachField (Narrow m) fs → word_of n fs ≡ word_of m fs
    → EachField (λ f. n f ≡ m f) fs
made-same n m fs tiles narrow narrow' e =
    both fs (read-made n fs tiles narrow (word_of n fs) refl) (read-made m fs tiles narrow' (word_of n fs) e)
  where
    both : (gs : List Field) → EachField (λ f. read (word_of n fs) f ≡ n f) gs → EachField (λ f. read (word_of n fs) f ≡ m f) gs → EachField (λ f. n f ≡ m f) gs
    both [] a b = tt
    both (g ∷ gs) (a, more) (b, more') = (sym a ∙ b, both gs more more')

pub record AreSame (form : WordLayout) (numbers numbers' : Name → ℕ) : Type 0 where
  pub first : EachField (λ f. number_in numbers f ≡ number_in numbers' f) form.first
  pub second : EachField (λ f. number_in numbers f ≡ number_in numbers' f) form.second

pub words-same : (form : WordLayout) (numbers numbers' : Name → ℕ) → IsWhole form → IsNarrow form numbers → IsNarrow form numbers'
    → first_word form numbers ≡ first_word form numbers' → second_word form numbers ≡ second_word form numbers' → AreSame form numbers numbers'
words-same form numbers numbers' whole narrow narrow' one two = record {
  first = made-same (number_in numbers) (number_in numbers') form.first whole.first narrow.first narrow'.first one;
  second = made-same (number_in numbers) (number_in numbers') form.second whole.second narrow.second narrow'.second two;
}

pub first-lt : (form : WordLayout) (numbers : Name → ℕ) → IsWhole form → IsNarrow form numbers → first_word form numbers < 2 ^ 64
first-lt form numbers whole narrow = omega (arith, word_of-lt (number_in numbers) 0 0 form.first whole.first narrow.first (omega arith))

pub second-lt : (form : WordLayout) (numbers : Name → ℕ) → IsWhole form → IsNarrow form numbers → second_word form numbers < 2 ^ 64
second-lt form numbers whole narrow = omega (arith, word_of-lt (number_in numbers) 0 0 form.second whole.second narrow.second (omega arith))
