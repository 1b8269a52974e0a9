-- What a call that decodes answers, for a form and the descriptors that have it.
use Rattle.std.proofs.Common.{◌≡◌, ℕ, ◌<◌, ◌^◌, ◌↔◌, List, [], ◌∷◌, length, drop, Result, Ok, Err, sym, ap, ◌∙◌, arith}
use Rattle.byteorder.specs.Endian.{little_number}
use Rattle.refusals.specs.declared.errors.DescError.{DescError}
use Rattle.refusals.specs.declared.errors.DescError.TheVariants.{Length, Reserved, Kind, Size}
use Rattle.descriptor.specs.Refusal.{IsLowest}
use Rattle.refusals.specs.DescError.{refusal_number}
use Rattle.descriptor.specs.Layout.{Name, WordLayout, Field, Content, Keeps, KeepsField, KeepsWords, KeepsBytes, HasWords, EachField, AreWords, AreBytes, read, first_word, second_word}
use Rattle.descriptor.proofs.Bytes.{first-read, second-read}
use Rattle.descriptor.proofs.Fields.{IsWhole, IsNarrow, IsKept, AreSame, keeps-form, words-same}
use Rattle.descriptor.proofs.Refusals.{Decodes, Decodes-ok, Decodes-err}

-- ---- the lowest refusal of two words

keeps-length : (w : ℕ) (c : Content) (n : ℕ) → Keeps Length w c n
keeps-length w _ n = tt

each-length : (w : ℕ) (fs : List Field) → EachField (KeepsField Length w) fs
each-length w [] = tt
each-length w (f ∷ fs) = (keeps-length w f.content (read w f), each-length w fs)

words-length : (form : WordLayout) (first second : ℕ) → KeepsWords form first second Length
words-length form first second = record { in_first = each-length first form.first; in_second = each-length second form.second }

pub lowest-reserved : (form : WordLayout) (first second : ℕ) → ¬ KeepsWords form first second Reserved → IsLowest (KeepsWords form first second) Reserved
lowest-reserved form first second broken = record {
  broken = broken;
  lowest = λ lower below. elim lower as (λ e. refusal_number e < 2 → KeepsWords form first second e) [
    | Length ↦ λ h. words-length form first second
    | Reserved ↦ λ h. absurd (omega arith)
    | Kind ↦ λ h. absurd (omega arith)
    | Size ↦ λ h. absurd (omega arith)
  ] below;
}

pub lowest-kind : (form : WordLayout) (first second : ℕ) → KeepsWords form first second Reserved → ¬ KeepsWords form first second Kind
    → IsLowest (KeepsWords form first second) Kind
lowest-kind form first second reserved broken = record {
  broken = broken;
  lowest = λ lower below. elim lower as (λ e. refusal_number e < 3 → KeepsWords form first second e) [
    | Length ↦ λ h. words-length form first second
    | Reserved ↦ λ h. reserved
    | Kind ↦ λ h. absurd (omega arith)
    | Size ↦ λ h. absurd (omega arith)
  ] below;
}

pub lowest-size : (form : WordLayout) (first second : ℕ) → KeepsWords form first second Reserved → KeepsWords form first second Kind
    → ¬ KeepsWords form first second Size → IsLowest (KeepsWords form first second) Size
lowest-size form first second reserved kinds broken = record {
  broken = broken;
  lowest = λ lower below. elim lower as (λ e. refusal_number e < 4 → KeepsWords form first second e) [
    | Length ↦ λ h. words-length form first second
    | Reserved ↦ λ h. reserved
    | Kind ↦ λ h. kinds
    | Size ↦ λ h. absurd (omega arith)
  ] below;
}

lowest-moved : (K K' : DescError → Type 0) → ((e : DescError) → K e → K' e) → ((e : DescError) → K' e → K e) → (e : DescError) → IsLowest K e → IsLowest K' e
lowest-moved K K' onto back e h = record { broken = λ k. h.broken (back e k); lowest = λ lower below. onto lower (h.lowest lower below) }

-- ---- a form, and the descriptors that have it

pub record IsCodec {D : Type 0} (form : WordLayout) (numbers : D → Name → ℕ) : Type 0 where
  pub whole : IsWhole form
  pub narrow : (d : D) → IsNarrow form (numbers d)
  pub kept : (d : D) (e : DescError) → IsKept form (numbers d) e
  pub alone : (d other : D) → AreSame form (numbers d) (numbers other) → d ≡ other

module _ {D : Type 0} (form : WordLayout) (numbers : D → Name → ℕ) (codec : IsCodec form numbers) where
  keeps : (first second : ℕ) (d : D) → AreWords form (numbers d) first second → (e : DescError) → KeepsWords form first second e
  keeps first second d words e =
      keeps-form form (numbers d) codec.whole (codec.narrow d) e (codec.kept d e) first second words.0 words.1

  pub words-accepted : (first second : ℕ) (d : D) → AreWords form (numbers d) first second → Decodes (λ d. AreWords form (numbers d) first second) (KeepsWords form first second) (Ok d)
  words-accepted first second d words =
      Decodes-ok (λ d. AreWords form (numbers d) first second) (KeepsWords form first second) d words
      (λ other same. codec.alone d other
      (words-same form (numbers d) (numbers other) codec.whole (codec.narrow d) (codec.narrow other)
      (sym words.0 ∙ same.0) (sym words.1 ∙ same.1)))
      (keeps first second d words)

  pub words-refused : (first second : ℕ) (e : DescError) → IsLowest (KeepsWords form first second) e
      → Decodes {D = D} (λ d. AreWords form (numbers d) first second) (KeepsWords form first second) (Err e)
  words-refused first second e lowest =
      Decodes-err (λ d. AreWords form (numbers d) first second) (KeepsWords form first second) e lowest (keeps first second)

-- ---- in bytes: each word has 64 bits, so of 16 bytes the words decide

module _ {D : Type 0} (form : WordLayout) (numbers : D → Name → ℕ) (fits : (d : D) → (first_word form (numbers d) < 2 ^ 64) × (second_word form (numbers d) < 2 ^ 64)) where
  words-of : (bytes : List ℕ) (d : D) → AreBytes form (numbers d) bytes → AreWords form (numbers d) (little_number 8 bytes) (little_number 8 (drop 8 bytes))
  words-of bytes d same =
      let a : ℕ = first_word form (numbers d) in
      let b : ℕ = second_word form (numbers d) in (
        ap (little_number 8) same ∙ first-read a b (fits d).0,
        ap (λ (xs : List ℕ). little_number 8 (drop 8 xs)) same ∙ second-read a b (fits d).1,
      )

  keeps-bytes : (bytes : List ℕ) → length bytes ≡ 16 → (e : DescError)
      → KeepsWords form (little_number 8 bytes) (little_number 8 (drop 8 bytes)) e → KeepsBytes form bytes e
  keeps-bytes bytes len Length h = len
  keeps-bytes bytes len Reserved h = h
  keeps-bytes bytes len Kind h = h
  keeps-bytes bytes len Size h = h

  keeps-words : (bytes : List ℕ) (e : DescError) → KeepsBytes form bytes e → KeepsWords form (little_number 8 bytes) (little_number 8 (drop 8 bytes)) e
  keeps-words bytes Length h = words-length form (little_number 8 bytes) (little_number 8 (drop 8 bytes))
  keeps-words bytes Reserved h = h
  keeps-words bytes Kind h = h
  keeps-words bytes Size h = h

  module _ (bytes : List ℕ) {first second : ℕ} (words : HasWords bytes first second) (r : Result D DescError) where
    pub bytes-read_back : ((d : D) → AreWords form (numbers d) first second → r ≡ Ok d) → (d : D) → AreBytes form (numbers d) bytes → r ≡ Ok d
    bytes-read_back reads_back d same = let given = words-of bytes d same in reads_back d (words.first_is ∙ given.0, words.second_is ∙ given.1)

    onto : (e : DescError) → KeepsWords form first second e → KeepsBytes form bytes e
    onto e k = keeps-bytes bytes words.sixteen e (rw (← words.first_is, ← words.second_is) k)

    back : (e : DescError) → KeepsBytes form bytes e → KeepsWords form first second e
    back e k = rw (words.first_is, words.second_is) (keeps-words bytes e k)

    pub bytes-refused : ((e : DescError) → (r ≡ Err e) ↔ IsLowest (KeepsWords form first second) e) → (e : DescError) → (r ≡ Err e) ↔ IsLowest (KeepsBytes form bytes) e
    bytes-refused refused e = (
      λ err. lowest-moved (KeepsWords form first second) (KeepsBytes form bytes) onto back e ((refused e).0 err),
      λ k. (refused e).1 (lowest-moved (KeepsBytes form bytes) (KeepsWords form first second) back onto e k),
    )
