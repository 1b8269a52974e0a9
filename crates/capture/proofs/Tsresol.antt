-- Going over an interface's options.
use Rattle.std.proofs.Common.{◌≡◌, ◌≢◌, ℕ, zero, suc, ◌+◌, ◌-◌, ◌*◌, ◌/◌, ◌<◌, ◌≤◌, List, length, drop, slice_index, refl, sym, ◌∙◌, inl, inr, arith, length-drop}
use Rattle.std.proofs.lemmas.Bool.{le-ltb, lt-ltb, ne_eqb}
use Rattle.std.proofs.lemmas.Bool.Decides.{eqb_tells}
use Rattle.capture.specs.Layout.{Numbers}
use Rattle.capture.specs.Pcapng.{resolution_from, resolution_in}

-- what is left tells what the whole tells
pub record Tells (number : Numbers) (whole : ℕ) (rest : List ℕ) : Type 0 where
  pub steps : ℕ
  pub enough : length rest ≤ steps
  pub said : resolution_from number steps rest ≡ whole

pub begins : (number : Numbers) (options : List ℕ) → Tells number (resolution_in number options) options
begins number options = record { steps = length options; enough = omega arith; said = refl }

none_left : (number : Numbers) (steps : ℕ) (rest : List ℕ) → length rest < 5 → resolution_from number steps rest ≡ 6
unfolding resolution_from
none_left number zero rest few = refl
none_left number (suc steps) rest few = rw (lt-ltb (length rest) 5 few) refl

pub few_left : (number : Numbers) (whole : ℕ) (rest : List ℕ) → Tells number whole rest → length rest < 5 → 6 ≡ whole
few_left number whole rest before few = sym (none_left number before.steps rest few) ∙ before.said

at_end : (number : Numbers) (steps : ℕ) (rest : List ℕ) → 5 ≤ length rest → number 2 rest ≡ 0 → resolution_from number steps rest ≡ 6
unfolding resolution_from
at_end number zero rest some code = refl
at_end number (suc steps) rest some code = rw (le-ltb (length rest) 5 some, code) refl

pub ended : (number : Numbers) (whole : ℕ) (rest : List ℕ) → Tells number whole rest → 5 ≤ length rest → number 2 rest ≡ 0 → 6 ≡ whole
ended number whole rest before some code = sym (at_end number before.steps rest some code) ∙ before.said

at_it : (number : Numbers) (steps : ℕ) (rest : List ℕ) → 5 ≤ length rest → length rest ≤ steps → number 2 rest ≡ 9 → number 2 (drop 2 rest) ≡ 1
    → resolution_from number steps rest ≡ slice_index rest 4
unfolding resolution_from
at_it number zero rest some enough code len = absurd (omega arith)
at_it number (suc steps) rest some enough code len = rw (le-ltb (length rest) 5 some, code, len) refl

pub found : (number : Numbers) (whole : ℕ) (rest : List ℕ) → Tells number whole rest → 5 ≤ length rest → number 2 rest ≡ 9 → number 2 (drop 2 rest) ≡ 1
    → slice_index rest 4 ≡ whole
found number whole rest before some code len = sym (at_it number before.steps rest some before.enough code len) ∙ before.said

-- how many bytes an option has
abbrev pub taken : Numbers → List ℕ → ℕ
taken number rest = 4 + (number 2 (drop 2 rest) + 3) / 4 * 4

further : (number : Numbers) (steps : ℕ) (rest : List ℕ) → 5 ≤ length rest → length rest ≤ steps → number 2 rest ≢ 0
    → (number 2 rest ≡ 9 → number 2 (drop 2 rest) ≡ 1 → ⊥)
    → resolution_from number steps rest ≡ resolution_from number (steps - 1) (drop (taken number rest) rest)
unfolding resolution_from
further number zero rest some enough code other = absurd (omega arith)
further number (suc steps) rest some enough code other =
    let same : suc steps - 1 ≡ steps = omega arith in
    elim (eqb_tells (number 2 rest) 9) [
      | inl p ↦ rw (le-ltb (length rest) 5 some, ne_eqb (number 2 rest) 0 code, p.0, ne_eqb (number 2 (drop 2 rest)) 1 (other p.1), same) refl
      | inr p ↦ rw (le-ltb (length rest) 5 some, ne_eqb (number 2 rest) 0 code, p.0, same) refl
    ]

pub goes_on : (number : Numbers) (whole : ℕ) (rest : List ℕ) → Tells number whole rest → 5 ≤ length rest → number 2 rest ≢ 0
    → (number 2 rest ≡ 9 → number 2 (drop 2 rest) ≡ 1 → ⊥) → Tells number whole (drop (taken number rest) rest)
goes_on number whole rest before some code other = record {
  steps = before.steps - 1;
  enough = omega (arith, length-drop (taken number rest) rest, before.enough);
  said = sym (further number before.steps rest some before.enough code other) ∙ before.said;
}
