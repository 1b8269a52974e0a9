-- The line of a frame in a script, and a script within its room.
use Rattle.std.proofs.Common.{◌≡◌, ◌∙◌, arith, ℕ, suc, zero, ◌+◌, ◌-◌, ◌<◌, ◌≤◌, true, false, nat_lt, List, [], ◌∷◌, Option, Some, None, unwrap_or, Result, Ok, Err, ap, refl, sym, length}
use Rattle.std.specs.Prelude.{Bool, ◌==◌, if◌then◌else◌}
use Rattle.std.proofs.lemmas.Bool.{le-ltb, lt-ltb, ne_eqb}
use Rattle.refusals.specs.declared.errors.ScriptError.{ScriptError}
use Rattle.refusals.specs.declared.errors.ScriptError.TheVariants.{Fields, Port, Queue, Bytes, FrameLength, TooMany, Memory}
use Rattle.text_lines.specs.Parts.{lines_of, says_something}
use Rattle.wire_script.specs.Frame.{Frame}
use Rattle.wire_script.specs.Script.{script_of}
use Rattle.wire_script.specs.ScriptError.{◌>>=◌, Fails}
use Rattle.forward_io.specs.Intakes.{frame_line, left_after, script_within}

-- a line without a frame
pub silent : (k n : ℕ) (line : List ℕ) (lines : List (List ℕ)) → says_something line ≡ false → frame_line k n (line ∷ lines) ≡ frame_line (k + 1) n lines
unfolding frame_line
silent k zero line lines is = ap (λ b. if b then k else frame_line (k + 1) zero lines) is
silent k (suc n) line lines is = ap (λ b. if b then frame_line (k + 1) n lines else frame_line (k + 1) (suc n) lines) is

-- the line of the frame
pub here : (k n : ℕ) (line : List ℕ) (lines : List (List ℕ)) → says_something line ≡ true → n ≡ 0 → frame_line k n (line ∷ lines) ≡ k
unfolding frame_line
here k zero line lines is none = ap (λ b. if b then k else frame_line (k + 1) zero lines) is
here k (suc n) line lines is none = let bad : ⊥ = cc none in absurd bad

-- the line of a frame before it
pub later : (k n m : ℕ) (line : List ℕ) (lines : List (List ℕ)) → says_something line ≡ true → n ≡ m + 1 → frame_line k n (line ∷ lines) ≡ frame_line (k + 1) m lines
unfolding frame_line
later k zero m line lines is some = absurd (omega (arith, some))
later k (suc n) m line lines is some =
    let same : n ≡ m = omega (arith, some) in
    let there : frame_line k (suc n) (line ∷ lines) ≡ frame_line (k + 1) n lines =
    ap (λ b. if b then frame_line (k + 1) n lines else frame_line (k + 1) (suc n) lines) is in
    there ∙ ap (λ i. frame_line (k + 1) i lines) same

-- no line is left
pub at-end : (k n : ℕ) → frame_line k n [] ≡ k
unfolding frame_line
at-end k n = refl

-- the line is the frame
pub stops : (k n : ℕ) (line : List ℕ) (lines : List (List ℕ)) → left_after line n ≡ None → frame_line k n (line ∷ lines) ≡ k
stops k n line lines is = by-line (says_something line) refl n is
  where
    by-line : (b : Bool) → says_something line ≡ b → (m : ℕ) → ◌≡◌ {A = Option ℕ} (if b then (if m == 0 then None else Some (m - 1)) else Some m) None → frame_line k m (line ∷ lines) ≡ k
    by-line true says zero none = here k zero line lines says refl
    by-line true says (suc m) none =
        let more : (suc m == 0) ≡ false = ne_eqb (suc m) 0 (λ e. omega (arith, e)) in
        let lost : ◌≡◌ {A = Option ℕ} (Some (suc m - 1)) None = sym (ap (λ b. if b then None else Some (suc m - 1)) more) ∙ none in cc lost
    by-line false says m none = let bad : ⊥ = cc none in absurd bad

-- or it is not
pub goes-on : (k n m : ℕ) (line : List ℕ) (lines : List (List ℕ)) → left_after line n ≡ Some m → frame_line k n (line ∷ lines) ≡ frame_line (k + 1) m lines
goes-on k n m line lines is = by-line (says_something line) refl n is
  where
    by-line : (b : Bool) → says_something line ≡ b → (i : ℕ) → ◌≡◌ {A = Option ℕ} (if b then (if i == 0 then None else Some (i - 1)) else Some i) (Some m)
        → frame_line k i (line ∷ lines) ≡ frame_line (k + 1) m lines
    by-line true says zero some = let bad : ⊥ = cc some in absurd bad
    by-line true says (suc i) some =
        let more : (suc i == 0) ≡ false = ne_eqb (suc i) 0 (λ e. omega (arith, e)) in
        let one : ◌≡◌ {A = Option ℕ} (Some (suc i - 1)) (Some m) = sym (ap (λ b. if b then None else Some (suc i - 1)) more) ∙ some in
        let same : suc i - 1 ≡ m = ap (λ o. unwrap_or o i) one in
        later k (suc i) m line lines says (omega (arith, same))
    by-line false says i some = silent k i line lines says ∙ ap (λ j. frame_line (k + 1) j lines) (ap (λ o. unwrap_or o i) some)

-- ---- a script within its room

abbrev pub fitting : ℕ → List ℕ → Result (List Frame) ScriptError → Result (List Frame) ScriptError
fitting room text r = r >>= λ frames. if nat_lt room (length frames) then Err (TooMany (frame_line 1 room (lines_of text))) else Ok frames

pub faulty : (room : ℕ) (text : List ℕ) (e : ScriptError) → Fails e (script_of text) → Fails e (script_within room text)
faulty room text Memory fails = fails
faulty room text (Fields k) fails = ap (fitting room text) fails
faulty room text (Port k) fails = ap (fitting room text) fails
faulty room text (Queue k) fails = ap (fitting room text) fails
faulty room text (Bytes k) fails = ap (fitting room text) fails
faulty room text (FrameLength k) fails = ap (fitting room text) fails
faulty room text (TooMany k) fails = ap (fitting room text) fails

pub too-many : (room line : ℕ) (text : List ℕ) (frames : List Frame) → script_of text ≡ Ok frames → room < length frames → line ≡ frame_line 1 room (lines_of text)
    → script_within room text ≡ Err (TooMany line)
too-many room line text frames is many at =
    let t : nat_lt room (length frames) ≡ true = lt-ltb room (length frames) many in
    ap (fitting room text) is
    ∙ (ap (λ b. if b then Err (TooMany (frame_line 1 room (lines_of text))) else Ok frames) t ∙ ap (λ k. Err (TooMany k)) (sym at))

pub fits : (room : ℕ) (text : List ℕ) (frames : List Frame) → script_of text ≡ Ok frames → length frames ≤ room → script_within room text ≡ Ok frames
fits room text frames is few =
    let t : nat_lt room (length frames) ≡ false = le-ltb room (length frames) few in
    ap (fitting room text) is ∙ ap (λ b. if b then Err (TooMany (frame_line 1 room (lines_of text))) else Ok frames) t
