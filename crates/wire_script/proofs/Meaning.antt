-- What a script's frames and its first fault are, line by line.
use Rattle.std.proofs.Common.{◌≡◌, ◌⊎◌, inl, inr, ℕ, ◌+◌, ◌≤◌, Bool, true, false, cond, nat_eq, List, [], ◌∷◌, ◌++◌, length, Option, Some, None, Result, Ok, Err, refl, ap, ◌∙◌, arith}
use Rattle.std.specs.Prelude.{All, IsSome, IfErr, IfOk}
use Rattle.std.specs.List.{enumerate_from}
use Rattle.std.proofs.lemmas.Bool.{eqb-true, eqb-false}
use Rattle.std.proofs.lemmas.List.Elements.{All-cons, All-nil}
use Rattle.limits.specs.declared.profile.TheConstants.{MOST_SCRIPT_FRAMES}
use Rattle.text_lines.specs.Parts.{parts}
use Rattle.refusals.specs.declared.errors.ScriptError.{ScriptError}
use Rattle.refusals.specs.declared.errors.ScriptError.TheVariants as errors
use Rattle.wire_script.specs.Frame.{Frame}
use Rattle.wire_script.specs.Line.{line_says}
use Rattle.wire_script.specs.Script.{IsGood, Refuses, Says, and_then, frames_in, lines_say, said_frame, script_of}
use Rattle.wire_script.specs.ScriptError.{◌>>=◌, Answers}

-- what a line that says a frame leads to, where it may
gain_ok : (b : Bool) (d : ScriptError) (f : Frame) (r : Result (List Frame) ScriptError) (frames : List Frame)
    → cond b (Err d) (r >>= λ fs. Ok (f ∷ fs)) ≡ Ok frames → (b ≡ false) × (fs : List Frame) × (r ≡ Ok fs) × (frames ≡ f ∷ fs)
gain_ok true d f r frames h = cc
gain_ok false d f (Ok fs) frames h = (refl, fs, refl, cc)
gain_ok false d f (Err e) frames h = cc

gain_err : (b : Bool) (d : ScriptError) (f : Frame) (r : Result (List Frame) ScriptError) (e : ScriptError)
    → cond b (Err d) (r >>= λ fs. Ok (f ∷ fs)) ≡ Err e → ((b ≡ true) × (e ≡ d)) ⊎ ((b ≡ false) × (r ≡ Err e))
gain_err true d f r e h = inl (refl, cc)
gain_err false d f (Ok fs) e h = cc
gain_err false d f (Err x) e h = inr (refl, h)

-- what the lines from number k on say, after n frames
record SaysFrom (k n : ℕ) (lines : List (List ℕ)) (frames : List Frame) : Type 0 where
  good : All IsGood (enumerate_from k lines)
  same : frames ≡ frames_in (enumerate_from k lines)
  room : n + length frames ≤ MOST_SCRIPT_FRAMES

-- a line that has no fault, before lines that have none
good_line : (k : ℕ) (line : List ℕ) (lines : List (ℕ × List ℕ)) (said : Option Frame) → line_says k line ≡ Ok said → All IsGood lines → All IsGood ((k, line) ∷ lines)
good_line k line lines said is good = All-cons IsGood (k, line) lines (rw is refl) good

says_more : (k n : ℕ) (line : List ℕ) (lines : List (List ℕ)) (frames : List Frame) (r : Result (Option Frame) ScriptError)
    → n ≤ MOST_SCRIPT_FRAMES → line_says k line ≡ r → and_then k n r (λ m. lines_say (k + 1) m lines) ≡ Ok frames
    → ((m : ℕ) (fs : List Frame) → m ≤ MOST_SCRIPT_FRAMES → lines_say (k + 1) m lines ≡ Ok fs → SaysFrom (k + 1) m lines fs)
    → SaysFrom k n (line ∷ lines) frames
unfolding and_then
says_more k n line lines frames (Err e) room is h later = cc
says_more k n line lines frames (Ok None) room is h later =
    let rest = later n frames room h in
    record {
      good = good_line k line (enumerate_from (k + 1) lines) None is rest.good;
      same = rw is rest.same;
      room = rest.room;
    }
says_more k n line lines frames (Ok (Some f)) room is h later =
    let gain = gain_ok (nat_eq n MOST_SCRIPT_FRAMES) (errors.TooMany k) f (lines_say (k + 1) (n + 1) lines) frames h in
    let other = eqb-false n MOST_SCRIPT_FRAMES gain.0 in
    let rest = later (n + 1) gain.1 (omega arith) gain.2 in
    record {
      good = good_line k line (enumerate_from (k + 1) lines) (Some f) is rest.good;
      same = rw is (gain.3 ∙ ap (λ fs. f ∷ fs) rest.same);
      room = omega (arith, ap length gain.3, rest.room);
    }

says_from : (k n : ℕ) (lines : List (List ℕ)) (frames : List Frame) → n ≤ MOST_SCRIPT_FRAMES → lines_say k n lines ≡ Ok frames → SaysFrom k n lines frames
unfolding lines_say
says_from k n [] frames room h =
    let none : frames ≡ [] = cc in
    record { good = All-nil IsGood; same = none; room = omega (arith, ap length none) }
says_from k n (line ∷ lines) frames room h =
    says_more k n line lines frames (line_says k line) room refl h (λ m fs below same. says_from (k + 1) m lines fs below same)

-- why the line of this number is refused, after n frames and those of the lines before it
abbrev IsFault : ℕ → List (ℕ × List ℕ) → ℕ → List ℕ → ScriptError → Type 0
IsFault n before number line e = (line_says number line ≡ Err e)
    ⊎ ((n + length (frames_in before) ≡ MOST_SCRIPT_FRAMES) × IsSome (said_frame (line_says number line)) × (e ≡ errors.TooMany number))

-- the first fault of the lines from number k on, after n frames
record RefusesFrom (k n : ℕ) (lines : List (List ℕ)) (e : ScriptError) : Type 0 where
  before : List (ℕ × List ℕ)
  number : ℕ
  line : List ℕ
  after : List (ℕ × List ℕ)
  cut : enumerate_from k lines ≡ before ++ (number, line) ∷ after
  good : All IsGood before
  fault : IsFault n before number line e

-- it comes after a line that has none
refuses_later : (k n m : ℕ) (line : List ℕ) (lines : List (List ℕ)) (e : ScriptError) (said : Option Frame) → line_says k line ≡ Ok said
    → (rest : RefusesFrom (k + 1) m lines e) → IsFault n ((k, line) ∷ rest.before) rest.number rest.line e → RefusesFrom k n (line ∷ lines) e
refuses_later k n m line lines e said is rest fault = record {
  before = (k, line) ∷ rest.before;
  number = rest.number;
  line = rest.line;
  after = rest.after;
  cut = ap (λ more. (k, line) ∷ more) rest.cut;
  good = good_line k line rest.before said is rest.good;
  fault = fault;
}

refuses_more : (k n : ℕ) (line : List ℕ) (lines : List (List ℕ)) (e : ScriptError) (r : Result (Option Frame) ScriptError)
    → n ≤ MOST_SCRIPT_FRAMES → line_says k line ≡ r → and_then k n r (λ m. lines_say (k + 1) m lines) ≡ Err e
    → ((m : ℕ) → m ≤ MOST_SCRIPT_FRAMES → lines_say (k + 1) m lines ≡ Err e → RefusesFrom (k + 1) m lines e)
    → RefusesFrom k n (line ∷ lines) e
unfolding and_then
refuses_more k n line lines e (Err d) room is h later =
    let same : d ≡ e = cc in
    record { before = []; number = k; line = line; after = enumerate_from (k + 1) lines; cut = refl; good = All-nil IsGood; fault = inl (is ∙ ap Err same) }
refuses_more k n line lines e (Ok None) room is h later =
    let rest = later n room h in
    refuses_later k n n line lines e None is rest (rw is rest.fault)
refuses_more k n line lines e (Ok (Some f)) room is h later =
    elim (gain_err (nat_eq n MOST_SCRIPT_FRAMES) (errors.TooMany k) f (lines_say (k + 1) (n + 1) lines) e h) [
      | inl full ↦
          let all : n ≡ MOST_SCRIPT_FRAMES = eqb-true n MOST_SCRIPT_FRAMES full.0 in
          record { before = []; number = k; line = line; after = enumerate_from (k + 1) lines; cut = refl; good = All-nil IsGood; fault = inr (omega arith, rw is refl, full.1) }
      | inr stop ↦
          let other = eqb-false n MOST_SCRIPT_FRAMES stop.0 in
          let rest = later (n + 1) (omega arith) stop.1 in
          refuses_later k n (n + 1) line lines e (Some f) is rest (rw is (elim rest.fault [ inl bad ↦ inl bad | inr many ↦ inr (omega (arith, many.0), many.1, many.2) ]))
    ]

refuses_from : (k n : ℕ) (lines : List (List ℕ)) (e : ScriptError) → n ≤ MOST_SCRIPT_FRAMES → lines_say k n lines ≡ Err e → RefusesFrom k n lines e
unfolding lines_say
refuses_from k n [] e room h = cc
refuses_from k n (line ∷ lines) e room h =
    refuses_more k n line lines e (line_says k line) room refl h (λ m below same. refuses_from (k + 1) m lines e below same)

-- of an answer
pub frames_said : (text : List ℕ) (r : Result (List Frame) ScriptError) → Answers r (script_of text) → IfOk r (Says text)
frames_said text (Ok frames) exact =
    let all = says_from 1 0 (parts 10 text) frames (omega arith) exact in
    record { good = all.good; same = all.same; room = omega (arith, all.room) }
frames_said text (Err e) exact = tt

refused : (text : List ℕ) (e : ScriptError) → script_of text ≡ Err e → Refuses text e
refused text e exact =
    let first = refuses_from 1 0 (parts 10 text) e (omega arith) exact in (
      first.before,
      first.number,
      first.line,
      first.after,
      first.cut,
      record { good = first.good; fault = elim first.fault [ inl bad ↦ inl bad | inr many ↦ inr (omega (arith, many.0), many.1, many.2) ] },
    )

pub fault_said : (text : List ℕ) (r : Result (List Frame) ScriptError) → Answers r (script_of text)
    → IfErr r (λ e. (e ≡ errors.Memory) ⊎ Refuses text e)
fault_said text (Ok frames) exact = tt
fault_said text (Err errors.Memory) exact = inl refl
fault_said text (Err (errors.Fields k)) exact = inr (refused text (errors.Fields k) exact)
fault_said text (Err (errors.Port k)) exact = inr (refused text (errors.Port k) exact)
fault_said text (Err (errors.Queue k)) exact = inr (refused text (errors.Queue k) exact)
fault_said text (Err (errors.Bytes k)) exact = inr (refused text (errors.Bytes k) exact)
fault_said text (Err (errors.FrameLength k)) exact = inr (refused text (errors.FrameLength k) exact)
fault_said text (Err (errors.TooMany k)) exact = inr (refused text (errors.TooMany k) exact)
