-- What the loop has read is what the definition chooses.
use Rattle.std.proofs.Common.{◌≡◌, ℕ, zero, suc, ◌+◌, ◌-◌, ◌<◌, ◌≤◌, Bool, true, false, inl, inr, lit≤, nat_lt, List, [], ◌∷◌, ◌++◌, length, Option, Some, None, Result, Ok, Err, refl, sym, ap, ◌∙◌, arith, length-append, ltb-true, ltb-false}
use Rattle.std.proofs.lemmas.Bool.Decides.{eqb_tells}
use Rattle.limits.specs.declared.profile.TheConstants.{MOST_SCRIPT_FRAMES}
use Rattle.refusals.specs.declared.errors.CaptureError.{CaptureError}
use Rattle.refusals.specs.declared.errors.CaptureError.TheVariants as errors
use Rattle.capture.specs.declared.entry.Entry.{Entry}
use Rattle.capture.specs.declared.entry.Entry.TheVariants.{Frame, Faulty, Unread}
use Rattle.capture.specs.declared.entry.FaultyRecord.{FaultyRecord}
use Rattle.capture.specs.declared.options.ReadOptions.{ReadOptions}
use Rattle.capture.specs.declared.options.Skipped.{Skipped}
use Rattle.capture.specs.CaptureError.{◌>>=◌, Fails}
use Rattle.capture.specs.Choosing.{chosen, first_frames, is_below, skipped_of, within}
use Rattle.capture.specs.Record.{Record}
use Rattle.capture.specs.SoFar.{SoFar, nothing, with_entry}
use Rattle.capture.proofs.Steps.{go, left, parts, picked, picked_faulty, picked_frame, picked_full, picked_none, picked_refused, picked_unread, plus, with_faulty, with_frame}

abbrev pub outcome : Result SoFar CaptureError → Result (List Record × Skipped) CaptureError
outcome r = r >>= λ s. Ok (parts s)

-- one step of `go`
pub go_on : (skip : Bool) (limit : Option ℕ) (s : SoFar) (e : Entry) (entries : List Entry) → is_below limit (length s.records) ≡ true
    → go skip limit s (e ∷ entries) ≡ (with_entry skip s e >>= λ next. go skip limit next entries)
unfolding go
go_on skip limit s e entries below = rw (below, go) refl

pub go_stop : (skip : Bool) (limit : Option ℕ) (s : SoFar) (entries : List Entry) → is_below limit (length s.records) ≡ false → go skip limit s entries ≡ Ok s
unfolding go
go_stop skip limit s [] enough = refl
go_stop skip limit s (e ∷ entries) enough = rw (enough, go) refl

pub go_none : (skip : Bool) (limit : Option ℕ) (s : SoFar) → go skip limit s [] ≡ Ok s
unfolding go
go_none skip limit s = refl

-- one record more, after which the rest is as the definition says
frame_first : (skip : Bool) (s : SoFar) (r : Record) (seen : List Entry) (later : SoFar → Result SoFar CaptureError) → length s.records ≤ MOST_SCRIPT_FRAMES
    → (length s.records < MOST_SCRIPT_FRAMES → outcome (later (with_frame s r)) ≡ picked skip (with_frame s r) seen)
    → outcome (with_entry skip s (Frame r) >>= later) ≡ picked skip s (Frame r ∷ seen)
unfolding with_entry
frame_first skip s r seen later most rest =
    elim (eqb_tells (length s.records) MOST_SCRIPT_FRAMES) [
      | inl p ↦ rw p.0 (sym (picked_full skip s r seen p.1))
      | inr p ↦ let few : length s.records < MOST_SCRIPT_FRAMES = omega (arith, p.1) in rw p.0 (rest few ∙ sym (picked_frame skip s r seen few))
    ]

faulty_first : (skip : Bool) (s : SoFar) (f : FaultyRecord) (seen : List Entry) (later : SoFar → Result SoFar CaptureError)
    → outcome (later (with_faulty s f)) ≡ picked skip (with_faulty s f) seen
    → outcome (with_entry skip s (Faulty f) >>= later) ≡ picked skip s (Faulty f ∷ seen)
unfolding with_entry
faulty_first true s f seen later rest = rest ∙ sym (picked_faulty s f seen)
faulty_first false s f seen later rest = sym (picked_refused s f seen)

unread_first : (skip : Bool) (s : SoFar) (e : CaptureError) (seen : List Entry) (later : SoFar → Result SoFar CaptureError)
    → outcome (with_entry skip s (Unread e) >>= later) ≡ picked skip s (Unread e ∷ seen)
unfolding with_entry
unread_first true s e seen later = sym (picked_unread true s e seen)
unread_first false s e seen later = sym (picked_unread false s e seen)

-- the first frames
first_frame : (n m : ℕ) (r : Record) (entries : List Entry) → n ≡ suc m → first_frames n (Frame r ∷ entries) ≡ Frame r ∷ first_frames m entries
unfolding first_frames
first_frame n m r entries same = rw same refl

first_fault : (n m : ℕ) (f : FaultyRecord) (entries : List Entry) → n ≡ suc m → first_frames n (Faulty f ∷ entries) ≡ Faulty f ∷ first_frames n entries
unfolding first_frames
first_fault n m f entries same = rw same refl

first_unread : (n m : ℕ) (e : CaptureError) (entries : List Entry) → n ≡ suc m → first_frames n (Unread e ∷ entries) ≡ Unread e ∷ first_frames n entries
unfolding first_frames
first_unread n m e entries same = rw same refl

first_of_none : (n : ℕ) (entries : List Entry) → n ≡ 0 → first_frames n entries ≡ []
unfolding first_frames
first_of_none n [] same = refl
first_of_none n (e ∷ entries) same = rw same refl

first_nil : (n : ℕ) → first_frames n [] ≡ []
unfolding first_frames
first_nil zero = refl
first_nil (suc n) = refl

within_nil : (limit : Option ℕ) → within limit [] ≡ []
within_nil None = refl
within_nil (Some n) = first_nil n

-- a record more, where there is a limit
limited_frame : (skip : Bool) (limit : ℕ) (s : SoFar) (r : Record) (entries : List Entry) → length s.records ≤ MOST_SCRIPT_FRAMES
    → (length s.records < MOST_SCRIPT_FRAMES → outcome (go skip (Some limit) (with_frame s r) entries)
    ≡ picked skip (with_frame s r) (first_frames (limit - length (s.records ++ r ∷ [])) entries))
    → (b : Bool) → nat_lt (length s.records) limit ≡ b
    → outcome (go skip (Some limit) s (Frame r ∷ entries)) ≡ picked skip s (first_frames (limit - length s.records) (Frame r ∷ entries))
limited_frame skip limit s r entries most rest false t =
    let none : limit - length s.records ≡ 0 = omega (arith, ltb-false (length s.records) limit t) in
    rw (go_stop skip (Some limit) s (Frame r ∷ entries) t, first_of_none (limit - length s.records) (Frame r ∷ entries) none, picked_none skip s) refl
limited_frame skip limit s r entries most rest true t =
    let size : length (s.records ++ r ∷ []) ≡ length s.records + 1 = omega (arith, length-append s.records (r ∷ [])) in
    let some : limit - length s.records ≡ suc (limit - length (s.records ++ r ∷ [])) = omega (arith, ltb-true (length s.records) limit t) in
    ap outcome (go_on skip (Some limit) s (Frame r) entries t)
    ∙ frame_first skip s r (first_frames (limit - length (s.records ++ r ∷ [])) entries) (λ next. go skip (Some limit) next entries) most rest
    ∙ ap (picked skip s) (sym (first_frame (limit - length s.records) (limit - length (s.records ++ r ∷ [])) r entries some))

limited_faulty : (skip : Bool) (limit : ℕ) (s : SoFar) (f : FaultyRecord) (entries : List Entry)
    → outcome (go skip (Some limit) (with_faulty s f) entries) ≡ picked skip (with_faulty s f) (first_frames (limit - length s.records) entries)
    → (b : Bool) → nat_lt (length s.records) limit ≡ b
    → outcome (go skip (Some limit) s (Faulty f ∷ entries)) ≡ picked skip s (first_frames (limit - length s.records) (Faulty f ∷ entries))
limited_faulty skip limit s f entries rest false t =
    let none : limit - length s.records ≡ 0 = omega (arith, ltb-false (length s.records) limit t) in
    rw (go_stop skip (Some limit) s (Faulty f ∷ entries) t, first_of_none (limit - length s.records) (Faulty f ∷ entries) none, picked_none skip s) refl
limited_faulty skip limit s f entries rest true t =
    let some : limit - length s.records ≡ suc (limit - length s.records - 1) = omega (arith, ltb-true (length s.records) limit t) in
    ap outcome (go_on skip (Some limit) s (Faulty f) entries t)
    ∙ faulty_first skip s f (first_frames (limit - length s.records) entries) (λ next. go skip (Some limit) next entries) rest
    ∙ ap (picked skip s) (sym (first_fault (limit - length s.records) (limit - length s.records - 1) f entries some))

limited_unread : (skip : Bool) (limit : ℕ) (s : SoFar) (e : CaptureError) (entries : List Entry) (b : Bool) → nat_lt (length s.records) limit ≡ b
    → outcome (go skip (Some limit) s (Unread e ∷ entries)) ≡ picked skip s (first_frames (limit - length s.records) (Unread e ∷ entries))
limited_unread skip limit s e entries false t =
    let none : limit - length s.records ≡ 0 = omega (arith, ltb-false (length s.records) limit t) in
    rw (go_stop skip (Some limit) s (Unread e ∷ entries) t, first_of_none (limit - length s.records) (Unread e ∷ entries) none, picked_none skip s) refl
limited_unread skip limit s e entries true t =
    let some : limit - length s.records ≡ suc (limit - length s.records - 1) = omega (arith, ltb-true (length s.records) limit t) in
    ap outcome (go_on skip (Some limit) s (Unread e) entries t)
    ∙ unread_first skip s e (first_frames (limit - length s.records) entries) (λ next. go skip (Some limit) next entries)
    ∙ ap (picked skip s) (sym (first_unread (limit - length s.records) (limit - length s.records - 1) e entries some))

gone : (skip : Bool) (limit : Option ℕ) (entries : List Entry) (s : SoFar) → length s.records ≤ MOST_SCRIPT_FRAMES
    → outcome (go skip limit s entries) ≡ picked skip s (within (left limit (length s.records)) entries)
gone skip limit [] s most =
    rw (go_none skip limit s, within_nil (left limit (length s.records)), picked_none skip s) refl
gone skip None (Frame r ∷ entries) s most =
    ap outcome (go_on skip None s (Frame r) entries refl)
    ∙ frame_first skip s r entries (λ next. go skip None next entries) most
    (λ few. gone skip None entries (with_frame s r) (omega (arith, length-append s.records (r ∷ []))))
gone skip None (Faulty f ∷ entries) s most =
    ap outcome (go_on skip None s (Faulty f) entries refl)
    ∙ faulty_first skip s f entries (λ next. go skip None next entries) (gone skip None entries (with_faulty s f) most)
gone skip (Some limit) (Frame r ∷ entries) s most =
    limited_frame skip limit s r entries most
    (λ few. gone skip (Some limit) entries (with_frame s r) (omega (arith, length-append s.records (r ∷ [])))) (nat_lt (length s.records) limit) refl
gone skip (Some limit) (Faulty f ∷ entries) s most =
    limited_faulty skip limit s f entries (gone skip (Some limit) entries (with_faulty s f) most) (nat_lt (length s.records) limit) refl
gone skip None (Unread e ∷ entries) s most =
    ap outcome (go_on skip None s (Unread e) entries refl)
    ∙ unread_first skip s e entries (λ next. go skip None next entries)
gone skip (Some limit) (Unread e ∷ entries) s most = limited_unread skip limit s e entries (nat_lt (length s.records) limit) refl

left_all : (limit : Option ℕ) → left limit 0 ≡ limit
left_all None = refl
left_all (Some n) = ap Some (let e : n - 0 ≡ n = omega arith in e)

plus_none : (s : Skipped) → plus nothing.skipped s ≡ s
plus_none s = simp zero_first
  where
    zero_first : (n : ℕ) → 0 + n ≡ n
    zero_first n = omega arith

pub chosen_is : (options : ReadOptions) (entries : List Entry) → chosen options entries ≡ outcome (go options.skip options.limit nothing entries)
unfolding chosen
chosen_is options entries =
    sym (gone options.skip options.limit entries nothing (lit≤ tt)
    ∙ rw (left_all options.limit, plus_none (skipped_of (within options.limit entries))) refl)

-- a refusal is carried on
pub carried : {X Y : Type 0} (e : CaptureError) (first : Result X CaptureError) (meant : Result Y CaptureError)
    → (first ≡ Err e → meant ≡ Err e) → Fails e first → Fails e meant
carried errors.NotCapture first meant on same = on same
carried errors.LinkType first meant on same = on same
carried (errors.CutShort n) first meant on same = on same
carried (errors.CapturedShort n) first meant on same = on same
carried (errors.FrameLength n) first meant on same = on same
carried (errors.TooMany n) first meant on same = on same
carried errors.Memory first meant on same = tt

-- the error is the one that is meant
pub refused : {X : Type 0} (e : CaptureError) (meant : Result X CaptureError) → meant ≡ Err e → Fails e meant
refused errors.NotCapture meant same = same
refused errors.LinkType meant same = same
refused (errors.CutShort n) meant same = same
refused (errors.CapturedShort n) meant same = same
refused (errors.FrameLength n) meant same = same
refused (errors.TooMany n) meant same = same
refused errors.Memory meant same = tt
