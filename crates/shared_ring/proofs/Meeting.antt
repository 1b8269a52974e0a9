-- What the steps of a making, of a meeting and of a closing ask, over the seats that they are made with.
use Rattle.std.proofs.Common.{◌≡◌, ℕ, zero, suc, ◌+◌, ◌<◌, Bool, true, false, ◌&&◌, if◌then◌else◌, ⊎_elim, List, [], ◌∷◌, ◌++◌, length, Option, Some, sym, refl, ap, ◌∙◌, subst, arith, length-append}
use Rattle.std.specs.Prelude.{slice_get}
use Rattle.std.proofs.lemmas.Bool.{cases_lt, and_parts, false≢true}
use mathlib.Core.Option.{none}
use Rattle.atomic_table.specs.Table.{Allows, Splits, Joins, Final, Seen, step}
use Rattle.atomic_table.specs.Seated.{TableId}
use Rattle.buffer_pool.specs.Buffer.{Buffer}
use Rattle.ring_model.specs.declared.states.Completion.{Completion}
use Rattle.ring_model.specs.declared.states.ControllerState.{ControllerState}
use Rattle.ring_model.specs.declared.states.ControllerState.TheVariants.{Ended}
use Rattle.ring_model.specs.shared.Handshakes.{is_open, is_ended, is_serving, is_between_epochs}
use Rattle.ring_model.specs.shared.Queue.{Queue}
use Rattle.ring_model.specs.kept.Queues.{IsKept}
use Rattle.shared_ring.specs.declared.events.DriverEvent.{DriverEvent}
use Rattle.shared_ring.specs.declared.events.ControllerEvent.{ControllerEvent}
use Rattle.shared_ring.specs.declared.events.View.{View}
use Rattle.shared_ring.specs.declared.events.View.TheVariants.{Maker, Driver, Controller, Both, Nobody}
use Rattle.shared_ring.specs.Directions.{IsDirection}
use Rattle.shared_ring.specs.Ends.{DriverSide, driver_size, driver_state, ControllerSide, controller_record, completed as completed_by}
use Rattle.shared_ring.specs.Forms.{Form, driving, controlling}
use Rattle.shared_ring.specs.Keeping.{IsRuled}
use Rattle.shared_ring.specs.LaidOut.{driven, IsControlled}
use Rattle.shared_ring.specs.Meeting.{kept_upto, is_unanswered, completed_now}
use Rattle.shared_ring.specs.Plays.{SeatOf, Deals, Meets}
use Rattle.shared_ring.specs.Records.{Driven, Controlled}
use Rattle.shared_ring.specs.Seats.{driver_half, controller_half, both_halves}
use Rattle.shared_ring.specs.Tables.{IsTableOf, words_of}
use Rattle.shared_ring.proofs.Allowing.{running, allow_both, splits-halve, splits-lend, joins-unite, joins-return}
use Rattle.shared_ring.proofs.SeatRules.{words-big}
use Rattle.shared_ring.proofs.Gathering.{allow_deal}
use Rattle.shared_ring.proofs.Laying.{slice_get-last, none-empty}
use Rattle.shared_ring.proofs.Seating.{both_are}

-- reading what a loop put together
pub kept-length : (f : ℕ → Option Buffer) (k : ℕ) → length (kept_upto f k) ≡ k
kept-length f zero = refl
kept-length f (suc k) = let h = kept-length f k in let e = length-append (kept_upto f k) (f k ∷ []) in omega arith

get-front : {X : Type 0} (xs ys : List X) (k : ℕ) → k < length xs → slice_get (xs ++ ys) k ≡ slice_get xs k
get-front [] ys k h = absurd (omega arith)
get-front (x ∷ xs) ys zero h = refl
get-front (x ∷ xs) ys (suc k) h = get-front xs ys k (omega arith)

pub kept-get : (f : ℕ → Option Buffer) (k p : ℕ) → p < k → slice_get (kept_upto f k) p ≡ Some (f p)
kept-get f zero p h = absurd (omega arith)
kept-get f (suc k) p h = ⊎_elim
    (λ lt. get-front (kept_upto f k) (f k ∷ []) p (let e = kept-length f k in omega arith) ∙ kept-get f k p lt)
    (λ le. let e : p ≡ k = omega arith in ap (slice_get (kept_upto f k ++ f k ∷ [])) (e ∙ sym (kept-length f k)) ∙ slice_get-last (kept_upto f k) (f k) ∙ ap (λ (j : ℕ). Some (f j)) (sym e))
    (cases_lt p k)

-- a ring's table has a word
pub some-words : (ring : TableId) (key : ℕ × Completion) → IsTableOf ring key.0 key.1 → 0 < ring.words
some-words ring key t = let w = t.words in let b = words-big key.0 key.1 in omega arith

module _ {Ring Posted Completed Reaped D C : Type 0} (form : Form Ring Posted Completed Reaped D C) (law : IsDirection form) where
  abbrev V : Type 0
  V = View (DriverEvent D) (ControllerEvent C)

  pub lend-asks : (key : ℕ × Completion) (id : ℕ) (v : V) (cs : List (ControllerEvent C)) → v ≡ Controller cs → Splits {S = Buffer} (IsRuled form key.0 key.1) id v Nobody v
  lend-asks key id v cs e = subst (λ (w : V). Splits {S = Buffer} (IsRuled form key.0 key.1) id w Nobody w) (sym e) (splits-lend (form.IsLaidOut key.0 key.1) key.0 (words_of key.0 key.1) id cs)

  pub unite-asks : (key : ℕ × Completion) (id other : ℕ) (v w : V) (ds : List (DriverEvent D)) (cs : List (ControllerEvent C)) → v ≡ Driver ds → w ≡ Controller cs → Joins {S = Buffer} (IsRuled form key.0 key.1) id v other w (both_halves v w) Nobody
  unite-asks key id other v w ds cs e f =
      subst (λ (x : V). Joins {S = Buffer} (IsRuled form key.0 key.1) id x other w (both_halves x w) Nobody) (sym e)
      (subst (λ (y : V). Joins {S = Buffer} (IsRuled form key.0 key.1) id (Driver ds) other y (both_halves (Driver ds) y) Nobody) (sym f) (joins-unite (form.IsLaidOut key.0 key.1) key.0 (words_of key.0 key.1) id other ds cs))

  pub halve-asks : (key : ℕ × Completion) (id : ℕ) (v : V) (ds : List (DriverEvent D)) (cs : List (ControllerEvent C)) → v ≡ Both ds cs → Splits {S = Buffer} (IsRuled form key.0 key.1) id v (driver_half v) (controller_half v)
  halve-asks key id v ds cs e = subst (λ (w : V). Splits {S = Buffer} (IsRuled form key.0 key.1) id w (driver_half w) (controller_half w)) (sym e) (splits-halve (form.IsLaidOut key.0 key.1) key.0 (words_of key.0 key.1) id ds cs)

  pub return-asks : (key : ℕ × Completion) (id other : ℕ) (v w : V) (cs : List (ControllerEvent C)) → v ≡ Nobody → w ≡ Controller cs → Joins {S = Buffer} (IsRuled form key.0 key.1) id v other w w Nobody
  return-asks key id other v w cs e f =
      subst (λ (x : V). Joins {S = Buffer} (IsRuled form key.0 key.1) id x other w w Nobody) (sym e)
      (subst (λ (y : V). Joins {S = Buffer} (IsRuled form key.0 key.1) id Nobody other y y Nobody) (sym f) (joins-return (form.IsLaidOut key.0 key.1) key.0 (words_of key.0 key.1) id other cs))

  -- both ends meet
  allow-meet : (n : ℕ) (mode : Completion) (id : ℕ) (ds : List (DriverEvent D)) (cs : List (ControllerEvent C)) (slots : List (ℕ × Buffer)) → Allows (IsRuled form n mode) n id (Both ds cs, slots) 0 (λ x. x) (Meets form (step n 0 0 0 none) (Both ds cs, slots))
  allow-meet n mode id ds cs slots = allow_both (form.IsLaidOut n mode) n (words_of n mode) id ds cs slots 0 (Meets form (step n 0 0 0 none) (Both ds cs, slots))
      (λ q words homes pos l. let a = law.allowed n mode q ds cs words homes pos l in record { same = refl; of_one_ring = a.agree })

  pub meet-asks : (key : ℕ × Completion) (slots id : ℕ) (me : SeatOf D C) (ds : List (DriverEvent D)) (cs : List (ControllerEvent C)) (carried : List (ℕ × Buffer)) → slots ≡ key.0 → me ≡ (Both ds cs, carried) → Allows (IsRuled form key.0 key.1) slots id me 0 (λ x. x) (Meets form (step slots 0 0 0 none) me)
  meet-asks key slots id me ds cs carried s e =
      subst (λ (k : ℕ). Allows (IsRuled form key.0 key.1) k id me 0 (λ x. x) (Meets form (step k 0 0 0 none) me)) (sym s)
      (subst (λ (m : SeatOf D C). Allows (IsRuled form key.0 key.1) key.0 id m 0 (λ x. x) (Meets form (step key.0 0 0 0 none) m)) (sym e) (allow-meet key.0 key.1 id ds cs carried))

  pub deal-asks : (n : ℕ) (mode : Completion) (key : ℕ × Completion) (slots id : ℕ) (me : SeatOf D C) → 1 < n → form.Reports mode → key ≡ (n, mode) → slots ≡ n → me ≡ (Maker, []) → Allows (IsRuled form key.0 key.1) slots id me (n + 2) (λ x. x) (Deals (step slots (n + 2) 0 0 none) me)
  deal-asks n mode key slots id me big may k s e =
      subst (λ (x : ℕ × Completion). Allows (IsRuled form x.0 x.1) slots id me (n + 2) (λ x. x) (Deals (step slots (n + 2) 0 0 none) me)) (sym k)
      (subst (λ (x : ℕ). Allows (IsRuled form n mode) x id me (n + 2) (λ x. x) (Deals (step x (n + 2) 0 0 none) me)) (sym s)
      (subst (λ (m : SeatOf D C). Allows (IsRuled form n mode) n id m (n + 2) (λ x. x) (Deals (step n (n + 2) 0 0 none) m)) (sym e)
      (let o = law.opens n mode big may in allow_deal (form.IsLaidOut n mode) n (words_of n mode) id (n + 2) o.0 big o.1)))

  -- the last state of a table whose seat has both records
  left-in : (key : ℕ × Completion) (id : ℕ) (ds : List (DriverEvent D)) (cs : List (ControllerEvent C)) (words : List ℕ) (slots : List Buffer) → Final (Seen (IsRuled form key.0 key.1) id (Both ds cs)) words slots → form.LeftIn key.0 ds cs slots
  left-in key id ds cs words slots f =
      let s = f.0 in let seen = f.1 in let r = running (form.IsLaidOut key.0 key.1) key.0 (words_of key.0 key.1) s id (Both ds cs) seen.0 seen.1 (λ e. cc) in
      let both = both_are r.ds ds r.cs cs s.views id r.seats seen.1 in let ruled = seen.0 in
      let l = subst (λ (xs : List (DriverEvent D)). form.IsLaidOut key.0 key.1 r.ring xs cs s.words s.homes) (sym both.0) (subst (λ (ys : List (ControllerEvent C)). form.IsLaidOut key.0 key.1 r.ring r.ds ys s.words s.homes) (sym both.1) r.laid_out) in
      let a = law.allowed key.0 key.1 r.ring ds cs s.words s.homes ruled.0 l in a.left slots f.4

  -- the same, of a seat whose view is that, and of the rule at an equal key
  pub left-at : (n : ℕ) (key : ℕ × Completion) (id : ℕ) (v : V) (ds ds' : List (DriverEvent D)) (cs cs' : List (ControllerEvent C)) (words : List ℕ) (slots : List Buffer) → v ≡ Both ds cs → key.0 ≡ n → ds ≡ ds' → cs ≡ cs'
      → Final (Seen (IsRuled form key.0 key.1) id v) words slots → form.LeftIn n ds' cs' slots
  left-at n key id v ds ds' cs cs' words slots e k a b f =
      subst (λ (m : ℕ). form.LeftIn m ds' cs' slots) k
      (subst (λ (xs : List (DriverEvent D)). form.LeftIn key.0 xs cs' slots) a
      (subst (λ (ys : List (ControllerEvent C)). form.LeftIn key.0 ds ys slots) b
      (left-in key id ds cs words slots (subst (λ (w : V). Final (Seen (IsRuled form key.0 key.1) id w) words slots) e f))))

ended_idle : (s : ControllerState) → is_ended s ≡ true → is_serving s ≡ false
ended_idle Ended e = refl
ended_idle _ e = absurd (false≢true e)

-- what is served in the driver's epoch is what the ring has served
module _ {Ring Posted Completed Reaped D C : Type 0} {form : Form Ring Posted Completed Reaped D C} (word_of_item : ℕ → Option Posted → Option Completed → ℕ) (buffer_of_item : Option Posted → Option Completed → Option Buffer) (ends : Completed → Bool) (n : ℕ)
    (q : Queue Posted Completed Reaped) (kept : IsKept n ends q) (bars : Bool) (d : DriverSide form) (c : ControllerSide form) (same : c.table ≡ d.table) (did : driving form d.events ≡ driven q)
    (completed : IsControlled {Reaped = Reaped} word_of_item buffer_of_item q bars (controlling form (driver_size d) c.events)) where
  its : {Y : Type 0} (f : Controlled Completed → Y) → f (controller_record c) ≡ f (controlling form (driver_size d) c.events)
  its f = ap (λ (z : TableId). f (controlling form z.slots c.events)) same

  unanswered-is : is_unanswered d c ≡ is_between_epochs q.handshake
  unanswered-is = ap (λ (x : Bool). x && is_open (driver_state d)) (its (λ x. is_ended x.state) ∙ ap is_ended completed.state) ∙ ap (λ (x : Driven Posted Reaped). is_ended q.handshake.controller && is_open x.state) did

  chosen : (b : Bool) → is_between_epochs q.handshake ≡ b → (if b then [] else completed_by c) ≡ q.ledger.completed
  chosen true e = let o = kept.order in let t = and_parts (is_ended q.handshake.controller) (is_open q.handshake.driver) e in sym (none-empty q.ledger.completed (o.none_completed (ended_idle q.handshake.controller t.0) t.1))
  chosen false e = its (λ x. x.completed) ∙ completed.completed e

  pub completed-is : completed_now d c ≡ q.ledger.completed
  completed-is = ap (λ (b : Bool). if b then [] else completed_by c) unanswered-is ∙ chosen (is_between_epochs q.handshake) refl
