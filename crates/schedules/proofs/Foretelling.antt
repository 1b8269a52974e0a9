-- One move more of a drawn list.
use Rattle.std.proofs.Common.{◌≡◌, ◌∙◌, ℕ, zero, suc, ◌+◌, ◌*◌, ◌≤◌, ◌<◌, Bool, true, false, List, [], ◌∷◌, ◌++◌, length, length-append, map, replicate, Result, Ok, Err, sym, refl, ap, ap₂, subst, arith, ⊎_elim, if◌then◌else◌}
use Rattle.std.proofs.lemmas.Bool.{cases_lt}
use Rattle.std.specs.Int.{from_bool}
use Rattle.std.specs.Prelude.{not}
use Rattle.std.specs.Result.{is_err, is_ok}
use Rattle.std.specs.Prelude.{slice_get}
use Rattle.std.proofs.lemmas.List.{map-append}
use Rattle.ring_laws.specs.Schedules.{after-append, reached-opening}
use Rattle.ring_laws.specs.Worlds.{reached_world}
use Rattle.ring_model.proofs.Apart.{later_world}
use Rattle.ring_model.specs.declared.notes.Note.{Note}
use Rattle.ring_model.specs.declared.steps.ControlStep.TheVariants.{LookAsked}
use Rattle.ring_model.specs.declared.steps.RxStep.TheVariants.{Control}
use Rattle.ring_model.specs.receive.Ring.{RxRing}
use Rattle.ring_model.specs.receive.Steps.{rx_can}
use Rattle.ring_model.specs.shared.Schedules.{next}
use Rattle.ring_model.specs.Worlds.{QueueMove, World, after_move, after_moves, can_at, can_move, moves_happened, opening_world, IsReachableWorld}
use Rattle.refusals.specs.declared.errors.MachineError.{MachineError}
use Rattle.ring_machine.specs.declared.moves.Move.{Move}
use Rattle.ring_machine.specs.declared.moves.Move.TheVariants.{Receive}
use Rattle.ring_machine.specs.Queues.{AreQueues, QueueParts, QueuesAgree, QueuesFollow, queue_move}
use Rattle.ring_machine.proofs.QueuesRunning.{did-made, did-refused}
use Rattle.ring_machine.proofs.shared.Running.{happened-append}
use Rattle.schedules.specs.declared.drawing.Drawn.{Drawn}
use Rattle.settings.specs.declared.plan.SchedulePlan.{SchedulePlan}
use Rattle.schedules.specs.Drawing.{Draws, IsDrawn, Surely, allowed, happening, moves_in, world_of}

-- what a step's answer says of it
pub drawn-as : (old new : QueueParts) (d : Drawn) (result : Result Note MachineError) → d.happens ≡ is_ok result → QueuesFollow old d.action result new → Draws old d new
unfolding QueuesFollow Draws
drawn-as old new d (Ok t) outcome follows pairs n w reached agrees =
    let did = follows pairs n w reached agrees in
    let made = did-made w (queue_move d.action) t (next can_move after_move w (queue_move d.action)) old new did in
    (outcome ∙ sym made.1, did.agrees)
drawn-as old new d (Err e) outcome follows pairs n w reached agrees =
    let did = follows pairs n w reached agrees in
    let refused = did-refused w (queue_move d.action) e (next can_move after_move w (queue_move d.action)) old new did in
    (outcome ∙ sym refused.1, did.agrees)

-- ---- a move that always happens

length-replicate : {A : Type 0} (k : ℕ) (a : A) → length (replicate k a) ≡ k
length-replicate zero a = refl
length-replicate (suc k) a = ap suc (length-replicate k a)

count-reached : (pairs n : ℕ) (w : World) → 1 < n → IsReachableWorld pairs n w → length w.receive ≡ pairs
count-reached pairs n w some e =
    let first : World = opening_world pairs n e.beginning in
    let later = later_world pairs n first e.schedule some (reached-opening can_move after_move (opening_world pairs n) e.beginning) in
    ap (λ (v : World). length v.receive) (sym e.made) ∙ (later.receive_count ∙ length-replicate pairs _)

can-look : (rs : List (RxRing ℕ)) → 1 ≤ length rs → can_at rx_can (slice_get rs 0) (Control LookAsked) ≡ true
can-look [] some = absurd (let bad : ⊥ = omega arith in bad)
can-look (r ∷ rs) some = refl

pub look-happens : (old new : QueueParts) (d : Drawn) → d.action ≡ Receive 0 (Control LookAsked) → Draws old d new → Surely old d
unfolding Draws Surely
look-happens old new d is draws pairs n w reached some many agrees =
    let counted = count-reached pairs n w many reached in
    (draws pairs n w reached agrees).0 ∙ (ap (λ (m : Move). can_move w (queue_move m)) is ∙ can-look w.receive (subst (λ (k : ℕ). 1 ≤ k) (sym counted) some))

pub surely : (queues : QueueParts) (d : Drawn) → d.happens ≡ true → Surely queues d
unfolding Surely
surely queues d happens pairs n w reached some many agrees = happens

-- ---- a list so far

-- there is a pair of queues, and a ring has places
abbrev pub HasSome : SchedulePlan → Type 0
HasSome p = (1 ≤ p.pairs) × (1 < p.ring)

stable-le : (a b : ℕ) → ((a ≤ b → ⊥) → ⊥) → a ≤ b
stable-le a b nn = ⊎_elim (λ lt. absurd (nn (λ le. let bad : ⊥ = omega arith in bad))) (λ le. le) (cases_lt b a)

-- where the queues were not refused, there are some
pub has-some : (p : SchedulePlan) → ((AreQueues p.pairs p.ring → ⊥) → ⊥) → HasSome p
has-some p able =
    let least : 8 ≤ p.ring = stable-le 8 p.ring (λ off. able (λ a. off a.2.0)) in
    (stable-le 1 p.pairs (λ off. able (λ a. off a.0)), omega arith)

happening-append : (w : World) (ms : List QueueMove) (m : QueueMove) → happening w (ms ++ m ∷ []) ≡ happening w ms ++ can_move (after_moves w ms) m ∷ []
happening-append w [] m = refl
happening-append w (x ∷ ms) m = ap (λ (l : List Bool). can_move w x ∷ l) (happening-append (next can_move after_move w x) ms m)

-- so many are drawn, of which so many were refused, and the queues stand behind them
pub record SoFar (p : SchedulePlan) (l : List Drawn) (refused : ℕ) (queues : QueueParts) : Type 0 where
  pub agrees : QueuesAgree queues (after_moves (world_of p) (moves_in l))
  pub foretold : map (λ d. d.happens) l ≡ happening (world_of p) (moves_in l)
  pub counted : length l ≡ moves_happened (world_of p) (moves_in l) + refused
  pub few : 100 * refused ≤ allowed p * length l

pub none-drawn : (p : SchedulePlan) (queues : QueueParts) → QueuesAgree queues (world_of p) → SoFar p [] 0 queues
none-drawn p queues agrees = record { agrees = agrees; foretold = refl; counted = refl; few = omega arith }

-- the list is longer by a move, which happened or was refused
one-more : (p : SchedulePlan) (l : List Drawn) (before later : QueueParts) (d : Drawn) (refused count : ℕ) → HasSome p → Draws before d later
    → QueuesAgree before (after_moves (world_of p) (moves_in l)) → map (λ d. d.happens) l ≡ happening (world_of p) (moves_in l)
    → length l ≡ moves_happened (world_of p) (moves_in l) + refused → (if d.happens then 1 else 0) + count ≡ 1 → 100 * (refused + count) ≤ allowed p * (length l + 1)
    → SoFar p (l ++ d ∷ []) (refused + count) later
unfolding Draws
one-more p l before later d refused count queues draws agrees foretold counted one few =
    let w = world_of p in
    let now = after_moves w (moves_in l) in
    let opening = reached-opening can_move after_move (opening_world p.pairs p.ring) (record { enabled = p.enabled; completion = p.completion }) in
    let drew = draws p.pairs p.ring now (reached_world p.pairs p.ring w (moves_in l) opening) agrees in
    let moves : moves_in (l ++ d ∷ []) ≡ moves_in l ++ queue_move d.action ∷ [] = map-append (λ (x : Drawn). queue_move x.action) l (d ∷ []) in
    let lengths : length (l ++ d ∷ []) ≡ length l + 1 = length-append l (d ∷ []) in
    let happened = happened-append can_move after_move w (moves_in l) (queue_move d.action ∷ []) in
    let last : moves_happened now (queue_move d.action ∷ []) ≡ (if d.happens then 1 else 0) = ap (λ (b : Bool). if b then 1 else 0) (sym drew.0) in
    let all : moves_happened w (moves_in (l ++ d ∷ [])) ≡ moves_happened w (moves_in l) + (if d.happens then 1 else 0) =
    ap (moves_happened w) moves ∙ (happened ∙ ap (λ (k : ℕ). moves_happened w (moves_in l) + k) last) in
    record {
      agrees = subst (QueuesAgree later) (sym (ap (after_moves w) moves ∙ after-append can_move after_move w (moves_in l) (queue_move d.action ∷ []))) drew.1;
      foretold = map-append (λ (x : Drawn). x.happens) l (d ∷ [])
          ∙ (ap₂ (λ (bs : List Bool) (b : Bool). bs ++ b ∷ []) foretold drew.0
          ∙ (sym (happening-append w (moves_in l) (queue_move d.action)) ∙ sym (ap (happening w) moves)));
      counted = omega arith;
      few = subst (λ (k : ℕ). 100 * (refused + count) ≤ allowed p * k) (sym lengths) few;
    }

pub happened-more : (p : SchedulePlan) (l : List Drawn) (before later : QueueParts) (d : Drawn) (refused : ℕ) → HasSome p → Draws before d later
    → d.happens ≡ true → SoFar p l refused before → SoFar p (l ++ d ∷ []) refused later
happened-more p l before later d refused queues draws happens s =
    let one : (if d.happens then 1 else 0) + 0 ≡ 1 = ap (λ (b : Bool). (if b then 1 else 0) + 0) happens in
    let more = wider refused (allowed p) (length l) s.few in
    let none : refused + 0 ≡ refused = omega arith in
    subst (λ (k : ℕ). SoFar p (l ++ d ∷ []) k later) none (one-more p l before later d refused 0 queues draws s.agrees s.foretold s.counted one more)
  where
    wider : (refused percent long : ℕ) → 100 * refused ≤ percent * long → 100 * (refused + 0) ≤ percent * (long + 1)
    wider refused percent long few = let split : percent * (long + 1) ≡ percent * long + percent = omega arith in omega arith

pub refused-more : (p : SchedulePlan) (l : List Drawn) (before later : QueueParts) (d : Drawn) (refused : ℕ) → HasSome p → Draws before d later
    → d.happens ≡ false → 100 * (refused + 1) ≤ allowed p * (length l + 1) → SoFar p l refused before → SoFar p (l ++ d ∷ []) (refused + 1) later
refused-more p l before later d refused queues draws happens owed s =
    one-more p l before later d refused 1 queues draws s.agrees s.foretold s.counted (ap (λ (b : Bool). (if b then 1 else 0) + 1) happens) owed

-- the list is as long as the plan wants
pub all-drawn : (p : SchedulePlan) (l : List Drawn) (refused : ℕ) (queues : QueueParts) → length l ≡ p.moves → SoFar p l refused queues → IsDrawn p l
all-drawn p l refused queues whole s = record {
  count = whole;
  foretold = s.foretold;
  few = let few = subst (λ (k : ℕ). 100 * refused ≤ allowed p * k) whole s.few in let counted = sym whole ∙ s.counted in
      joined p.moves (moves_happened (world_of p) (moves_in l)) refused (allowed p * p.moves) counted few;
}
  where
    joined : (long happened refused most : ℕ) → long ≡ happened + refused → 100 * refused ≤ most → 100 * long ≤ 100 * happened + most
    joined long happened refused most counted few = omega arith

-- what happens surely was not refused
pub not-sure : (p : SchedulePlan) (l : List Drawn) (refused : ℕ) (queues : QueueParts) (d : Drawn) → HasSome p → SoFar p l refused queues → Surely queues d → d.happens ≡ true
unfolding Surely
not-sure p l refused queues d are s sure =
    let opening = reached-opening can_move after_move (opening_world p.pairs p.ring) (record { enabled = p.enabled; completion = p.completion }) in
    sure p.pairs p.ring (after_moves (world_of p) (moves_in l)) (reached_world p.pairs p.ring (world_of p) (moves_in l) opening) are.0 are.1 s.agrees

-- the next move was drawn, and is counted where it was refused
pub next-drawn : (p : SchedulePlan) (l : List Drawn) (before later : QueueParts) (d : Drawn) (refused count : ℕ) (may : Bool) → HasSome p → Draws before d later
    → (may ≡ false → Surely before d) → (may ≡ true → 100 * (refused + 1) ≤ allowed p * (length l + 1)) → count ≡ from_bool (not d.happens)
    → SoFar p l refused before → SoFar p (l ++ d ∷ []) (refused + count) later
next-drawn p l before later d refused count may queues draws sure owed counted s = by-answer d.happens refl
  where
    put : (k : ℕ) → count ≡ k → SoFar p (l ++ d ∷ []) (refused + k) later → SoFar p (l ++ d ∷ []) (refused + count) later
    put k is = subst (λ (k : ℕ). SoFar p (l ++ d ∷ []) (refused + k) later) (sym is)

    by-leave : (b : Bool) → may ≡ b → d.happens ≡ false → 100 * (refused + 1) ≤ allowed p * (length l + 1)
    by-leave true is off = owed is
    by-leave false is off = absurd (let bad : true ≡ false = sym (not-sure p l refused before d queues s (sure is)) ∙ off in let never : ⊥ = cc bad in never)

    by-answer : (b : Bool) → d.happens ≡ b → SoFar p (l ++ d ∷ []) (refused + count) later
    by-answer true is =
        let none : refused + 0 ≡ refused = omega arith in
        put 0 (counted ∙ ap (λ (b : Bool). from_bool (not b)) is)
        (subst (λ (k : ℕ). SoFar p (l ++ d ∷ []) k later) (sym none) (happened-more p l before later d refused queues draws is s))
    by-answer false is = put 1 (counted ∙ ap (λ (b : Bool). from_bool (not b)) is) (refused-more p l before later d refused queues draws is (by-leave may refl is) s)

-- what was not refused was pushed
pub pushed : {Given Refused : Type 0} (l after : List Drawn) (d : Drawn) (result : Result Given Refused) → after ≡ (if is_ok result then l ++ d ∷ [] else l) → false ≡ is_err result
    → after ≡ l ++ d ∷ []
pushed l after d (Ok given) is outcome = is
pushed l after d (Err refused) is outcome = let bad : ⊥ = cc outcome in absurd bad
