-- One machine of several makes a step: it goes on agreeing with its ring, and all others stay as they are.
use Rattle.std.proofs.Common.{◌≡◌, ◌≢◌, ℕ, zero, suc, ◌+◌, ◌<◌, ◌≤◌, Bool, true, false, List, [], ◌∷◌, ◌++◌, length, replicate, Option, Some, None, sym, refl, ap, ◌∙◌, ⊎_elim, subst, arith, if◌then◌else◌, length-set}
use Rattle.std.specs.Prelude.{Result, Ok, Err, slice_get, slice_set}
use Rattle.std.specs.Result.{is_err, is_ok}
use Rattle.std.proofs.lemmas.Bool.{cases_eq, cases_lt}
use Rattle.std.proofs.lemmas.Option.{none-some, same_Some, slice_get_within}
use Rattle.ring_model.specs.declared.steps.RxStep.{RxStep}
use Rattle.ring_model.specs.declared.steps.TxStep.{TxStep}
use Rattle.ring_model.specs.declared.notes.Note.{Note}
use Rattle.ring_model.specs.shared.Schedules.{next}
use Rattle.ring_model.specs.receive.Steps.{rx_can, rx_changed, rx_note_of}
use Rattle.ring_model.specs.transmit.Ring.{Posting}
use Rattle.ring_model.specs.transmit.Steps.{tx_can, tx_changed, tx_note_of}
use Rattle.ring_model.specs.Worlds.{World, can_at, note_at, put_next}
use Rattle.ring_laws.specs.Places.{slice_get-set_other}
use Rattle.ring_model.proofs.Apart.{reaches}
use Rattle.refusals.specs.declared.errors.MachineError.{MachineError}
use Rattle.refusals.specs.declared.errors.MachineError.TheVariants as refusal
use Rattle.ring_machine.specs.declared.moves.Move.TheVariants.{Receive, Transmit}
use Rattle.ring_machine.specs.shared.Following.{Did}
use Rattle.ring_machine.specs.receive.Machine.{RxAgrees, RxFollows, RxParts}
use Rattle.ring_machine.specs.transmit.Machine.{TxAgrees, TxFollows, TxParts}
use Rattle.ring_machine.specs.Queues.{AllAgree, QueueParts, QueuesAgree, QueuesFollow}

module _ {X : Type 0} where
  -- to store what is there changes nothing
  pub set_same : (xs : List X) (q : ℕ) (x : X) → slice_get xs q ≡ Some x → slice_set xs q x ≡ xs
  set_same [] q x e = refl
  set_same (y ∷ ys) zero x e = ap (λ z. z ∷ ys) (sym (same_Some y x e))
  set_same (y ∷ ys) (suc q) x e = ap (λ zs. y ∷ zs) (set_same ys q x e)

  -- what lies where something was stored is that
  stored_is : (xs : List X) (q : ℕ) (x y : X) → slice_get (slice_set xs q x) q ≡ Some y → x ≡ y
  stored_is [] q x y e = absurd (none-some y e)
  stored_is (z ∷ zs) zero x y e = same_Some x y e
  stored_is (z ∷ zs) (suc q) x y e = stored_is zs q x y e

  -- within the list something is found
  pub found-within : (xs : List X) (q : ℕ) → q < length xs → slice_get xs q ≢ None
  found-within [] q h e = absurd (omega arith)
  found-within (x ∷ xs) zero h e = none-some x (sym e)
  found-within (x ∷ xs) (suc q) h e = found-within xs q (omega arith) e

-- what is not within the list is past its end
pub past-end : (i len : ℕ) → (i < len → false ≡ true) → len ≤ i
past-end i len no_way = ⊎_elim (λ lt. let bad = no_way lt in absurd (let never : ⊥ = cc bad in never)) (λ le. le) (cases_lt i len)

module _ {A B : Type 0} (Agree : A → B → Type 0) where
  pub none-agree : AllAgree Agree [] []
  none-agree = record { lengths = refl; each = λ q x y e f. absurd (none-some x e) }

  -- one pair more, at the front
  front-agrees : (x : A) (y : B) (xs : List A) (ys : List B) → Agree x y → AllAgree Agree xs ys → AllAgree Agree (x ∷ xs) (y ∷ ys)
  front-agrees x y xs ys h a = record { lengths = ap suc a.lengths; each = each }
    where
      each : (q : ℕ) (u : A) (v : B) → slice_get (x ∷ xs) q ≡ Some u → slice_get (y ∷ ys) q ≡ Some v → Agree u v
      each zero u v e f = subst (λ z. Agree z v) (same_Some x u e) (subst (λ z. Agree x z) (same_Some y v f) h)
      each (suc q) u v e f = a.each q u v e f

  tail-agrees : (x : A) (y : B) (xs : List A) (ys : List B) → AllAgree Agree (x ∷ xs) (y ∷ ys) → AllAgree Agree xs ys
  tail-agrees x y xs ys a = record { lengths = let e = a.lengths in omega arith; each = λ q u v e f. a.each (suc q) u v e f }

  -- one machine more, beside as many as there are
  one_more-agrees : (xs : List A) (y : B) (n : ℕ) (x : A) → AllAgree Agree xs (replicate n y) → Agree x y → AllAgree Agree (xs ++ x ∷ []) (replicate (suc n) y)
  one_more-agrees [] y zero x a h = front-agrees x y [] [] h none-agree
  one_more-agrees [] y (suc n) x a h = absurd (let e = a.lengths in let bad : ⊥ = cc e in bad)
  one_more-agrees (z ∷ zs) y zero x a h = absurd (let e = a.lengths in let bad : ⊥ = cc e in bad)
  one_more-agrees (z ∷ zs) y (suc n) x a h = front-agrees z y (zs ++ x ∷ []) (replicate (suc n) y) (a.each 0 z y refl refl) (one_more-agrees zs y n x (tail-agrees z y zs (replicate n y) a) h)

  pub pushed-agrees : {Reaped Refused : Type 0} (xs : List A) (y : B) (n : ℕ) (x : A) (after : List A) (result : Result Reaped Refused) → after ≡ (if is_ok result then xs ++ x ∷ [] else xs) → false ≡ is_err result
      → AllAgree Agree xs (replicate n y) → Agree x y → AllAgree Agree after (replicate (n + 1) y)
  pushed-agrees xs y n x after (Ok reaped) e told a h = let longer : suc n ≡ n + 1 = omega arith in
      subst (λ k. AllAgree Agree after (replicate k y)) longer (subst (λ zs. AllAgree Agree zs (replicate (suc n) y)) (sym e) (one_more-agrees xs y n x a h))
  pushed-agrees xs y n x after (Err refused) e told a h = let bad : ⊥ = cc told in absurd bad

  -- where one pair changes and still agrees
  set-agrees : (xs : List A) (ys : List B) (q : ℕ) (x : A) (y : B) → AllAgree Agree xs ys → Agree x y → AllAgree Agree (slice_set xs q x) (slice_set ys q y)
  set-agrees xs ys q x y a h = record {
    lengths = length-set xs q x ∙ a.lengths ∙ sym (length-set ys q y);
    each = λ k u v e f. ⊎_elim
        (λ same. subst (λ z. Agree z v) (stored_is xs q x u (subst (λ j. slice_get (slice_set xs q x) j ≡ Some u) same e)) (subst (λ z. Agree x z) (stored_is ys q y v (subst (λ j. slice_get (slice_set ys q y) j ≡ Some v) same f)) h))
        (λ ne. a.each k u v (sym (slice_get-set_other xs q k x ne) ∙ e) (sym (slice_get-set_other ys q k y ne) ∙ f))
        (cases_eq k q);
  }

  -- a refusal leaves the list of machines as it was
  kept-set : (xs : List A) (q : ℕ) (x y : A) → slice_get xs q ≡ Some x → y ≡ x → slice_set xs q y ≡ xs
  kept-set xs q x y here e = ap (λ z. slice_set xs q z) e ∙ set_same xs q x here

-- Of one direction: `parts` and `whole` put its machines and its rings beside those of the other
module _ {Parts Ring Step : Type 0} (Agree : Parts → Ring → Type 0) (can : Ring → Step → Bool) (changed : Ring → Step → Ring) (tells : Ring → Step → Note)
    (parts : List Parts → QueueParts) (whole : List Ring → World) (beside : (xs : List Parts) (rs : List Ring) → AllAgree Agree xs rs → QueuesAgree (parts xs) (whole rs)) where
  -- one of them stepped, beside its ring
  stepped : (xs : List Parts) (rs : List Ring) (q : ℕ) (s : Step) (x y : Parts) (r : Ring) (result : Result Note MachineError) (happens : Bool) → can r s ≡ happens → slice_get xs q ≡ Some x → AllAgree Agree xs rs
      → Did Agree (if happens then Some (tells r s) else None) (if happens then changed r s else r) result x y
      → Did QueuesAgree (if happens then Some (tells r s) else None) (if happens then whole (slice_set rs q (next can changed r s)) else whole rs) result (parts xs) (parts (slice_set xs q y))
  stepped xs rs q s x y r result true e here a d = record {
    answer = d.answer;
    agrees = rw e (beside (slice_set xs q y) (slice_set rs q (changed r s)) (set-agrees Agree xs rs q y (changed r s) a d.agrees));
    kept = λ none. absurd (none-some (tells r s) (sym none));
  }
  stepped xs rs q s x y r result false e here a d = let same = kept-set Agree xs q x y here (d.kept refl) in record {
    answer = d.answer;
    agrees = rw same (beside xs rs a);
    kept = λ none. ap parts same;
  }

  put-one : (xs : List Parts) (rs : List Ring) (q : ℕ) (s : Step) (x y : Parts) (result : Result Note MachineError) (found : Option Ring) → slice_get rs q ≡ found → slice_get xs q ≡ Some x → AllAgree Agree xs rs
      → ((r : Ring) → found ≡ Some r → Did Agree (if can r s then Some (tells r s) else None) (next can changed r s) result x y)
      → Did QueuesAgree (note_at can tells found s) (if can_at can found s then whole (put_next (next can changed) rs q s found) else whole rs) result (parts xs) (parts (slice_set xs q y))
  put-one xs rs q s x y result None e here a did = let inside = slice_get_within xs q x here in let l = a.lengths in absurd (found-within rs q (omega arith) e)
  put-one xs rs q s x y result (Some r) e here a did = stepped xs rs q s x y r result (can r s) refl here a (did r refl)

  -- a queue that is not there has no step
  missing-one : (xs : List Parts) (rs : List Ring) (q : ℕ) (s : Step) (found : Option Ring) → slice_get rs q ≡ found → length xs ≤ q → AllAgree Agree xs rs
      → Did QueuesAgree (note_at can tells found s) (if can_at can found s then whole (put_next (next can changed) rs q s found) else whole rs) (Err refusal.NotEnabled) (parts xs) (parts xs)
  missing-one xs rs q s None e past a = record { answer = refl; agrees = beside xs rs a; kept = λ none. refl }
  missing-one xs rs q s (Some r) e past a = let inside = slice_get_within rs q r e in let l = a.lengths in absurd (omega arith)

pub receive-follows : (old : QueueParts) (q : ℕ) (s : RxStep ℕ) (x y : RxParts) (result : Result Note MachineError) → slice_get old.receive q ≡ Some x → RxFollows x s result y
    → QueuesFollow old (Receive q s) result (record old { receive = slice_set old.receive q y })
unfolding RxFollows QueuesFollow
receive-follows old q s x y result here follows pairs n w e a = let b = a.receive in
    put-one RxAgrees rx_can rx_changed rx_note_of (λ xs. record old { receive = xs }) (λ rs. record w { receive = rs }) (λ xs rs all. record { receive = all; transmit = a.transmit })
    old.receive w.receive q s x y result (slice_get w.receive q) refl here b (λ r at. follows n r ((reaches pairs n w e).receive q r at) (b.each q x r here at))

pub receive-missing : (old : QueueParts) (q : ℕ) (s : RxStep ℕ) → length old.receive ≤ q → QueuesFollow old (Receive q s) (Err refusal.NotEnabled) old
unfolding QueuesFollow
receive-missing old q s past pairs n w e a = missing-one RxAgrees rx_can rx_changed rx_note_of (λ xs. record old { receive = xs }) (λ rs. record w { receive = rs }) (λ xs rs all. record { receive = all; transmit = a.transmit })
    old.receive w.receive q s (slice_get w.receive q) refl past a.receive

pub transmit-follows : (old : QueueParts) (q : ℕ) (s : TxStep (Posting ℕ)) (x y : TxParts) (result : Result Note MachineError) → slice_get old.transmit q ≡ Some x → TxFollows x s result y
    → QueuesFollow old (Transmit q s) result (record old { transmit = slice_set old.transmit q y })
unfolding TxFollows QueuesFollow
transmit-follows old q s x y result here follows pairs n w e a = let b = a.transmit in
    put-one TxAgrees tx_can tx_changed tx_note_of (λ xs. record old { transmit = xs }) (λ rs. record w { transmit = rs }) (λ xs rs all. record { receive = a.receive; transmit = all })
    old.transmit w.transmit q s x y result (slice_get w.transmit q) refl here b (λ r at. follows n r ((reaches pairs n w e).transmit q r at) (b.each q x r here at))

pub transmit-missing : (old : QueueParts) (q : ℕ) (s : TxStep (Posting ℕ)) → length old.transmit ≤ q → QueuesFollow old (Transmit q s) (Err refusal.NotEnabled) old
unfolding QueuesFollow
transmit-missing old q s past pairs n w e a = missing-one TxAgrees tx_can tx_changed tx_note_of (λ xs. record old { transmit = xs }) (λ rs. record w { transmit = rs }) (λ xs rs all. record { receive = a.receive; transmit = all })
    old.transmit w.transmit q s (slice_get w.transmit q) refl past a.transmit
