-- In a world a move leaves all other queues alone, and every queue is one that a schedule of its own steps gives, and goes on by such a schedule.
use Rattle.std.proofs.Common.{◌≡◌, ◌≢◌, ℕ, zero, suc, ◌<◌, Bool, true, false, List, [], ◌∷◌, ◌++◌, length, replicate, Option, Some, None, sym, refl, ap, ◌∙◌, ⊎_elim, subst, if◌then◌else◌}
use Rattle.std.specs.Prelude.{slice_get, slice_set}
use Rattle.std.proofs.lemmas.Bool.{cases_eq}
use Rattle.std.proofs.lemmas.Option.{same_Some, none-some, slice_get_within}
use Rattle.ring_model.specs.declared.notes.Note.{Note}
use Rattle.ring_model.specs.shared.Schedules.{next, after_all}
use Rattle.ring_model.specs.receive.Ring.{RxRing, rx_opening}
use Rattle.ring_model.specs.receive.Steps.{IsRxReachable, rx_can, rx_changed, rx_note_of}
use Rattle.ring_model.specs.receive.Laws.{RxLater}
use Rattle.ring_model.specs.transmit.Ring.{TxBeginning, TxRing, tx_opening}
use Rattle.ring_model.specs.transmit.Steps.{IsTxReachable, tx_can, tx_changed, tx_note_of}
use Rattle.ring_model.specs.transmit.Laws.{TxLater}
use Rattle.ring_model.specs.Worlds.{QueueMove, Receive, Transmit, World, WorldLater, opening_world, can_at, note_at, note_in, put_next, can_move, after_move, after_moves, IsReachableWorld, IsLeftAlone, IsLawfulWorld, IsStepOfQueue, MakesStep}
use Rattle.ring_model.proofs.shared.Places.{slice_get-set_other, slice_set-writes}
use Rattle.ring_model.proofs.shared.Reaching.{after-append, reached-opening, reached-more, reached-next}
use Rattle.ring_model.proofs.receive.Reached.{rx_kept, rx_lawful, rx_later-all}
use Rattle.ring_model.proofs.transmit.Reached.{tx_kept, tx_lawful, tx_later-all}

module _ {X : Type 0} where
  get_set_same : (xs : List X) (p : ℕ) (x y : X) → slice_get xs p ≡ Some y → slice_get (slice_set xs p x) p ≡ Some x
  get_set_same xs p x y e = let w = slice_set-writes xs p x (slice_get_within xs p y e) in w.here

  length_set : (xs : List X) (p : ℕ) (x : X) → length (slice_set xs p x) ≡ length xs
  length_set [] p x = refl
  length_set (y ∷ ys) zero x = refl
  length_set (y ∷ ys) (suc p) x = ap suc (length_set ys p x)

  all_alike : (n p : ℕ) (x y : X) → slice_get (replicate n x) p ≡ Some y → x ≡ y
  all_alike zero p x y e = absurd (none-some y e)
  all_alike (suc n) zero x y e = same_Some x y e
  all_alike (suc n) (suc p) x y e = all_alike n p x y e

-- Of queues of one direction
module _ {Ring Step : Type 0} (can : Ring → Step → Bool) (changed : Ring → Step → Ring) where
  others : (rs : List Ring) (q : ℕ) (s : Step) (found : Option Ring) (k : ℕ) → k ≢ q → slice_get (put_next (next can changed) rs q s found) k ≡ slice_get rs k
  others rs q s None k ne = refl
  others rs q s (Some r) k ne = slice_get-set_other rs q k (next can changed r s) ne

  put_length : (rs : List Ring) (q : ℕ) (s : Step) (found : Option Ring) → length (put_next (next can changed) rs q s found) ≡ length rs
  put_length rs q s None = refl
  put_length rs q s (Some r) = length_set rs q (next can changed r s)

  -- the ring that was r stands at k, after a schedule of its own
  record Went (rs : List Ring) (k : ℕ) (r : Ring) : Type 0 where
    now : Ring
    here : slice_get rs k ≡ Some now
    schedule : List Step
    made : after_all can changed r schedule ≡ now

  went_nowhere : (rs : List Ring) (k : ℕ) (r : Ring) → slice_get rs k ≡ Some r → Went rs k r
  went_nowhere rs k r e = record { now = r; here = e; schedule = []; made = refl }

  went_on : (rs : List Ring) (k : ℕ) (r now : Ring) (schedule : List Step) → after_all can changed r schedule ≡ now → Went rs k now → Went rs k r
  went_on rs k r now schedule e w = record {
    now = w.now;
    here = w.here;
    schedule = schedule ++ w.schedule;
    made = after-append can changed r schedule w.schedule ∙ ap (λ (x : Ring). after_all can changed x w.schedule) e ∙ w.made;
  }

  put-went : (rs : List Ring) (q : ℕ) (s : Step) (found : Option Ring) → slice_get rs q ≡ found → (k : ℕ) (r : Ring) → slice_get rs k ≡ Some r → Went (put_next (next can changed) rs q s found) k r
  put-went rs q s None f k r e = went_nowhere rs k r e
  put-went rs q s (Some x) f k r e = ⊎_elim
      (λ same. let it : x ≡ r = same_Some x r (sym f ∙ ap (slice_get rs) (sym same) ∙ e) in record {
        now = next can changed x s;
        here = ap (λ (j : ℕ). slice_get (slice_set rs q (next can changed x s)) j) same ∙ get_set_same rs q (next can changed x s) x f;
        schedule = s ∷ [];
        made = ap (λ (y : Ring). next can changed y s) (sym it);
      })
      (λ ne. went_nowhere (slice_set rs q (next can changed x s)) k r (slice_get-set_other rs q k (next can changed x s) ne ∙ e))
      (cases_eq k q)

  -- what each ring keeps through its steps, all rings keep
  put-all : (Stays : Ring → Type 0) → ((r : Ring) (s : Step) → Stays r → Stays (next can changed r s))
      → (rs : List Ring) (q : ℕ) (s : Step) (found : Option Ring) → slice_get rs q ≡ found → ((k : ℕ) (r : Ring) → slice_get rs k ≡ Some r → Stays r)
      → (k : ℕ) (r : Ring) → slice_get (put_next (next can changed) rs q s found) k ≡ Some r → Stays r
  put-all Stays on rs q s None e all k r h = all k r h
  put-all Stays on rs q s (Some x) e all k r h = ⊎_elim
      (λ same. let it = same_Some (next can changed x s) r (sym (get_set_same rs q (next can changed x s) x e) ∙ ap (λ (j : ℕ). slice_get (slice_set rs q (next can changed x s)) j) (sym same) ∙ h) in
      subst Stays it (on x s (all q x e)))
      (λ ne. all k r (sym (slice_get-set_other rs q k (next can changed x s) ne) ∙ h))
      (cases_eq k q)

-- the queue that is found at q makes the step, and tells what it tells
module _ {Ring Step : Type 0} (can : Ring → Step → Bool) (changed : Ring → Step → Ring) (tells : Ring → Step → Note) where
  makes-found : (rs : List Ring) (q : ℕ) (s : Step) (found : Option Ring) → slice_get rs q ≡ found
      → MakesStep can changed tells rs q s (can_at can found s) (put_next (next can changed) rs q s found) (note_at can tells found s)
  makes-found rs q s None f = record {
    possible = λ r e. absurd (none-some r (sym f ∙ e));
    stepped = λ r e. absurd (none-some r (sym f ∙ e));
    tells_it = λ r e. absurd (none-some r (sym f ∙ e));
    impossible = λ e. refl;
    unchanged = λ e. refl;
    tells_nothing = λ e. refl;
  }
  makes-found rs q s (Some x) f = record {
    possible = λ r e. ap (λ (y : Ring). can y s) (same_Some x r (sym f ∙ e));
    stepped = λ r e. get_set_same rs q (next can changed x s) x f ∙ ap (λ (y : Ring). Some (next can changed y s)) (same_Some x r (sym f ∙ e));
    tells_it = λ r e. ap (λ (y : Ring). if can y s then Some (tells y s) else None) (same_Some x r (sym f ∙ e));
    impossible = λ e. absurd (none-some x (sym e ∙ f));
    unchanged = λ e. absurd (none-some x (sym e ∙ f));
    tells_nothing = λ e. absurd (none-some x (sym e ∙ f));
  }

pub makes_step : (w : World) (m : QueueMove) → IsStepOfQueue w m (can_move w m) (after_move w m) (note_in w m)
makes_step w (Receive q s) = makes-found rx_can rx_changed rx_note_of w.receive q s (slice_get w.receive q) refl
makes_step w (Transmit q s) = makes-found tx_can tx_changed tx_note_of w.transmit q s (slice_get w.transmit q) refl

pub left_alone : (w : World) (m : QueueMove) → IsLeftAlone w m (after_move w m)
left_alone w (Receive q s) = (refl, λ k ne. others rx_can rx_changed w.receive q s (slice_get w.receive q) k ne)
left_alone w (Transmit q s) = (refl, λ k ne. others tx_can tx_changed w.transmit q s (slice_get w.transmit q) k ne)

-- every queue is reached by steps of its own
pub record Reaches (n : ℕ) (w : World) : Type 0 where
  pub receive : (q : ℕ) (r : RxRing ℕ) → slice_get w.receive q ≡ Some r → IsRxReachable ℕ n r
  pub transmit : (q : ℕ) (r : TxRing ℕ) → slice_get w.transmit q ≡ Some r → IsTxReachable ℕ n r

reaches-move : (n : ℕ) (w : World) (m : QueueMove) → Reaches n w → Reaches n (after_move w m)
reaches-move n w (Receive q s) a = record {
  receive = put-all rx_can rx_changed (IsRxReachable ℕ n) (reached-next rx_can rx_changed (rx_opening n)) w.receive q s (slice_get w.receive q) refl a.receive;
  transmit = a.transmit;
}
reaches-move n w (Transmit q s) a = record {
  receive = a.receive;
  transmit = put-all tx_can tx_changed (IsTxReachable ℕ n) (reached-next tx_can tx_changed (tx_opening n)) w.transmit q s (slice_get w.transmit q) refl a.transmit;
}

-- a move that can't happen is passed over
reaches-tried : (n : ℕ) (w : World) (m : QueueMove) (may : Bool) → Reaches n w → Reaches n (if may then after_move w m else w)
reaches-tried n w m true a = reaches-move n w m a
reaches-tried n w m false a = a

reaches-all : (n : ℕ) (w : World) (ms : List QueueMove) → Reaches n w → Reaches n (after_moves w ms)
reaches-all n w [] a = a
reaches-all n w (m ∷ ms) a = reaches-all n (next can_move after_move w m) ms (reaches-tried n w m (can_move w m) a)

reaches-opening : (pairs n : ℕ) (b : TxBeginning) → Reaches n (opening_world pairs n b)
reaches-opening pairs n b = record {
  receive = λ q r e. subst (IsRxReachable ℕ n) (all_alike pairs q (rx_opening n b.enabled) r e) (reached-opening rx_can rx_changed (rx_opening n) b.enabled);
  transmit = λ q r e. subst (IsTxReachable ℕ n) (all_alike pairs q (tx_opening n b) r e) (reached-opening tx_can tx_changed (tx_opening n) b);
}

pub reaches : (pairs n : ℕ) (w : World) → IsReachableWorld pairs n w → Reaches n w
reaches pairs n w e = subst (Reaches n) e.made (reaches-all n (opening_world pairs n e.beginning) e.schedule (reaches-opening pairs n e.beginning))

pub lawful_world : (pairs n : ℕ) (w : World) → 1 < n → IsReachableWorld pairs n w → IsLawfulWorld n w
lawful_world pairs n w some e = let a = reaches pairs n w e in record {
  receive_reached = a.receive;
  transmit_reached = a.transmit;
  receive = λ q r h. rx_lawful n r (rx_kept n r some (a.receive q r h));
  transmit = λ q r h. tx_lawful n r (tx_kept n r some (a.transmit q r h));
}

-- each queue of the earlier world stands in the later one, after a schedule of its own
record GoesOn (w later : World) : Type 0 where
  receive_count : length later.receive ≡ length w.receive
  transmit_count : length later.transmit ≡ length w.transmit
  receive : (q : ℕ) (r : RxRing ℕ) → slice_get w.receive q ≡ Some r → Went rx_can rx_changed later.receive q r
  transmit : (q : ℕ) (r : TxRing ℕ) → slice_get w.transmit q ≡ Some r → Went tx_can tx_changed later.transmit q r

stays : (w : World) → GoesOn w w
stays w = record { receive_count = refl; transmit_count = refl; receive = went_nowhere rx_can rx_changed w.receive; transmit = went_nowhere tx_can tx_changed w.transmit }

goes-move : (w : World) (m : QueueMove) → GoesOn w (after_move w m)
goes-move w (Receive q s) = record {
  receive_count = put_length rx_can rx_changed w.receive q s (slice_get w.receive q);
  transmit_count = refl;
  receive = put-went rx_can rx_changed w.receive q s (slice_get w.receive q) refl;
  transmit = went_nowhere tx_can tx_changed w.transmit;
}
goes-move w (Transmit q s) = record {
  receive_count = refl;
  transmit_count = put_length tx_can tx_changed w.transmit q s (slice_get w.transmit q);
  receive = went_nowhere rx_can rx_changed w.receive;
  transmit = put-went tx_can tx_changed w.transmit q s (slice_get w.transmit q) refl;
}

goes-tried : (w : World) (m : QueueMove) (may : Bool) → GoesOn w (if may then after_move w m else w)
goes-tried w m true = goes-move w m
goes-tried w m false = stays w

goes-then : (u v w : World) → GoesOn u v → GoesOn v w → GoesOn u w
goes-then u v w a b = record {
  receive_count = b.receive_count ∙ a.receive_count;
  transmit_count = b.transmit_count ∙ a.transmit_count;
  receive = λ q r e. let t = a.receive q r e in went_on rx_can rx_changed w.receive q r t.now t.schedule t.made (b.receive q t.now t.here);
  transmit = λ q r e. let t = a.transmit q r e in went_on tx_can tx_changed w.transmit q r t.now t.schedule t.made (b.transmit q t.now t.here);
}

goes-all : (w : World) (ms : List QueueMove) → GoesOn w (after_moves w ms)
goes-all w [] = stays w
goes-all w (m ∷ ms) = let v : World = next can_move after_move w m in goes-then w v (after_moves v ms) (goes-tried w m (can_move w m)) (goes-all v ms)

pub later_world : (pairs n : ℕ) (w : World) (more : List QueueMove) → 1 < n → IsReachableWorld pairs n w → WorldLater w (after_moves w more)
later_world pairs n w more some e = let a = reaches pairs n w e in let g = goes-all w more in record {
  receive_count = g.receive_count;
  transmit_count = g.transmit_count;
  receive = λ q r after h f. let t = g.receive q r h in
      subst (RxLater r) (t.made ∙ same_Some t.now after (sym t.here ∙ f)) (rx_later-all n r t.schedule (rx_kept n r some (a.receive q r h)));
  transmit = λ q r after h f. let t = g.transmit q r h in
      subst (TxLater r) (t.made ∙ same_Some t.now after (sym t.here ∙ f)) (tx_later-all n r t.schedule (tx_kept n r some (a.transmit q r h)));
}

pub reached_world : (pairs n : ℕ) (w : World) (more : List QueueMove) → IsReachableWorld pairs n w → IsReachableWorld pairs n (after_moves w more)
reached_world pairs n w more e = reached-more can_move after_move (opening_world pairs n) w more e
