-- What goes on for ever: each step leaves the lists that have ended, or begins a new epoch.
use Rattle.std.proofs.Common.{◌≡◌, ℕ, ◌-◌, ◌⊎◌, inl, inr, ⊎_elim, Bool, true, false, not, ◌&&◌, [], ◌∷◌, ◌++◌, sym, refl, ap, ◌∙◌, subst, if◌then◌else◌, append_assoc}
use Rattle.std.specs.Prelude.{◌==◌, nat_lt}
use Rattle.std.proofs.lemmas.Bool.{cases_Bool, both_ways, and_parts, or_cases, not_from_false, eqb-true}
use Rattle.ring_model.specs.declared.steps.ControlStep.{ControlStep}
use Rattle.ring_model.specs.declared.steps.ControlStep.TheVariants.{AskEnable, LookAsked, Answer, LookAnswered, AskDisable}
use Rattle.ring_model.specs.shared.Handshakes.{is_open, is_live, is_answered, is_serving, can_enable, enable, can_disable, disable, may_control_step, after_control_step, enables, has_ended}
use Rattle.ring_model.specs.shared.QueueSteps.{QueueStep, Post, Publish, Look, Fetch, Complete, Head, Reap, Controls, Reclaim, ClearHead, ClearTail, Renew}
use Rattle.ring_model.specs.shared.Queue.{Ledger, Queue, posted_count, completed_count, reaped_count, may, by}
use Rattle.ring_model.specs.shared.Laws.{IsGrown, SameEpoch, Later}
use Rattle.ring_model.specs.kept.Queues.{IsKept}
use Rattle.ring_model.proofs.shared.ControlSteps.{new_open, on_open, live_unanswered, open_unanswered, control_steps-enable, control_steps-disable, learned_open, learned_answered}
use Rattle.ring_model.proofs.shared.Beginnings.{beginning-refl, beginning-trans, beginning-append}
use Rattle.ring_model.proofs.shared.Stepping.{control_fits_of, unended, open_unended}

-- an epoch that has ended stays so, whatever the handshake does
module _ {Posted Completed Reaped : Type 0} (n : ℕ) (ends : Completed → Bool) (q : Queue Posted Completed Reaped) (k : IsKept n ends q) where
  enable_open : can_enable q.handshake ≡ true → is_open q.handshake.driver ≡ true
  enable_open e = let h = q.handshake in let t = and_parts (h.seen == 1) (not (is_serving h.controller)) e in
      let s = control_steps-enable h.driver h.controller h.control h.seen (eqb-true h.seen 1 t.0) (control_fits_of n ends q k) in s.1

  disable_closed : can_disable q.handshake ≡ true → is_open q.handshake.driver ≡ false
  disable_closed e = let h = q.handshake in let t = and_parts (h.seen == 3) (is_serving h.controller) e in
      let s = control_steps-disable h.driver h.controller h.control h.seen (eqb-true h.seen 3 t.0) t.1 (control_fits_of n ends q k) in s.1

  -- an answer enables an open queue, or ends one that the driver left
  answers : (settled : Bool) → may_control_step q.handshake Answer settled ≡ true → (can_enable q.handshake ≡ true) ⊎ (can_disable q.handshake ≡ true)
  answers settled e = ⊎_elim (λ a. inl a) (λ b. let t = and_parts (can_disable q.handshake) settled b in inr t.0) (or_cases (can_enable q.handshake) (can_disable q.handshake && settled) e)

  -- the answer to a disabling, whichever way it is computed
  ended_now : (on : Bool) → on ≡ false → is_open q.handshake.driver ≡ false → has_ended (if on then enable q.handshake else disable q.handshake) ≡ true
  ended_now true e shut = absurd (both_ways true e refl)
  ended_now false e shut = not_from_false (is_open q.handshake.driver) shut

  -- a serving controller enables nothing
  serving_enables : is_serving q.handshake.controller ≡ true → can_enable q.handshake ≡ false
  serving_enables serving = ap (λ (b : Bool). (q.handshake.seen == 1) && not b) serving ∙ never (q.handshake.seen == 1)
    where
      never : (b : Bool) → (b && false) ≡ false
      never true = refl
      never false = refl

  pub ended-control_step : (c : ControlStep) (settled : Bool) → may_control_step q.handshake c settled ≡ true → has_ended q.handshake ≡ true → has_ended (after_control_step q.handshake c) ≡ true
  ended-control_step AskEnable settled e quiesced = absurd (open_unended q.handshake (new_open q.handshake.driver e) quiesced)
  ended-control_step LookAsked settled e quiesced = quiesced
  ended-control_step Answer settled e quiesced = ⊎_elim (λ a. absurd (open_unended q.handshake (enable_open a) quiesced))
      (λ b. let t = and_parts (q.handshake.seen == 3) (is_serving q.handshake.controller) b in absurd (unended q.handshake t.1 quiesced)) (answers settled e)
  ended-control_step LookAnswered settled e quiesced = rw (learned_open q.handshake.driver q.handshake.control) quiesced
  ended-control_step AskDisable settled e quiesced = absurd (open_unended q.handshake (on_open q.handshake.driver e) quiesced)

  -- one that has ended answers no enabling
  pub ended-enables : (c : ControlStep) → has_ended q.handshake ≡ true → enables q.handshake c ≡ false
  ended-enables AskEnable quiesced = refl
  ended-enables LookAsked quiesced = refl
  ended-enables Answer quiesced = ⊎_elim (λ a. absurd (open_unended q.handshake (enable_open a) quiesced)) (λ no. no) (cases_Bool (can_enable q.handshake))
  ended-enables LookAnswered quiesced = refl
  ended-enables AskDisable quiesced = refl

  -- a controller that serves goes on serving, or has ended
  pub serving-control_step : (c : ControlStep) (settled : Bool) → may_control_step q.handshake c settled ≡ true → is_serving q.handshake.controller ≡ true
      → ((is_serving (after_control_step q.handshake c).controller ≡ true) × (enables q.handshake c ≡ false)) ⊎ (has_ended (after_control_step q.handshake c) ≡ true)
  serving-control_step AskEnable settled e serving = inl (serving, refl)
  serving-control_step LookAsked settled e serving = inl (serving, refl)
  serving-control_step Answer settled e serving = let no = serving_enables serving in
      inr (ended_now (can_enable q.handshake) no (⊎_elim (λ a. absurd (both_ways (can_enable q.handshake) no a)) disable_closed (answers settled e)))
  serving-control_step LookAnswered settled e serving = inl (serving, refl)
  serving-control_step AskDisable settled e serving = inl (serving, refl)

  -- and it answers no enabling
  pub serving-enables : (c : ControlStep) → is_serving q.handshake.controller ≡ true → enables q.handshake c ≡ false
  serving-enables AskEnable serving = refl
  serving-enables LookAsked serving = refl
  serving-enables Answer serving = serving_enables serving
  serving-enables LookAnswered serving = refl
  serving-enables AskDisable serving = refl

module _ {Posted Completed Reaped : Type 0} where
  pub grown-refl : (l : Ledger Posted Completed Reaped) → IsGrown l l
  grown-refl l = record { posted = beginning-refl l.posted; completed = beginning-refl l.completed; reaped = beginning-refl l.reaped }

  grown-trans : (a b c : Ledger Posted Completed Reaped) → IsGrown a b → IsGrown b c → IsGrown a c
  grown-trans a b c g h = record {
    posted = beginning-trans a.posted b.posted c.posted g.posted h.posted;
    completed = beginning-trans a.completed b.completed c.completed g.completed h.completed;
    reaped = beginning-trans a.reaped b.reaped c.reaped g.reaped h.reaped;
  }

  -- a step that leaves the lists
  pub same-lists : (q later : Queue Posted Completed Reaped) (quiesced still_quiesced : Bool) → later.past ≡ q.past → later.ledger ≡ q.ledger → (is_open q.handshake.driver ≡ false → is_open later.handshake.driver ≡ false) → (quiesced ≡ true → still_quiesced ≡ true)
      → (is_answered q.handshake.driver ≡ true → is_answered later.handshake.driver ≡ true) → SameEpoch q quiesced later still_quiesced
  same-lists q later quiesced still_quiesced p l a b c = record {
    past = p;
    grown = subst (λ (m : Ledger Posted Completed Reaped). IsGrown q.ledger m) (sym l) (grown-refl q.ledger);
    posted = λ e. (ap (λ m. m.posted) l, a e);
    completed = λ e. (ap (λ m. m.completed) l, b e);
    reaped = λ e. (ap (λ m. m.reaped) l, c e);
  }

  pub later-refl : (q : Queue Posted Completed Reaped) (quiesced : Bool) → Later q quiesced q quiesced
  later-refl q quiesced = inr (same-lists q q quiesced quiesced refl refl (λ e. e) (λ e. e) (λ e. e))

  then_same : (a b c : Queue Posted Completed Reaped) (oa ob oc : Bool) → SameEpoch a oa b ob → SameEpoch b ob c oc → SameEpoch a oa c oc
  then_same a b c oa ob oc s t = record {
    past = t.past ∙ s.past;
    grown = grown-trans a.ledger b.ledger c.ledger s.grown t.grown;
    posted = λ e. let p = s.posted e in let u = t.posted p.1 in (u.0 ∙ p.0, u.1);
    completed = λ e. let p = s.completed e in let u = t.completed p.1 in (u.0 ∙ p.0, u.1);
    reaped = λ e. let p = s.reaped e in let u = t.reaped p.1 in (u.0 ∙ p.0, u.1);
  }

  pub later-trans : (a b c : Queue Posted Completed Reaped) (oa ob oc : Bool) → Later a oa b ob → Later b ob c oc → Later a oa c oc
  later-trans a b c oa ob oc (inl x) (inl y) = inl (record {
    ended = x.ended;
    more = x.more ++ y.ended ∷ y.more;
    past = sym (append_assoc a.past (x.ended ∷ x.more) (y.ended ∷ y.more)) ∙ ap (λ p. p ++ y.ended ∷ y.more) x.past ∙ y.past;
    grown = x.grown;
    posted = x.posted;
    completed = x.completed;
    reaped = x.reaped;
  })
  later-trans a b c oa ob oc (inl x) (inr t) = inl (record { ended = x.ended; more = x.more; past = x.past ∙ sym t.past; grown = x.grown; posted = x.posted; completed = x.completed; reaped = x.reaped })
  later-trans a b c oa ob oc (inr s) (inl y) = inl (record {
    ended = y.ended;
    more = y.more;
    past = ap (λ p. p ++ y.ended ∷ y.more) (sym s.past) ∙ y.past;
    grown = grown-trans a.ledger b.ledger y.ended s.grown y.grown;
    posted = λ e. let p = s.posted e in y.posted p.1 ∙ p.0;
    completed = λ e. let p = s.completed e in y.completed p.1 ∙ p.0;
    reaped = λ e. let p = s.reaped e in y.reaped p.1 ∙ p.0;
  })
  later-trans a b c oa ob oc (inr s) (inr t) = inr (then_same a b c oa ob oc s t)

  -- what a ring has to know of its own sign that its controller is over
  abbrev pub Stays : QueueStep Posted Completed Reaped → Bool → Bool → Type 0
  Stays (Complete x) quiesced still_quiesced = quiesced ≡ false
  Stays Renew quiesced still_quiesced = Unit {0}
  Stays _ quiesced still_quiesced = quiesced ≡ true → still_quiesced ≡ true

  module _ (q : Queue Posted Completed Reaped) (quiesced still_quiesced : Bool) where
    same-post : (x : Posted) → may q (Post x) ≡ true → (quiesced ≡ true → still_quiesced ≡ true) → SameEpoch q quiesced (by q (Post x)) still_quiesced
    same-post x e stays = let t = and_parts (is_open q.handshake.driver) (nat_lt (posted_count q - reaped_count q) (q.size - 1)) e in record {
      past = refl;
      grown = record { posted = beginning-append q.ledger.posted q.ledger.posted (x ∷ []) (beginning-refl q.ledger.posted); completed = beginning-refl q.ledger.completed; reaped = beginning-refl q.ledger.reaped };
      posted = λ f. absurd (both_ways (is_open q.handshake.driver) f t.0);
      completed = λ f. (refl, stays f);
      reaped = λ f. (refl, f);
    }

    same-complete : (x : Completed) → quiesced ≡ false → SameEpoch q quiesced (by q (Complete x)) still_quiesced
    same-complete x none = record {
      past = refl;
      grown = record { posted = beginning-refl q.ledger.posted; completed = beginning-append q.ledger.completed q.ledger.completed (x ∷ []) (beginning-refl q.ledger.completed); reaped = beginning-refl q.ledger.reaped };
      posted = λ f. (refl, f);
      completed = λ f. absurd (both_ways quiesced none f);
      reaped = λ f. (refl, f);
    }

    same-reap : (x : Reaped) → may q (Reap x) ≡ true → (quiesced ≡ true → still_quiesced ≡ true) → SameEpoch q quiesced (by q (Reap x)) still_quiesced
    same-reap x e stays = let t = and_parts (is_live q.handshake.driver) (nat_lt (reaped_count q) (completed_count q)) e in record {
      past = refl;
      grown = record { posted = beginning-refl q.ledger.posted; completed = beginning-refl q.ledger.completed; reaped = beginning-append q.ledger.reaped q.ledger.reaped (x ∷ []) (beginning-refl q.ledger.reaped) };
      posted = λ f. (refl, f);
      completed = λ f. (refl, stays f);
      reaped = λ f. absurd (both_ways (is_answered q.handshake.driver) (live_unanswered q.handshake.driver t.0) f);
    }

    -- the answer leaves the driver's state
    answered_driver : (on : Bool) → (if on then enable q.handshake else disable q.handshake).driver ≡ q.handshake.driver
    answered_driver true = refl
    answered_driver false = refl

    same-control_step : (c : ControlStep) (settled : Bool) → may_control_step q.handshake c settled ≡ true → (quiesced ≡ true → still_quiesced ≡ true) → SameEpoch q quiesced (by q (Controls c settled)) still_quiesced
    same-control_step AskEnable settled e stays = let h = q.handshake in let opens = new_open h.driver e in
        same-lists q (by q (Controls AskEnable settled)) quiesced still_quiesced refl refl (λ f. absurd (both_ways (is_open h.driver) f opens)) stays (λ f. absurd (both_ways (is_answered h.driver) (open_unanswered h.driver opens) f))
    same-control_step LookAsked settled e stays = same-lists q (by q (Controls LookAsked settled)) quiesced still_quiesced refl refl (λ f. f) stays (λ f. f)
    same-control_step Answer settled e stays = let d = answered_driver (can_enable q.handshake) in
        same-lists q (by q (Controls Answer settled)) quiesced still_quiesced refl refl (λ f. ap is_open d ∙ f) stays (λ f. ap is_answered d ∙ f)
    same-control_step LookAnswered settled e stays = let h = q.handshake in
        same-lists q (by q (Controls LookAnswered settled)) quiesced still_quiesced refl refl (λ f. learned_open h.driver h.control ∙ f) stays (learned_answered h.driver h.control)
    same-control_step AskDisable settled e stays = let h = q.handshake in
        same-lists q (by q (Controls AskDisable settled)) quiesced still_quiesced refl refl (λ f. refl) stays (λ f. absurd (both_ways (is_answered h.driver) (open_unanswered h.driver (on_open h.driver e)) f))

    pub later-by : (s : QueueStep Posted Completed Reaped) → may q s ≡ true → Stays s quiesced still_quiesced → Later q quiesced (by q s) still_quiesced
    later-by (Post x) e stays = inr (same-post x e stays)
    later-by Publish e stays = inr (same-lists q (by q Publish) quiesced still_quiesced refl refl (λ f. f) stays (λ f. f))
    later-by Look e stays = inr (same-lists q (by q Look) quiesced still_quiesced refl refl (λ f. f) stays (λ f. f))
    later-by Fetch e stays = inr (same-lists q (by q Fetch) quiesced still_quiesced refl refl (λ f. f) stays (λ f. f))
    later-by (Complete x) e none = inr (same-complete x none)
    later-by Head e stays = inr (same-lists q (by q Head) quiesced still_quiesced refl refl (λ f. f) stays (λ f. f))
    later-by (Reap x) e stays = inr (same-reap x e stays)
    later-by (Controls c settled) e stays = inr (same-control_step c settled e stays)
    later-by Reclaim e stays = inr (same-lists q (by q Reclaim) quiesced still_quiesced refl refl (λ f. f) stays (λ f. f))
    later-by ClearHead e stays = inr (same-lists q (by q ClearHead) quiesced still_quiesced refl refl (λ f. refl) stays (λ f. refl))
    later-by ClearTail e stays = inr (same-lists q (by q ClearTail) quiesced still_quiesced refl refl (λ f. refl) stays (λ f. refl))
    later-by Renew e stays = inl (record { ended = q.ledger; more = []; past = refl; grown = grown-refl q.ledger; posted = λ f. refl; completed = λ f. refl; reaped = λ f. refl })
