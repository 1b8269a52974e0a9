-- The order of an epoch's counts, kept by each step, over plain numbers.
use Rattle.std.proofs.Common.{◌≡◌, ℕ, ◌+◌, ◌-◌, ◌<◌, Bool, true, false, sym, refl, ◌∙◌, arith}
use Rattle.std.proofs.lemmas.Bool.{false≢true, both_ways}
use Rattle.ring_model.specs.declared.handshake.Handshake.{Handshake}
use Rattle.ring_model.specs.shared.Handshakes.{is_open, is_live, is_answered, is_serving, is_stopped, is_tailed}
use Rattle.ring_model.specs.shared.Handshakes.{is_emptied}
use Rattle.ring_model.specs.kept.Queues.{InOrder, InState}
use Rattle.ring_model.proofs.shared.ControlSteps.{open_unanswered, live_unanswered, unanswered_full, stopped_full, stopped_answered, tailed_emptied}

-- a state of another kind claims nothing
full : {P : Type 0} (h : Handshake) → is_emptied h.driver ≡ false → is_emptied h.driver ≡ true → P
full h not_so so = absurd (both_ways (is_emptied h.driver) not_so so)

module _ (n posted completed reaped published known reclaimed : ℕ) (held : Bool) (h : Handshake) (o : InOrder n posted completed reaped published known reclaimed held h) where
  -- where the driver is open, not all came back, nor is the tail cleared
  open_state : (posted' published' : ℕ) → is_open h.driver ≡ true → InState posted' completed reaped published' reclaimed h
  open_state posted' published' opened = let unemptied = unanswered_full h.driver (open_unanswered h.driver opened) in record {
    not_reclaimed = o.not_reclaimed;
    none_completed = o.none_completed;
    all_back = full h unemptied;
    tail_cleared = λ t. full h unemptied (tailed_emptied h.driver t);
  }

  pub order-post : is_open h.driver ≡ true → posted - reaped < n - 1 → InOrder n (posted + 1) completed reaped published known reclaimed held h
  order-post opened few = record {
    count = record {
      reaped_completed = o.reaped_completed;
      completed_posted = omega arith;
      returned_posted = omega arith;
      room = omega arith;
    };
    sight = record {
      published_posted = omega arith;
      known_published = o.known_published;
      completed_known = o.completed_known;
      held_known = o.held_known;
      held_serving = o.held_serving;
    };
    state = open_state (posted + 1) published opened;
  }

  pub order-publish : is_open h.driver ≡ true → InOrder n posted completed reaped posted known reclaimed held h
  order-publish opened = record {
    count = o.count;
    sight = record {
      published_posted = omega arith;
      known_published = λ s. let k = o.known_published s in omega arith;
      completed_known = o.completed_known;
      held_known = o.held_known;
      held_serving = o.held_serving;
    };
    state = open_state posted posted opened;
  }

  pub order-look : is_serving h.controller ≡ true → InOrder n posted completed reaped published published reclaimed held h
  order-look serving = let a = o.known_published serving in let b = o.completed_known serving in record {
    count = o.count;
    sight = record {
      published_posted = o.published_posted;
      known_published = λ s. omega arith;
      completed_known = λ s. omega arith;
      held_known = λ e. let k = o.held_known e in omega arith;
      held_serving = o.held_serving;
    };
    state = o.state;
  }

  pub order-fetch : is_serving h.controller ≡ true → completed < known → InOrder n posted completed reaped published known reclaimed true h
  order-fetch serving free = record {
    count = o.count;
    sight = record {
      published_posted = o.published_posted;
      known_published = o.known_published;
      completed_known = o.completed_known;
      held_known = λ e. free;
      held_serving = λ e. serving;
    };
    state = o.state;
  }

  -- what is fetched is posted, and not given
  pub completed_below : held ≡ true → completed < posted
  completed_below e = let a = o.known_published (o.held_serving e) in let b = o.held_known e in omega arith

  pub order-complete : held ≡ true → InOrder n posted (completed + 1) reaped published known reclaimed false h
  order-complete e = let below = completed_below e in let free = o.held_known e in let serving = o.held_serving e in record {
    count = record {
      reaped_completed = omega arith;
      completed_posted = omega arith;
      returned_posted = o.returned_posted;
      room = o.room;
    };
    sight = record {
      published_posted = o.published_posted;
      known_published = o.known_published;
      completed_known = λ s. omega arith;
      held_known = λ f. absurd (false≢true f);
      held_serving = λ f. absurd (false≢true f);
    };
    state = record {
      not_reclaimed = o.not_reclaimed;
      none_completed = λ s p. absurd (both_ways (is_serving h.controller) s serving);
      all_back = o.all_back;
      tail_cleared = o.tail_cleared;
    };
  }

  pub order-reap : is_live h.driver ≡ true → reaped < completed → InOrder n posted completed (reaped + 1) published known reclaimed held h
  order-reap live more = let none = o.not_reclaimed (live_unanswered h.driver live) in record {
    count = record {
      reaped_completed = omega arith;
      completed_posted = o.completed_posted;
      returned_posted = omega arith;
      room = omega arith;
    };
    sight = o.sight;
    state = record {
      not_reclaimed = o.not_reclaimed;
      none_completed = o.none_completed;
      all_back = full h (unanswered_full h.driver (live_unanswered h.driver live));
      tail_cleared = o.tail_cleared;
    };
  }

  pub order-reclaim : is_stopped h.driver ≡ true → reaped + reclaimed < posted → InOrder n posted completed reaped published known (reclaimed + 1) held h
  order-reclaim stopped more = record {
    count = record {
      reaped_completed = o.reaped_completed;
      completed_posted = o.completed_posted;
      returned_posted = omega arith;
      room = o.room;
    };
    sight = o.sight;
    state = record {
      not_reclaimed = λ a. absurd (both_ways (is_answered h.driver) a (stopped_answered h.driver stopped));
      none_completed = o.none_completed;
      all_back = full h (stopped_full h.driver stopped);
      tail_cleared = o.tail_cleared;
    };
  }

  -- a handshake whose controller serves where it served, and whose driver has not gone back
  pub order-control_step : (g : Handshake) → is_serving g.controller ≡ is_serving h.controller → (is_answered g.driver ≡ false → is_answered h.driver ≡ false) → (is_open g.driver ≡ true → is_open h.driver ≡ true)
      → (is_emptied g.driver ≡ true → reaped + reclaimed ≡ posted) → (is_tailed g.driver ≡ true → published ≡ 0) → InOrder n posted completed reaped published known reclaimed held g
  order-control_step g serves unanswered opens back cleared = record {
    count = o.count;
    sight = record {
      published_posted = o.published_posted;
      known_published = λ s. o.known_published (sym serves ∙ s);
      completed_known = λ s. o.completed_known (sym serves ∙ s);
      held_known = o.held_known;
      held_serving = λ e. serves ∙ o.held_serving e;
    };
    state = record {
      not_reclaimed = λ a. o.not_reclaimed (unanswered a);
      none_completed = λ s p. o.none_completed (sym serves ∙ s) (opens p);
      all_back = back;
      tail_cleared = cleared;
    };
  }

  pub order-enable : (g : Handshake) → g.driver ≡ h.driver → is_serving h.controller ≡ false → is_open h.driver ≡ true → is_serving g.controller ≡ true → InOrder n posted completed reaped published 0 reclaimed held g
  order-enable g same idle opened serves = let none = o.none_completed idle opened in record {
    count = o.count;
    sight = record {
      published_posted = o.published_posted;
      known_published = λ s. omega arith;
      completed_known = λ s. omega arith;
      held_known = λ e. absurd (both_ways (is_serving h.controller) idle (o.held_serving e));
      held_serving = λ e. serves;
    };
    state = record {
      not_reclaimed = λ a. o.not_reclaimed (open_unanswered h.driver opened);
      none_completed = λ s p. absurd (both_ways (is_serving g.controller) s serves);
      all_back = rw same o.all_back;
      tail_cleared = rw same o.tail_cleared;
    };
  }

  pub order-disable : (g : Handshake) → g.driver ≡ h.driver → held ≡ false → is_open h.driver ≡ false → is_serving g.controller ≡ false → InOrder n posted completed reaped published known reclaimed held g
  order-disable g same empty closed idle = record {
    count = o.count;
    sight = record {
      published_posted = o.published_posted;
      known_published = λ s. absurd (both_ways (is_serving g.controller) idle s);
      completed_known = λ s. absurd (both_ways (is_serving g.controller) idle s);
      held_known = o.held_known;
      held_serving = λ e. absurd (both_ways held empty e);
    };
    state = record {
      not_reclaimed = rw same o.not_reclaimed;
      none_completed = λ s. rw same (λ p. absurd (both_ways (is_open h.driver) closed p));
      all_back = rw same o.all_back;
      tail_cleared = rw same o.tail_cleared;
    };
  }

  pub order-clear_tail : (g : Handshake) → is_serving g.controller ≡ false → held ≡ false → is_answered g.driver ≡ true → is_open g.driver ≡ false → reaped + reclaimed ≡ posted → InOrder n posted completed reaped 0 known reclaimed held g
  order-clear_tail g idle empty answered closed back = record {
    count = o.count;
    sight = record {
      published_posted = omega arith;
      known_published = λ s. absurd (both_ways (is_serving g.controller) idle s);
      completed_known = λ s. absurd (both_ways (is_serving g.controller) idle s);
      held_known = o.held_known;
      held_serving = λ e. absurd (both_ways held empty e);
    };
    state = record {
      not_reclaimed = λ a. absurd (both_ways (is_answered g.driver) a answered);
      none_completed = λ s p. absurd (both_ways (is_open g.driver) closed p);
      all_back = λ e. back;
      tail_cleared = λ t. refl;
    };
  }

-- an epoch as it begins, where no controller serves, or one that knows of nothing
pub order-begin : (n published known : ℕ) (held : Bool) (h : Handshake) → 0 < n → published ≡ 0 → held ≡ false → (is_serving h.controller ≡ true → known ≡ 0) → InOrder n 0 0 0 published known 0 held h
order-begin n published known held h pos none empty knows = record {
  count = record {
    reaped_completed = omega arith;
    completed_posted = omega arith;
    returned_posted = omega arith;
    room = omega arith;
  };
  sight = record {
    published_posted = omega arith;
    known_published = λ s. let k = knows s in omega arith;
    completed_known = λ s. omega arith;
    held_known = λ e. absurd (both_ways held empty e);
    held_serving = λ e. absurd (both_ways held empty e);
  };
  state = record {
    not_reclaimed = λ a. refl;
    none_completed = λ s p. refl;
    all_back = λ e. refl;
    tail_cleared = λ t. none;
  };
}
