-- What a machine tells from its places is what its queue tells, whichever its direction.
use Rattle.std.proofs.Common.{◌≡◌, ℕ, ◌+◌, ◌-◌, ◌%◌, ◌≤◌, Bool, true, false, not, ◌&&◌, ◌||◌, Option, Some, None, sym, refl, ap, ◌∙◌, arith, if◌then◌else◌}
use Rattle.std.specs.Prelude.{is_none, slice_get, ◌==◌, nat_lt}
use Rattle.std.proofs.lemmas.Bool.{and_parts, and_left, not-true, ltb-true}
use Rattle.std.proofs.lemmas.Option.{slice_get_within}
use Rattle.ring_model.specs.declared.steps.ControlStep.{ControlStep}
use Rattle.ring_model.specs.declared.steps.ControlStep.TheVariants.{AskEnable, LookAsked, Answer, LookAnswered, AskDisable}
use Rattle.ring_model.specs.declared.handshake.Handshake.{Handshake}
use Rattle.ring_model.specs.shared.Lists.{slot_at}
use Rattle.ring_model.specs.shared.Frames.{ends_frame}
use Rattle.ring_model.specs.shared.Handshakes.{is_open, is_live, is_serving, is_ended, is_stopped, is_new, is_on, is_between_epochs, can_enable, can_disable, may_control_step}
use Rattle.ring_model.specs.shared.QueueSteps as queue
use Rattle.ring_model.specs.shared.Queue.{Queue, posted_count, completed_count, reaped_count, returned_count, next_head, is_settled, may}
use Rattle.ring_model.specs.shared.Agreement.{Agrees, Wrapped}
use Rattle.ring_laws.specs.Places.{ahead, next_place}
use Rattle.ring_model.specs.kept.Queues.{IsKept}
use Rattle.ring_laws.specs.States.{open_unanswered, live_unanswered, stopped_answered, serving_unended}
use Rattle.ring_laws.specs.Queues.{answered_unheld, held_below, returned_completed}
use Rattle.ring_model.specs.shared.Places.{place_next, between_places}
use Rattle.ring_machine.specs.code.Shared.{can_post, is_idle, can_fetch, are_all_back, looks_settled}
use Rattle.ring_machine.proofs.shared.PlaceTests.{and_same, room_told, same_told, left_told}
use Rattle.ring_machine.proofs.shared.Snoc.{found, past_end}

none_of_held : (b : Bool) (o : Option ℕ) → (b ≡ true → (x : ℕ) × (o ≡ Some x)) → is_none (if b then o else None) ≡ not b
none_of_held true o there = let t = there refl in rw t.1 refl
none_of_held false o there = refl

pub not_not : (b : Bool) → not (not b) ≡ b
not_not true = refl
not_not false = refl

-- `number` is that of the buffer that was posted
module _ {Posted Completed Reaped : Type 0} (ends : Completed → Bool) (word_of_item : ℕ → Option Posted → Option Completed → ℕ) (buffer_of_item : Option Posted → Option Completed → Option ℕ) (number : Posted → ℕ) where
  -- each item's buffer is the one that was posted
  abbrev pub AreNamed : Queue Posted Completed Reaped → Type 0
  AreNamed q = (j : ℕ) (x : Posted) → slice_get q.ledger.posted j ≡ Some x → buffer_of_item (Some x) (slice_get q.ledger.completed j) ≡ Some (number x)

  module _ (w : Wrapped ℕ) (q : Queue Posted Completed Reaped) (k : IsKept q.size ends q) (a : Agrees {Reaped = Reaped} ends word_of_item buffer_of_item w q) where
    pub unbetween : is_serving q.handshake.controller ≡ true → is_between_epochs q.handshake ≡ false
    unbetween serving = and_left (is_ended q.handshake.controller) (is_open q.handshake.driver) (serving_unended q.handshake.controller serving)

    pub serve_is : is_serving q.handshake.controller ≡ true → w.serve ≡ next_head q
    serve_is serving = a.serve (unbetween serving)

    pub held_serve_is : q.held ≡ true → w.serve ≡ next_head q
    held_serve_is held = let o = k.order in serve_is (o.held_serving held)

    pub moved_on : (place i : ℕ) → place ≡ i % q.size → place_next w.size place ≡ (i + 1) % q.size
    moved_on place i e = rw (e, a.size_is) (next_place q.size i k.places)

    -- while the driver is live, nothing is reclaimed
    pub live_returned : is_live q.handshake.driver ≡ true → returned_count q ≡ reaped_count q
    live_returned live = let o = k.order in let none = o.not_reclaimed (live_unanswered q.handshake.driver live) in omega arith

    pub can_post-is : (x : Posted) → can_post w ≡ may q (queue.Post x)
    can_post-is x = let o = k.order in let back = o.returned_posted in let room = o.room in
        and_same (is_open w.handshake.driver) (is_open q.handshake.driver) (not (place_next w.size w.fill == w.next)) (nat_lt (posted_count q - reaped_count q) (q.size - 1)) (ap (λ (h : Handshake). is_open h.driver) a.handshake)
        (λ opened. let none = o.not_reclaimed (open_unanswered q.handshake.driver opened) in let same : returned_count q ≡ reaped_count q = omega arith in
        rw (a.size_is, a.fill, a.next) (room_told q.size (posted_count q) (returned_count q) k.places back (omega arith)) ∙ ap (λ (d : ℕ). nat_lt (posted_count q - d) (q.size - 1)) same)

    pub left_is : not (are_all_back w) ≡ nat_lt (returned_count q) (posted_count q)
    left_is = let o = k.order in let room = o.room in rw (a.fill, a.next) (left_told q.size (returned_count q) (posted_count q) o.returned_posted (omega arith))

    all_back_is : are_all_back w ≡ (returned_count q == posted_count q)
    all_back_is = let o = k.order in let room = o.room in rw (a.fill, a.next) (same_told q.size (returned_count q) (posted_count q) o.returned_posted (omega arith))

    pub reclaim-is : (is_stopped w.handshake.driver && not (are_all_back w)) ≡ may q queue.Reclaim
    reclaim-is = and_same (is_stopped w.handshake.driver) (is_stopped q.handshake.driver) (not (are_all_back w)) (nat_lt (returned_count q) (posted_count q)) (ap (λ (h : Handshake). is_stopped h.driver) a.handshake) (λ e. left_is)

    pub clear_head-is : (is_stopped w.handshake.driver && are_all_back w) ≡ may q queue.ClearHead
    clear_head-is = and_same (is_stopped w.handshake.driver) (is_stopped q.handshake.driver) (are_all_back w) (returned_count q == posted_count q) (ap (λ (h : Handshake). is_stopped h.driver) a.handshake) (λ e. all_back_is)

    -- whether a disabling may be answered matters only while the controller serves
    pub control_step-is : (c : ControlStep) (looks settled : Bool) → (is_serving q.handshake.controller ≡ true → looks ≡ settled) → may_control_step w.handshake c looks ≡ may q (queue.Controls c settled)
    control_step-is AskEnable looks settled e = ap (λ (h : Handshake). is_new h.driver) a.handshake
    control_step-is LookAsked looks settled e = refl
    control_step-is Answer looks settled e = ap (λ (h : Handshake). can_enable h || (can_disable h && looks)) a.handshake
        ∙ ap (λ (b : Bool). can_enable q.handshake || b) (and_same (can_disable q.handshake) (can_disable q.handshake) looks settled refl (λ d. let t = and_parts (q.handshake.seen == 3) (is_serving q.handshake.controller) d in e t.1))
    control_step-is LookAnswered looks settled e = refl
    control_step-is AskDisable looks settled e = ap (λ (h : Handshake). is_on h.driver) a.handshake

    module _ (named : AreNamed q) where
      pub held_is : (x : Posted) → q.held ≡ true → slice_get q.ledger.posted (completed_count q) ≡ Some x → w.held ≡ Some (number x)
      held_is x may e = a.held ∙ rw (may, e) (ap (λ (o : Option Completed). buffer_of_item (Some x) o) (sym (past_end q.ledger.completed (completed_count q) (omega arith))) ∙ named (completed_count q) x e)

      held_buffer_is : q.held ≡ true → (b : ℕ) × (buffer_of_item (slice_get q.ledger.posted (completed_count q)) None ≡ Some b)
      held_buffer_is may = let g = found q.ledger.posted (completed_count q) (held_below q.size ends q k may) in
          (number g.0, rw g.1 (ap (λ (o : Option Completed). buffer_of_item (Some g.0) o) (sym (past_end q.ledger.completed (completed_count q) (omega arith))) ∙ named (completed_count q) g.0 g.1))

      pub held_told : is_none w.held ≡ not q.held
      held_told = ap is_none a.held ∙ none_of_held q.held (buffer_of_item (slice_get q.ledger.posted (completed_count q)) None) held_buffer_is

      pub serve-is : (x : Completed) → not (is_none w.held) ≡ may q (queue.Complete x)
      serve-is x = ap not held_told ∙ not_not q.held

      pub idle-is : is_idle w ≡ may q queue.Head
      idle-is = and_same (is_serving w.handshake.controller) (is_serving q.handshake.controller) (is_none w.held) (not q.held) (ap (λ (h : Handshake). is_serving h.controller) a.handshake) (λ s. held_told)

      pub fetch-is : can_fetch w ≡ may q queue.Fetch
      fetch-is = let o = k.order in let back = o.reaped_completed in let below = o.published_posted in let room = o.room in
          and_same (is_idle w) (is_serving q.handshake.controller && not q.held) (not (w.serve == w.known)) (nat_lt (completed_count q) q.known) idle-is
          (λ idle. let t = and_parts (is_serving q.handshake.controller) (not q.held) idle in let d = o.completed_known t.0 in let e = o.known_published t.0 in
          rw (serve_is t.0, a.known (unbetween t.0)) (left_told q.size (completed_count q) q.known d (omega arith)))

      pub settled-is : is_serving q.handshake.controller ≡ true → looks_settled w ≡ is_settled ends q
      settled-is serving = and_same (is_none w.held && (w.head == w.serve)) (not q.held && (q.head == next_head q)) w.whole (ends_frame ends true q.ledger.completed)
          (and_same (is_none w.held) (not q.held) (w.head == w.serve) (q.head == next_head q) held_told (λ e. rw (a.head, serve_is serving) refl))
          (λ e. a.whole)

      -- the buffer of an item that is out, and that the controller does not hold
      pub slot_is : (j place : ℕ) (x : Posted) → returned_count q ≤ j → slice_get q.ledger.posted j ≡ Some x → (q.held && (j == completed_count q)) ≡ false → place ≡ j % q.size → slot_at w.slots place ≡ Some (number x)
      slot_is j place x from e unheld at = let i = a.items in ap (λ (p : ℕ). slot_at w.slots p) at ∙ i.slots j from (slice_get_within q.ledger.posted j x e) ∙ rw unheld (rw e (named j x e))

      -- the next to be served, before it is fetched
      pub fetched_slot : (x : Posted) → may q queue.Fetch ≡ true → slice_get q.ledger.posted (completed_count q) ≡ Some x → slot_at w.slots w.serve ≡ Some (number x)
      fetched_slot x may e = let u = and_parts (is_serving q.handshake.controller && not q.held) (nat_lt (completed_count q) q.known) may in let v = and_parts (is_serving q.handshake.controller) (not q.held) u.0 in
          slot_is (completed_count q) w.serve x (returned_completed q.size ends q k v.0) e (and_left q.held (completed_count q == completed_count q) (not-true q.held v.1)) (serve_is v.0)

      pub reclaimed_slot : (x : Posted) → may q queue.Reclaim ≡ true → slice_get q.ledger.posted (returned_count q) ≡ Some x → slot_at w.slots w.next ≡ Some (number x)
      reclaimed_slot x may e = let t = and_parts (is_stopped q.handshake.driver) (nat_lt (returned_count q) (posted_count q)) may in
          slot_is (returned_count q) w.next x (omega arith) e (and_left q.held (returned_count q == completed_count q) (answered_unheld q.size ends q k (stopped_answered q.handshake.driver t.0))) a.next

    -- what is there to be fetched, and to be reclaimed
    pub fetched_found : may q queue.Fetch ≡ true → (x : Posted) × (slice_get q.ledger.posted (completed_count q) ≡ Some x)
    fetched_found may = let u = and_parts (is_serving q.handshake.controller && not q.held) (nat_lt (completed_count q) q.known) may in let v = and_parts (is_serving q.handshake.controller) (not q.held) u.0 in
        let less = ltb-true (completed_count q) q.known u.1 in let o = k.order in let b = o.known_published v.0 in let c = o.published_posted in found q.ledger.posted (completed_count q) (omega arith)

    pub reclaimed_found : may q queue.Reclaim ≡ true → (x : Posted) × (slice_get q.ledger.posted (returned_count q) ≡ Some x)
    reclaimed_found may = let t = and_parts (is_stopped q.handshake.driver) (nat_lt (returned_count q) (posted_count q)) may in found q.ledger.posted (returned_count q) (ltb-true (returned_count q) (posted_count q) t.1)

    pub held_found : q.held ≡ true → (x : Posted) × (slice_get q.ledger.posted (completed_count q) ≡ Some x)
    held_found may = found q.ledger.posted (completed_count q) (held_below q.size ends q k may)

    -- how many descriptors the controller knows of
    pub look-count : may q queue.Look ≡ true → between_places w.size w.serve w.tail ≡ q.published - completed_count q
    look-count may = let o = k.order in let b = o.completed_known may in let c = o.known_published may in let d = o.published_posted in let room = o.room in let e = o.reaped_completed in let pos = k.places in
        rw (a.size_is, a.tail, serve_is may) (ahead q.size (completed_count q) q.published (omega arith) (omega arith) (omega arith))
