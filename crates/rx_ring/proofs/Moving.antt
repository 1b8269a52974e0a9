-- What each step makes of words, slots and records that lie as a ring has them: they lie as the stepped ring has them.
use Rattle.std.proofs.Common.{◌≡◌, ℕ, ◌+◌, ◌%◌, ◌<◌, ◌≤◌, Bool, true, false, not, ◌&&◌, List, [], ◌∷◌, ◌++◌, length, set, replicate, Option, Some, None, sym, refl, ap, ◌∙◌, subst, arith, if◌then◌else◌, mod-eq_of_lt}
use Rattle.std.specs.Prelude.{slice_get, slice_index, slice_set, ◌==◌, ◌-◌}
use Rattle.std.proofs.lemmas.Bool.{and_parts, and_from, or_left, or_right, lt-ltb, eq-eqb, false≢true}
use Rattle.std.proofs.lemmas.Option.{slice_get_within}
use Rattle.std.proofs.lemmas.List.{length-replicate}
use mathlib.Core.Option as maybe
use mathlib.Core.Option.{some, none}
use Rattle.buffer_pool.specs.Buffer.{Buffer, buffer}
use Rattle.ring_model.specs.declared.steps.ControlStep.TheVariants.{AskEnable, LookAsked, Answer, LookAnswered, AskDisable}
use Rattle.ring_model.specs.declared.steps.RxStep.{RxStep}
use Rattle.ring_model.specs.declared.steps.RxStep.TheVariants as rx
use Rattle.ring_model.specs.shared.Handshakes.{is_open, is_live, is_answered, is_serving, is_new, is_on, is_stopped, is_cleared, is_tailed, can_enable, can_disable, enable, disable}
use Rattle.ring_model.specs.shared.Frames.{Bytes, Follows, unfinished}
use Rattle.ring_model.specs.shared.Queue.{posted_count, completed_count, reaped_count, returned_count}
use Rattle.ring_model.specs.shared.Laws.{SameEpoch}
use Rattle.ring_model.specs.receive.Laws.{rx_quiesced}
use Rattle.ring_model.specs.receive.Agreement.{rx_word}
use Rattle.ring_model.specs.receive.Ring.{RxRing, rx_opening, due, is_whole, next_segment}
use Rattle.ring_model.specs.shared.Segments.{Segment, ends_segment, piece_of}
use Rattle.ring_model.specs.receive.Steps.{IsRxReachable, rx_can, rx_changed, rx_settled, took}
use Rattle.ring_model.specs.kept.Receive.{IsRxKept}
use Rattle.ring_laws.specs.Rings.{rx_kept, rx_kept-opening}
use Rattle.ring_laws.specs.Frames.{AllFollow-nil, AllFollow-snoc}
use Rattle.ring_laws.specs.Schedules.{reached-changed, reached-opening}
use Rattle.ring_laws.specs.States.{live_unanswered, open_unanswered, control_steps-enable, tailed_emptied, emptied_answered}
use Rattle.ring_laws.specs.Queues.{control_fits_of, answered_has_ended}
use Rattle.shared_ring.specs.declared.events.DriverEvent.TheVariants as driver
use Rattle.shared_ring.specs.declared.events.ControllerEvent.TheVariants as controller
use Rattle.shared_ring.specs.Records.{uncontrolled, undriven}
use Rattle.shared_ring.specs.LaidOut.{driven, IsControlled, IsLaidOutIn}
use Rattle.shared_ring.proofs.Laying.{at_zero}
use Rattle.shared_ring.proofs.Folds.{driving-snoc, controlling-snoc}
use Rattle.shared_ring.proofs.Placing.{laid_out-post, laid_out-publish, laid_out-look, laid_out-fetch, laid_out-complete, laid_out-head, laid_out-reap, laid_out-reclaim, laid_out-ask_enable, laid_out-ask_disable, laid_out-look_asked, laid_out-look_answered, laid_out-enable, laid_out-disable, laid_out-clear_head, laid_out-clear_tail, laid_out-renew, laid_out-quiet}
use Rattle.shared_ring.proofs.ControlStepping.{early_enabling}
use Rattle.shared_ring.proofs.Controlling.{ctl-post, ctl-publish, ctl-reap, ctl-reclaim, ctl-ask_enable, ctl-look_answered, ctl-ask_disable, ctl-clear_head, ctl-clear_tail, ctl-renew, ctl-look, ctl-fetch, ctl-complete, ctl-head, ctl-look_asked, ctl-enable, ctl-disable, ctl-bar}
use Rattle.rx_ring.specs.declared.events.RxDriverOwn.TheVariants.{NotDone, Taken, LoadedQuiet, ClearedQuiet}
use Rattle.rx_ring.specs.declared.events.RxControllerOwn.TheVariants.{WroteBack, SaidQuiet}
use Rattle.rx_ring.specs.Records.{RxDriven, RxControlled, DriverStep, ControllerStep, posting, drive_own, drive, driving, control_own, control, controlling, segment_of, Knowing, know, knowing}
use Rattle.rx_ring.specs.Rule.{IsLaidOutAs, Learnt, word_of_item, buffer_of_item}
use Rattle.rx_ring.proofs.Words.{eop_of-rx_word, segment-taken}
use Rattle.rx_ring.proofs.Learning.{knowing-snoc, same-epoch, learnt-step, learnt-head, learnt-not_done, learnt-quiet, learnt-taken, learnt-unknown}

abbrev pub Segments : Type 0
Segments = Segment Bytes

module _ (n : ℕ) (q : RxRing Bytes) (ds : List DriverStep) (cs : List ControllerStep) (words : List ℕ) (homes : List (maybe.Option Buffer)) (pos : 1 < n) (l : IsLaidOutAs n q ds cs words homes) where
  pub keeps_it : IsRxKept Bytes n q
  keeps_it = rx_kept n q pos l.reachable

  abbrev x : Knowing
  x = knowing ds

  abbrev c : RxControlled
  c = controlling n cs

  big : n + 4 ≤ n + 4
  big = omega arith

  goes_on : (step : RxStep Bytes) → rx_can q step ≡ true → IsRxReachable Bytes n (rx_changed q step)
  goes_on step may = reached-changed rx_can rx_changed (rx_opening n) q step may l.reachable

  drove : (e : DriverStep) → driving (ds ++ e ∷ []) ≡ drive (driven q.queue) e
  drove e = driving-snoc posting drive_own undriven ds e ∙ ap (λ (d : RxDriven). drive d e) l.driver

  controlled : (e : ControllerStep) → controlling n (cs ++ e ∷ []) ≡ control n c e
  controlled e = controlling-snoc n control_own uncontrolled cs e

  knew : (e : DriverStep) → knowing (ds ++ e ∷ []) ≡ know (driven q.queue) x e
  knew e = knowing-snoc ds e ∙ ap (λ (d : RxDriven). know d x e) l.driver

  control_is : (p : RxRing Bytes) (e : ControllerStep) → IsControlled {Reaped = Segments} word_of_item buffer_of_item p.queue p.still (control n c e) → IsControlled {Reaped = Segments} word_of_item buffer_of_item p.queue p.still (controlling n (cs ++ e ∷ []))
  control_is p e h = subst (λ (y : RxControlled). IsControlled {Reaped = Segments} word_of_item buffer_of_item p.queue p.still y) (sym (controlled e)) h

  knows_is : (p : RxRing Bytes) (e : DriverStep) → Learnt n p (know (driven q.queue) x e) → Learnt n p (knowing (ds ++ e ∷ []))
  knows_is p e h = subst (λ (y : Knowing). Learnt n p y) (sym (knew e)) h

  -- a step of the driver that leaves what is learnt, and one of the controller
  driver-goes : (s : RxStep Bytes) (e : DriverStep) (ws : List ℕ) (hs : List (maybe.Option Buffer)) → rx_can q s ≡ true → drive (driven q.queue) e ≡ driven (rx_changed q s).queue → know (driven q.queue) x e ≡ x
      → (rx_changed q s).past ≡ q.past → (rx_changed q s).ledger.reaped ≡ q.ledger.reaped → (rx_changed q s).ledger.completed ≡ q.ledger.completed
      → IsControlled {Reaped = Segments} word_of_item buffer_of_item (rx_changed q s).queue (rx_changed q s).still c → IsLaidOutIn {Reaped = Segments} word_of_item buffer_of_item n (n + 4) (rx_changed q s).queue (rx_changed q s).quiet ws hs
      → IsLaidOutAs n (rx_changed q s) (ds ++ e ∷ []) cs ws hs
  driver-goes s e ws hs can drives knows past reaped completed ctl laid_out = record {
    reachable = goes_on s can;
    driver = drove e ∙ drives;
    controller = ctl;
    laid_out = laid_out;
    follow = rw completed l.follow;
    learnt = knows_is (rx_changed q s) e (subst (λ (y : Knowing). Learnt n (rx_changed q s) y) (sym knows) (learnt-step n q keeps_it x l.learnt s can past reaped));
  }

  controller-goes : (s : RxStep Bytes) (e : ControllerStep) (ws : List ℕ) (hs : List (maybe.Option Buffer)) → rx_can q s ≡ true → driven q.queue ≡ driven (rx_changed q s).queue
      → (rx_changed q s).past ≡ q.past → (rx_changed q s).ledger.reaped ≡ q.ledger.reaped → (rx_changed q s).ledger.completed ≡ q.ledger.completed
      → IsControlled {Reaped = Segments} word_of_item buffer_of_item (rx_changed q s).queue (rx_changed q s).still (control n c e) → IsLaidOutIn {Reaped = Segments} word_of_item buffer_of_item n (n + 4) (rx_changed q s).queue (rx_changed q s).quiet ws hs
      → IsLaidOutAs n (rx_changed q s) ds (cs ++ e ∷ []) ws hs
  controller-goes s e ws hs can drives past reaped completed ctl laid_out = record {
    reachable = goes_on s can;
    driver = l.driver ∙ drives;
    controller = control_is (rx_changed q s) e ctl;
    laid_out = laid_out;
    follow = rw completed l.follow;
    learnt = learnt-step n q keeps_it x l.learnt s can past reaped;
  }

  pub unreclaimed : is_answered q.handshake.driver ≡ false → returned_count q.queue ≡ reaped_count q.queue
  unreclaimed h = let k = keeps_it in let o = k.queue.order in let z = o.not_reclaimed h in omega arith

  -- A1
  pub can-post : is_open q.handshake.driver ≡ true → posted_count q.queue + 1 < returned_count q.queue + n → (b : ℕ) → rx_can q (rx.Post b) ≡ true
  can-post opened room b = let k = keeps_it in let none = unreclaimed (open_unanswered q.handshake.driver opened) in let e = k.queue.size_is in let o = k.queue.order in let ts = o.reaped_completed in let sp = o.completed_posted in
      and_from _ _ opened (lt-ltb (posted_count q.queue - reaped_count q.queue) (q.size - 1) (omega arith))

  pub post-laid_out : (b : Buffer) (p : ℕ) → p ≡ posted_count q.queue % n → is_open q.handshake.driver ≡ true → posted_count q.queue + 1 < returned_count q.queue + n → b ≡ buffer b.number []
      → IsLaidOutAs n (rx_changed q (rx.Post b.number)) (ds ++ driver.Posted p 0 b ∷ []) cs (slice_set words p 0) (set homes p (some b))
  post-laid_out b p at opened room empty = let k = keeps_it in let can = can-post opened room b.number in
      driver-goes (rx.Post b.number) (driver.Posted p 0 b) (slice_set words p 0) (set homes p (some b)) can refl refl refl refl refl
      (ctl-post word_of_item buffer_of_item ends_segment n q.queue k.queue q.still c l.controller b.number)
      (laid_out-post word_of_item buffer_of_item ends_segment n (n + 4) q.queue k.queue q.quiet words homes l.laid_out big b.number b 0 p at can refl (ap Some (sym empty)))

  -- A2
  pub publish-laid_out : (t : ℕ) → t ≡ posted_count q.queue % n → is_open q.handshake.driver ≡ true → IsLaidOutAs n (rx_changed q rx.Publish) (ds ++ driver.Published t ∷ []) cs (slice_set words (n + 1) t) homes
  publish-laid_out t at opened = let k = keeps_it in driver-goes rx.Publish (driver.Published t) (slice_set words (n + 1) t) homes opened refl refl refl refl refl
      (ctl-publish word_of_item buffer_of_item ends_segment n q.queue k.queue q.still c l.controller)
      (laid_out-publish word_of_item buffer_of_item ends_segment n (n + 4) q.queue k.queue q.quiet words homes l.laid_out big t at)

  -- A6, with no DD
  pub not_done-laid_out : (p r : ℕ) → due q ≡ None → IsLaidOutAs n q (ds ++ driver.Own (NotDone p r) ∷ []) cs words homes
  not_done-laid_out p r nothing = record {
    reachable = l.reachable;
    driver = drove (driver.Own (NotDone p r));
    controller = l.controller;
    laid_out = l.laid_out;
    follow = l.follow;
    learnt = knows_is q (driver.Own (NotDone p r)) (learnt-not_done n q keeps_it x l.learnt p r nothing);
  }

  pub can-take : (s : Segments) → due q ≡ Some s → is_live q.handshake.driver ≡ true → rx_can q rx.Take ≡ true
  can-take s is live = let below : reaped_count q.queue < completed_count q.queue = slice_get_within q.ledger.completed (reaped_count q.queue) s is in let k = keeps_it in let o = k.queue.order in let sp = o.completed_posted in
      and_from _ _ live (lt-ltb (reaped_count q.queue) (posted_count q.queue) (omega arith))

  took-past : (o : Option Segments) → (took q o).past ≡ q.past
  took-past None = refl
  took-past (Some y) = refl

  -- A6, with DD
  pub take-laid_out : (s : Segments) (p r : ℕ) → due q ≡ Some s → p ≡ returned_count q.queue % n → is_live q.handshake.driver ≡ true → r ≡ rx_word (length s.payload) s.eop
      → IsLaidOutAs n (took q (Some s)) (ds ++ driver.Own (Taken p r (buffer s.number s.payload)) ∷ []) cs (slice_set words p r) (set homes p none)
  take-laid_out s p r is at live word = let k = keeps_it in let o = k.queue.order in
      let below : reaped_count q.queue < completed_count q.queue = slice_get_within q.ledger.completed (reaped_count q.queue) s is in let sp = o.completed_posted in let un = unreclaimed (live_unanswered q.handshake.driver live) in
      let can = can-take s is live in record {
        reachable = subst (λ (o : Option Segments). IsRxReachable Bytes n (took q o)) is (goes_on rx.Take can);
        driver = drove (driver.Own (Taken p r (buffer s.number s.payload)))
            ∙ ap (λ (y : Segments). let d : RxDriven = record (driven q.queue) { reaped = q.ledger.reaped ++ y ∷ [] } in d) (segment-taken s r word);
        controller = ctl-reap word_of_item buffer_of_item ends_segment n q.queue k.queue q.still c l.controller s;
        laid_out = laid_out-reap word_of_item buffer_of_item ends_segment n (n + 4) q.queue k.queue q.quiet words homes l.laid_out big s r p at (omega arith);
        follow = l.follow;
        learnt = knows_is (took q (Some s)) (driver.Own (Taken p r (buffer s.number s.payload)))
            (learnt-taken n q keeps_it x l.learnt s p r (buffer s.number s.payload) is
            (subst (λ (o : Option Segments). SameEpoch q.queue (rx_quiesced q) (took q o).queue (rx_quiesced (took q o))) is (same-epoch n q keeps_it rx.Take can (took-past (due q)))));
      }

  -- C8
  pub quiet-laid_out : (r : ℕ) → r ≡ q.quiet → IsLaidOutAs n q (ds ++ driver.Own (LoadedQuiet r) ∷ []) cs words homes
  quiet-laid_out r e = record {
    reachable = l.reachable;
    driver = drove (driver.Own (LoadedQuiet r));
    controller = l.controller;
    laid_out = l.laid_out;
    follow = l.follow;
    learnt = knows_is q (driver.Own (LoadedQuiet r)) (learnt-quiet n q keeps_it x l.learnt r e);
  }

  -- the driver's load of the head
  pub head_loaded-laid_out : (r : ℕ) → r ≡ q.head → is_stopped q.handshake.driver ≡ true → IsLaidOutAs n q (ds ++ driver.LoadedHead r ∷ []) cs words homes
  head_loaded-laid_out r e stopped = record {
    reachable = l.reachable;
    driver = drove (driver.LoadedHead r);
    controller = l.controller;
    laid_out = l.laid_out;
    follow = l.follow;
    learnt = knows_is q (driver.LoadedHead r) (learnt-head n q keeps_it x l.learnt r stopped e);
  }

  -- C1
  pub ask_enable-laid_out : is_new q.handshake.driver ≡ true → IsLaidOutAs n (rx_changed q (rx.Control AskEnable)) (ds ++ driver.AskedEnable ∷ []) cs (slice_set words (n + 2) 1) homes
  ask_enable-laid_out new = let k = keeps_it in driver-goes (rx.Control AskEnable) driver.AskedEnable (slice_set words (n + 2) 1) homes new refl refl refl refl refl
      (ctl-ask_enable word_of_item buffer_of_item ends_segment n q.queue k.queue q.still c l.controller (rx_settled q) new)
      (laid_out-ask_enable word_of_item buffer_of_item ends_segment n (n + 4) q.queue k.queue q.quiet words homes l.laid_out big (rx_settled q) new)

  -- C4
  pub look_answered-laid_out : (r : ℕ) → r ≡ q.handshake.control → IsLaidOutAs n (rx_changed q (rx.Control LookAnswered)) (ds ++ driver.LoadedControl r ∷ []) cs words homes
  look_answered-laid_out r e = let k = keeps_it in driver-goes (rx.Control LookAnswered) (driver.LoadedControl r) words homes refl
      (ap (λ (v : ℕ). drive (driven q.queue) (driver.LoadedControl v)) e) refl refl refl refl
      (ctl-look_answered word_of_item buffer_of_item ends_segment n q.queue k.queue q.still c l.controller (rx_settled q))
      (laid_out-look_answered word_of_item buffer_of_item ends_segment n (n + 4) q.queue k.queue q.quiet words homes l.laid_out big (rx_settled q))

  -- C5
  pub ask_disable-laid_out : is_on q.handshake.driver ≡ true → IsLaidOutAs n (rx_changed q (rx.Control AskDisable)) (ds ++ driver.AskedDisable ∷ []) cs (slice_set words (n + 2) 3) homes
  ask_disable-laid_out on = let k = keeps_it in driver-goes (rx.Control AskDisable) driver.AskedDisable (slice_set words (n + 2) 3) homes on refl refl refl refl refl
      (ctl-ask_disable word_of_item buffer_of_item ends_segment n q.queue k.queue q.still c l.controller (rx_settled q) on)
      (laid_out-ask_disable word_of_item buffer_of_item ends_segment n (n + 4) q.queue k.queue q.quiet words homes l.laid_out big (rx_settled q))

  -- C6
  pub reclaim-laid_out : (b : Buffer) (p : ℕ) → p ≡ returned_count q.queue % n → is_stopped q.handshake.driver ≡ true → returned_count q.queue < posted_count q.queue
      → IsLaidOutAs n (rx_changed q rx.Reclaim) (ds ++ driver.Reclaimed p b ∷ []) cs (slice_set words p 0) (set homes p none)
  reclaim-laid_out b p at stopped more = let k = keeps_it in
      driver-goes rx.Reclaim (driver.Reclaimed p b) (slice_set words p 0) (set homes p none) (and_from _ _ stopped (lt-ltb (returned_count q.queue) (posted_count q.queue) more)) refl refl refl refl refl
      (ctl-reclaim word_of_item buffer_of_item ends_segment n q.queue k.queue q.still c l.controller)
      (laid_out-reclaim word_of_item buffer_of_item ends_segment n (n + 4) q.queue k.queue q.quiet words homes l.laid_out big 0 p at more)

  -- C9
  pub clear_head-laid_out : is_stopped q.handshake.driver ≡ true → returned_count q.queue ≡ posted_count q.queue → IsLaidOutAs n (rx_changed q rx.ClearHead) (ds ++ driver.ClearedHead ∷ []) cs (slice_set words n 0) homes
  clear_head-laid_out stopped back = let k = keeps_it in driver-goes rx.ClearHead driver.ClearedHead (slice_set words n 0) homes (and_from _ _ stopped (eq-eqb (returned_count q.queue) (posted_count q.queue) back)) refl refl refl refl refl
      (ctl-clear_head word_of_item buffer_of_item ends_segment n q.queue k.queue q.still c l.controller stopped)
      (laid_out-clear_head word_of_item buffer_of_item ends_segment n (n + 4) q.queue k.queue q.quiet words homes l.laid_out big)

  -- C10
  pub clear_tail-laid_out : is_cleared q.handshake.driver ≡ true → IsLaidOutAs n (rx_changed q rx.ClearTail) (ds ++ driver.ClearedTail ∷ []) cs (slice_set words (n + 1) 0) homes
  clear_tail-laid_out cleared = let k = keeps_it in driver-goes rx.ClearTail driver.ClearedTail (slice_set words (n + 1) 0) homes cleared refl refl refl refl refl
      (ctl-clear_tail word_of_item buffer_of_item ends_segment n q.queue k.queue q.still c l.controller cleared)
      (laid_out-clear_tail word_of_item buffer_of_item ends_segment n (n + 4) q.queue k.queue q.quiet words homes l.laid_out big cleared)

  -- C11: the epoch ends, and what was learnt in it is forgotten
  pub clear_quiet-laid_out : is_tailed q.handshake.driver ≡ true → IsLaidOutAs n (rx_changed q rx.ClearQuiet) (ds ++ driver.Own ClearedQuiet ∷ []) cs (slice_set words (n + 3) 0) homes
  clear_quiet-laid_out tailed = let k = keeps_it in let after = rx_changed q rx.ClearQuiet in let reach = goes_on rx.ClearQuiet tailed in
      let cleared = laid_out-quiet word_of_item buffer_of_item ends_segment n (n + 4) q.queue k.queue q.quiet words homes l.laid_out big 0 in record {
        reachable = reach;
        driver = drove (driver.Own ClearedQuiet);
        controller = ctl-renew word_of_item buffer_of_item ends_segment n q.queue k.queue q.still c l.controller tailed (answered_has_ended n ends_segment q.queue k.queue (emptied_answered q.handshake.driver (tailed_emptied q.handshake.driver tailed)));
        laid_out = laid_out-renew word_of_item buffer_of_item ends_segment n (n + 4) q.queue k.queue 0 (slice_set words (n + 3) 0) homes cleared big tailed;
        follow = AllFollow-nil piece_of n;
        learnt = knows_is (rx_changed q rx.ClearQuiet) (driver.Own ClearedQuiet) (learnt-unknown n (rx_changed q rx.ClearQuiet) (rx_kept n (rx_changed q rx.ClearQuiet) pos reach));
      }

  -- A3
  pub look-laid_out : (t : ℕ) → t ≡ q.published % n → is_serving q.handshake.controller ≡ true → IsLaidOutAs n (rx_changed q rx.Look) ds (cs ++ controller.Looked t ∷ []) words homes
  look-laid_out t at serving = let k = keeps_it in controller-goes rx.Look (controller.Looked t) words homes serving refl refl refl refl
      (ctl-look word_of_item buffer_of_item ends_segment n q.queue k.queue q.still c l.controller t at serving)
      (laid_out-look word_of_item buffer_of_item ends_segment n (n + 4) q.queue k.queue q.quiet words homes l.laid_out big)

  pub can-fetch : is_serving q.handshake.controller ≡ true → q.held ≡ false → completed_count q.queue < q.known → q.still ≡ false → rx_can q rx.Fetch ≡ true
  can-fetch serving unheld some_known moving = and_from _ _ (and_from _ _ (and_from _ _ serving (ap not unheld)) (lt-ltb (completed_count q.queue) q.known some_known)) (ap not moving)

  -- A4
  pub fetch-laid_out : (p r : ℕ) (b : Buffer) → p ≡ completed_count q.queue % n → is_serving q.handshake.controller ≡ true → q.held ≡ false → completed_count q.queue < q.known → q.still ≡ false
      → buffer_of_item (slice_get q.ledger.posted (completed_count q.queue)) None ≡ Some b → IsLaidOutAs n (rx_changed q rx.Fetch) ds (cs ++ controller.Fetched p r b ∷ []) words (set homes p none)
  fetch-laid_out p r b at serving unheld some_known moving is = let k = keeps_it in let can = can-fetch serving unheld some_known moving in let t = and_parts _ (not q.still) can in
      controller-goes rx.Fetch (controller.Fetched p r b) words (set homes p none) can refl refl refl refl
      (ctl-fetch word_of_item buffer_of_item ends_segment n q.queue k.queue q.still c l.controller b is)
      (laid_out-fetch word_of_item buffer_of_item ends_segment n (n + 4) q.queue k.queue q.quiet words homes l.laid_out big p at t.0)

  -- A5
  pub store-laid_out : (b : Buffer) (eop : Bool) (p : ℕ) → p ≡ completed_count q.queue % n → q.held ≡ true → b ≡ buffer b.number b.bytes → slice_get q.ledger.posted (completed_count q.queue) ≡ Some b.number → b.number ≡ slice_index q.ledger.posted (completed_count q.queue)
      → Follows piece_of n (unfinished piece_of q.ledger.completed) b.bytes eop
      → IsLaidOutAs n (rx_changed q (rx.Store b.bytes eop)) ds (cs ++ controller.Own (WroteBack p (rx_word (length b.bytes) eop) b) ∷ []) (slice_set words p (rx_word (length b.bytes) eop)) (set homes p (some b))
  store-laid_out b eop p at held real there number follows = let k = keeps_it in let s : Segments = next_segment q b.bytes eop in let w : ℕ = rx_word (length b.bytes) eop in record {
    reachable = goes_on (rx.Store b.bytes eop) held;
    driver = l.driver;
    controller = control_is (rx_changed q (rx.Store b.bytes eop)) (controller.Own (WroteBack p (rx_word (length b.bytes) eop) b))
        (subst (λ (y : Segments). IsControlled {Reaped = Segments} word_of_item buffer_of_item (rx_changed q (rx.Store b.bytes eop)).queue q.still (record c { completed = c.completed ++ y ∷ []; held = None })) (sym (stored-is b eop number))
        (ctl-complete word_of_item buffer_of_item ends_segment n q.queue k.queue q.still c l.controller (next_segment q b.bytes eop)));
    laid_out = laid_out-complete word_of_item buffer_of_item ends_segment n (n + 4) q.queue k.queue q.quiet words homes l.laid_out big (next_segment q b.bytes eop) b (rx_word (length b.bytes) eop) p at held refl
        (ap (λ (o : Option ℕ). buffer_of_item o (Some (next_segment q b.bytes eop))) there ∙ ap Some (ap (λ (j : ℕ). buffer j b.bytes) (sym number) ∙ sym real));
    follow = AllFollow-snoc piece_of n q.ledger.completed (next_segment q b.bytes eop) l.follow follows;
    learnt = learnt-step n q keeps_it x l.learnt (rx.Store b.bytes eop) held refl refl;
  }
    where
      stored-is : (b : Buffer) (eop : Bool) → b.number ≡ slice_index q.ledger.posted (completed_count q.queue) → segment_of (rx_word (length b.bytes) eop) b ≡ next_segment q b.bytes eop
      stored-is b eop number =
          ap (λ (e : Bool). let y : Segments = record { number = b.number; payload = b.bytes; eop = e } in y) (eop_of-rx_word (length b.bytes) eop)
          ∙ ap (λ (j : ℕ). let y : Segments = record { number = j; payload = b.bytes; eop = eop } in y) number

  -- A7
  pub head-laid_out : (h : ℕ) → h ≡ completed_count q.queue % n → is_serving q.handshake.controller ≡ true → q.held ≡ false → IsLaidOutAs n (rx_changed q rx.Head) ds (cs ++ controller.StoredHead h ∷ []) (slice_set words n h) homes
  head-laid_out h at serving unheld = let k = keeps_it in let can = and_from _ _ serving (ap not unheld) in controller-goes rx.Head (controller.StoredHead h) (slice_set words n h) homes can refl refl refl refl
      (ctl-head word_of_item buffer_of_item ends_segment n q.queue k.queue q.still c l.controller h at)
      (laid_out-head word_of_item buffer_of_item ends_segment n (n + 4) q.queue k.queue q.quiet words homes l.laid_out big h at can)

  -- C2
  pub look_asked-laid_out : (r : ℕ) → r ≡ q.handshake.control → IsLaidOutAs n (rx_changed q (rx.Control LookAsked)) ds (cs ++ controller.LoadedRequest r ∷ []) words homes
  look_asked-laid_out r e = let k = keeps_it in controller-goes (rx.Control LookAsked) (controller.LoadedRequest r) words homes refl refl refl refl refl
      (ctl-look_asked word_of_item buffer_of_item ends_segment n q.queue k.queue q.still c l.controller (rx_settled q) r e)
      (laid_out-look_asked word_of_item buffer_of_item ends_segment n (n + 4) q.queue k.queue q.quiet words homes l.laid_out big (rx_settled q))

  -- C7
  pub say_quiet-laid_out : is_serving q.handshake.controller ≡ true → q.held ≡ false → is_whole q ≡ true → IsLaidOutAs n (rx_changed q rx.StoreQuiet) ds (cs ++ controller.Own SaidQuiet ∷ []) (slice_set words (n + 3) 1) homes
  say_quiet-laid_out serving unheld whole = let k = keeps_it in let can = and_from _ _ (and_from _ _ serving (ap not unheld)) whole in controller-goes rx.StoreQuiet (controller.Own SaidQuiet) (slice_set words (n + 3) 1) homes can refl refl refl refl
      (ctl-bar word_of_item buffer_of_item ends_segment n q.queue k.queue q.still c l.controller)
      (laid_out-quiet word_of_item buffer_of_item ends_segment n (n + 4) q.queue k.queue q.quiet words homes l.laid_out big 1)

  -- C3: what the answer makes, where it enables and where it disables
  abbrev pub enabled : RxRing Bytes
  enabled = record q { queue = record q.queue { known = 0; handshake = enable q.handshake }; still = false }

  abbrev pub disabled : RxRing Bytes
  disabled = record q { queue = record q.queue { handshake = disable q.handshake } }

  answered-if : (on : Bool) → RxRing Bytes
  answered-if on = record q { queue = record q.queue { known = if on then 0 else q.known; handshake = if on then enable q.handshake else disable q.handshake }; still = not on && q.still }

  enabled-is : can_enable q.handshake ≡ true → rx_changed q (rx.Control Answer) ≡ enabled
  enabled-is e = ap (λ (on : Bool). let r : RxRing Bytes = record q { queue = record q.queue { known = if on then 0 else q.known; handshake = if on then enable q.handshake else disable q.handshake }; still = not on && q.still } in r) e

  disabled-is : can_enable q.handshake ≡ false → rx_changed q (rx.Control Answer) ≡ disabled
  disabled-is e = ap (λ (on : Bool). let r : RxRing Bytes = record q { queue = record q.queue { known = if on then 0 else q.known; handshake = if on then enable q.handshake else disable q.handshake }; still = not on && q.still } in r) e

  pub enable-laid_out : q.handshake.seen ≡ 1 → is_serving q.handshake.controller ≡ false → IsLaidOutAs n enabled ds (cs ++ controller.Enabled ∷ []) (slice_set words (n + 2) 2) homes
  enable-laid_out seen idle = let k = keeps_it in let h = q.handshake in let m = l.laid_out in let can : can_enable h ≡ true = and_from _ _ (eq-eqb h.seen 1 seen) (ap not idle) in let may = or_left (can_enable h) (can_disable h && rx_settled q) can in
      let opened = control_steps-enable h.driver h.controller h.control h.seen seen (control_fits_of n ends_segment q.queue k.queue) in record {
        reachable = subst (λ (r : RxRing Bytes). IsRxReachable Bytes n r) (enabled-is can) (goes_on (rx.Control Answer) may);
        driver = l.driver;
        controller = control_is enabled controller.Enabled (ctl-enable word_of_item buffer_of_item ends_segment n q.queue k.queue q.still c l.controller idle opened.1 (m.cleared (early_enabling h.driver h.controller h.control h.seen seen (control_fits_of n ends_segment q.queue k.queue) opened.1) idle));
        laid_out = laid_out-enable word_of_item buffer_of_item ends_segment n (n + 4) q.queue k.queue q.quiet words homes l.laid_out big;
        follow = l.follow;
        learnt = subst (λ (r : RxRing Bytes). Learnt n r x) (enabled-is can) (learnt-step n q keeps_it x l.learnt (rx.Control Answer) may refl refl);
      }

  pub disable-laid_out : q.handshake.seen ≡ 3 → is_serving q.handshake.controller ≡ true → rx_settled q ≡ true → IsLaidOutAs n disabled ds (cs ++ controller.Disabled ∷ []) (slice_set words (n + 2) 0) homes
  disable-laid_out seen serving settled = let k = keeps_it in let h = q.handshake in let off : can_enable h ≡ false = ap (λ (v : ℕ). (v == 1) && not (is_serving h.controller)) seen in
      let can : can_disable h ≡ true = and_from _ _ (eq-eqb h.seen 3 seen) serving in let may = or_right (can_enable h) (can_disable h && rx_settled q) (and_from _ _ can settled) in record {
        reachable = subst (λ (r : RxRing Bytes). IsRxReachable Bytes n r) (disabled-is off) (goes_on (rx.Control Answer) may);
        driver = l.driver;
        controller = control_is disabled controller.Disabled (ctl-disable word_of_item buffer_of_item ends_segment n q.queue k.queue q.still c l.controller serving);
        laid_out = laid_out-disable word_of_item buffer_of_item ends_segment n (n + 4) q.queue k.queue q.quiet words homes l.laid_out big seen serving;
        follow = l.follow;
        learnt = subst (λ (r : RxRing Bytes). Learnt n r x) (disabled-is off) (learnt-step n q keeps_it x l.learnt (rx.Control Answer) may refl refl);
      }

-- a made ring, whose ends have done nothing yet
pub opening-laid_out : (n : ℕ) (words : List ℕ) (homes : List (maybe.Option Buffer)) → 1 < n → words ≡ replicate (n + 4) 0 → length homes ≡ n → IsLaidOutAs n (rx_opening n false) [] [] words homes
opening-laid_out n words homes pos w count = record {
  reachable = reached-opening rx_can rx_changed (rx_opening n) false;
  driver = refl;
  controller = record { completed = λ e. refl; known = λ e. refl; held = refl; head = λ e. absurd (false≢true e); state = refl; seen = refl; barred = refl };
  laid_out = record {
    word_count = ap length w ∙ length-replicate (n + 4) 0;
    slot_count = count;
    registers = record {
      head = at_zero words (n + 4) n w;
      tail = at_zero words (n + 4) (n + 1) w ∙ (let h : 0 < n = omega arith in sym (mod-eq_of_lt h));
      control = at_zero words (n + 4) (n + 2) w;
      quiet = at_zero words (n + 4) (n + 3) w;
    };
    items = record { words = λ k a b. absurd (omega arith); slots = λ k a b. absurd (omega arith) };
    cleared = λ a b. refl;
  };
  follow = AllFollow-nil piece_of n;
  learnt = learnt-unknown n (rx_opening n false) (rx_kept-opening n false pos);
}
