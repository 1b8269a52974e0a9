-- What each step of either end makes of words, slots and records that lie as a ring has them: they lie as the stepped ring has them.
use Rattle.std.proofs.Common.{◌≡◌, ℕ, ◌+◌, ◌%◌, ◌<◌, ◌≤◌, Bool, true, false, List, [], ◌∷◌, ◌++◌, length, set, Option, Some, None, sym, refl, ap, ◌∙◌, subst, arith, mod-lt, mod-eq_of_lt, get_or-set_same, if◌then◌else◌, not, ◌&&◌, length-append}
use Rattle.std.specs.Prelude.{slice_set, ◌-◌, slice_get, slice_index, ◌==◌}
use Rattle.std.proofs.lemmas.Bool.{and_from, lt-ltb, eq-eqb, both_ways, false≢true, and_parts, or_left, or_right}
use Rattle.std.proofs.lemmas.Option.{none-some, same_Some}
use Rattle.std.proofs.lemmas.List.{take-append-le}
use mathlib.Core.Option as maybe
use mathlib.Core.Option.{some, none}
use Rattle.buffer_pool.specs.Buffer.{Buffer}
use Rattle.ring_model.specs.declared.states.Completion.{Completion}
use Rattle.ring_model.specs.declared.states.DriverState.{DriverState}
use Rattle.ring_model.specs.declared.states.DriverState.TheVariants.{Tailed}
use Rattle.ring_model.specs.declared.steps.ControlStep.TheVariants.{AskEnable, LookAnswered, AskDisable, LookAsked, Answer}
use Rattle.ring_model.specs.declared.steps.TxStep.TheVariants as tx
use Rattle.ring_model.specs.shared.Handshakes.{is_open, is_live, is_serving, is_new, is_on, is_stopped, is_cleared, is_tailed, can_enable, can_disable, enable, disable}
use Rattle.ring_model.specs.shared.Frames.{Bytes, unfinished}
use Rattle.ring_model.specs.shared.Queue.{posted_count, completed_count, reaped_count, returned_count, by}
use Rattle.ring_model.specs.shared.QueueSteps as queue
use Rattle.ring_model.specs.transmit.Frames.{MayFollow}
use Rattle.ring_model.specs.transmit.Ring.{TxRing, are_whole, carried, ends_posting, next_sent, next_posting}
use Rattle.ring_model.specs.transmit.Steps.{IsTxReachable, by_head, is_there, cleaned_one, loaded_report, oldest_report, tx_can, tx_changed, tx_cleared, tx_renewed, tx_settled, sent_one}
use Rattle.ring_model.specs.transmit.Agreement.{posting_word}
use Rattle.ring_model.specs.kept.Transmit.{IsTxKept}
use Rattle.ring_laws.specs.Rings.{seen_sent}
use Rattle.ring_laws.specs.Frames.{AllMayFollow-nil, AllMayFollow-snoc}
use Rattle.ring_laws.specs.Lists.{slice_get-front}
use Rattle.ring_laws.specs.States.{live_unanswered, tailed_emptied, emptied_answered, control_steps-enable}
use Rattle.ring_laws.specs.Queues.{held_below, answered_has_ended, answered_idle, control_fits_of, returned_completed}
use Rattle.ring_model.proofs.shared.Stepping.{kept-by}
use Rattle.shared_ring.specs.declared.events.DriverEvent.TheVariants as driver
use Rattle.shared_ring.specs.LaidOut.{driven, is_early, IsControlled, IsLaidOutIn}
use Rattle.shared_ring.proofs.Placing.{laid_out-post, laid_out-publish, laid_out-reap, laid_out-reclaim, laid_out-ask_enable, laid_out-ask_disable, laid_out-look_answered, laid_out-clear_head, laid_out-clear_tail, laid_out-look, laid_out-fetch, laid_out-complete, laid_out-head, laid_out-look_asked, laid_out-enable, laid_out-disable}
use Rattle.shared_ring.proofs.Controlling.{ctl-post, ctl-publish, ctl-reap, ctl-reclaim, ctl-ask_enable, ctl-look_answered, ctl-ask_disable, ctl-clear_head, ctl-clear_tail, ctl-renew, ctl-look, ctl-fetch, ctl-complete, ctl-head, ctl-look_asked, ctl-enable, ctl-disable}
use Rattle.tx_ring.specs.declared.events.TxDriverOwn.TheVariants.{NoReport, SawReport, Cleaned, EndedEpoch, ClearedReport}
use Rattle.tx_ring.specs.Records.{Posting, TxDriven, TxControlled, DriverStep, ControllerStep, controlling, drive, know, Knowing, knowing, outstanding, seen_after, fetched_word, control, fetch_word, posting_of}
use Rattle.shared_ring.specs.Tables.{words_of}
use Rattle.tx_ring.specs.Rule.{IsLaidOutAs, Learnt, IsFetched, IsReady, TellsReports, filled, word_of_item, buffer_of_item, word_of}
use Rattle.tx_ring.proofs.Words.{posting-posted, rs_of-tx_word}
use Rattle.tx_ring.proofs.Learning.{learnt-step, learnt-head, learnt-report, learnt-unknown}
use Rattle.tx_ring.proofs.Placing.{keeps_it, big, goes_on, drove, knows_is, unreclaimed, untold, laid_out-beyond, reports-else, head-within, controlled-else, Leaves, driver-goes, control_is, fetched-snoc}
use Rattle.shared_ring.specs.declared.events.ControllerEvent.TheVariants as controller
use Rattle.shared_ring.proofs.Laying.{set-same}
use Rattle.shared_ring.proofs.ControlStepping.{early_enabling}
use Rattle.tx_ring.specs.declared.events.TxControllerOwn.TheVariants.{Sent}
use Rattle.descriptor.specs.Transmit.{rs_of}

early_tailed : (d : DriverState) → is_tailed d ≡ true → is_early d ≡ true
early_tailed Tailed e = refl
early_tailed _ e = absurd (false≢true e)

zero-mod : (n : ℕ) → 1 < n → 0 % n ≡ 0
zero-mod n pos = let h : 0 < n = omega arith in mod-eq_of_lt h

-- what is so of none and of some is so of each
either-way : {A X : Type 0} (f : Option A → X) (x : X) → f None ≡ x → ((y : A) → f (Some y) ≡ x) → (o : Option A) → f o ≡ x
either-way f x nothing each None = nothing
either-way f x nothing each (Some y) = each y

module _ (n : ℕ) (mode : Completion) (q : TxRing Bytes) (ds : List DriverStep) (cs : List ControllerStep) (words : List ℕ) (homes : List (maybe.Option Buffer)) (pos : 1 < n) (l : IsLaidOutAs n mode q ds cs words homes) where
  abbrev k : IsTxKept Bytes n q
  k = keeps_it n mode q ds cs words homes pos l

  abbrev x : Knowing
  x = knowing ds

  abbrev c : TxControlled
  c = controlling n cs

  abbrev wide : n + 4 ≤ words_of n mode
  wide = big n mode q ds cs words homes pos l

  -- a place of the ring is not the place of the head word
  place-else : (p i v : ℕ) → p ≡ i % n → TellsReports n mode q.reported (slice_set words p v)
  place-else p i v at = reports-else n mode q.reported words p v (λ e. let b : i % n < n = mod-lt i (omega arith) in omega arith) l.reports

  -- B1
  pub can-post : is_open q.handshake.driver ≡ true → posted_count q.queue + 1 < reaped_count q.queue + n → (p : Posting) → tx_can q (tx.Post p) ≡ true
  can-post opened room p = let e = k.queue.size_is in let o = k.queue.order in let ts = o.reaped_completed in let sp = o.completed_posted in
      and_from _ _ opened (lt-ltb (posted_count q.queue - reaped_count q.queue) (q.size - 1) (omega arith))

  word-posted : (p : Posting) → word_of_item q (posted_count q.queue) (Some p) None ≡ word_of p
  word-posted p = let o = k.queue.order in let r = k.reports in let a = r.reported_sent in let b = o.completed_posted in
      ap (λ (t : Bool). posting_word length filled t p) (untold q (posted_count q.queue) (omega arith))

  fetched-post : (p : Posting) → IsFetched (fetched_word cs) q.held (q.ledger.posted ++ p ∷ []) q.ledger.completed
  fetched-post p y held there = l.fetched y held (sym (slice_get-front q.ledger.posted (p ∷ []) (completed_count q.queue) (held_below n ends_posting q.queue k.queue held)) ∙ there)

  ready-post : (p : Posting) → IsReady (is_serving q.handshake.controller) q.known (q.ledger.posted ++ p ∷ [])
  ready-post p serving = let o = k.queue.order in let a = o.known_published serving in let b = o.published_posted in
      ap are_whole (take-append-le q.known q.ledger.posted (p ∷ []) (omega arith)) ∙ l.ready serving

  pub post-laid_out : (p : Posting) (at : ℕ) → at ≡ posted_count q.queue % n → is_open q.handshake.driver ≡ true → posted_count q.queue + 1 < reaped_count q.queue + n → MayFollow n (unfinished carried q.ledger.posted) p
      → IsLaidOutAs n mode (tx_changed q (tx.Post p)) (ds ++ driver.Posted at (word_of p) (filled p) ∷ []) cs (slice_set words at (word_of p)) (set homes at (some (filled p)))
  post-laid_out p at is opened room follows = let can = can-post opened room p in let f = follows.follows in record {
    reachable = goes_on n mode q ds cs words homes pos l (tx.Post p) can;
    completion = l.completion;
    driver = drove n mode q ds cs words homes pos l (driver.Posted at (word_of p) (filled p))
        ∙ ap (λ (y : Posting). let d : TxDriven = record (driven q.queue) { posted = q.ledger.posted ++ y ∷ [] } in d) (posting-posted p f.few_bytes);
    controller = ctl-post (word_of_item q) buffer_of_item ends_posting n q.queue k.queue q.owed c l.controller p;
    laid_out = laid_out-post (word_of_item q) buffer_of_item ends_posting n (words_of n mode) q.queue k.queue 0 words homes l.laid_out wide p (filled p) (word_of p) at is can (word-posted p) refl;
    reports = place-else at (posted_count q.queue) (word_of p) is;
    fetched = fetched-post p;
    ready = ready-post p;
    follow = AllMayFollow-snoc n q.ledger.posted p l.follow follows;
    learnt = knows_is n mode q ds cs words homes pos l (tx_changed q (tx.Post p)) (driver.Posted at (word_of p) (filled p)) (learnt-step n q k x l.learnt (tx.Post p) can refl refl);
  }

  -- B2
  pub publish-laid_out : (t : ℕ) → t ≡ posted_count q.queue % n → is_open q.handshake.driver ≡ true → are_whole q.ledger.posted ≡ true → IsLaidOutAs n mode (tx_changed q tx.Publish) (ds ++ driver.Published t ∷ []) cs (slice_set words (n + 1) t) homes
  publish-laid_out t at opened whole = driver-goes n mode q ds cs words homes pos l tx.Publish (driver.Published t) (slice_set words (n + 1) t) homes (and_from _ _ opened whole) refl refl (refl, refl, refl, refl, refl, refl, refl, refl, refl)
      (ctl-publish (word_of_item q) buffer_of_item ends_posting n q.queue k.queue q.owed c l.controller)
      (laid_out-publish (word_of_item q) buffer_of_item ends_posting n (words_of n mode) q.queue k.queue 0 words homes l.laid_out wide t at)
      (reports-else n mode q.reported words (n + 1) t (λ e. omega arith) l.reports)

  -- a load of the driver's that leaves words and slots, and changes of the ring at most what is seen
  loaded : (seen : ℕ) (e : DriverStep) → drive (driven q.queue) e ≡ driven q.queue → IsTxReachable Bytes n (record q { seen_reported = seen }) → Learnt n (record q { seen_reported = seen }) (know (driven q.queue) x e)
      → IsLaidOutAs n mode (record q { seen_reported = seen }) (ds ++ e ∷ []) cs words homes
  loaded seen e same reached learns = record {
    reachable = reached;
    completion = l.completion;
    driver = drove n mode q ds cs words homes pos l e ∙ same;
    controller = l.controller;
    laid_out = l.laid_out;
    reports = l.reports;
    fetched = l.fetched;
    ready = l.ready;
    follow = l.follow;
    learnt = knows_is n mode q ds cs words homes pos l (record q { seen_reported = seen }) e learns;
  }

  -- B7, that shows nothing
  pub no_report-laid_out : (p r : ℕ) → IsLaidOutAs n mode q (ds ++ driver.Own (NoReport p r) ∷ []) cs words homes
  no_report-laid_out p r = loaded q.seen_reported (driver.Own (NoReport p r)) refl l.reachable l.learnt

  -- B7, that shows the report
  saw-knows : (j : ℕ) → oldest_report q ≡ Some j → seen_after x (outstanding (driven q.queue) x.seen) ≡ record x { seen = j + 1 }
  saw-knows j is = let s = l.learnt.seen in ap (λ (m : ℕ). seen_after x (outstanding (driven q.queue) m)) s ∙ ap (λ (o : Option ℕ). seen_after x o) is

  pub saw_report-laid_out : (j p r : ℕ) → oldest_report q ≡ Some j → is_live q.handshake.driver ≡ true → j < q.reported → IsLaidOutAs n mode (record q { seen_reported = j + 1 }) (ds ++ driver.Own (SawReport p r) ∷ []) cs words homes
  saw_report-laid_out j p r is live below = let later : TxRing Bytes = record q { seen_reported = j + 1 } in
      loaded (j + 1) (driver.Own (SawReport p r)) refl
      (subst (λ (b : Bool). IsTxReachable Bytes n (if b then record q { seen_reported = j + 1 } else q)) (lt-ltb j q.reported below)
      (subst (λ (o : Option ℕ). IsTxReachable Bytes n (loaded_report q o)) is (goes_on n mode q ds cs words homes pos l tx.LoadReport (and_from _ _ live (ap is_there is)))))
      (subst (λ (y : Knowing). Learnt n later y) (sym (saw-knows j is)) (learnt-report n q k x l.learnt j))

  -- B8
  cleaned-past : (o : Option Posting) → (cleaned_one q o).past ≡ q.past
  cleaned-past = either-way (λ o. (cleaned_one q o).past) q.past refl (λ y. refl)

  cleaned-seen : (o : Option Posting) → (cleaned_one q o).seen_reported ≡ q.seen_reported
  cleaned-seen = either-way (λ o. (cleaned_one q o).seen_reported) q.seen_reported refl (λ y. refl)

  pub clean-laid_out : (p : Posting) (at : ℕ) → next_sent q ≡ Some p → at ≡ returned_count q.queue % n → is_live q.handshake.driver ≡ true → reaped_count q.queue < q.seen_reported
      → IsLaidOutAs n mode (cleaned_one q (Some p)) (ds ++ driver.Own (Cleaned at (filled p)) ∷ []) cs (slice_set words at 0) (set homes at none)
  clean-laid_out p at is place live below = let o = k.queue.order in let un = unreclaimed n mode q ds cs words homes pos l (live_unanswered q.handshake.driver live) in let sent = seen_sent n q k in let sp = o.completed_posted in
      let can = and_from _ _ live (lt-ltb (reaped_count q.queue) q.seen_reported below) in record {
        reachable = subst (λ (o : Option Posting). IsTxReachable Bytes n (cleaned_one q o)) is (goes_on n mode q ds cs words homes pos l tx.Clean can);
        completion = l.completion;
        driver = drove n mode q ds cs words homes pos l (driver.Own (Cleaned at (filled p)));
        controller = ctl-reap (word_of_item q) buffer_of_item ends_posting n q.queue k.queue q.owed c l.controller p.number;
        laid_out = laid_out-reap (word_of_item q) buffer_of_item ends_posting n (words_of n mode) q.queue k.queue 0 words homes l.laid_out wide p.number 0 at place (omega arith);
        reports = place-else at (returned_count q.queue) 0 place;
        fetched = l.fetched;
        ready = l.ready;
        follow = l.follow;
        learnt = knows_is n mode q ds cs words homes pos l (cleaned_one q (Some p)) (driver.Own (Cleaned at (filled p)))
            (subst (λ (o : Option Posting). Learnt n (cleaned_one q o) x) is (learnt-step n q k x l.learnt tx.Clean can (cleaned-past (next_sent q)) (cleaned-seen (next_sent q))));
      }

  -- the driver's load of the head
  pub head_loaded-laid_out : (r : ℕ) → r ≡ q.head → is_stopped q.handshake.driver ≡ true → IsLaidOutAs n mode q (ds ++ driver.LoadedHead r ∷ []) cs words homes
  head_loaded-laid_out r e stopped = loaded q.seen_reported (driver.LoadedHead r) refl l.reachable (learnt-head n q k x l.learnt r stopped e)

  -- C1
  pub ask_enable-laid_out : is_new q.handshake.driver ≡ true → IsLaidOutAs n mode (tx_changed q (tx.Control AskEnable)) (ds ++ driver.AskedEnable ∷ []) cs (slice_set words (n + 2) 1) homes
  ask_enable-laid_out new = driver-goes n mode q ds cs words homes pos l (tx.Control AskEnable) driver.AskedEnable (slice_set words (n + 2) 1) homes new refl refl (refl, refl, refl, refl, refl, refl, refl, refl, refl)
      (ctl-ask_enable (word_of_item q) buffer_of_item ends_posting n q.queue k.queue q.owed c l.controller (tx_settled q) new)
      (laid_out-ask_enable (word_of_item q) buffer_of_item ends_posting n (words_of n mode) q.queue k.queue 0 words homes l.laid_out wide (tx_settled q) new)
      (reports-else n mode q.reported words (n + 2) 1 (λ e. omega arith) l.reports)

  -- C4
  pub look_answered-laid_out : (r : ℕ) → r ≡ q.handshake.control → IsLaidOutAs n mode (tx_changed q (tx.Control LookAnswered)) (ds ++ driver.LoadedControl r ∷ []) cs words homes
  look_answered-laid_out r e = driver-goes n mode q ds cs words homes pos l (tx.Control LookAnswered) (driver.LoadedControl r) words homes refl
      (ap (λ (v : ℕ). drive (driven q.queue) (driver.LoadedControl v)) e) refl (refl, refl, refl, refl, refl, refl, refl, refl, refl)
      (ctl-look_answered (word_of_item q) buffer_of_item ends_posting n q.queue k.queue q.owed c l.controller (tx_settled q))
      (laid_out-look_answered (word_of_item q) buffer_of_item ends_posting n (words_of n mode) q.queue k.queue 0 words homes l.laid_out wide (tx_settled q))
      l.reports

  -- C5
  pub ask_disable-laid_out : is_on q.handshake.driver ≡ true → IsLaidOutAs n mode (tx_changed q (tx.Control AskDisable)) (ds ++ driver.AskedDisable ∷ []) cs (slice_set words (n + 2) 3) homes
  ask_disable-laid_out on = driver-goes n mode q ds cs words homes pos l (tx.Control AskDisable) driver.AskedDisable (slice_set words (n + 2) 3) homes on refl refl (refl, refl, refl, refl, refl, refl, refl, refl, refl)
      (ctl-ask_disable (word_of_item q) buffer_of_item ends_posting n q.queue k.queue q.owed c l.controller (tx_settled q) on)
      (laid_out-ask_disable (word_of_item q) buffer_of_item ends_posting n (words_of n mode) q.queue k.queue 0 words homes l.laid_out wide (tx_settled q))
      (reports-else n mode q.reported words (n + 2) 3 (λ e. omega arith) l.reports)

  -- C6
  pub reclaim-laid_out : (b : Buffer) (p : ℕ) → p ≡ returned_count q.queue % n → is_stopped q.handshake.driver ≡ true → returned_count q.queue < posted_count q.queue
      → IsLaidOutAs n mode (tx_changed q tx.Reclaim) (ds ++ driver.Reclaimed p b ∷ []) cs (slice_set words p 0) (set homes p none)
  reclaim-laid_out b p at stopped more =
      driver-goes n mode q ds cs words homes pos l tx.Reclaim (driver.Reclaimed p b) (slice_set words p 0) (set homes p none) (and_from _ _ stopped (lt-ltb (returned_count q.queue) (posted_count q.queue) more)) refl refl (refl, refl, refl, refl, refl, refl, refl, refl, refl)
      (ctl-reclaim (word_of_item q) buffer_of_item ends_posting n q.queue k.queue q.owed c l.controller)
      (laid_out-reclaim (word_of_item q) buffer_of_item ends_posting n (words_of n mode) q.queue k.queue 0 words homes l.laid_out wide 0 p at more)
      (place-else p (returned_count q.queue) 0 at)

  -- C9
  pub clear_head-laid_out : is_stopped q.handshake.driver ≡ true → returned_count q.queue ≡ posted_count q.queue → IsLaidOutAs n mode (tx_changed q tx.ClearHead) (ds ++ driver.ClearedHead ∷ []) cs (slice_set words n 0) homes
  clear_head-laid_out stopped back = driver-goes n mode q ds cs words homes pos l tx.ClearHead driver.ClearedHead (slice_set words n 0) homes (and_from _ _ stopped (eq-eqb (returned_count q.queue) (posted_count q.queue) back)) refl refl (refl, refl, refl, refl, refl, refl, refl, refl, refl)
      (ctl-clear_head (word_of_item q) buffer_of_item ends_posting n q.queue k.queue q.owed c l.controller stopped)
      (laid_out-clear_head (word_of_item q) buffer_of_item ends_posting n (words_of n mode) q.queue k.queue 0 words homes l.laid_out wide)
      (reports-else n mode q.reported words n 0 (λ e. omega arith) l.reports)

  -- a renewed ring has no items
  renewed-laid_out : (p : TxRing Bytes) (ws : List ℕ) → IsLaidOutIn {Reaped = ℕ} (word_of_item q) buffer_of_item n (words_of n mode) p.queue 0 ws homes → is_tailed p.handshake.driver ≡ true → IsLaidOutIn {Reaped = ℕ} (word_of_item (tx_renewed p)) buffer_of_item n (words_of n mode) (tx_renewed p).queue 0 ws homes
  renewed-laid_out p ws m tailed = record {
    word_count = m.word_count;
    slot_count = m.slot_count;
    registers = m.registers;
    items = record { words = λ j a b. absurd (omega arith); slots = λ j a b. absurd (omega arith) };
    cleared = λ a s. m.cleared (early_tailed p.handshake.driver tailed) s;
  }

  -- C10, where the head word is cleared after it
  pub clear_tail-laid_out : by_head mode ≡ true → is_cleared q.handshake.driver ≡ true → IsLaidOutAs n mode (tx_cleared q true) (ds ++ driver.ClearedTail ∷ []) cs (slice_set words (n + 1) 0) homes
  clear_tail-laid_out more cleared = let is : by_head q.completion ≡ true = ap by_head l.completion ∙ more in subst (λ (b : Bool). IsLaidOutAs n mode (tx_cleared q b) (ds ++ driver.ClearedTail ∷ []) cs (slice_set words (n + 1) 0) homes) is
      (driver-goes n mode q ds cs words homes pos l tx.ClearTail driver.ClearedTail (slice_set words (n + 1) 0) homes cleared
      (ap (λ (b : Bool). driven (tx_cleared q b).queue) (sym is)) refl
      (subst (λ (b : Bool). Leaves n mode q ds cs words homes pos l (tx_cleared q b)) (sym is) (refl, refl, refl, refl, refl, refl, refl, refl, refl))
      (subst (λ (b : Bool). IsControlled {Reaped = ℕ} (word_of_item (tx_cleared q b)) buffer_of_item (tx_cleared q b).queue (tx_cleared q b).owed c) (sym is)
      (ctl-clear_tail (word_of_item q) buffer_of_item ends_posting n q.queue k.queue q.owed c l.controller cleared))
      (subst (λ (b : Bool). IsLaidOutIn {Reaped = ℕ} (word_of_item (tx_cleared q b)) buffer_of_item n (words_of n mode) (tx_cleared q b).queue 0 (slice_set words (n + 1) 0) homes) (sym is)
      (laid_out-clear_tail (word_of_item q) buffer_of_item ends_posting n (words_of n mode) q.queue k.queue 0 words homes l.laid_out wide cleared))
      (reports-else n mode q.reported words (n + 1) 0 (λ e. omega arith) l.reports))

  -- C10, where nothing more is to be cleared: the epoch ends, and what was learnt in it is forgotten
  pub end_epoch-laid_out : by_head mode ≡ false → is_cleared q.handshake.driver ≡ true → IsLaidOutAs n mode (tx_cleared q false) (ds ++ driver.Own EndedEpoch ∷ []) cs (slice_set words (n + 1) 0) homes
  end_epoch-laid_out alone cleared = let is : by_head q.completion ≡ false = ap by_head l.completion ∙ alone in
      let tailed : TxRing Bytes = record q { queue = by q.queue queue.ClearTail } in
      let kept = kept-by n ends_posting q.queue k.queue queue.ClearTail tt cleared in let reach = goes_on n mode q ds cs words homes pos l tx.ClearTail cleared in record {
        reachable = subst (λ (b : Bool). IsTxReachable Bytes n (tx_cleared q b)) is reach;
        completion = l.completion;
        driver = drove n mode q ds cs words homes pos l (driver.Own EndedEpoch);
        controller = controlled-else (tx_cleared q false).queue (word_of_item q) (word_of_item (tx_cleared q false)) q.owed c
            (ctl-renew (word_of_item q) buffer_of_item ends_posting n tailed.queue kept q.owed c (ctl-clear_tail (word_of_item q) buffer_of_item ends_posting n q.queue k.queue q.owed c l.controller cleared) refl
            (answered_has_ended n ends_posting tailed.queue kept refl));
        laid_out = renewed-laid_out tailed (slice_set words (n + 1) 0) (laid_out-clear_tail (word_of_item q) buffer_of_item ends_posting n (words_of n mode) q.queue k.queue 0 words homes l.laid_out wide cleared) refl;
        reports = λ e. absurd (false≢true (sym alone ∙ e));
        fetched = λ p held there. absurd (none-some p there);
        ready = λ serving. absurd (both_ways (is_serving q.handshake.controller) (answered_idle n ends_posting tailed.queue kept refl) serving);
        follow = AllMayFollow-nil n;
        learnt = knows_is n mode q ds cs words homes pos l (tx_cleared q false) (driver.Own EndedEpoch) (learnt-unknown n (tx_cleared q false) refl);
      }

  -- C12: the epoch ends
  pub clear_report-laid_out : by_head mode ≡ true → is_tailed q.handshake.driver ≡ true → IsLaidOutAs n mode (tx_renewed q) (ds ++ driver.Own ClearedReport ∷ []) cs (slice_set words (n + 4) 0) homes
  clear_report-laid_out more tailed = let is : by_head q.completion ≡ true = ap by_head l.completion ∙ more in let a = emptied_answered q.handshake.driver (tailed_emptied q.handshake.driver tailed) in
      let m = l.laid_out in let wc = m.word_count in record {
        reachable = goes_on n mode q ds cs words homes pos l tx.ClearReport (and_from _ _ is tailed);
        completion = l.completion;
        driver = drove n mode q ds cs words homes pos l (driver.Own ClearedReport);
        controller = controlled-else (tx_renewed q).queue (word_of_item q) (word_of_item (tx_renewed q)) q.owed c (ctl-renew (word_of_item q) buffer_of_item ends_posting n q.queue k.queue q.owed c l.controller tailed (answered_has_ended n ends_posting q.queue k.queue a));
        laid_out = renewed-laid_out q (slice_set words (n + 4) 0) (laid_out-beyond n mode q ds cs words homes pos l 0) tailed;
        reports = λ e. get_or-set_same words (n + 4) 0 0 (head-within n mode words e wc) ∙ sym (zero-mod n pos);
        fetched = λ p held there. absurd (none-some p there);
        ready = λ serving. absurd (both_ways (is_serving q.handshake.controller) (answered_idle n ends_posting q.queue k.queue a) serving);
        follow = AllMayFollow-nil n;
        learnt = knows_is n mode q ds cs words homes pos l (tx_renewed q) (driver.Own ClearedReport) (learnt-unknown n (tx_renewed q) refl);
      }

  -- a step of the controller that leaves what was fetched
  fetched-on : (e : ControllerStep) → fetch_word (fetched_word cs) e ≡ fetched_word cs → IsFetched (fetched_word (cs ++ e ∷ [])) q.held q.ledger.posted q.ledger.completed
  fetched-on e same p held there = fetched-snoc cs e ∙ same ∙ l.fetched p held there

  -- B3
  pub look-laid_out : (t : ℕ) → t ≡ q.published % n → is_serving q.handshake.controller ≡ true → IsLaidOutAs n mode (tx_changed q tx.Look) ds (cs ++ controller.Looked t ∷ []) words homes
  look-laid_out t is serving = record {
    reachable = goes_on n mode q ds cs words homes pos l tx.Look serving;
    completion = l.completion;
    driver = l.driver;
    controller = control_is n mode q ds cs words homes pos l (tx_changed q tx.Look) (controller.Looked t) (ctl-look (word_of_item q) buffer_of_item ends_posting n q.queue k.queue q.owed c l.controller t is serving);
    laid_out = laid_out-look (word_of_item q) buffer_of_item ends_posting n (words_of n mode) q.queue k.queue 0 words homes l.laid_out wide;
    reports = l.reports;
    fetched = fetched-on (controller.Looked t) refl;
    ready = λ s. k.published;
    follow = l.follow;
    learnt = learnt-step n q k x l.learnt tx.Look serving refl refl;
  }

  pub can-fetch : is_serving q.handshake.controller ≡ true → q.held ≡ false → completed_count q.queue < q.known → q.owed ≡ false → tx_can q tx.Fetch ≡ true
  can-fetch serving unheld some_known paid = and_from _ _ (and_from _ _ (and_from _ _ serving (ap not unheld)) (lt-ltb (completed_count q.queue) q.known some_known)) (ap not paid)

  -- B4
  pub fetch-laid_out : (p : Posting) (at : ℕ) → at ≡ completed_count q.queue % n → is_serving q.handshake.controller ≡ true → q.held ≡ false → completed_count q.queue < q.known → q.owed ≡ false → next_posting q ≡ Some p
      → IsLaidOutAs n mode (tx_changed q tx.Fetch) ds (cs ++ controller.Fetched at (word_of p) (filled p) ∷ []) words (set homes at none)
  fetch-laid_out p at place serving unheld some_known paid is = let can = can-fetch serving unheld some_known paid in let t = and_parts _ (not q.owed) can in record {
    reachable = goes_on n mode q ds cs words homes pos l tx.Fetch can;
    completion = l.completion;
    driver = l.driver;
    controller = control_is n mode q ds cs words homes pos l (tx_changed q tx.Fetch) (controller.Fetched at (word_of p) (filled p))
        (ctl-fetch (word_of_item q) buffer_of_item ends_posting n q.queue k.queue q.owed c l.controller (filled p) (ap (λ (o : Option Posting). buffer_of_item o None) is));
    laid_out = laid_out-fetch (word_of_item q) buffer_of_item ends_posting n (words_of n mode) q.queue k.queue 0 words homes l.laid_out wide at place t.0;
    reports = l.reports;
    fetched = λ y held there. fetched-snoc cs (controller.Fetched at (word_of p) (filled p)) ∙ ap word_of (same_Some p y (sym is ∙ there));
    ready = l.ready;
    follow = l.follow;
    learnt = learnt-step n q k x l.learnt tx.Fetch can refl refl;
  }

  -- B5: the record of the controller after it
  sent-is : (p : Posting) (h w : ℕ) → w ≡ word_of p → length p.payload ≤ 2048 → control n c (controller.Own (Sent h w (filled p))) ≡ record c { completed = c.completed ++ p ∷ []; held = None; head = h; barred = p.rs }
  sent-is p h w is small = ap (λ (v : ℕ). let y : TxControlled = record c { completed = c.completed ++ posting_of v (filled p) ∷ []; held = None; head = h; barred = rs_of v } in y) is
      ∙ ap (λ (z : Posting). let y : TxControlled = record c { completed = c.completed ++ z ∷ []; held = None; head = h; barred = rs_of (word_of p) } in y) (posting-posted p small)
      ∙ ap (λ (b : Bool). let y : TxControlled = record c { completed = c.completed ++ p ∷ []; held = None; head = h; barred = b } in y) (rs_of-tx_word (length p.payload) p.eop p.rs p.paylen small)

  sent-past : (o : Option Posting) → (sent_one q o).past ≡ q.past
  sent-past = either-way (λ o. (sent_one q o).past) q.past refl (λ y. refl)

  sent-seen : (o : Option Posting) → (sent_one q o).seen_reported ≡ q.seen_reported
  sent-seen = either-way (λ o. (sent_one q o).seen_reported) q.seen_reported refl (λ y. refl)

  -- the place of the item that is sent keeps its word
  word-stays : (p : Posting) (at : ℕ) → next_posting q ≡ Some p → at ≡ completed_count q.queue % n → q.held ≡ true → word_of_item q (completed_count q.queue) (slice_get q.ledger.posted (completed_count q.queue)) (Some p) ≡ slice_index words at
  word-stays p at is place held = let m = l.laid_out in let i = m.items in let o = k.queue.order in
      ap (λ (o : Option Posting). word_of_item q (completed_count q.queue) o (Some p)) is
      ∙ sym (ap (slice_index words) place ∙ i.words (completed_count q.queue) (returned_completed n ends_posting q.queue k.queue (o.held_serving held)) (held_below n ends_posting q.queue k.queue held)
      ∙ ap (λ (o : Option Posting). word_of_item q (completed_count q.queue) o (slice_get q.ledger.completed (completed_count q.queue))) is)

  pub send-laid_out : (p : Posting) (at h : ℕ) → next_posting q ≡ Some p → at ≡ completed_count q.queue % n → h ≡ (completed_count q.queue + 1) % n → q.held ≡ true → length p.payload ≤ 2048
      → IsLaidOutAs n mode (sent_one q (Some p)) ds (cs ++ controller.Own (Sent h (fetched_word cs) (filled p)) ∷ []) (slice_set words n h) (set homes at (some (filled p)))
  send-laid_out p at h is place next held small = let o = k.queue.order in let serving = o.held_serving held in
      let completed = kept-by n ends_posting q.queue k.queue (queue.Complete p) tt held in
      let w = slice_index words at in
      let one = subst (λ (ws : List ℕ). IsLaidOutIn {Reaped = ℕ} (word_of_item q) buffer_of_item n (words_of n mode) (by q.queue (queue.Complete p)) 0 ws (set homes at (some (filled p)))) (set-same words at)
      (laid_out-complete (word_of_item q) buffer_of_item ends_posting n (words_of n mode) q.queue k.queue 0 words homes l.laid_out wide p (filled p) w at place held (word-stays p at is place held)
      (ap (λ (o : Option Posting). buffer_of_item o (Some p)) is)) in
      let more = length-append q.ledger.completed (p ∷ []) in
      let there : h ≡ completed_count (by q.queue (queue.Complete p)) % n = next ∙ ap (λ (j : ℕ). j % n) (sym more) in
      let can = and_from (is_serving q.handshake.controller) true serving refl in
      let s = ctl-complete (word_of_item q) buffer_of_item ends_posting n q.queue k.queue q.owed c l.controller p in
      let e = ctl-head (word_of_item q) buffer_of_item ends_posting n (by q.queue (queue.Complete p)) completed q.owed (record c { completed = c.completed ++ p ∷ []; held = None }) s h there in record {
        reachable = subst (λ (o : Option Posting). IsTxReachable Bytes n (sent_one q o)) is (goes_on n mode q ds cs words homes pos l tx.Send held);
        completion = l.completion;
        driver = l.driver;
        controller = control_is n mode q ds cs words homes pos l (sent_one q (Some p)) (controller.Own (Sent h (fetched_word cs) (filled p)))
            (subst (λ (y : TxControlled). IsControlled {Reaped = ℕ} (word_of_item q) buffer_of_item (sent_one q (Some p)).queue p.rs y) (sym (sent-is p h (fetched_word cs) (l.fetched p held is) small))
            (record { completed = e.completed; known = e.known; held = e.held; head = e.head; state = e.state; seen = e.seen; barred = refl }));
        laid_out = laid_out-head (word_of_item q) buffer_of_item ends_posting n (words_of n mode) (by q.queue (queue.Complete p)) completed 0 words (set homes at (some (filled p))) one wide h there can;
        reports = reports-else n mode q.reported words n h (λ e. omega arith) l.reports;
        fetched = λ y none there. absurd (false≢true none);
        ready = l.ready;
        follow = l.follow;
        learnt = subst (λ (o : Option Posting). Learnt n (sent_one q o) x) is (learnt-step n q k x l.learnt tx.Send held (sent-past (next_posting q)) (sent-seen (next_posting q)));
      }

  -- C2
  pub look_asked-laid_out : (r : ℕ) → r ≡ q.handshake.control → IsLaidOutAs n mode (tx_changed q (tx.Control LookAsked)) ds (cs ++ controller.LoadedRequest r ∷ []) words homes
  look_asked-laid_out r e = record {
    reachable = goes_on n mode q ds cs words homes pos l (tx.Control LookAsked) refl;
    completion = l.completion;
    driver = l.driver;
    controller = control_is n mode q ds cs words homes pos l (tx_changed q (tx.Control LookAsked)) (controller.LoadedRequest r) (ctl-look_asked (word_of_item q) buffer_of_item ends_posting n q.queue k.queue q.owed c l.controller (tx_settled q) r e);
    laid_out = laid_out-look_asked (word_of_item q) buffer_of_item ends_posting n (words_of n mode) q.queue k.queue 0 words homes l.laid_out wide (tx_settled q);
    reports = l.reports;
    fetched = fetched-on (controller.LoadedRequest r) refl;
    ready = l.ready;
    follow = l.follow;
    learnt = learnt-step n q k x l.learnt (tx.Control LookAsked) refl refl refl;
  }

  -- C3: what the answer makes, where it enables and where it disables
  abbrev answered-if : Bool → TxRing Bytes
  answered-if on = record q { queue = record q.queue { known = if on then 0 else q.known; handshake = if on then enable q.handshake else disable q.handshake }; owed = not on && q.owed }

  abbrev pub enabled : TxRing Bytes
  enabled = record q { queue = record q.queue { known = 0; handshake = enable q.handshake }; owed = false }

  abbrev pub disabled : TxRing Bytes
  disabled = record q { queue = record q.queue { handshake = disable q.handshake } }

  enabled-is : can_enable q.handshake ≡ true → tx_changed q (tx.Control Answer) ≡ enabled
  enabled-is e = ap answered-if e

  disabled-is : can_enable q.handshake ≡ false → tx_changed q (tx.Control Answer) ≡ disabled
  disabled-is e = ap answered-if e

  pub enable-laid_out : q.handshake.seen ≡ 1 → is_serving q.handshake.controller ≡ false → IsLaidOutAs n mode enabled ds (cs ++ controller.Enabled ∷ []) (slice_set words (n + 2) 2) homes
  enable-laid_out seen idle = let h = q.handshake in let m = l.laid_out in let can : can_enable h ≡ true = and_from _ _ (eq-eqb h.seen 1 seen) (ap not idle) in let may = or_left (can_enable h) (can_disable h && tx_settled q) can in
      let opened = control_steps-enable h.driver h.controller h.control h.seen seen (control_fits_of n ends_posting q.queue k.queue) in record {
        reachable = subst (λ (r : TxRing Bytes). IsTxReachable Bytes n r) (enabled-is can) (goes_on n mode q ds cs words homes pos l (tx.Control Answer) may);
        completion = l.completion;
        driver = l.driver;
        controller = control_is n mode q ds cs words homes pos l enabled controller.Enabled
            (ctl-enable (word_of_item q) buffer_of_item ends_posting n q.queue k.queue q.owed c l.controller idle opened.1 (m.cleared (early_enabling h.driver h.controller h.control h.seen seen (control_fits_of n ends_posting q.queue k.queue) opened.1) idle));
        laid_out = laid_out-enable (word_of_item q) buffer_of_item ends_posting n (words_of n mode) q.queue k.queue 0 words homes l.laid_out wide;
        reports = reports-else n mode q.reported words (n + 2) 2 (λ e. omega arith) l.reports;
        fetched = fetched-on controller.Enabled refl;
        ready = λ s. refl;
        follow = l.follow;
        learnt = subst (λ (r : TxRing Bytes). Learnt n r x) (enabled-is can) (learnt-step n q k x l.learnt (tx.Control Answer) may refl refl);
      }

  pub disable-laid_out : q.handshake.seen ≡ 3 → is_serving q.handshake.controller ≡ true → tx_settled q ≡ true → IsLaidOutAs n mode disabled ds (cs ++ controller.Disabled ∷ []) (slice_set words (n + 2) 0) homes
  disable-laid_out seen serving settled = let h = q.handshake in let off : can_enable h ≡ false = ap (λ (v : ℕ). (v == 1) && not (is_serving h.controller)) seen in
      let can : can_disable h ≡ true = and_from _ _ (eq-eqb h.seen 3 seen) serving in let may = or_right (can_enable h) (can_disable h && tx_settled q) (and_from _ _ can settled) in record {
        reachable = subst (λ (r : TxRing Bytes). IsTxReachable Bytes n r) (disabled-is off) (goes_on n mode q ds cs words homes pos l (tx.Control Answer) may);
        completion = l.completion;
        driver = l.driver;
        controller = control_is n mode q ds cs words homes pos l disabled controller.Disabled (ctl-disable (word_of_item q) buffer_of_item ends_posting n q.queue k.queue q.owed c l.controller serving);
        laid_out = laid_out-disable (word_of_item q) buffer_of_item ends_posting n (words_of n mode) q.queue k.queue 0 words homes l.laid_out wide seen serving;
        reports = reports-else n mode q.reported words (n + 2) 0 (λ e. omega arith) l.reports;
        fetched = fetched-on controller.Disabled refl;
        ready = λ s. absurd (false≢true s);
        follow = l.follow;
        learnt = subst (λ (r : TxRing Bytes). Learnt n r x) (disabled-is off) (learnt-step n q k x l.learnt (tx.Control Answer) may refl refl);
      }
