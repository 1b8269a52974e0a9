-- What the agreement of a transmit ring allows each end to do.
use Rattle.std.proofs.Common.{◌≡◌, ℕ, zero, suc, ◌+◌, ◌%◌, ◌<◌, ◌≤◌, Bool, true, false, not, List, [], ◌∷◌, ◌++◌, length, take, Option, Some, None, sym, refl, ap, ◌∙◌, subst, ⊎_elim, arith, mod-lt}
use Rattle.std.specs.Prelude.{slice_get, slice_index, slice_set}
use Rattle.std.proofs.lemmas.Bool.{and_from, and_parts, eq-eqb, cases_eq, both_ways, true≢false}
use Rattle.std.proofs.lemmas.Option.{none-some, same_Some}
use mathlib.Core.Option as maybe
use mathlib.Core.Option.{some, none}
use lib.ListN.{get_elem?}
use Rattle.buffer_pool.specs.Buffer.{Buffer}
use Rattle.ring_model.specs.declared.states.Completion.{Completion}
use Rattle.ring_model.specs.declared.steps.ControlStep.TheVariants.{AskEnable, LookAnswered, AskDisable, LookAsked}
use Rattle.ring_model.specs.declared.steps.TxStep.TheVariants as tx
use Rattle.ring_model.specs.transmit.Ring.{TxRing, are_whole, carried, ends_posting, next_posting, tx_opening}
use Rattle.ring_model.specs.transmit.Frames.{MayFollow}
use Rattle.ring_model.specs.transmit.Agreement.{posting_word}
use Rattle.ring_model.specs.transmit.Steps.{tx_changed, tx_cleared, tx_settled}
use Rattle.ring_model.specs.shared.Frames.{Bytes, unfinished, ends_frame}
use Rattle.ring_model.specs.shared.Handshakes.{is_open, is_new, is_on, is_stopped, is_cleared, is_serving}
use Rattle.ring_model.specs.shared.Queue.{posted_count, completed_count, returned_count, next_head}
use Rattle.ring_laws.specs.States.{open_unanswered, stopped_answered, answered_closed, stopped_full}
use Rattle.ring_laws.specs.Queues.{control_fits_of, held_below, returned_completed, answered_has_ended, answered_unheld}
use Rattle.ring_model.specs.kept.Transmit.{IsTxKept}
use Rattle.ring_laws.specs.Frames.{may_follow_next}
use Rattle.ring_laws.specs.Rings.{tx_lawful}
use Rattle.shared_ring.specs.declared.events.DriverEvent.TheVariants as driver
use Rattle.shared_ring.specs.declared.events.ControllerEvent.TheVariants as controller
use Rattle.shared_ring.specs.Directions.{IsDirection, DriverMay, ControllerMay, TakesOut, Fetches}
use Rattle.shared_ring.specs.Slots.{home_at}
use Rattle.shared_ring.proofs.Controlling.{of-serving, of-completed, of-known, of-held, of-unheld, known-looked}
use Rattle.shared_ring.proofs.Items.{fetch_laid_out}
use Rattle.shared_ring.specs.Tables.{words_of}
use Rattle.shared_ring.proofs.Placing.{left-laid_out}
use Rattle.shared_ring.proofs.Laying.{home-full, unheld_item}
use Rattle.shared_ring.proofs.ControlStepping.{control_value}
use Rattle.tx_ring.specs.Form as form
use Rattle.tx_ring.specs.Form.{AreOf}
use Rattle.tx_ring.specs.Records.{Posting, TxDriven, TxControlled, DriverStep, ControllerStep, driving, controlling, posting_of}
use Rattle.tx_ring.specs.Rule.{IsLaidOutAs, filled, word_of_item, buffer_of_item, word_of}
use Rattle.tx_ring.proofs.Words.{posting-posted}
use Rattle.tx_ring.proofs.Placing.{keeps_it, unreclaimed, untold}
use Rattle.tx_ring.proofs.Moving.{post-laid_out, publish-laid_out, head_loaded-laid_out, ask_enable-laid_out, look_answered-laid_out, ask_disable-laid_out, reclaim-laid_out, clear_head-laid_out, clear_tail-laid_out, look-laid_out, can-fetch, fetch-laid_out, look_asked-laid_out, enable-laid_out, disable-laid_out, enabled, disabled}
use Rattle.tx_ring.proofs.Reporting.{opening-laid_out, beginning}

-- a posting that is there
pub posting_at : (ps : List Posting) (k : ℕ) → k < length ps → (p : Posting) × (slice_get ps k ≡ Some p)
posting_at [] k h = absurd (omega arith)
posting_at (p ∷ ps) zero h = (p, refl)
posting_at (p ∷ ps) (suc k) h = posting_at ps k (omega arith)

-- what is ready ends with a whole frame, so one that does not end its frame is not the last of it
take-snoc : (ps : List Posting) (k : ℕ) (p : Posting) → slice_get ps k ≡ Some p → are_whole (take (k + 1) ps) ≡ p.eop
take-snoc ps k p e = ap (λ (j : ℕ). are_whole (take j ps)) (let f : k + 1 ≡ suc k = omega arith in f) ∙ last_ends ps k p true e
  where
    last_ends : (xs : List Posting) (j : ℕ) (p : Posting) (w : Bool) → slice_get xs j ≡ Some p → ends_frame ends_posting w (take (suc j) xs) ≡ p.eop
    last_ends [] j p w e = absurd (none-some p e)
    last_ends (x ∷ xs) zero p w e = ap (λ (y : Posting). y.eop) (same_Some x p e)
    last_ends (x ∷ xs) (suc j) p w e = last_ends xs j p x.eop e

not-last : (ps : List Posting) (k known : ℕ) (p : Posting) → slice_get ps k ≡ Some p → k < known → are_whole (take known ps) ≡ true → p.eop ≡ false → k + 1 < known
not-last ps k known p e h whole none_ends = ⊎_elim
    (λ same. absurd (true≢false (sym whole ∙ ap (λ (j : ℕ). are_whole (take j ps)) same ∙ take-snoc ps k p e ∙ none_ends)))
    (λ ne. omega arith)
    (cases_eq known (k + 1))

module _ (n : ℕ) (mode : Completion) (q : TxRing Bytes) (ds : List DriverStep) (cs : List ControllerStep) (words : List ℕ) (homes : List (maybe.Option Buffer)) (pos : 1 < n) (l : IsLaidOutAs n mode q ds cs words homes) where
  abbrev d : TxDriven
  d = driving ds

  abbrev c : TxControlled
  c = controlling n cs

  abbrev k : IsTxKept Bytes n q
  k = keeps_it n mode q ds cs words homes pos l

  -- what a step asks of the record goes for the ring
  pub there : {Y : Type 0} (f : TxDriven → Y) → f d ≡ f (record { posted = q.ledger.posted; published = q.published; reaped = q.ledger.reaped; reclaimed = q.reclaimed; state = q.handshake.driver })
  there f = ap f l.driver

  pub state-is : (f : _ → Bool) (b : Bool) → f d.state ≡ b → f q.handshake.driver ≡ b
  state-is f b e = sym (there (λ x. f x.state)) ∙ e

  control-value : slice_index words (n + 2) ≤ 3
  control-value = let m = l.laid_out in let r = m.registers in let e = r.control in
      let v = control_value q.handshake.driver q.handshake.controller q.handshake.control q.handshake.seen (control_fits_of n ends_posting q.queue k.queue) in omega arith

  -- the buffer of the oldest item that is out is at home, where the controller does not hold it
  pub home-out : (p : ℕ) → p ≡ returned_count q.queue % n → returned_count q.queue < posted_count q.queue → (x : Posting) → (q.held ≡ true → ¬ (returned_count q.queue ≡ completed_count q.queue)) → slice_get q.ledger.posted (returned_count q.queue) ≡ Some x
      → get_elem? homes p ≡ some (some (filled x))
  home-out p at out x free is = let m = l.laid_out in let i = m.items in
      home-full homes p (filled x) (ap (home_at homes) at ∙ i.slots (returned_count q.queue) (omega arith) out ∙ unheld_item q.held (returned_count q.queue) (completed_count q.queue) _ free
      ∙ ap (λ (o : Option Posting). buffer_of_item o (slice_get q.ledger.completed (returned_count q.queue))) is)

  reclaim-may : (p : ℕ) → p ≡ (length d.reaped + d.reclaimed) % n → is_stopped d.state ≡ true → length d.reaped + d.reclaimed < length d.posted → TakesOut form.tx n mode d p homes (λ b. ds ++ driver.Reclaimed p b ∷ []) cs (slice_set words p 0)
  reclaim-may p at stopped more = let place : p ≡ returned_count q.queue % n = at ∙ there (λ y. (length y.reaped + y.reclaimed) % n) in let off = state-is is_stopped true stopped in
      let out : returned_count q.queue < posted_count q.queue = subst (λ (y : TxDriven). length y.reaped + y.reclaimed < length y.posted) l.driver more in
      let x = posting_at q.ledger.posted (returned_count q.queue) out in record {
        item = x.0;
        buf = filled x.0;
        home = home-out p place out x.0 (λ h f. both_ways q.held (answered_unheld n ends_posting q.queue k.queue (stopped_answered q.handshake.driver off)) h) x.1;
        there = subst (λ (y : TxDriven). slice_get y.posted (length y.reaped + y.reclaimed) ≡ Some x.0) (sym l.driver) x.1;
        is_of = refl;
        agrees = (tx_changed q tx.Reclaim, reclaim-laid_out n mode q ds cs words homes pos l (filled x.0) p place off out);
      }

  driver-may : DriverMay form.tx n mode ds cs words homes
  driver-may = let m = l.laid_out in let r = m.registers in record {
    post = λ p word b at opened room may. let x = may.item in let on = state-is is_open true opened in let un = unreclaimed n mode q ds cs words homes pos l (open_unanswered q.handshake.driver on) in
        let more : posted_count q.queue + 1 < returned_count q.queue + n = subst (λ (y : TxDriven). length y.posted + 1 < length y.reaped + y.reclaimed + n) l.driver room in (
          tx_changed q (tx.Post may.item),
          subst (λ (w : ℕ). IsLaidOutAs n mode (tx_changed q (tx.Post may.item)) (ds ++ driver.Posted p w b ∷ []) cs (slice_set words p w) (slice_set homes p (some b))) (sym may.word_is)
              (subst (λ (y : Buffer). IsLaidOutAs n mode (tx_changed q (tx.Post may.item)) (ds ++ driver.Posted p (word_of may.item) y ∷ []) cs (slice_set words p (word_of may.item)) (slice_set homes p (some y))) (sym may.buffer_is)
              (post-laid_out n mode q ds cs words homes pos l may.item p (at ∙ there (λ y. length y.posted % n)) on (omega arith) (subst (λ (y : TxDriven). MayFollow n (unfinished carried y.posted) may.item) l.driver may.follows))),
        );
    publish = λ t at opened whole. (tx_changed q tx.Publish, publish-laid_out n mode q ds cs words homes pos l t (at ∙ there (λ y. length y.posted % n)) (state-is is_open true opened) (sym (there (λ y. are_whole y.posted)) ∙ whole));
    ask_enable = λ new. (tx_changed q (tx.Control AskEnable), ask_enable-laid_out n mode q ds cs words homes pos l (state-is is_new true new));
    control = (control-value, (tx_changed q (tx.Control LookAnswered), look_answered-laid_out n mode q ds cs words homes pos l (slice_index words (n + 2)) r.control));
    ask_disable = λ on. (tx_changed q (tx.Control AskDisable), ask_disable-laid_out n mode q ds cs words homes pos l (state-is is_on true on));
    head = λ stopped. let off = state-is is_stopped true stopped in (
      (let o = k.queue in let a = stopped_answered q.handshake.driver off in
          let e = o.told (answered_has_ended n ends_posting q.queue k.queue a) (answered_closed q.handshake.driver a) (stopped_full q.handshake.driver off) in let z = o.size_is in let h = r.head in
          let b : completed_count q.queue % q.size < q.size = mod-lt (completed_count q.queue) (omega arith) in omega arith),
      (q, head_loaded-laid_out n mode q ds cs words homes pos l (slice_index words n) r.head off),
    );
    reclaim = reclaim-may;
    clear_head = λ stopped back. (tx_changed q tx.ClearHead, clear_head-laid_out n mode q ds cs words homes pos l (state-is is_stopped true stopped) (subst (λ (y : TxDriven). length y.reaped + y.reclaimed ≡ length y.posted) l.driver back));
    clear_tail = λ more cleared. (tx_cleared q true, clear_tail-laid_out n mode q ds cs words homes pos l more (state-is is_cleared true cleared));
  }

  -- The controller's side
  pub serving-there : is_serving c.state ≡ true → is_serving q.handshake.controller ≡ true
  serving-there e = of-serving (word_of_item q) buffer_of_item ends_posting n q.queue k.queue q.owed c l.controller e

  pub completed-there : is_serving c.state ≡ true → c.completed ≡ q.ledger.completed
  completed-there e = of-completed (word_of_item q) buffer_of_item ends_posting n q.queue k.queue q.owed c l.controller e

  pub known-there : is_serving c.state ≡ true → c.known ≡ q.known
  known-there e = of-known (word_of_item q) buffer_of_item ends_posting n q.queue k.queue q.owed c l.controller e

  -- a posted item has its buffer
  full-there : completed_count q.queue < posted_count q.queue → ¬ (buffer_of_item (next_posting q) None ≡ None)
  full-there h e = let p = posting_at q.ledger.posted (completed_count q.queue) h in none-some (filled p.0) (sym e ∙ ap (λ (o : Option Posting). buffer_of_item o None) p.1)

  unheld-there : c.held ≡ None → q.held ≡ false
  unheld-there e = of-unheld (word_of_item q) buffer_of_item ends_posting n q.queue k.queue q.owed c l.controller full-there e

  -- the buffer that is held is that of the next posting
  pub held-there : (b : Buffer) → c.held ≡ Some b → (q.held ≡ true) × ((p : Posting) × ((next_posting q ≡ Some p) × (b ≡ filled p)))
  held-there b e = let h = of-held (word_of_item q) buffer_of_item ends_posting n q.queue k.queue q.owed c l.controller b e in
      let p = posting_at q.ledger.posted (completed_count q.queue) (held_below n ends_posting q.queue k.queue h.0) in
      (h.0, (p.0, (p.1, same_Some b (filled p.0) (sym h.1 ∙ ap (λ (o : Option Posting). buffer_of_item o None) p.1))))

  tail-there : slice_index words (n + 1) ≡ q.published % n
  tail-there = let m = l.laid_out in let r = m.registers in let o = k.queue in r.tail ∙ ap (λ (j : ℕ). q.published % j) o.size_is

  -- the word of the next posting, which is not reported yet
  word-there : (p : Posting) → next_posting q ≡ Some p → completed_count q.queue < posted_count q.queue → is_serving q.handshake.controller ≡ true → slice_index words (completed_count q.queue % n) ≡ word_of p
  word-there p is more serving = let m = l.laid_out in let i = m.items in let r = k.reports in let a = r.reported_sent in
      i.words (completed_count q.queue) (returned_completed n ends_posting q.queue k.queue serving) more
      ∙ ap (λ (o : Option Posting). word_of_item q (completed_count q.queue) o (slice_get q.ledger.completed (completed_count q.queue))) is
      ∙ ap (λ (t : Bool). posting_word length filled t p) (untold q (completed_count q.queue) a)

  -- B4
  module _ (place : ℕ) (at : place ≡ length c.completed % n) (serving : is_serving c.state ≡ true) (some_known : length c.completed < c.known) (unheld : c.held ≡ None) (paid : c.barred ≡ false) where
    on : is_serving q.handshake.controller ≡ true
    on = serving-there serving

    at-item : place ≡ completed_count q.queue % n
    at-item = at ∙ ap (λ (xs : List Posting). length xs % n) (completed-there serving)

    below : completed_count q.queue < q.known
    below = subst (λ (j : ℕ). completed_count q.queue < j) (known-there serving) (subst (λ (xs : List Posting). length xs < c.known) (completed-there serving) some_known)

    none_owed : q.owed ≡ false
    none_owed = let m = l.controller in sym m.barred ∙ paid

    posted-more : completed_count q.queue < posted_count q.queue
    posted-more = let o = k.queue.order in let b = below in let a = o.known_published on in let d = o.published_posted in omega arith

    fetched-may : (p : Posting) → next_posting q ≡ Some p → Fetches form.tx n mode c place homes ds (λ b. cs ++ controller.Fetched place (slice_index words place) b ∷ []) words
    fetched-may p is = let follows = may_follow_next n q.ledger.completed q.ledger.posted p k.sent is l.follow in let few = follows.follows in let small = few.few_bytes in
        let m = l.laid_out in let i = m.items in
        let word : slice_index words place ≡ word_of p = ap (slice_index words) at-item ∙ word-there p is posted-more on in
        let can = can-fetch n mode q ds cs words homes pos l on (unheld-there unheld) below none_owed in let t = and_parts _ (not q.owed) can in
        let same : posting_of (slice_index words place) (filled p) ≡ p = ap (λ (w : ℕ). posting_of w (filled p)) word ∙ posting-posted p small in record {
          buf = filled p;
          home = home-full homes place (filled p)
              (ap (home_at homes) at-item ∙ fetch_laid_out (word_of_item q) buffer_of_item n ends_posting q.queue k.queue (slice_index words) (home_at homes) i t.0 ∙ ap (λ (o : Option Posting). buffer_of_item o None) is);
          fetched = record {
            word_is = word ∙ sym (ap (λ (y : Posting). word_of y) same);
            real = refl;
            follows = subst (λ (xs : List Posting). MayFollow n (unfinished carried xs) (posting_of (slice_index words place) (filled p))) (sym (completed-there serving))
                (subst (λ (y : Posting). MayFollow n (unfinished carried q.ledger.completed) y) (sym same) follows);
            ready = λ e. let sv = completed-there serving in let kn = known-there serving in
                let h = not-last q.ledger.posted (completed_count q.queue) q.known p is below (l.ready on) (ap (λ (y : Posting). y.eop) (sym same) ∙ e) in
                subst (λ (j : ℕ). length c.completed + 1 < j) (sym kn) (subst (λ (xs : List Posting). length xs + 1 < q.known) (sym sv) h);
          };
          agrees = (
            tx_changed q tx.Fetch,
            subst (λ (w : ℕ). IsLaidOutAs n mode (tx_changed q tx.Fetch) ds (cs ++ controller.Fetched place w (filled p) ∷ []) words (slice_set homes place none)) (sym word)
                (fetch-laid_out n mode q ds cs words homes pos l p place at-item on (unheld-there unheld) below none_owed is),
          );
        }

    fetch-may : Fetches form.tx n mode c place homes ds (λ b. cs ++ controller.Fetched place (slice_index words place) b ∷ []) words
    fetch-may = let p = posting_at q.ledger.posted (completed_count q.queue) posted-more in fetched-may p.0 p.1

  settled-there : is_serving c.state ≡ true → c.held ≡ None → c.head ≡ length c.completed % n → are_whole c.completed ≡ true → c.barred ≡ false → tx_settled q ≡ true
  settled-there serving unheld head whole paid = let m = l.controller in let o = k.queue in let sv = completed-there serving in
      and_from _ _ (and_from _ _ (and_from _ _ (ap not (unheld-there unheld)) (eq-eqb q.head (next_head q.queue)
      (sym (m.head (serving-there serving)) ∙ head ∙ ap (λ (xs : List Posting). length xs % n) sv ∙ ap (λ (j : ℕ). completed_count q.queue % j) (sym o.size_is))))
      (sym (ap are_whole sv) ∙ whole)) (ap not (sym m.barred ∙ paid))

  controller-may : ControllerMay form.tx n mode ds cs words homes
  controller-may = let u = l.laid_out in let r = u.registers in let m = l.controller in record {
    look = λ serving. let there = serving-there serving in (
      (let b : q.published % n < n = mod-lt q.published (omega arith) in let t = tail-there in omega arith),
      (let o = k.queue.order in let b = o.known_published there in let a = known-there serving in
          let e = known-looked (word_of_item q) buffer_of_item ends_posting n q.queue k.queue q.owed c l.controller (slice_index words (n + 1)) tail-there there in
          subst (λ (x : ℕ). c.known ≤ x) (sym e) (omega arith)),
      (tx_changed q tx.Look, look-laid_out n mode q ds cs words homes pos l (slice_index words (n + 1)) tail-there there),
    );
    fetch = fetch-may;
    request = (control-value, (tx_changed q (tx.Control LookAsked), look_asked-laid_out n mode q ds cs words homes pos l (slice_index words (n + 2)) r.control));
    enable = λ seen idle. (enabled n mode q ds cs words homes pos l, enable-laid_out n mode q ds cs words homes pos l (sym m.seen ∙ seen) (sym (ap is_serving m.state) ∙ idle));
    disable = λ seen serving unheld head may. (disabled n mode q ds cs words homes pos l, disable-laid_out n mode q ds cs words homes pos l (sym m.seen ∙ seen) (serving-there serving) (settled-there serving unheld head may.0 may.1));
  }

  both : AreOf n ds cs
  both = let o = k.queue in record { queue = q; reachable = l.reachable; driver = l.driver; controller = l.controller; learnt = l.learnt; lawful = tx_lawful n q k; size_is = o.size_is }

  left : (slots : List Buffer) → ((j : ℕ) (y : Buffer) → get_elem? homes j ≡ some (some y) → get_elem? slots j ≡ some y) → (form.tx).LeftIn n ds cs slots
  unfolding both
  left slots found_back = record { of_one_ring = both; buffers = left-laid_out (word_of_item q) buffer_of_item n (words_of n mode) q.queue 0 words homes l.laid_out slots found_back }

-- the transmit direction
pub tx-lawful : IsDirection form.tx
tx-lawful = record {
  opens = λ n mode pos reports. (tx_opening n (beginning mode), λ words homes w c. opening-laid_out n mode words homes pos w c);
  allowed = λ n mode q ds cs words homes pos l. record {
    driver = driver-may n mode q ds cs words homes pos l;
    controller = controller-may n mode q ds cs words homes pos l;
    agree = both n mode q ds cs words homes pos l;
    left = left n mode q ds cs words homes pos l;
  };
}
