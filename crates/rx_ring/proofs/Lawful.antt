-- What the agreement of a receive ring allows each end to do.
use Rattle.std.proofs.Common.{◌≡◌, ℕ, ◌+◌, ◌%◌, ◌<◌, ◌≤◌, Bool, true, false, not, List, [], ◌∷◌, ◌++◌, length, set, Option, Some, None, sym, refl, ap, ◌∙◌, subst, replicate, arith, mod-lt}
use Rattle.std.specs.Prelude.{slice_get, slice_index, slice_set, ◌==◌}
use Rattle.std.proofs.lemmas.Bool.{and_parts, and_from, eq-eqb, both_ways, true≢false, false≢true}
use Rattle.std.proofs.lemmas.Option.{none-some, same_Some, slice_get_within, slice_get_past}
use mathlib.Core.Option as maybe
use mathlib.Core.Option.{some, none}
use lib.ListN.{get_elem?}
use Rattle.buffer_pool.specs.Buffer.{Buffer, buffer}
use Rattle.ring_model.specs.declared.states.Completion.{Completion}
use Rattle.ring_model.specs.declared.states.Completion.TheVariants.{Status}
use Rattle.ring_model.specs.declared.steps.ControlStep.TheVariants.{AskEnable, LookAnswered, AskDisable, LookAsked}
use Rattle.ring_model.specs.declared.steps.RxStep.TheVariants as rx
use Rattle.ring_model.specs.receive.Ring.{RxRing, due, rx_opening}
use Rattle.ring_model.specs.shared.Segments.{Segment, ends_segment, piece_of}
use Rattle.ring_model.specs.receive.Agreement.{rx_word}
use Rattle.ring_model.specs.receive.Steps.{rx_changed, rx_settled, took}
use Rattle.ring_model.specs.shared.Frames.{Bytes, Follows, unfinished, ends_frame}
use Rattle.ring_model.specs.shared.Handshakes.{is_open, is_live, is_new, is_on, is_stopped, is_cleared, is_serving}
use Rattle.ring_model.specs.shared.Queue.{posted_count, completed_count, reaped_count, returned_count, next_head}
use Rattle.ring_laws.specs.Rings.{rx_lawful}
use Rattle.ring_laws.specs.Lists.{next_number, number_at}
use Rattle.ring_laws.specs.Frames.{follows_next}
use Rattle.ring_laws.specs.States.{live_unanswered, stopped_answered, answered_closed, stopped_full}
use Rattle.ring_laws.specs.Queues.{control_fits_of, fetch_facts, held_below, returned_completed, answered_has_ended, answered_unheld}
use Rattle.shared_ring.specs.declared.events.DriverEvent.TheVariants as driver
use Rattle.shared_ring.specs.declared.events.ControllerEvent.TheVariants as controller
use Rattle.shared_ring.specs.Directions.{IsDirection, DriverMay, ControllerMay, Agrees, TakesOut, Fetches}
use Rattle.shared_ring.specs.Own.{Out}
use Rattle.shared_ring.specs.Slots.{home_at}
use Rattle.shared_ring.specs.Tables.{words_of}
use Rattle.shared_ring.proofs.Controlling.{of-serving, of-completed, of-known, of-held, of-unheld, known-looked}
use Rattle.shared_ring.proofs.Items.{fetch_laid_out}
use Rattle.shared_ring.proofs.Placing.{left-laid_out}
use Rattle.shared_ring.proofs.Laying.{set-same, home-full, unheld_item, index_there}
use Rattle.shared_ring.proofs.ControlStepping.{control_value}
use Rattle.rx_ring.specs.Form as form
use Rattle.rx_ring.specs.Form.{AreOf}
use Rattle.rx_ring.specs.Plays.{takes, finds_none, is_done}
use Rattle.rx_ring.specs.Plays as plays
use Rattle.rx_ring.specs.Records.{RxDriven, RxControlled, DriverStep, ControllerStep, driving, controlling, eop_of}
use Rattle.rx_ring.specs.Rule.{IsLaidOutAs, word_of_item, buffer_of_item}
use Rattle.rx_ring.proofs.Words.{eop_of-rx_word, rx_word-odd}
use Rattle.rx_ring.proofs.Moving.{keeps_it, unreclaimed, post-laid_out, publish-laid_out, not_done-laid_out, take-laid_out, head_loaded-laid_out, ask_enable-laid_out, look_answered-laid_out, ask_disable-laid_out, reclaim-laid_out, clear_head-laid_out, clear_tail-laid_out}
use Rattle.rx_ring.proofs.Moving.{look-laid_out, can-fetch, fetch-laid_out, look_asked-laid_out, enable-laid_out, disable-laid_out, enabled, disabled, opening-laid_out}

-- a posted item has its buffer
pub posted-some : (x : Option ℕ) (k : ℕ) → x ≡ Some k → ¬ (buffer_of_item x None ≡ None)
posted-some x k e f = none-some (buffer k []) (sym f ∙ ap (λ (o : Option ℕ). buffer_of_item o None) e)

-- what lies there is an empty buffer with the number that was posted
laid_out-number : (x : Option ℕ) (k : ℕ) (b : Buffer) → x ≡ Some k → buffer_of_item x None ≡ Some b → b ≡ buffer k []
laid_out-number x k b e f = sym (same_Some (buffer k []) b (sym (ap (λ (o : Option ℕ). buffer_of_item o None) e) ∙ f))

module _ (n : ℕ) (mode : Completion) (ok : mode ≡ Status) (q : RxRing Bytes) (ds : List DriverStep) (cs : List ControllerStep) (words : List ℕ) (homes : List (maybe.Option Buffer)) (pos : 1 < n) (l : IsLaidOutAs n q ds cs words homes) where
  abbrev d : RxDriven
  d = driving ds

  abbrev c : RxControlled
  c = controlling n cs

  -- the same ring, or a later one
  pub lie : (p : RxRing Bytes) (es : List DriverStep) (fs : List ControllerStep) (ws : List ℕ) (hs : List (maybe.Option Buffer)) → IsLaidOutAs n p es fs ws hs → Agrees form.rx n mode es fs ws hs
  lie p es fs ws hs m = (p, record { reports = ok; laid_out = m })

  of_record : {Y : Type 0} (f : RxDriven → Y) → f d ≡ f (record { posted = q.ledger.posted; published = q.published; reaped = q.ledger.reaped; reclaimed = q.reclaimed; state = q.handshake.driver })
  of_record f = ap f l.driver

  pub state-is : (f : _ → Bool) (b : Bool) → f d.state ≡ b → f q.handshake.driver ≡ b
  state-is f b e = sym (of_record (λ x. f x.state)) ∙ e

  control-value : slice_index words (n + 2) ≤ 3
  control-value = let m = l.laid_out in let r = m.registers in let e = r.control in let k = keeps_it n q ds cs words homes pos l in
      let v = control_value q.handshake.driver q.handshake.controller q.handshake.control q.handshake.seen (control_fits_of n ends_segment q.queue k.queue) in omega arith

  module _ (p : ℕ) (at : p ≡ (length d.reaped + d.reclaimed) % n) (more : length d.reaped + d.reclaimed < length d.posted) where
    place : p ≡ returned_count q.queue % n
    place = at ∙ of_record (λ y. (length y.reaped + y.reclaimed) % n)

    out : returned_count q.queue < posted_count q.queue
    out = subst (λ (y : RxDriven). length y.reaped + y.reclaimed < length y.posted) l.driver more

    -- the buffer of the oldest item that is out is at home, where the controller does not hold it
    home-out : (b : Buffer) → (q.held ≡ true → ¬ (returned_count q.queue ≡ completed_count q.queue)) → buffer_of_item (slice_get q.ledger.posted (returned_count q.queue)) (slice_get q.ledger.completed (returned_count q.queue)) ≡ Some b
        → get_elem? homes p ≡ some (some b)
    home-out b free is = let m = l.laid_out in let i = m.items in let o = out in
        home-full homes p b (ap (home_at homes) place ∙ i.slots (returned_count q.queue) (omega arith) out ∙ unheld_item q.held (returned_count q.queue) (completed_count q.queue) _ free ∙ is)

    word-out : slice_index words p ≡ word_of_item (returned_count q.queue) (slice_get q.ledger.posted (returned_count q.queue)) (slice_get q.ledger.completed (returned_count q.queue))
    word-out = let m = l.laid_out in let i = m.items in ap (slice_index words) place ∙ i.words (returned_count q.queue) (omega arith) out

    -- A6
    module _ (live : is_live q.handshake.driver ≡ true) where
      back : returned_count q.queue ≡ reaped_count q.queue
      back = unreclaimed n q ds cs words homes pos l (live_unanswered q.handshake.driver live)

      due_at : due q ≡ slice_get q.ledger.completed (returned_count q.queue)
      due_at = ap (slice_get q.ledger.completed) (sym back)

      word-none : (x : Option ℕ) (y : Option (Segment Bytes)) → y ≡ None → word_of_item (returned_count q.queue) x y ≡ 0
      word-none x y e = ap (word_of_item (returned_count q.queue) x) e

      word-some : (x : Option ℕ) (y : Option (Segment Bytes)) (s : Segment Bytes) → y ≡ Some s → word_of_item (returned_count q.queue) x y ≡ rx_word (length s.payload) s.eop
      word-some x y s e = ap (word_of_item (returned_count q.queue) x) e

      undone-word : due q ≡ None → slice_index words p ≡ 0
      undone-word e = word-out ∙ word-none (slice_get q.ledger.posted (returned_count q.queue)) _ (sym due_at ∙ e)

      module _ (s : Segment Bytes) (e : due q ≡ Some s) where
        word-is : slice_index words p ≡ rx_word (length s.payload) s.eop
        word-is = word-out ∙ word-some (slice_get q.ledger.posted (returned_count q.queue)) _ s (sym due_at ∙ e)

        done-word : is_done (slice_index words p) ≡ true
        done-word = ap (λ (x : ℕ). x % 2 == 1) word-is ∙ ap (λ (x : ℕ). x == 1) (rx_word-odd (length s.payload) s.eop)

        eop-is : eop_of (slice_index words p) ≡ s.eop
        eop-is = ap eop_of word-is ∙ eop_of-rx_word (length s.payload) s.eop

        number-here : slice_get q.ledger.posted (reaped_count q.queue) ≡ Some s.number
        number-here = let k = keeps_it n q ds cs words homes pos l in number_at q.ledger.completed q.ledger.posted (reaped_count q.queue) s k.stored e

        laid_out-here : (x : Option ℕ) (y : Option (Segment Bytes)) → x ≡ Some s.number → y ≡ Some s → buffer_of_item x y ≡ Some (buffer s.number s.payload)
        laid_out-here x y f g = rw (f, g) refl

        home-is : get_elem? homes p ≡ some (some (buffer s.number s.payload))
        home-is = let below : reaped_count q.queue < completed_count q.queue = slice_get_within q.ledger.completed (reaped_count q.queue) s e in let b = back in
            home-out (buffer s.number s.payload) (λ h f. omega arith)
            (laid_out-here (slice_get q.ledger.posted (returned_count q.queue)) (slice_get q.ledger.completed (returned_count q.queue)) (ap (slice_get q.ledger.posted) back ∙ number-here) (sym due_at ∙ e))

        follows-is : Follows piece_of n (unfinished piece_of d.reaped) s.payload (eop_of (slice_index words p))
        follows-is = let k = keeps_it n q ds cs words homes pos l in
            subst (λ (x : Bool). Follows piece_of n (unfinished piece_of d.reaped) s.payload x) (sym eop-is)
            (subst (λ (y : RxDriven). Follows piece_of n (unfinished piece_of y.reaped) s.payload s.eop) (sym l.driver)
            (follows_next piece_of n q.ledger.reaped q.ledger.completed s k.taken e l.follow))

        out-taken : Out form.rx takes plays.TakesOut n mode ds p (slice_index words p) homes cs words
        out-taken = record {
          buf = buffer s.number s.payload;
          home = home-is;
          told = record {
            number = subst (λ (y : RxDriven). slice_get y.posted (length y.reaped) ≡ Some s.number) (sym l.driver) number-here;
            word = word-is ∙ ap (rx_word (length s.payload)) (sym eop-is);
            real = refl;
            follows = follows-is;
          };
          agrees = lie (took q (Some s)) (ds ++ takes n ds p (slice_index words p) (buffer s.number s.payload) ∷ []) cs words (slice_set homes p none)
              (subst (λ (ws : List ℕ). IsLaidOutAs n (took q (Some s)) (ds ++ takes n ds p (slice_index words p) (buffer s.number s.payload) ∷ []) cs ws (set homes p none)) (set-same words p)
              (take-laid_out n q ds cs words homes pos l s p (slice_index words p) e place live word-is));
        }

      pub undone : (o : Option (Segment Bytes)) → due q ≡ o → is_done (slice_index words p) ≡ false → Agrees form.rx n mode (ds ++ finds_none p (slice_index words p) ∷ []) cs words homes
      undone None e f = lie q (ds ++ finds_none p (slice_index words p) ∷ []) cs words homes (not_done-laid_out n q ds cs words homes pos l p (slice_index words p) e)
      undone (Some s) e f = absurd (true≢false (sym (done-word s e) ∙ f))

      pub found : (o : Option (Segment Bytes)) → due q ≡ o → is_done (slice_index words p) ≡ true → Out form.rx takes plays.TakesOut n mode ds p (slice_index words p) homes cs words
      found None e f = absurd (false≢true (sym (ap (λ (x : ℕ). x % 2 == 1) (undone-word e)) ∙ f))
      found (Some s) e f = out-taken s e

    -- C6
    module _ (stopped : is_stopped q.handshake.driver ≡ true) where
      unheld-here : q.held ≡ true → ¬ (returned_count q.queue ≡ completed_count q.queue)
      unheld-here h e = let k = keeps_it n q ds cs words homes pos l in both_ways q.held (answered_unheld n ends_segment q.queue k.queue (stopped_answered q.handshake.driver stopped)) h

      reclaimed : (b : Buffer) → buffer_of_item (slice_get q.ledger.posted (returned_count q.queue)) (slice_get q.ledger.completed (returned_count q.queue)) ≡ Some b → b ≡ buffer b.number b.bytes
          → slice_get q.ledger.posted (returned_count q.queue) ≡ Some b.number → TakesOut form.rx n mode d p homes (λ b. ds ++ driver.Reclaimed p b ∷ []) cs (slice_set words p 0)
      reclaimed b is real number = record {
        item = b.number;
        buf = b;
        home = home-out b unheld-here is;
        there = subst (λ (y : RxDriven). slice_get y.posted (length y.reaped + y.reclaimed) ≡ Some b.number) (sym l.driver) number;
        is_of = (refl, real);
        agrees = lie (rx_changed q rx.Reclaim) (ds ++ driver.Reclaimed p b ∷ []) cs (slice_set words p 0) (slice_set homes p none) (reclaim-laid_out n q ds cs words homes pos l b p place stopped out);
      }

      reclaim-any : (o : Option (Segment Bytes)) → slice_get q.ledger.completed (returned_count q.queue) ≡ o → TakesOut form.rx n mode d p homes (λ b. ds ++ driver.Reclaimed p b ∷ []) cs (slice_set words p 0)
      reclaim-any None e = let h = index_there q.ledger.posted (returned_count q.queue) out in
          reclaimed (buffer (slice_index q.ledger.posted (returned_count q.queue)) []) (rw (h, e) refl) refl h
      reclaim-any (Some s) e = let k = keeps_it n q ds cs words homes pos l in let h = number_at q.ledger.completed q.ledger.posted (returned_count q.queue) s k.stored e in
          reclaimed (buffer s.number s.payload) (rw (h, e) refl) refl h

  driver-may : DriverMay form.rx n mode ds cs words homes
  driver-may = let m = l.laid_out in let r = m.registers in record {
    post = λ p word b at opened room may. lie (rx_changed q (rx.Post b.number)) (ds ++ driver.Posted p word b ∷ []) cs (slice_set words p word) (slice_set homes p (some b))
        (subst (λ (w : ℕ). IsLaidOutAs n (rx_changed q (rx.Post b.number)) (ds ++ driver.Posted p w b ∷ []) cs (slice_set words p w) (set homes p (some b))) (sym may.0)
        (post-laid_out n q ds cs words homes pos l b p (at ∙ of_record (λ y. length y.posted % n)) (state-is is_open true opened) (subst (λ (y : RxDriven). length y.posted + 1 < length y.reaped + y.reclaimed + n) l.driver room) may.1));
    publish = λ t at opened may. lie (rx_changed q rx.Publish) (ds ++ driver.Published t ∷ []) cs (slice_set words (n + 1) t) homes (publish-laid_out n q ds cs words homes pos l t (at ∙ of_record (λ y. length y.posted % n)) (state-is is_open true opened));
    ask_enable = λ new. lie (rx_changed q (rx.Control AskEnable)) (ds ++ driver.AskedEnable ∷ []) cs (slice_set words (n + 2) 1) homes (ask_enable-laid_out n q ds cs words homes pos l (state-is is_new true new));
    control = (
      control-value,
      lie (rx_changed q (rx.Control LookAnswered)) (ds ++ driver.LoadedControl (slice_index words (n + 2)) ∷ []) cs words homes (look_answered-laid_out n q ds cs words homes pos l (slice_index words (n + 2)) r.control),
    );
    ask_disable = λ on. lie (rx_changed q (rx.Control AskDisable)) (ds ++ driver.AskedDisable ∷ []) cs (slice_set words (n + 2) 3) homes (ask_disable-laid_out n q ds cs words homes pos l (state-is is_on true on));
    head = λ stopped. let off = state-is is_stopped true stopped in (
      (let k = keeps_it n q ds cs words homes pos l in let o = k.queue in let a = stopped_answered q.handshake.driver off in
          let e = o.told (answered_has_ended n ends_segment q.queue k.queue a) (answered_closed q.handshake.driver a) (stopped_full q.handshake.driver off) in let z = o.size_is in let h = r.head in
          let b : completed_count q.queue % q.size < q.size = mod-lt (completed_count q.queue) (omega arith) in omega arith),
      lie q (ds ++ driver.LoadedHead (slice_index words n) ∷ []) cs words homes (head_loaded-laid_out n q ds cs words homes pos l (slice_index words n) r.head off),
    );
    reclaim = λ p at stopped more. reclaim-any p at more (state-is is_stopped true stopped) (slice_get q.ledger.completed (returned_count q.queue)) refl;
    clear_head = λ stopped back. lie (rx_changed q rx.ClearHead) (ds ++ driver.ClearedHead ∷ []) cs (slice_set words n 0) homes
        (clear_head-laid_out n q ds cs words homes pos l (state-is is_stopped true stopped) (subst (λ (y : RxDriven). length y.reaped + y.reclaimed ≡ length y.posted) l.driver back));
    clear_tail = λ may cleared. lie (rx_changed q rx.ClearTail) (ds ++ driver.ClearedTail ∷ []) cs (slice_set words (n + 1) 0) homes (clear_tail-laid_out n q ds cs words homes pos l (state-is is_cleared true cleared));
  }

  -- The controller's side
  pub serving-there : is_serving c.state ≡ true → is_serving q.handshake.controller ≡ true
  serving-there e = let k = keeps_it n q ds cs words homes pos l in of-serving word_of_item buffer_of_item ends_segment n q.queue k.queue q.still c l.controller e

  pub completed-there : is_serving c.state ≡ true → c.completed ≡ q.ledger.completed
  completed-there e = let k = keeps_it n q ds cs words homes pos l in of-completed word_of_item buffer_of_item ends_segment n q.queue k.queue q.still c l.controller e

  known-there : is_serving c.state ≡ true → c.known ≡ q.known
  known-there e = let k = keeps_it n q ds cs words homes pos l in of-known word_of_item buffer_of_item ends_segment n q.queue k.queue q.still c l.controller e

  pub posted-there : completed_count q.queue < posted_count q.queue → slice_get q.ledger.posted (completed_count q.queue) ≡ Some (slice_index q.ledger.posted (completed_count q.queue))
  posted-there h = next_number q.ledger.completed q.ledger.posted h

  pub unheld-there : c.held ≡ None → q.held ≡ false
  unheld-there e = let k = keeps_it n q ds cs words homes pos l in of-unheld word_of_item buffer_of_item ends_segment n q.queue k.queue q.still c l.controller
      (λ h. posted-some (slice_get q.ledger.posted (completed_count q.queue)) (slice_index q.ledger.posted (completed_count q.queue)) (posted-there h)) e

  pub held-there : (b : Buffer) → c.held ≡ Some b → (q.held ≡ true) × (b ≡ buffer (slice_index q.ledger.posted (completed_count q.queue)) [])
  held-there b e = let k = keeps_it n q ds cs words homes pos l in let h = of-held word_of_item buffer_of_item ends_segment n q.queue k.queue q.still c l.controller b e in
      (h.0, laid_out-number (slice_get q.ledger.posted (completed_count q.queue)) (slice_index q.ledger.posted (completed_count q.queue)) b (posted-there (held_below n ends_segment q.queue k.queue h.0)) h.1)

  pub serve-there : (p : ℕ) → p ≡ length c.completed % n → is_serving c.state ≡ true → p ≡ completed_count q.queue % n
  serve-there p at serving = at ∙ ap (λ (xs : List (Segment Bytes)). length xs % n) (completed-there serving)

  tail-there : slice_index words (n + 1) ≡ q.published % n
  tail-there = let m = l.laid_out in let r = m.registers in let k = keeps_it n q ds cs words homes pos l in let o = k.queue in r.tail ∙ ap (λ (j : ℕ). q.published % j) o.size_is

  fetch-may : (p : ℕ) → p ≡ length c.completed % n → is_serving c.state ≡ true → length c.completed < c.known → c.held ≡ None → c.barred ≡ false
      → Fetches form.rx n mode c p homes ds (λ b. cs ++ controller.Fetched p (slice_index words p) b ∷ []) words
  fetch-may p at serving some_known unheld moving = let k = keeps_it n q ds cs words homes pos l in let m = l.controller in let u = l.laid_out in let i = u.items in
      let there = serving-there serving in let sv = completed-there serving in let kn = known-there serving in let spot = serve-there p at serving in
      let more : completed_count q.queue < q.known = subst (λ (j : ℕ). completed_count q.queue < j) kn (subst (λ (xs : List (Segment Bytes)). length xs < c.known) sv some_known) in
      let still : q.still ≡ false = sym m.barred ∙ moving in
      let can = can-fetch n q ds cs words homes pos l there (unheld-there unheld) more still in
      let t = and_parts _ (not q.still) can in let f = fetch_facts n ends_segment q.queue k.queue t.0 in
      let is : buffer_of_item (slice_get q.ledger.posted (completed_count q.queue)) None ≡ Some (buffer (slice_index q.ledger.posted (completed_count q.queue)) []) = ap (λ (o : Option ℕ). buffer_of_item o None) (posted-there f.2) in record {
        buf = buffer (slice_index q.ledger.posted (completed_count q.queue)) [];
        home = home-full homes p (buffer (slice_index q.ledger.posted (completed_count q.queue)) [])
            (ap (home_at homes) spot ∙ fetch_laid_out word_of_item buffer_of_item n ends_segment q.queue k.queue (slice_index words) (home_at homes) i t.0 ∙ is);
        fetched = (
          ap (slice_index words) spot ∙ i.words (completed_count q.queue) (returned_completed n ends_segment q.queue k.queue there) f.2
              ∙ ap (word_of_item (completed_count q.queue) (slice_get q.ledger.posted (completed_count q.queue))) (slice_get_past q.ledger.completed (completed_count q.queue) (omega arith)),
          refl,
        );
        agrees = lie (rx_changed q rx.Fetch) ds (cs ++ controller.Fetched p (slice_index words p) (buffer (slice_index q.ledger.posted (completed_count q.queue)) []) ∷ []) words (slice_set homes p none)
            (fetch-laid_out n q ds cs words homes pos l p (slice_index words p) (buffer (slice_index q.ledger.posted (completed_count q.queue)) []) spot there (unheld-there unheld) more still is);
      }

  settled-there : is_serving c.state ≡ true → c.held ≡ None → c.head ≡ length c.completed % n → ends_frame ends_segment true c.completed ≡ true → rx_settled q ≡ true
  settled-there serving unheld head whole = let m = l.controller in let k = keeps_it n q ds cs words homes pos l in let o = k.queue in let sv = completed-there serving in
      and_from _ _ (and_from _ _ (ap not (unheld-there unheld)) (eq-eqb q.head (next_head q.queue)
      (sym (m.head (serving-there serving)) ∙ head ∙ ap (λ (xs : List (Segment Bytes)). length xs % n) sv ∙ ap (λ (j : ℕ). completed_count q.queue % j) (sym o.size_is))))
      (sym (ap (ends_frame ends_segment true) sv) ∙ whole)

  controller-may : ControllerMay form.rx n mode ds cs words homes
  controller-may = let u = l.laid_out in let r = u.registers in let m = l.controller in record {
    look = λ serving. let k = keeps_it n q ds cs words homes pos l in let there = serving-there serving in (
      (let b : q.published % n < n = mod-lt q.published (omega arith) in let t = tail-there in omega arith),
      (let o = k.queue.order in let b = o.known_published there in let a = known-there serving in
          let e = known-looked word_of_item buffer_of_item ends_segment n q.queue k.queue q.still c l.controller (slice_index words (n + 1)) tail-there there in
          subst (λ (x : ℕ). c.known ≤ x) (sym e) (omega arith)),
      lie (rx_changed q rx.Look) ds (cs ++ controller.Looked (slice_index words (n + 1)) ∷ []) words homes (look-laid_out n q ds cs words homes pos l (slice_index words (n + 1)) tail-there there),
    );
    fetch = fetch-may;
    request = (
      control-value,
      lie (rx_changed q (rx.Control LookAsked)) ds (cs ++ controller.LoadedRequest (slice_index words (n + 2)) ∷ []) words homes (look_asked-laid_out n q ds cs words homes pos l (slice_index words (n + 2)) r.control),
    );
    enable = λ seen idle. lie (enabled n q ds cs words homes pos l) ds (cs ++ controller.Enabled ∷ []) (slice_set words (n + 2) 2) homes
        (enable-laid_out n q ds cs words homes pos l (sym m.seen ∙ seen) (sym (ap is_serving m.state) ∙ idle));
    disable = λ seen serving unheld head whole. lie (disabled n q ds cs words homes pos l) ds (cs ++ controller.Disabled ∷ []) (slice_set words (n + 2) 0) homes
        (disable-laid_out n q ds cs words homes pos l (sym m.seen ∙ seen) (serving-there serving) (settled-there serving unheld head whole));
  }

  both : AreOf n ds cs
  both = let k = keeps_it n q ds cs words homes pos l in let o = k.queue in record { queue = q; reachable = l.reachable; driver = l.driver; controller = l.controller; learnt = l.learnt; lawful = rx_lawful n q k; size_is = o.size_is }

  left : (slots : List Buffer) → ((k : ℕ) (y : Buffer) → get_elem? homes k ≡ some (some y) → get_elem? slots k ≡ some y) → (form.rx).LeftIn n ds cs slots
  unfolding both
  left slots found_back = record { of_one_ring = both; buffers = left-laid_out word_of_item buffer_of_item n (n + 4) q.queue q.quiet words homes l.laid_out slots found_back }

-- the receive direction
pub rx-lawful : IsDirection form.rx
rx-lawful = record {
  opens = λ n mode pos reports. (rx_opening n false, λ words homes w c. record { reports = reports; laid_out = opening-laid_out n words homes pos (w ∙ ap (λ (m : Completion). replicate (words_of n m) 0) reports) c });
  allowed = λ n mode q ds cs words homes pos l. record {
    driver = driver-may n mode l.reports q ds cs words homes pos l.laid_out;
    controller = controller-may n mode l.reports q ds cs words homes pos l.laid_out;
    agree = both n mode l.reports q ds cs words homes pos l.laid_out;
    left = left n mode l.reports q ds cs words homes pos l.laid_out;
  };
}
