-- Words and slots that lie as a queue has them lie as the queue after a step has them, once the step is made.
use Rattle.std.proofs.Common.{◌≡◌, ℕ, ◌+◌, ◌%◌, ◌<◌, ◌≤◌, Bool, true, false, not, List, length, set, Option, Some, None, sym, refl, ap, ◌∙◌, subst, ⊎_elim, ◌⊎◌, inl, inr, arith, if◌then◌else◌, mod-lt, length-set, mod-eq_of_lt}
use Rattle.std.specs.Prelude.{slice_get, slice_index, slice_set, ◌==◌}
use Rattle.std.proofs.lemmas.Bool.{and_parts, both_ways, true≢false, false≢true}
use mathlib.Core.Option as maybe
use mathlib.Core.Option.{some, none}
use lib.ListN.{get_elem?}
use Rattle.buffer_pool.specs.Buffer.{Buffer}
use Rattle.ring_model.specs.declared.states.DriverState.{DriverState}
use Rattle.ring_model.specs.declared.states.DriverState.TheVariants.{New, Asked, On, Stopping, Stopped, Cleared, Tailed}
use Rattle.ring_model.specs.declared.handshake.Handshake.{Handshake}
use Rattle.ring_model.specs.declared.steps.ControlStep.TheVariants.{AskEnable, LookAsked, LookAnswered, AskDisable}
use Rattle.ring_model.specs.shared.Handshakes.{is_open, is_answered, is_serving, is_new, is_cleared, is_tailed, enable, disable, learned}
use Rattle.ring_model.specs.shared.QueueSteps.{Post, Publish, Look, Fetch, Complete, Head, Reap, Controls, Reclaim, ClearHead, ClearTail, Renew}
use Rattle.ring_model.specs.shared.Queue.{Queue, posted_count, completed_count, returned_count, may, by}
use Rattle.ring_model.specs.shared.Agreement.{HasItems}
use Rattle.shared_ring.specs.Registers.{Registers, HasRegisters, registers_of}
use Rattle.ring_model.specs.kept.Writes.{Writes}
use Rattle.ring_laws.specs.Places.{slice_index-writes}
use Rattle.ring_model.specs.kept.Queues.{IsKept}
use Rattle.ring_laws.specs.States.{control_steps-disable, serving_unanswered}
use Rattle.ring_laws.specs.Queues.{control_fits_of}
use Rattle.shared_ring.specs.Slots.{home_at}
use Rattle.shared_ring.specs.LaidOut.{is_early, IsLaidOutIn, AllLeft}
use Rattle.shared_ring.proofs.Laying.{registers-stay, registers-head, registers-tail, registers-control, registers-quiet, descriptors-stay, home-reaped, home-taken, home-left, home-full, unheld_item}
use Rattle.shared_ring.proofs.Items.{items-read, items-post, items-fetch, items-complete, items-reap, items-reclaim, items-renew}

-- what a driver's state tells of an epoch that has not begun
early_either : (d : DriverState) → is_early d ≡ true → (is_open d ≡ true) ⊎ (is_answered d ≡ true)
early_either New e = inl refl
early_either Asked e = inl refl
early_either Cleared e = inr refl
early_either Tailed e = inr refl
early_either On e = absurd (false≢true e)
early_either Stopping e = absurd (false≢true e)
early_either Stopped e = absurd (false≢true e)

early_new : (d : DriverState) → is_new d ≡ true → is_early d ≡ true
early_new New e = refl
early_new _ e = absurd (false≢true e)

early_cleared : (d : DriverState) → is_cleared d ≡ true → is_early d ≡ true
early_cleared Cleared e = refl
early_cleared _ e = absurd (false≢true e)

early_tailed : (d : DriverState) → is_tailed d ≡ true → is_early d ≡ true
early_tailed Tailed e = refl
early_tailed _ e = absurd (false≢true e)

early_learned : (d : DriverState) (v : ℕ) → is_early (learned d v) ≡ true → is_early d ≡ true
early_learned New v e = refl
early_learned Asked v e = refl
early_learned On v e = e
early_learned Stopping v e = stopping (v == 0) e
  where
    stopping : (b : Bool) → is_early (if b then Stopped else Stopping) ≡ true → is_early Stopping ≡ true
    stopping true f = absurd (false≢true f)
    stopping false f = absurd (false≢true f)
early_learned Stopped v e = e
early_learned Cleared v e = refl
early_learned Tailed v e = refl

module _ {Posted Completed Reaped : Type 0} (word_of_item : ℕ → Option Posted → Option Completed → ℕ) (buffer_of_item : Option Posted → Option Completed → Option Buffer) (ends : Completed → Bool) (n m : ℕ)
    (q : Queue Posted Completed Reaped) (k : IsKept n ends q) (quiet : ℕ) (words : List ℕ) (homes : List (maybe.Option Buffer)) (l : IsLaidOutIn {Reaped = Reaped} word_of_item buffer_of_item n m q quiet words homes) (big : n + 4 ≤ m) where
  pos : 0 < n
  pos = let some = k.places in omega arith

  room : n + 4 ≤ length words
  room = let wc = l.word_count in omega arith

  -- a place of the ring has a word and a slot
  below : (p i : ℕ) → p ≡ i % n → p < n
  below p i e = let s : i % n < n = mod-lt i pos in omega arith

  word-writes : (p i w : ℕ) → p ≡ i % n → Writes n (slice_index words) (slice_index (slice_set words p w)) (i % n) w
  word-writes p i w e = subst (λ (j : ℕ). Writes n (slice_index words) (slice_index (slice_set words p w)) j w) e (slice_index-writes words n p w (let b = below p i e in let r = room in omega arith))

  slot-in : (p i : ℕ) → p ≡ i % n → p < length homes
  slot-in p i e = let b = below p i e in let c = l.slot_count in omega arith

  slot-reaped : (p i : ℕ) (b : Buffer) → p ≡ i % n → Writes n (home_at homes) (home_at (set homes p (some b))) (i % n) (Some b)
  slot-reaped p i b e = subst (λ (j : ℕ). Writes n (home_at homes) (home_at (set homes p (some b))) j (Some b)) e (home-reaped homes n p b (slot-in p i e))

  slot-taken : (p i : ℕ) → p ≡ i % n → Writes n (home_at homes) (home_at (set homes p none)) (i % n) None
  slot-taken p i e = subst (λ (j : ℕ). Writes n (home_at homes) (home_at (set homes p none)) j None) e (home-taken homes n p (slot-in p i e))

  count-words : (p w : ℕ) → length (slice_set words p w) ≡ m
  count-words p w = length-set words p w ∙ l.word_count

  count-homes : (p : ℕ) (h : maybe.Option Buffer) → length (set homes p h) ≡ n
  count-homes p h = length-set homes p h ∙ l.slot_count

  registers-at : (p i w : ℕ) → p ≡ i % n → HasRegisters n (registers_of q quiet) (slice_set words p w)
  registers-at p i w e = registers-stay n (registers_of q quiet) words l.registers p w (below p i e)

  items-past : (p w : ℕ) → n ≤ p → HasItems {Reaped = Reaped} word_of_item buffer_of_item n q (slice_index (slice_set words p w)) (home_at homes)
  items-past p w h = items-read word_of_item buffer_of_item n ends q k (slice_index words) (home_at homes) l.items (slice_index (slice_set words p w)) (λ j b. descriptors-stay n p w j words h b)

  -- a descriptor's word is stored, and its slot given back or taken
  stored-laid_out : (q' : Queue Posted Completed Reaped) (i w p : ℕ) (h : maybe.Option Buffer) → p ≡ i % n → registers_of q' quiet ≡ registers_of q quiet → HasItems {Reaped = Reaped} word_of_item buffer_of_item n q' (slice_index (slice_set words p w)) (home_at (set homes p h))
      → (is_early q'.handshake.driver ≡ true → is_serving q'.handshake.controller ≡ false → q'.head ≡ 0) → IsLaidOutIn {Reaped = Reaped} word_of_item buffer_of_item n m q' quiet (slice_set words p w) (set homes p h)
  stored-laid_out q' i w p h at same items cleared = record {
    word_count = count-words p w;
    slot_count = count-homes p h;
    registers = subst (λ (g : Registers). HasRegisters n g (slice_set words p w)) (sym same) (registers-at p i w at);
    items = items;
    cleared = cleared;
  }

  pub laid_out-post : (x : Posted) (b : Buffer) (w p : ℕ) → p ≡ posted_count q % n → may q (Post x) ≡ true → word_of_item (posted_count q) (Some x) None ≡ w → buffer_of_item (Some x) None ≡ Some b
      → IsLaidOutIn {Reaped = Reaped} word_of_item buffer_of_item n m (by q (Post x)) quiet (slice_set words p w) (set homes p (some b))
  laid_out-post x b w p at can word_it buffer_it = stored-laid_out (by q (Post x)) (posted_count q) w p (some b) at refl
      (items-post word_of_item buffer_of_item n ends q k (slice_index words) (home_at homes) l.items x b w (slice_index (slice_set words p w)) (home_at (set homes p (some b))) can word_it buffer_it (word-writes p (posted_count q) w at) (slot-reaped p (posted_count q) b at)) l.cleared

  pub laid_out-publish : (t : ℕ) → t ≡ posted_count q % n → IsLaidOutIn {Reaped = Reaped} word_of_item buffer_of_item n m (by q Publish) quiet (slice_set words (n + 1) t) homes
  laid_out-publish t at = let i = items-past (n + 1) t (omega arith) in record {
    word_count = count-words (n + 1) t;
    slot_count = l.slot_count;
    registers = subst (λ (x : ℕ). HasRegisters n (record (registers_of q quiet) { tail = x }) (slice_set words (n + 1) t)) (at ∙ ap (λ (j : ℕ). posted_count q % j) (sym k.size_is))
        (registers-tail n (registers_of q quiet) words l.registers t room);
    items = record { words = i.words; slots = i.slots };
    cleared = l.cleared;
  }

  pub laid_out-look : IsLaidOutIn {Reaped = Reaped} word_of_item buffer_of_item n m (by q Look) quiet words homes
  laid_out-look = let i = l.items in record { word_count = l.word_count; slot_count = l.slot_count; registers = l.registers; items = record { words = i.words; slots = i.slots }; cleared = l.cleared }

  pub laid_out-fetch : (p : ℕ) → p ≡ completed_count q % n → may q Fetch ≡ true → IsLaidOutIn {Reaped = Reaped} word_of_item buffer_of_item n m (by q Fetch) quiet words (set homes p none)
  laid_out-fetch p at can = record {
    word_count = l.word_count;
    slot_count = count-homes p none;
    registers = l.registers;
    items = items-fetch word_of_item buffer_of_item n ends q k (slice_index words) (home_at homes) l.items (home_at (set homes p none)) can (slot-taken p (completed_count q) at);
    cleared = l.cleared;
  }

  pub laid_out-complete : (x : Completed) (b : Buffer) (w p : ℕ) → p ≡ completed_count q % n → q.held ≡ true → word_of_item (completed_count q) (slice_get q.ledger.posted (completed_count q)) (Some x) ≡ w → buffer_of_item (slice_get q.ledger.posted (completed_count q)) (Some x) ≡ Some b
      → IsLaidOutIn {Reaped = Reaped} word_of_item buffer_of_item n m (by q (Complete x)) quiet (slice_set words p w) (set homes p (some b))
  laid_out-complete x b w p at holds word_it buffer_it = stored-laid_out (by q (Complete x)) (completed_count q) w p (some b) at refl
      (items-complete word_of_item buffer_of_item n ends q k (slice_index words) (home_at homes) l.items x b w (slice_index (slice_set words p w)) (home_at (set homes p (some b))) holds word_it buffer_it (word-writes p (completed_count q) w at) (slot-reaped p (completed_count q) b at)) l.cleared

  pub laid_out-head : (h : ℕ) → h ≡ completed_count q % n → may q Head ≡ true → IsLaidOutIn {Reaped = Reaped} word_of_item buffer_of_item n m (by q Head) quiet (slice_set words n h) homes
  laid_out-head h at can = let i = items-past n h (omega arith) in let t = and_parts (is_serving q.handshake.controller) (not q.held) can in record {
    word_count = count-words n h;
    slot_count = l.slot_count;
    registers = subst (λ (x : ℕ). HasRegisters n (record (registers_of q quiet) { head = x }) (slice_set words n h)) (at ∙ ap (λ (j : ℕ). completed_count q % j) (sym k.size_is))
        (registers-head n (registers_of q quiet) words l.registers h room);
    items = record { words = i.words; slots = i.slots };
    cleared = λ e f. absurd (both_ways (is_serving q.handshake.controller) f t.0);
  }

  -- the oldest item that is out comes out, and its word becomes another, or stays
  out-rest : (p w j : ℕ) → p ≡ returned_count q % n → j < n → ¬ (j ≡ returned_count q % n) → slice_index (slice_set words p w) j ≡ slice_index words j
  out-rest p w j at b ne = let x = word-writes p (returned_count q) w at in x.rest j b ne

  pub laid_out-reap : (x : Reaped) (w p : ℕ) → p ≡ returned_count q % n → returned_count q < posted_count q → IsLaidOutIn {Reaped = Reaped} word_of_item buffer_of_item n m (by q (Reap x)) quiet (slice_set words p w) (set homes p none)
  laid_out-reap x w p at more = stored-laid_out (by q (Reap x)) (returned_count q) w p none at refl
      (items-reap word_of_item buffer_of_item n ends q k (slice_index words) (home_at homes) l.items (slice_index (slice_set words p w)) (home_at (set homes p none)) more (λ j b ne. out-rest p w j at b ne) (λ j b ne. home-left homes p j (λ e. ne (e ∙ at))) x) l.cleared

  pub laid_out-reclaim : (w p : ℕ) → p ≡ returned_count q % n → returned_count q < posted_count q → IsLaidOutIn {Reaped = Reaped} word_of_item buffer_of_item n m (by q Reclaim) quiet (slice_set words p w) (set homes p none)
  laid_out-reclaim w p at more = stored-laid_out (by q Reclaim) (returned_count q) w p none at refl
      (items-reclaim word_of_item buffer_of_item n ends q k (slice_index words) (home_at homes) l.items (slice_index (slice_set words p w)) (home_at (set homes p none)) more (λ j b ne. out-rest p w j at b ne) (λ j b ne. home-left homes p j (λ e. ne (e ∙ at)))) l.cleared

  -- a step of the handshake that stores the control word
  laid_out-control_stepped : (g : Handshake) (known v : ℕ) → g.control ≡ v → (is_early g.driver ≡ true → is_serving g.controller ≡ false → q.head ≡ 0) → IsLaidOutIn {Reaped = Reaped} word_of_item buffer_of_item n m (record q { known = known; handshake = g }) quiet (slice_set words (n + 2) v) homes
  laid_out-control_stepped g known v e cleared = let i = items-past (n + 2) v (omega arith) in record {
    word_count = count-words (n + 2) v;
    slot_count = l.slot_count;
    registers = subst (λ (x : ℕ). HasRegisters n (record (registers_of q quiet) { control = x }) (slice_set words (n + 2) v)) (sym e) (registers-control n (registers_of q quiet) words l.registers v room);
    items = record { words = i.words; slots = i.slots };
    cleared = cleared;
  }

  -- one that loads it
  laid_out-loaded : (g : Handshake) → g.control ≡ q.handshake.control → (is_early g.driver ≡ true → is_serving g.controller ≡ false → q.head ≡ 0) → IsLaidOutIn {Reaped = Reaped} word_of_item buffer_of_item n m (record q { handshake = g }) quiet words homes
  laid_out-loaded g e cleared = let i = l.items in record {
    word_count = l.word_count;
    slot_count = l.slot_count;
    registers = subst (λ (x : ℕ). HasRegisters n (record (registers_of q quiet) { control = x }) words) (sym e) l.registers;
    items = record { words = i.words; slots = i.slots };
    cleared = cleared;
  }

  pub laid_out-ask_enable : (settled : Bool) → is_new q.handshake.driver ≡ true → IsLaidOutIn {Reaped = Reaped} word_of_item buffer_of_item n m (by q (Controls AskEnable settled)) quiet (slice_set words (n + 2) 1) homes
  laid_out-ask_enable settled e = laid_out-control_stepped (record q.handshake { control = 1; driver = Asked }) q.known 1 refl (λ a s. l.cleared (early_new q.handshake.driver e) s)

  pub laid_out-ask_disable : (settled : Bool) → IsLaidOutIn {Reaped = Reaped} word_of_item buffer_of_item n m (by q (Controls AskDisable settled)) quiet (slice_set words (n + 2) 3) homes
  laid_out-ask_disable settled = laid_out-control_stepped (record q.handshake { control = 3; driver = Stopping }) q.known 3 refl (λ a s. absurd (false≢true a))

  pub laid_out-look_asked : (settled : Bool) → IsLaidOutIn {Reaped = Reaped} word_of_item buffer_of_item n m (by q (Controls LookAsked settled)) quiet words homes
  laid_out-look_asked settled = laid_out-loaded (record q.handshake { seen = q.handshake.control }) refl l.cleared

  pub laid_out-look_answered : (settled : Bool) → IsLaidOutIn {Reaped = Reaped} word_of_item buffer_of_item n m (by q (Controls LookAnswered settled)) quiet words homes
  laid_out-look_answered settled = laid_out-loaded (record q.handshake { driver = learned q.handshake.driver q.handshake.control }) refl (λ a s. l.cleared (early_learned q.handshake.driver q.handshake.control a) s)

  pub laid_out-enable : IsLaidOutIn {Reaped = Reaped} word_of_item buffer_of_item n m (record q { known = 0; handshake = enable q.handshake }) quiet (slice_set words (n + 2) 2) homes
  laid_out-enable = laid_out-control_stepped (enable q.handshake) 0 2 refl (λ a s. absurd (true≢false s))

  pub laid_out-disable : q.handshake.seen ≡ 3 → is_serving q.handshake.controller ≡ true → IsLaidOutIn {Reaped = Reaped} word_of_item buffer_of_item n m (record q { handshake = disable q.handshake }) quiet (slice_set words (n + 2) 0) homes
  laid_out-disable seen serving = let h = q.handshake in let s = control_fits_of n ends q k in
      laid_out-control_stepped (disable q.handshake) q.known 0 refl (λ a b. absurd (⊎_elim
      (λ o. both_ways (is_open h.driver) (let t = control_steps-disable h.driver h.controller h.control h.seen seen serving s in t.1) o)
      (λ f. both_ways (is_answered h.driver) (serving_unanswered h.driver h.controller h.control h.seen serving s) f)
      (early_either h.driver a)))

  pub laid_out-clear_head : IsLaidOutIn {Reaped = Reaped} word_of_item buffer_of_item n m (by q ClearHead) quiet (slice_set words n 0) homes
  laid_out-clear_head = let i = items-past n 0 (omega arith) in record {
    word_count = count-words n 0;
    slot_count = l.slot_count;
    registers = registers-head n (registers_of q quiet) words l.registers 0 room;
    items = record { words = i.words; slots = i.slots };
    cleared = λ a s. refl;
  }

  pub laid_out-clear_tail : is_cleared q.handshake.driver ≡ true → IsLaidOutIn {Reaped = Reaped} word_of_item buffer_of_item n m (by q ClearTail) quiet (slice_set words (n + 1) 0) homes
  laid_out-clear_tail e = let i = items-past (n + 1) 0 (omega arith) in record {
    word_count = count-words (n + 1) 0;
    slot_count = l.slot_count;
    registers = subst (λ (x : ℕ). HasRegisters n (record (registers_of q quiet) { tail = x }) (slice_set words (n + 1) 0)) (let z = k.size_is in let p = pos in let h : 0 < q.size = omega arith in sym (mod-eq_of_lt h))
        (registers-tail n (registers_of q quiet) words l.registers 0 room);
    items = record { words = i.words; slots = i.slots };
    cleared = λ a s. l.cleared (early_cleared q.handshake.driver e) s;
  }

  pub laid_out-renew : is_tailed q.handshake.driver ≡ true → IsLaidOutIn {Reaped = Reaped} word_of_item buffer_of_item n m (by q Renew) quiet words homes
  laid_out-renew e = let i = l.items in record {
    word_count = l.word_count;
    slot_count = l.slot_count;
    registers = l.registers;
    items = items-renew word_of_item buffer_of_item n ends q k (slice_index words) (home_at homes) i;
    cleared = λ a s. l.cleared (early_tailed q.handshake.driver e) s;
  }

  pub laid_out-quiet : (v : ℕ) → IsLaidOutIn {Reaped = Reaped} word_of_item buffer_of_item n m q v (slice_set words (n + 3) v) homes
  laid_out-quiet v = record {
    word_count = count-words (n + 3) v;
    slot_count = l.slot_count;
    registers = registers-quiet n (registers_of q quiet) words l.registers v room;
    items = items-past (n + 3) v (omega arith);
    cleared = l.cleared;
  }

-- what lies in the slots of a table that is closed
pub left-laid_out : {Posted Completed Reaped : Type 0} (word_of_item : ℕ → Option Posted → Option Completed → ℕ) (buffer_of_item : Option Posted → Option Completed → Option Buffer) (n m : ℕ) (q : Queue Posted Completed Reaped) (quiet : ℕ) (words : List ℕ) (homes : List (maybe.Option Buffer))
    → IsLaidOutIn {Reaped = Reaped} word_of_item buffer_of_item n m q quiet words homes → (slots : List Buffer) → ((k : ℕ) (y : Buffer) → get_elem? homes k ≡ some (some y) → get_elem? slots k ≡ some y) → AllLeft buffer_of_item n q slots
left-laid_out word_of_item buffer_of_item n m q quiet words homes l slots found_back k b first past free is = let i = l.items in
    found_back (k % n) b (home-full homes (k % n) b (i.slots k first past ∙ unheld_item q.held k (completed_count q) _ free ∙ is))
