-- Each step that both directions share takes a machine's queue to one that agrees with the queue after the step.
use Rattle.std.proofs.Common.{List, ◌≡◌, ◌≢◌, ℕ, ◌+◌, ◌-◌, ◌%◌, ◌<◌, ◌≤◌, Bool, true, false, ◌&&◌, [], ◌∷◌, ◌++◌, length, Option, Some, None, sym, refl, ap, ◌∙◌, subst, arith, if◌then◌else◌, mod-lt, length-append}
use Rattle.std.specs.Prelude.{slice_get, slice_index, slice_set, ◌==◌, nat_lt}
use Rattle.std.proofs.lemmas.Bool.{and_parts, and_left, and_right, ltb-true, ne_eqb}
use Rattle.ring_model.specs.declared.states.Owner.{Owner}
use Rattle.ring_model.specs.declared.states.Owner.TheVariants.{Driver, Ring, Controller}
use Rattle.ring_model.specs.shared.Lists.{EachItem, slot_at}
use Rattle.ring_model.specs.kept.Writes.{Writes}
use Rattle.ring_model.specs.shared.Handshakes.{is_open, is_live, is_serving, is_ended, is_stopped}
use Rattle.ring_model.specs.shared.QueueSteps.{Post, Fetch, Complete, Reap, Reclaim}
use Rattle.ring_model.specs.shared.Queue.{Queue, posted_count, completed_count, reaped_count, returned_count, passed_to, may, by}
use Rattle.ring_model.specs.shared.Agreement.{Agrees, HasItems, Wrapped, wanted_slot, wanted_word}
use Rattle.ring_laws.specs.Lists.{slice_get-front}
use Rattle.ring_laws.specs.Places.{next_place, each_item-set, each_item-push, each_item-drop}
use Rattle.ring_model.specs.kept.Queues.{IsKept}
use Rattle.ring_laws.specs.States.{live_unanswered, serving_unended}
use Rattle.ring_laws.specs.Queues.{fetch_facts, fetch_here, fetch_rest, held_below, returned_completed}
use Rattle.ring_machine.specs.code.Sound.{IsSound}
use Rattle.ring_model.specs.shared.Places.{place_next}
use Rattle.ring_machine.specs.code.Shared.{word_put, after_post, after_fetch, after_serve, after_out}
use Rattle.ring_machine.proofs.shared.Snoc.{snoc_end, snoc_rest, past_end, ends_frame-snoc}
use Rattle.ring_machine.proofs.shared.Slots.{slot-writes, put-writes, put-here, empty-write, none_to-ring}

module _ {Posted Completed Reaped : Type 0} (ends : Completed → Bool) (word_of_item : ℕ → Option Posted → Option Completed → ℕ) (buffer_of_item : Option Posted → Option Completed → Option ℕ) where
  module _ (w : Wrapped ℕ) (q : Queue Posted Completed Reaped) (k : IsKept q.size ends q) (a : Agrees {Reaped = Reaped} ends word_of_item buffer_of_item w q) (sound : IsSound w) where
    pub pos : 0 < q.size
    pos = let some = k.places in omega arith

    pub within : posted_count q ≤ returned_count q + q.size
    within = let o = k.order in let h = o.room in omega arith

    words_are : length w.words ≡ q.size
    words_are = sound.words ∙ a.size_is

    slots_are : length w.slots ≡ q.size
    slots_are = sound.slots ∙ a.size_is

    pub word-writes : (i place x : ℕ) (word : Option ℕ) → place ≡ i % q.size → slice_index (word_put w.words place word) place ≡ x → Writes q.size (slice_index w.words) (slice_index (word_put w.words place word)) (i % q.size) x
    word-writes i place x word e is = subst (λ (j : ℕ). Writes q.size (slice_index w.words) (slice_index (word_put w.words place word)) j x) e
        (put-writes w.words q.size place x word words_are (let below = mod-lt i pos in omega arith) is)

    slot-writes_at : (i place : ℕ) (b : Option ℕ) → place ≡ i % q.size → Writes q.size (slot_at w.slots) (slot_at (slice_set w.slots place b)) (i % q.size) b
    slot-writes_at i place b e = subst (λ (j : ℕ). Writes q.size (slot_at w.slots) (slot_at (slice_set w.slots place b)) j b) e
        (slot-writes w.slots q.size place b slots_are (let below = mod-lt i pos in omega arith))

    moved_on : (place i : ℕ) → place ≡ i % q.size → place_next w.size place ≡ (i + 1) % q.size
    moved_on place i e = rw (e, a.size_is) (next_place q.size i k.places)

    -- an owner and a slot of one place change together
    empty_at : (i place : ℕ) (who : Owner) (b : Option ℕ) → place ≡ i % q.size → (who ≡ Driver → b ≡ None) → (j : ℕ) → slice_get (slice_set q.owners (i % q.size) who) j ≡ Some Driver → slot_at (slice_set w.slots place b) j ≡ None
    empty_at i place who b e none = let m = k.map in subst (λ (p : ℕ). (j : ℕ) → slice_get (slice_set q.owners (i % q.size) who) j ≡ Some Driver → slot_at (slice_set w.slots p b) j ≡ None) (sym e)
        (empty-write q.owners w.slots q.size (i % q.size) who b m.places slots_are (mod-lt i pos) none a.empty)

    posted_before : (x : Posted) (j : ℕ) → j < posted_count q → slice_get (q.ledger.posted ++ x ∷ []) j ≡ slice_get q.ledger.posted j
    posted_before x j below = slice_get-front q.ledger.posted (x ∷ []) j below

    -- an item beyond the last that was posted is not held
    unheld_past : (holds : Bool) → q.held ≡ holds → (holds && (posted_count q == completed_count q)) ≡ false
    unheld_past true e = let below = held_below q.size ends q k e in ne_eqb (posted_count q) (completed_count q) (λ same. absurd (omega arith))
    unheld_past false e = refl

    held_post : (x : Posted) (holds : Bool) → q.held ≡ holds → (if holds then buffer_of_item (slice_get q.ledger.posted (completed_count q)) None else None) ≡ (if holds then buffer_of_item (slice_get (q.ledger.posted ++ x ∷ []) (completed_count q)) None else None)
    held_post x true e = ap (λ (o : Option Posted). buffer_of_item o None) (sym (posted_before x (completed_count q) (held_below q.size ends q k e)))
    held_post x false e = refl

    laid_out-post : (x : Posted) (b word : ℕ) → may q (Post x) ≡ true → word_of_item (posted_count q) (Some x) None ≡ word → buffer_of_item (Some x) None ≡ Some b
        → HasItems {Reaped = Reaped} word_of_item buffer_of_item q.size (by q (Post x)) (slice_index (slice_set w.words w.fill word)) (slot_at (slice_set w.slots w.fill (Some b)))
    laid_out-post x b word may word_it buffer_it = let t = and_parts (is_open q.handshake.driver) (nat_lt (posted_count q - reaped_count q) (q.size - 1)) may in let room = ltb-true (posted_count q - reaped_count q) (q.size - 1) t.1 in
        let o = k.order in let i = a.items in let past = past_end q.ledger.completed (posted_count q) o.completed_posted in let last = snoc_end q.ledger.posted x in
        let below : w.fill < length w.words = let f = a.fill in let m = mod-lt (posted_count q) pos in let l = words_are in omega arith in
        let p = word-writes (posted_count q) w.fill word (Some word) a.fill (put-here w.words w.fill word below) in let s = slot-writes_at (posted_count q) w.fill (Some b) a.fill in
        let mine : word_of_item (posted_count q) (slice_get (q.ledger.posted ++ x ∷ []) (posted_count q)) (slice_get q.ledger.completed (posted_count q)) ≡ word = rw (past, last) word_it in
        let its : wanted_slot {Reaped = Reaped} word_of_item buffer_of_item (by q (Post x)) (posted_count q) ≡ Some b = rw (unheld_past q.held refl) (rw (past, last) buffer_it) in
        record {
          words = rw (length-append q.ledger.posted (x ∷ [])) (each_item-push q.size (returned_count q) (posted_count q) (slice_index w.words) (slice_index (slice_set w.words w.fill word))
              (wanted_word {Reaped = Reaped} word_of_item buffer_of_item q) (wanted_word {Reaped = Reaped} word_of_item buffer_of_item (by q (Post x))) pos (omega arith) (record { here = p.here ∙ sym mine; rest = p.rest })
              (λ j f below. ap (λ (g : Option Posted). word_of_item j g (slice_get q.ledger.completed j)) (posted_before x j below)) o.returned_posted i.words);
          slots = rw (length-append q.ledger.posted (x ∷ [])) (each_item-push q.size (returned_count q) (posted_count q) (slot_at w.slots) (slot_at (slice_set w.slots w.fill (Some b)))
              (wanted_slot {Reaped = Reaped} word_of_item buffer_of_item q) (wanted_slot {Reaped = Reaped} word_of_item buffer_of_item (by q (Post x))) pos (omega arith) (record { here = s.here ∙ sym its; rest = s.rest })
              (λ j f below. ap (λ (g : Option Posted). if q.held && (j == completed_count q) then None else buffer_of_item g (slice_get q.ledger.completed j)) (posted_before x j below)) o.returned_posted i.slots);
        }

    pub fits-post : (x : Posted) (b word : ℕ) → may q (Post x) ≡ true → word_of_item (posted_count q) (Some x) None ≡ word → buffer_of_item (Some x) None ≡ Some b → Agrees {Reaped = Reaped} ends word_of_item buffer_of_item (after_post w b word) (by q (Post x))
    fits-post x b word may word_it buffer_it = record {
      size_is = a.size_is;
      head = a.head;
      tail = a.tail;
      items = laid_out-post x b word may word_it buffer_it;
      empty = empty_at (posted_count q) w.fill Ring (Some b) a.fill (λ e. none_to-ring e);
      fill = moved_on w.fill (posted_count q) a.fill ∙ ap (λ (j : ℕ). j % q.size) (sym (length-append q.ledger.posted (x ∷ [])));
      next = a.next;
      serve = a.serve;
      known = a.known;
      held = a.held ∙ held_post x q.held refl;
      whole = a.whole;
      handshake = a.handshake;
    }

    serve_is : is_serving q.handshake.controller ≡ true → w.serve ≡ completed_count q % q.size
    serve_is serving = a.serve (and_left (is_ended q.handshake.controller) (is_open q.handshake.driver) (serving_unended q.handshake.controller serving))

    -- what lies where nothing is fetched yet is the buffer that is posted there
    fetch_laid_out : (b : ℕ) → may q Fetch ≡ true → slot_at w.slots w.serve ≡ Some b → Some b ≡ buffer_of_item (slice_get q.ledger.posted (completed_count q)) None
    fetch_laid_out b may e = let t = fetch_facts q.size ends q k may in let i = a.items in let past = past_end q.ledger.completed (completed_count q) (omega arith) in
        let wanted : wanted_slot {Reaped = Reaped} word_of_item buffer_of_item q (completed_count q) ≡ buffer_of_item (slice_get q.ledger.posted (completed_count q)) None = rw (and_left q.held (completed_count q == completed_count q) t.1) (ap (λ (g : Option Completed). buffer_of_item (slice_get q.ledger.posted (completed_count q)) g) past) in
        sym e ∙ ap (λ (p : ℕ). slot_at w.slots p) (serve_is t.0) ∙ i.slots (completed_count q) (returned_completed q.size ends q k t.0) t.2 ∙ wanted

    fits-fetched : (b : ℕ) → may q Fetch ≡ true → slot_at w.slots w.serve ≡ Some b → Agrees {Reaped = Reaped} ends word_of_item buffer_of_item (after_fetch w (Some b)) (by q Fetch)
    fits-fetched b may e = let t = fetch_facts q.size ends q k may in let i = a.items in let s = slot-writes_at (completed_count q) w.serve None (serve_is t.0) in record {
      size_is = a.size_is;
      head = a.head;
      tail = a.tail;
      items = record {
        words = i.words;
        slots = each_item-set q.size (returned_count q) (posted_count q) (completed_count q) (slot_at w.slots) (slot_at (slice_set w.slots w.serve None))
            (wanted_slot {Reaped = Reaped} word_of_item buffer_of_item q) (wanted_slot {Reaped = Reaped} word_of_item buffer_of_item (by q Fetch)) pos within (returned_completed q.size ends q k t.0) t.2
            (record { here = s.here ∙ sym (fetch_here word_of_item buffer_of_item q); rest = s.rest }) (λ j x y ne. fetch_rest word_of_item buffer_of_item q j ne) i.slots;
      };
      empty = empty_at (completed_count q) w.serve Controller None (serve_is t.0) (λ e. refl);
      fill = a.fill;
      next = a.next;
      serve = a.serve;
      known = a.known;
      held = fetch_laid_out b may e;
      whole = a.whole;
      handshake = a.handshake;
    }

    pub fits-fetch : (b : ℕ) → may q Fetch ≡ true → slot_at w.slots w.serve ≡ Some b → Agrees {Reaped = Reaped} ends word_of_item buffer_of_item (after_fetch w (slot_at w.slots w.serve)) (by q Fetch)
    fits-fetch b may e = subst (λ (o : Option ℕ). Agrees {Reaped = Reaped} ends word_of_item buffer_of_item (after_fetch w o) (by q Fetch)) (sym e) (fits-fetched b may e)

    serve_rest : (x : Completed) (j : ℕ) → j ≢ completed_count q → wanted_slot {Reaped = Reaped} word_of_item buffer_of_item (by q (Complete x)) j ≡ wanted_slot {Reaped = Reaped} word_of_item buffer_of_item q j
    serve_rest x j ne = let other = and_right q.held (j == completed_count q) (ne_eqb j (completed_count q) ne) in rw other (rw (snoc_rest q.ledger.completed x j ne) refl)

    pub fits-completed : (x : Completed) (word : Option ℕ) (eop : Bool) (b : ℕ) → q.held ≡ true → ends x ≡ eop → slice_index (word_put w.words w.serve word) w.serve ≡ word_of_item (completed_count q) (slice_get q.ledger.posted (completed_count q)) (Some x)
        → buffer_of_item (slice_get q.ledger.posted (completed_count q)) (Some x) ≡ Some b → Agrees {Reaped = Reaped} ends word_of_item buffer_of_item (after_serve w word eop (Some b)) (by q (Complete x))
    fits-completed x word eop b may ends_it word_it buffer_it = let o = k.order in let serving = o.held_serving may in let serve_at = serve_is serving in let i = a.items in let below = held_below q.size ends q k may in
        let back = returned_completed q.size ends q k serving in let last = snoc_end q.ledger.completed x in
        let p = word-writes (completed_count q) w.serve (word_of_item (completed_count q) (slice_get q.ledger.posted (completed_count q)) (Some x)) word serve_at word_it in let s = slot-writes_at (completed_count q) w.serve (Some b) serve_at in record {
          size_is = a.size_is;
          head = a.head;
          tail = a.tail;
          items = record {
            words = each_item-set q.size (returned_count q) (posted_count q) (completed_count q) (slice_index w.words) (slice_index (word_put w.words w.serve word))
                (wanted_word {Reaped = Reaped} word_of_item buffer_of_item q) (wanted_word {Reaped = Reaped} word_of_item buffer_of_item (by q (Complete x))) pos within back below
                (record { here = p.here ∙ ap (λ (g : Option Completed). word_of_item (completed_count q) (slice_get q.ledger.posted (completed_count q)) g) (sym last); rest = p.rest })
                (λ j f l ne. ap (λ (g : Option Completed). word_of_item j (slice_get q.ledger.posted j) g) (snoc_rest q.ledger.completed x j ne)) i.words;
            slots = each_item-set q.size (returned_count q) (posted_count q) (completed_count q) (slot_at w.slots) (slot_at (slice_set w.slots w.serve (Some b)))
                (wanted_slot {Reaped = Reaped} word_of_item buffer_of_item q) (wanted_slot {Reaped = Reaped} word_of_item buffer_of_item (by q (Complete x))) pos within back below
                (record { here = s.here ∙ sym buffer_it ∙ ap (λ (g : Option Completed). buffer_of_item (slice_get q.ledger.posted (completed_count q)) g) (sym last); rest = s.rest }) (λ j f l ne. serve_rest x j ne) i.slots;
          };
          empty = empty_at (completed_count q) w.serve Ring (Some b) serve_at (λ e. none_to-ring e);
          fill = a.fill;
          next = a.next;
          serve = λ e. moved_on w.serve (completed_count q) serve_at ∙ ap (λ (j : ℕ). j % q.size) (sym (length-append q.ledger.completed (x ∷ [])));
          known = a.known;
          held = refl;
          whole = sym ends_it ∙ sym (ends_frame-snoc ends true q.ledger.completed x);
          handshake = a.handshake;
        }

    pub fits-complete : (x : Completed) (word : Option ℕ) (eop : Bool) (b : ℕ) → q.held ≡ true → w.held ≡ Some b → ends x ≡ eop → slice_index (word_put w.words w.serve word) w.serve ≡ word_of_item (completed_count q) (slice_get q.ledger.posted (completed_count q)) (Some x)
        → buffer_of_item (slice_get q.ledger.posted (completed_count q)) (Some x) ≡ Some b → Agrees {Reaped = Reaped} ends word_of_item buffer_of_item (after_serve w word eop w.held) (by q (Complete x))
    fits-complete x word eop b may held ends_it word_it buffer_it = subst (λ (o : Option ℕ). Agrees {Reaped = Reaped} ends word_of_item buffer_of_item (after_serve w word eop o) (by q (Complete x))) (sym held) (fits-completed x word eop b may ends_it word_it buffer_it)

    -- the first item that is out comes out
    out-words : (word : Option ℕ) → returned_count q < posted_count q → EachItem q.size (returned_count q + 1) (posted_count q) (slice_index (word_put w.words w.next word)) (wanted_word {Reaped = Reaped} word_of_item buffer_of_item q)
    out-words word more = let i = a.items in let p = word-writes (returned_count q) w.next (slice_index (word_put w.words w.next word) w.next) word a.next refl in
        each_item-drop q.size (returned_count q) (posted_count q) (slice_index w.words) (slice_index (word_put w.words w.next word)) (wanted_word {Reaped = Reaped} word_of_item buffer_of_item q) pos within more p.rest i.words

    out-slots : returned_count q < posted_count q → EachItem q.size (returned_count q + 1) (posted_count q) (slot_at (slice_set w.slots w.next None)) (wanted_slot {Reaped = Reaped} word_of_item buffer_of_item q)
    out-slots more = let i = a.items in let s = slot-writes_at (returned_count q) w.next None a.next in
        each_item-drop q.size (returned_count q) (posted_count q) (slot_at w.slots) (slot_at (slice_set w.slots w.next None)) (wanted_slot {Reaped = Reaped} word_of_item buffer_of_item q) pos within more s.rest i.slots

    -- with these given back, and so many reclaimed
    fits-out : (reaped : List Reaped) (reclaimed i : ℕ) (word : Option ℕ) (b : ℕ) → returned_count q < posted_count q → returned_count q + 1 ≡ length reaped + reclaimed → i ≡ returned_count q
        → Agrees {Reaped = Reaped} ends word_of_item buffer_of_item (after_out w word (Some b)) (record q { ledger = record q.ledger { reaped = reaped }; owners = passed_to Driver q i; reclaimed = reclaimed })
    fits-out reaped reclaimed i word b more after at = record {
      size_is = a.size_is;
      head = a.head;
      tail = a.tail;
      items = record {
        words = subst (λ (d : ℕ). EachItem q.size d (posted_count q) (slice_index (word_put w.words w.next word)) (wanted_word {Reaped = Reaped} word_of_item buffer_of_item q)) after (out-words word more);
        slots = subst (λ (d : ℕ). EachItem q.size d (posted_count q) (slot_at (slice_set w.slots w.next None)) (wanted_slot {Reaped = Reaped} word_of_item buffer_of_item q)) after (out-slots more);
      };
      empty = empty_at i w.next Driver None (a.next ∙ ap (λ (j : ℕ). j % q.size) (sym at)) (λ e. refl);
      fill = a.fill;
      next = moved_on w.next (returned_count q) a.next ∙ ap (λ (j : ℕ). j % q.size) after;
      serve = a.serve;
      known = a.known;
      held = a.held;
      whole = a.whole;
      handshake = a.handshake;
    }

    fits-reaped : (x : Reaped) (word : Option ℕ) (b : ℕ) → may q (Reap x) ≡ true → Agrees {Reaped = Reaped} ends word_of_item buffer_of_item (after_out w word (Some b)) (by q (Reap x))
    fits-reaped x word b may = let t = and_parts (is_live q.handshake.driver) (nat_lt (reaped_count q) (completed_count q)) may in let less = ltb-true (reaped_count q) (completed_count q) t.1 in let o = k.order in
        let none = o.not_reclaimed (live_unanswered q.handshake.driver t.0) in let below = o.completed_posted in let len = length-append q.ledger.reaped (x ∷ []) in
        fits-out (q.ledger.reaped ++ x ∷ []) q.reclaimed (reaped_count q) word b (omega arith) (omega arith) (omega arith)

    pub fits-reap : (x : Reaped) (word : Option ℕ) (b : ℕ) → may q (Reap x) ≡ true → slot_at w.slots w.next ≡ Some b → Agrees {Reaped = Reaped} ends word_of_item buffer_of_item (after_out w word (slot_at w.slots w.next)) (by q (Reap x))
    fits-reap x word b may e = subst (λ (o : Option ℕ). Agrees {Reaped = Reaped} ends word_of_item buffer_of_item (after_out w word o) (by q (Reap x))) (sym e) (fits-reaped x word b may)

    fits-reclaimed : (word : Option ℕ) (b : ℕ) → may q Reclaim ≡ true → Agrees {Reaped = Reaped} ends word_of_item buffer_of_item (after_out w word (Some b)) (by q Reclaim)
    fits-reclaimed word b may = let t = and_parts (is_stopped q.handshake.driver) (nat_lt (returned_count q) (posted_count q)) may in
        fits-out q.ledger.reaped (q.reclaimed + 1) (returned_count q) word b (ltb-true (returned_count q) (posted_count q) t.1) (omega arith) refl

    pub fits-reclaim : (word : Option ℕ) (b : ℕ) → may q Reclaim ≡ true → slot_at w.slots w.next ≡ Some b → Agrees {Reaped = Reaped} ends word_of_item buffer_of_item (after_out w word (slot_at w.slots w.next)) (by q Reclaim)
    fits-reclaim word b may e = subst (λ (o : Option ℕ). Agrees {Reaped = Reaped} ends word_of_item buffer_of_item (after_out w word o) (by q Reclaim)) (sym e) (fits-reclaimed word b may)
