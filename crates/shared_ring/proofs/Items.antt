-- Words and slots of the items that are out, as each step changes them.
use Rattle.std.proofs.Common.{◌≡◌, ◌≢◌, ℕ, ◌+◌, ◌-◌, ◌%◌, ◌<◌, ◌≤◌, Bool, true, false, ◌&&◌, [], ◌∷◌, ◌++◌, length, Option, Some, None, sym, refl, ap, ◌∙◌, subst, arith, if◌then◌else◌, mod-lt, length-append}
use Rattle.std.specs.Prelude.{slice_get, ◌==◌, nat_lt}
use Rattle.std.proofs.lemmas.Bool.{and_parts, and_left, and_right, ltb-true, ne_eqb}
use Rattle.ring_model.specs.shared.Lists.{EachItem}
use Rattle.ring_model.specs.kept.Writes.{Writes}
use Rattle.ring_model.specs.shared.Handshakes.{is_open}
use Rattle.ring_model.specs.shared.QueueSteps.{Post, Fetch, Complete, Reap, Reclaim, Renew}
use Rattle.ring_model.specs.shared.Queue.{Queue, posted_count, completed_count, reaped_count, returned_count, may, by}
use Rattle.ring_model.specs.shared.Agreement.{HasItems, wanted_slot, wanted_word}
use Rattle.ring_laws.specs.Lists.{slice_get-front}
use Rattle.ring_laws.specs.Places.{each_item-set, each_item-push, each_item-drop}
use Rattle.ring_model.specs.kept.Queues.{IsKept}
use Rattle.ring_laws.specs.Queues.{fetch_facts, fetch_here, fetch_rest, held_below, returned_completed}
use Rattle.shared_ring.proofs.Laying.{slice_get-past, slice_get-last, slice_get-snoc_other}

module _ {Posted Completed Reaped Buffer : Type 0} (word_of_item : ℕ → Option Posted → Option Completed → ℕ) (buffer_of_item : Option Posted → Option Completed → Option Buffer) (n : ℕ) (ends : Completed → Bool)
    (q : Queue Posted Completed Reaped) (k : IsKept n ends q) (word : ℕ → ℕ) (slot : ℕ → Option Buffer) (i : HasItems {Reaped = Reaped} word_of_item buffer_of_item n q word slot) where
  pos : 0 < n
  pos = let some = k.places in omega arith

  within : posted_count q ≤ returned_count q + n
  within = let o = k.order in let h = o.room in omega arith

  -- descriptors that read as before
  pub items-read : (later : ℕ → ℕ) → ((j : ℕ) → j < n → later j ≡ word j) → HasItems {Reaped = Reaped} word_of_item buffer_of_item n q later slot
  items-read later same = record { words = λ j a b. same (j % n) (mod-lt j pos) ∙ i.words j a b; slots = i.slots }

  -- an item beyond the last that was posted is not held
  unheld_past : (holds : Bool) → q.held ≡ holds → (holds && (posted_count q == completed_count q)) ≡ false
  unheld_past true e = let below = held_below n ends q k e in ne_eqb (posted_count q) (completed_count q) (λ same. omega arith)
  unheld_past false e = refl

  pub items-post : (x : Posted) (b : Buffer) (w : ℕ) (word' : ℕ → ℕ) (slot' : ℕ → Option Buffer) → may q (Post x) ≡ true → word_of_item (posted_count q) (Some x) None ≡ w → buffer_of_item (Some x) None ≡ Some b
      → Writes n word word' (posted_count q % n) w → Writes n slot slot' (posted_count q % n) (Some b) → HasItems {Reaped = Reaped} word_of_item buffer_of_item n (by q (Post x)) word' slot'
  items-post x b w word' slot' can word_it buffer_it p s =
      let t = and_parts (is_open q.handshake.driver) (nat_lt (posted_count q - reaped_count q) (q.size - 1)) can in let room = ltb-true (posted_count q - reaped_count q) (q.size - 1) t.1 in
      let o = k.order in let z = k.size_is in let bp = o.completed_posted in let gp = o.reaped_completed in
      let past : slice_get q.ledger.completed (posted_count q) ≡ None = slice_get-past q.ledger.completed (posted_count q) bp in
      let last : slice_get (q.ledger.posted ++ x ∷ []) (posted_count q) ≡ Some x = slice_get-last q.ledger.posted x in
      let mine : word_of_item (posted_count q) (slice_get (q.ledger.posted ++ x ∷ []) (posted_count q)) (slice_get q.ledger.completed (posted_count q)) ≡ w = rw (past, last) word_it in
      let its : wanted_slot {Reaped = Reaped} word_of_item buffer_of_item (by q (Post x)) (posted_count q) ≡ Some b = rw (unheld_past q.held refl) (rw (past, last) buffer_it) in
      record {
        words = rw (length-append q.ledger.posted (x ∷ [])) (each_item-push n (returned_count q) (posted_count q) word word'
            (wanted_word {Reaped = Reaped} word_of_item buffer_of_item q) (wanted_word {Reaped = Reaped} word_of_item buffer_of_item (by q (Post x))) pos (omega arith) (record { here = p.here ∙ sym mine; rest = p.rest })
            (λ j f below. ap (λ (g : Option Posted). word_of_item j g (slice_get q.ledger.completed j)) (slice_get-front q.ledger.posted (x ∷ []) j below)) o.returned_posted i.words);
        slots = rw (length-append q.ledger.posted (x ∷ [])) (each_item-push n (returned_count q) (posted_count q) slot slot'
            (wanted_slot {Reaped = Reaped} word_of_item buffer_of_item q) (wanted_slot {Reaped = Reaped} word_of_item buffer_of_item (by q (Post x))) pos (omega arith) (record { here = s.here ∙ sym its; rest = s.rest })
            (λ j f below. ap (λ (g : Option Posted). if q.held && (j == completed_count q) then None else buffer_of_item g (slice_get q.ledger.completed j)) (slice_get-front q.ledger.posted (x ∷ []) j below)) o.returned_posted i.slots);
      }

  -- what lies where nothing is fetched yet is the buffer that is posted there
  pub fetch_laid_out : may q Fetch ≡ true → slot (completed_count q % n) ≡ buffer_of_item (slice_get q.ledger.posted (completed_count q)) None
  fetch_laid_out can = let t = fetch_facts n ends q k can in let past = slice_get-past q.ledger.completed (completed_count q) (omega arith) in
      i.slots (completed_count q) (returned_completed n ends q k t.0) t.2
      ∙ ap (λ (b : Bool). if b then None else buffer_of_item (slice_get q.ledger.posted (completed_count q)) (slice_get q.ledger.completed (completed_count q))) (and_left q.held (completed_count q == completed_count q) t.1)
      ∙ ap (λ (g : Option Completed). buffer_of_item (slice_get q.ledger.posted (completed_count q)) g) past

  pub items-fetch : (slot' : ℕ → Option Buffer) → may q Fetch ≡ true → Writes n slot slot' (completed_count q % n) None → HasItems {Reaped = Reaped} word_of_item buffer_of_item n (by q Fetch) word slot'
  items-fetch slot' can s = let t = fetch_facts n ends q k can in record {
    words = i.words;
    slots = each_item-set n (returned_count q) (posted_count q) (completed_count q) slot slot'
        (wanted_slot {Reaped = Reaped} word_of_item buffer_of_item q) (wanted_slot {Reaped = Reaped} word_of_item buffer_of_item (by q Fetch)) pos within (returned_completed n ends q k t.0) t.2
        (record { here = s.here ∙ sym (fetch_here word_of_item buffer_of_item q); rest = s.rest }) (λ j x y ne. fetch_rest word_of_item buffer_of_item q j ne) i.slots;
  }

  serve_rest : (x : Completed) (j : ℕ) → j ≢ completed_count q → wanted_slot {Reaped = Reaped} word_of_item buffer_of_item (by q (Complete x)) j ≡ wanted_slot {Reaped = Reaped} word_of_item buffer_of_item q j
  serve_rest x j ne = let other = and_right q.held (j == completed_count q) (ne_eqb j (completed_count q) ne) in rw other (rw (slice_get-snoc_other q.ledger.completed x j ne) refl)

  pub items-complete : (x : Completed) (b : Buffer) (w : ℕ) (word' : ℕ → ℕ) (slot' : ℕ → Option Buffer) → q.held ≡ true → word_of_item (completed_count q) (slice_get q.ledger.posted (completed_count q)) (Some x) ≡ w
      → buffer_of_item (slice_get q.ledger.posted (completed_count q)) (Some x) ≡ Some b → Writes n word word' (completed_count q % n) w → Writes n slot slot' (completed_count q % n) (Some b) → HasItems {Reaped = Reaped} word_of_item buffer_of_item n (by q (Complete x)) word' slot'
  items-complete x b w word' slot' holds word_it buffer_it p s = let o = k.order in let serving = o.held_serving holds in let below = held_below n ends q k holds in
      let back = returned_completed n ends q k serving in let last = slice_get-last q.ledger.completed x in record {
        words = each_item-set n (returned_count q) (posted_count q) (completed_count q) word word'
            (wanted_word {Reaped = Reaped} word_of_item buffer_of_item q) (wanted_word {Reaped = Reaped} word_of_item buffer_of_item (by q (Complete x))) pos within back below
            (record { here = p.here ∙ sym word_it ∙ ap (λ (g : Option Completed). word_of_item (completed_count q) (slice_get q.ledger.posted (completed_count q)) g) (sym last); rest = p.rest })
            (λ j f l ne. ap (λ (g : Option Completed). word_of_item j (slice_get q.ledger.posted j) g) (slice_get-snoc_other q.ledger.completed x j ne)) i.words;
        slots = each_item-set n (returned_count q) (posted_count q) (completed_count q) slot slot'
            (wanted_slot {Reaped = Reaped} word_of_item buffer_of_item q) (wanted_slot {Reaped = Reaped} word_of_item buffer_of_item (by q (Complete x))) pos within back below
            (record { here = s.here ∙ sym buffer_it ∙ ap (λ (g : Option Completed). buffer_of_item (slice_get q.ledger.posted (completed_count q)) g) (sym last); rest = s.rest }) (λ j f l ne. serve_rest x j ne) i.slots;
      }

  -- the first item that is out comes out
  module _ (word' : ℕ → ℕ) (slot' : ℕ → Option Buffer) (more : returned_count q < posted_count q) (words : (j : ℕ) → j < n → j ≢ returned_count q % n → word' j ≡ word j) (slots : (j : ℕ) → j < n → j ≢ returned_count q % n → slot' j ≡ slot j) where
    out-words : EachItem n (returned_count q + 1) (posted_count q) word' (wanted_word {Reaped = Reaped} word_of_item buffer_of_item q)
    out-words = each_item-drop n (returned_count q) (posted_count q) word word' (wanted_word {Reaped = Reaped} word_of_item buffer_of_item q) pos within more words i.words

    out-slots : EachItem n (returned_count q + 1) (posted_count q) slot' (wanted_slot {Reaped = Reaped} word_of_item buffer_of_item q)
    out-slots = each_item-drop n (returned_count q) (posted_count q) slot slot' (wanted_slot {Reaped = Reaped} word_of_item buffer_of_item q) pos within more slots i.slots

    pub items-reap : (x : Reaped) → HasItems {Reaped = Reaped} word_of_item buffer_of_item n (by q (Reap x)) word' slot'
    items-reap x = let len = length-append q.ledger.reaped (x ∷ []) in
        let after : returned_count q + 1 ≡ length (q.ledger.reaped ++ x ∷ []) + q.reclaimed = omega arith in record {
          words = subst (λ (d : ℕ). EachItem n d (posted_count q) word' (wanted_word {Reaped = Reaped} word_of_item buffer_of_item q)) after out-words;
          slots = subst (λ (d : ℕ). EachItem n d (posted_count q) slot' (wanted_slot {Reaped = Reaped} word_of_item buffer_of_item q)) after out-slots;
        }

    pub items-reclaim : HasItems {Reaped = Reaped} word_of_item buffer_of_item n (by q Reclaim) word' slot'
    items-reclaim = let after : returned_count q + 1 ≡ reaped_count q + (q.reclaimed + 1) = omega arith in record {
      words = subst (λ (d : ℕ). EachItem n d (posted_count q) word' (wanted_word {Reaped = Reaped} word_of_item buffer_of_item q)) after out-words;
      slots = subst (λ (d : ℕ). EachItem n d (posted_count q) slot' (wanted_slot {Reaped = Reaped} word_of_item buffer_of_item q)) after out-slots;
    }

  pub items-renew : HasItems {Reaped = Reaped} word_of_item buffer_of_item n (by q Renew) word slot
  items-renew = record { words = λ j a b. absurd (omega arith); slots = λ j a b. absurd (omega arith) }
