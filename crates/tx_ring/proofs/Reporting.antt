-- A report, by its descriptor or by the head word, leaves words and records as the ring has them that is reported.
use Rattle.std.proofs.Common.{◌≡◌, ◌≢◌, ℕ, ◌+◌, ◌-◌, ◌%◌, ◌<◌, ◌≤◌, Bool, true, false, not, ◌&&◌, List, [], ◌∷◌, ◌++◌, length, replicate, Option, Some, None, sym, refl, ap, ◌∙◌, subst, ⊎_elim, arith, mod-lt, mod-eq_of_lt, length-set, get_or-set_same, if◌then◌else◌}
use Rattle.std.specs.Prelude.{slice_get, slice_index, slice_set, nat_lt}
use Rattle.std.proofs.lemmas.Bool.{and_right, lt-ltb, le-ltb, cases_lt, false≢true}
use Rattle.std.proofs.lemmas.List.{length-replicate}
use mathlib.Core.Option as maybe
use Rattle.buffer_pool.specs.Buffer.{Buffer}
use Rattle.ring_model.specs.declared.states.Completion.{Completion}
use Rattle.ring_model.specs.declared.steps.TxStep.TheVariants as tx
use Rattle.ring_model.specs.shared.Frames.{Bytes}
use Rattle.ring_model.specs.shared.Handshakes.{is_serving}
use Rattle.ring_model.specs.shared.Queue.{posted_count, completed_count, returned_count}
use Rattle.ring_model.specs.shared.Agreement.{wanted_word}
use Rattle.shared_ring.specs.Registers.{registers_of}
use Rattle.ring_model.specs.transmit.Agreement.{done_word, is_told, posting_word}
use Rattle.ring_model.specs.transmit.Ring.{TxRing, TxBeginning, tx_opening, ends_posting}
use Rattle.ring_model.specs.transmit.Steps.{by_head, asks_report, tx_can, tx_changed}
use Rattle.ring_model.specs.kept.Transmit.{IsTxKept}
use Rattle.ring_laws.specs.Frames.{AllMayFollow-nil}
use Rattle.ring_laws.specs.Lists.{slice_get-front}
use Rattle.ring_model.specs.kept.Writes.{Writes}
use Rattle.ring_laws.specs.Places.{each_item-set, each_item-same, slice_index-writes}
use Rattle.ring_laws.specs.Schedules.{reached-opening}
use Rattle.ring_laws.specs.States.{serving_unanswered}
use Rattle.ring_laws.specs.Queues.{control_fits_of}
use Rattle.shared_ring.specs.declared.events.ControllerEvent.TheVariants as controller
use Rattle.shared_ring.specs.LaidOut.{IsLaidOutIn}
use Rattle.shared_ring.proofs.Laying.{registers-stay, at_zero}
use Rattle.tx_ring.specs.declared.events.TxControllerOwn.TheVariants.{Reported}
use Rattle.tx_ring.specs.Records.{Posting, DriverStep, ControllerStep, knowing}
use Rattle.shared_ring.specs.Tables.{words_of}
use Rattle.shared_ring.proofs.SeatRules.{words-big}
use Rattle.tx_ring.specs.Rule.{IsLaidOutAs, TellsReports, filled, word_of_item, buffer_of_item, word_of}
use Rattle.tx_ring.proofs.Learning.{learnt-step, learnt-unknown}
use Rattle.tx_ring.proofs.Placing.{keeps_it, goes_on, control_is, fetched-snoc, unreclaimed, laid_out-beyond, head-within}

-- the word of an item that is told or is not
said : Bool → Option Posting → ℕ
said told None = 0
said told (Some p) = posting_word length filled told p

word-said : (q : TxRing Bytes) (k : ℕ) (o s : Option Posting) → word_of_item q k o s ≡ said (is_told q k) o
unfolding said
word-said q k None s = refl
word-said q k (Some p) s = refl

-- one that asked for no report has the same word, told or not
said-silent : (a b : Bool) (o : Option Posting) → asks_report o ≡ false → said a o ≡ said b o
unfolding said
said-silent a b None e = refl
said-silent a b (Some p) e = ap (λ (t : Bool). if t then done_word else word_of p) (and_right a p.rs e) ∙ sym (ap (λ (t : Bool). if t then done_word else word_of p) (and_right b p.rs e))

said-asked : (o : Option Posting) → asks_report o ≡ true → said true o ≡ done_word
unfolding said
said-asked None e = absurd (false≢true e)
said-asked (Some p) e = ap (λ (t : Bool). if t then done_word else word_of p) e

module _ (n : ℕ) (mode : Completion) (q : TxRing Bytes) (ds : List DriverStep) (cs : List ControllerStep) (words : List ℕ) (homes : List (maybe.Option Buffer)) (pos : 1 < n) (l : IsLaidOutAs n mode q ds cs words homes) (owed : q.owed ≡ true) where
  abbrev k : IsTxKept Bytes n q
  k = keeps_it n mode q ds cs words homes pos l

  abbrev pub after : TxRing Bytes
  after = tx_changed q tx.Report

  serving : is_serving q.handshake.controller ≡ true
  serving = let r = k.reports in r.owed_serving owed

  last : ℕ
  last = completed_count q.queue - 1

  -- the last that was sent is out, and was posted as it was sent
  counts : (returned_count q.queue ≤ last) × (last + 1 ≡ completed_count q.queue) × (last < posted_count q.queue)
  unfolding last
  counts = let r = k.reports in let o = k.queue.order in let a = r.owed_last owed in let b = r.reaped_seen in let c = r.seen_reported in let d = o.completed_posted in
      let h = q.handshake in let un = unreclaimed n mode q ds cs words homes pos l (serving_unanswered h.driver h.controller h.control h.seen serving (control_fits_of n ends_posting q.queue k.queue)) in (omega arith, omega arith, omega arith)

  posted-as : (j : ℕ) → j < completed_count q.queue → slice_get q.ledger.posted j ≡ slice_get q.ledger.completed j
  posted-as j h = ap (λ (xs : List Posting). slice_get xs j) (sym k.sent.1) ∙ slice_get-front q.ledger.completed k.sent.0 j h

  -- every item but the last that was sent has the word that it had
  others : (j : ℕ) → j ≢ last → wanted_word {Reaped = ℕ} (word_of_item after) buffer_of_item q.queue j ≡ wanted_word {Reaped = ℕ} (word_of_item q) buffer_of_item q.queue j
  unfolding last
  others j ne = let r = k.reports in let o : Option Posting = slice_get q.ledger.posted j in let s : Option Posting = slice_get q.ledger.completed j in
      word-said after j o s
      ∙ ⊎_elim
      (λ lt. let a = r.reported_sent in ap (λ (b : Bool). said (not (by_head q.completion) && b) o) (lt-ltb j (completed_count q.queue) (omega arith) ∙ sym (lt-ltb j q.reported lt)))
      (λ le. ⊎_elim
      (λ below. said-silent (is_told after j) (is_told q j) o (ap asks_report (posted-as j below) ∙ r.silent j le below (λ e. omega arith)))
      (λ above. ap (λ (b : Bool). said (not (by_head q.completion) && b) o) (le-ltb j (completed_count q.queue) above ∙ sym (le-ltb j q.reported le)))
      (cases_lt j (completed_count q.queue)))
      (cases_lt j q.reported)
      ∙ sym (word-said q j o s)

  -- with a head word each item has it
  all-by_head : by_head mode ≡ true → (j : ℕ) → wanted_word {Reaped = ℕ} (word_of_item after) buffer_of_item q.queue j ≡ wanted_word {Reaped = ℕ} (word_of_item q) buffer_of_item q.queue j
  all-by_head e j = let is : by_head q.completion ≡ true = ap by_head l.completion ∙ e in let o : Option Posting = slice_get q.ledger.posted j in let s : Option Posting = slice_get q.ledger.completed j in
      word-said after j o s ∙ ap (λ (b : Bool). said (not b && nat_lt j (completed_count q.queue)) o) is ∙ sym (ap (λ (b : Bool). said (not b && nat_lt j q.reported) o) is) ∙ sym (word-said q j o s)

  last-done : by_head mode ≡ false → wanted_word {Reaped = ℕ} (word_of_item after) buffer_of_item q.queue last ≡ done_word
  unfolding last
  last-done e = let r = k.reports in let t = counts in let is : by_head q.completion ≡ false = ap by_head l.completion ∙ e in let o : Option Posting = slice_get q.ledger.posted last in
      word-said after last o (slice_get q.ledger.completed last)
      ∙ ap (λ (b : Bool). said (not b && nat_lt last (completed_count q.queue)) o) is
      ∙ ap (λ (b : Bool). said b o) (lt-ltb last (completed_count q.queue) (let u = t.1 in omega arith))
      ∙ said-asked o (ap asks_report (posted-as last (let u = t.1 in omega arith)) ∙ r.asked owed)

  reported-laid_out : (p w : ℕ) → IsLaidOutIn {Reaped = ℕ} (word_of_item after) buffer_of_item n (words_of n mode) q.queue 0 (slice_set words p w) homes → TellsReports n mode (completed_count q.queue) (slice_set words p w)
      → IsLaidOutAs n mode after ds (cs ++ controller.Own (Reported p w) ∷ []) (slice_set words p w) homes
  reported-laid_out p w laid_out tells = let m = l.controller in record {
    reachable = goes_on n mode q ds cs words homes pos l tx.Report owed;
    completion = l.completion;
    driver = l.driver;
    controller = control_is n mode q ds cs words homes pos l after (controller.Own (Reported p w)) (record { completed = m.completed; known = m.known; held = m.held; head = m.head; state = m.state; seen = m.seen; barred = refl });
    laid_out = laid_out;
    reports = tells;
    fetched = λ y held there. fetched-snoc cs (controller.Own (Reported p w)) ∙ l.fetched y held there;
    ready = l.ready;
    follow = l.follow;
    learnt = learnt-step n q k (knowing ds) l.learnt tx.Report owed refl refl;
  }

  -- B6, by the descriptor
  pub report_status-laid_out : by_head mode ≡ false → (p : ℕ) → p ≡ (completed_count q.queue - 1) % n → IsLaidOutAs n mode after ds (cs ++ controller.Own (Reported p done_word) ∷ []) (slice_set words p done_word) homes
  unfolding last
  report_status-laid_out alone p place = let m = l.laid_out in let i = m.items in let t = counts in let o = k.queue.order in let big = words-big n mode in let wc = m.word_count in
      let below : p < n = let b : (completed_count q.queue - 1) % n < n = mod-lt (completed_count q.queue - 1) (omega arith) in omega arith in
      let writes : Writes n (slice_index words) (slice_index (slice_set words p done_word)) (last % n) (wanted_word {Reaped = ℕ} (word_of_item after) buffer_of_item q.queue last) =
      subst (λ (v : ℕ). Writes n (slice_index words) (slice_index (slice_set words p done_word)) (last % n) v) (sym (last-done alone))
      (subst (λ (j : ℕ). Writes n (slice_index words) (slice_index (slice_set words p done_word)) j done_word) place (slice_index-writes words n p done_word (omega arith))) in
      reported-laid_out p done_word
      (record {
        word_count = length-set words p done_word ∙ m.word_count;
        slot_count = m.slot_count;
        registers = registers-stay n (registers_of q.queue 0) words m.registers p done_word below;
        items = record {
          words = let room = o.room in each_item-set n (returned_count q.queue) (posted_count q.queue) last (slice_index words) (slice_index (slice_set words p done_word))
              (wanted_word {Reaped = ℕ} (word_of_item q) buffer_of_item q.queue) (wanted_word {Reaped = ℕ} (word_of_item after) buffer_of_item q.queue) (omega arith) (omega arith) t.0 t.2 writes (λ j a b ne. others j ne) i.words;
          slots = i.slots;
        };
        cleared = m.cleared;
      })
      (λ e. absurd (false≢true (sym alone ∙ e)))

  -- B6, by the head word
  pub report_head-laid_out : by_head mode ≡ true → (h : ℕ) → h ≡ completed_count q.queue % n → IsLaidOutAs n mode after ds (cs ++ controller.Own (Reported (n + 4) h) ∷ []) (slice_set words (n + 4) h) homes
  report_head-laid_out more h is = let m = laid_out-beyond n mode q ds cs words homes pos l h in let i = m.items in let old = l.laid_out in
      reported-laid_out (n + 4) h
      (record {
        word_count = m.word_count;
        slot_count = m.slot_count;
        registers = m.registers;
        items = record {
          words = each_item-same n (returned_count q.queue) (posted_count q.queue) (slice_index (slice_set words (n + 4) h))
              (wanted_word {Reaped = ℕ} (word_of_item q) buffer_of_item q.queue) (wanted_word {Reaped = ℕ} (word_of_item after) buffer_of_item q.queue) (λ j a b. all-by_head more j) i.words;
          slots = i.slots;
        };
        cleared = m.cleared;
      })
      (λ e. get_or-set_same words (n + 4) h 0 (head-within n mode words e old.word_count) ∙ is)

-- a ring that is made disabled
abbrev pub beginning : Completion → TxBeginning
beginning mode = record { enabled = false; completion = mode }

pub opening-laid_out : (n : ℕ) (mode : Completion) (words : List ℕ) (homes : List (maybe.Option Buffer)) → 1 < n → words ≡ replicate (words_of n mode) 0 → length homes ≡ n → IsLaidOutAs n mode (tx_opening n (beginning mode)) [] [] words homes
opening-laid_out n mode words homes pos w count = let zero : 0 % n ≡ 0 = let h : 0 < n = omega arith in mod-eq_of_lt h in record {
  reachable = reached-opening tx_can tx_changed (tx_opening n) (beginning mode);
  completion = refl;
  driver = refl;
  controller = record { completed = λ e. refl; known = λ e. refl; held = refl; head = λ e. absurd (false≢true e); state = refl; seen = refl; barred = refl };
  laid_out = record {
    word_count = ap length w ∙ length-replicate (words_of n mode) 0;
    slot_count = count;
    registers = record {
      head = at_zero words (words_of n mode) n w;
      tail = at_zero words (words_of n mode) (n + 1) w ∙ sym zero;
      control = at_zero words (words_of n mode) (n + 2) w;
      quiet = at_zero words (words_of n mode) (n + 3) w;
    };
    items = record { words = λ k a b. absurd (omega arith); slots = λ k a b. absurd (omega arith) };
    cleared = λ a b. refl;
  };
  reports = λ e. at_zero words (words_of n mode) (n + 4) w ∙ sym zero;
  fetched = λ p held there. absurd (false≢true held);
  ready = λ s. absurd (false≢true s);
  follow = AllMayFollow-nil n;
  learnt = learnt-unknown n (tx_opening n (beginning mode)) refl;
}
