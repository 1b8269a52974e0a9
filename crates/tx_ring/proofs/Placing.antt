-- What a ring's records, words and slots that lie as it has them give to each step: the parts that all steps of a transmit ring share.
use Rattle.std.proofs.Common.{◌≡◌, ◌≢◌, ℕ, ◌+◌, ◌<◌, ◌≤◌, Bool, true, false, not, ◌&&◌, List, [], ◌∷◌, ◌++◌, length, Option, sym, refl, ap, ◌∙◌, subst, arith, length-set, get_or-set_other}
use Rattle.std.specs.Prelude.{slice_index, slice_set, nat_lt}
use Rattle.std.proofs.lemmas.Bool.{le-ltb, false≢true}
use mathlib.Core.Option as maybe
use Rattle.buffer_pool.specs.Buffer.{Buffer}
use Rattle.ring_model.specs.declared.states.Completion.{Completion}
use Rattle.ring_model.specs.declared.states.Completion.TheVariants.{Status, Head}
use Rattle.ring_model.specs.declared.steps.TxStep.{TxStep}
use Rattle.ring_model.specs.shared.Frames.{Bytes}
use Rattle.ring_model.specs.shared.Handshakes.{is_answered}
use Rattle.ring_model.specs.shared.Queue.{Queue, reaped_count, returned_count}
use Rattle.ring_model.specs.transmit.Agreement.{is_told}
use Rattle.ring_model.specs.transmit.Ring.{TxRing, tx_opening, ends_posting}
use Rattle.ring_model.specs.transmit.Steps.{IsTxReachable, by_head, tx_can, tx_changed}
use Rattle.ring_model.specs.kept.Transmit.{IsTxKept}
use Rattle.ring_laws.specs.Rings.{tx_kept}
use Rattle.ring_laws.specs.Schedules.{reached-changed}
use Rattle.shared_ring.specs.Records.{uncontrolled, undriven}
use Rattle.shared_ring.specs.Slots.{home_at}
use Rattle.shared_ring.specs.LaidOut.{driven, IsControlled, IsLaidOutIn}
use Rattle.shared_ring.proofs.Folds.{driving-snoc, controlling-snoc}
use Rattle.shared_ring.proofs.Items.{items-read}
use Rattle.shared_ring.proofs.Laying.{descriptors-stay}
use Rattle.tx_ring.specs.Records.{Posting, TxDriven, TxControlled, DriverStep, ControllerStep, posting_of, drive_own, drive, driving, control_own, control, controlling, fetch_word, fetched_from, fetched_word, Knowing, know, knowing}
use Rattle.shared_ring.specs.Tables.{words_of}
use Rattle.shared_ring.proofs.SeatRules.{words-big}
use Rattle.tx_ring.specs.Rule.{IsLaidOutAs, Learnt, TellsReports, word_of_item, buffer_of_item}
use Rattle.tx_ring.proofs.Learning.{knowing-snoc, learnt-step}

fetched_from-snoc : (w : ℕ) (es : List ControllerStep) (e : ControllerStep) → fetched_from w (es ++ e ∷ []) ≡ fetch_word (fetched_from w es) e
fetched_from-snoc w [] e = refl
fetched_from-snoc w (x ∷ es) e = fetched_from-snoc (fetch_word w x) es e

pub fetched-snoc : (es : List ControllerStep) (e : ControllerStep) → fetched_word (es ++ e ∷ []) ≡ fetch_word (fetched_word es) e
fetched-snoc es e = fetched_from-snoc 0 es e

-- a ring that reports by a head word has that word
pub head-within : (n : ℕ) (mode : Completion) (words : List ℕ) → by_head mode ≡ true → length words ≡ words_of n mode → n + 4 < length words
head-within n Status words e c = absurd (false≢true e)
head-within n Head words e c = omega arith

-- a word other than that of reports
pub reports-else : (n : ℕ) (mode : Completion) (reported : ℕ) (words : List ℕ) (i v : ℕ) → i ≢ n + 4 → TellsReports n mode reported words → TellsReports n mode reported (slice_set words i v)
reports-else n mode reported words i v ne t = λ e. get_or-set_other words i (n + 4) v 0 (λ f. ne (sym f)) ∙ t e

-- an item that is not reported is not told
pub untold : (q : TxRing Bytes) (k : ℕ) → q.reported ≤ k → is_told q k ≡ false
untold q k h = side (not (by_head q.completion)) (nat_lt k q.reported) (le-ltb k q.reported h)
  where
    side : (a b : Bool) → b ≡ false → (a && b) ≡ false
    side true b e = e
    side false b e = refl

-- another way to say words says nothing else of the controller
pub controlled-else : (p : Queue Posting Posting ℕ) (said saying : ℕ → Option Posting → Option Posting → ℕ) (bars : Bool) (c : TxControlled) → IsControlled {Reaped = ℕ} said buffer_of_item p bars c → IsControlled {Reaped = ℕ} saying buffer_of_item p bars c
controlled-else p said saying bars c h = record { completed = h.completed; known = h.known; held = h.held; head = h.head; state = h.state; seen = h.seen; barred = h.barred }

module _ (n : ℕ) (mode : Completion) (q : TxRing Bytes) (ds : List DriverStep) (cs : List ControllerStep) (words : List ℕ) (homes : List (maybe.Option Buffer)) (pos : 1 < n) (l : IsLaidOutAs n mode q ds cs words homes) where
  pub keeps_it : IsTxKept Bytes n q
  keeps_it = tx_kept n q pos l.reachable

  pub big : n + 4 ≤ words_of n mode
  big = words-big n mode

  pub goes_on : (step : TxStep Posting) → tx_can q step ≡ true → IsTxReachable Bytes n (tx_changed q step)
  goes_on step may = reached-changed tx_can tx_changed (tx_opening n) q step may l.reachable

  pub drove : (e : DriverStep) → driving (ds ++ e ∷ []) ≡ drive (driven q.queue) e
  drove e = driving-snoc posting_of drive_own undriven ds e ∙ ap (λ (d : TxDriven). drive d e) l.driver

  pub knew : (e : DriverStep) → knowing (ds ++ e ∷ []) ≡ know (driven q.queue) (knowing ds) e
  knew e = knowing-snoc ds e ∙ ap (λ (d : TxDriven). know d (knowing ds) e) l.driver

  pub control_is : (p : TxRing Bytes) (e : ControllerStep) → IsControlled {Reaped = ℕ} (word_of_item p) buffer_of_item p.queue p.owed (control n (controlling n cs) e) → IsControlled {Reaped = ℕ} (word_of_item p) buffer_of_item p.queue p.owed (controlling n (cs ++ e ∷ []))
  control_is p e h = subst (λ (y : TxControlled). IsControlled {Reaped = ℕ} (word_of_item p) buffer_of_item p.queue p.owed y) (sym (controlling-snoc n control_own uncontrolled cs e)) h

  pub knows_is : (p : TxRing Bytes) (e : DriverStep) → Learnt n p (know (driven q.queue) (knowing ds) e) → Learnt n p (knowing (ds ++ e ∷ []))
  knows_is p e h = subst (λ (y : Knowing). Learnt n p y) (sym (knew e)) h

  pub unreclaimed : is_answered q.handshake.driver ≡ false → returned_count q.queue ≡ reaped_count q.queue
  unreclaimed h = let k = keeps_it in let o = k.queue.order in let z = o.not_reclaimed h in omega arith

  -- a word beyond the registers leaves them, and the descriptors
  pub laid_out-beyond : (v : ℕ) → IsLaidOutIn {Reaped = ℕ} (word_of_item q) buffer_of_item n (words_of n mode) q.queue 0 (slice_set words (n + 4) v) homes
  laid_out-beyond v = let k = keeps_it in let m = l.laid_out in let r = m.registers in record {
    word_count = length-set words (n + 4) v ∙ m.word_count;
    slot_count = m.slot_count;
    registers = record {
      head = get_or-set_other words (n + 4) n v 0 (λ e. omega arith) ∙ r.head;
      tail = get_or-set_other words (n + 4) (n + 1) v 0 (λ e. omega arith) ∙ r.tail;
      control = get_or-set_other words (n + 4) (n + 2) v 0 (λ e. omega arith) ∙ r.control;
      quiet = get_or-set_other words (n + 4) (n + 3) v 0 (λ e. omega arith) ∙ r.quiet;
    };
    items = items-read (word_of_item q) buffer_of_item n ends_posting q.queue k.queue (slice_index words) (home_at homes) m.items (slice_index (slice_set words (n + 4) v)) (λ j b. descriptors-stay n (n + 4) v j words (omega arith) b);
    cleared = m.cleared;
  }

  -- the parts of a ring that most steps of a driver leave
  abbrev pub Leaves : TxRing Bytes → Type 0
  Leaves p = (p.completion ≡ q.completion) × (p.reported ≡ q.reported) × (p.held ≡ q.held) × (p.known ≡ q.known) × (p.handshake.controller ≡ q.handshake.controller) × (p.ledger.posted ≡ q.ledger.posted) × (p.ledger.completed ≡ q.ledger.completed) × (p.seen_reported ≡ q.seen_reported) × (p.past ≡ q.past)

  -- a step of the driver within its epoch that posts nothing and learns nothing
  pub driver-goes : (s : TxStep Posting) (e : DriverStep) (ws : List ℕ) (hs : List (maybe.Option Buffer)) → tx_can q s ≡ true → drive (driven q.queue) e ≡ driven (tx_changed q s).queue → know (driven q.queue) (knowing ds) e ≡ knowing ds
      → Leaves (tx_changed q s)
      → IsControlled {Reaped = ℕ} (word_of_item (tx_changed q s)) buffer_of_item (tx_changed q s).queue (tx_changed q s).owed (controlling n cs)
      → IsLaidOutIn {Reaped = ℕ} (word_of_item (tx_changed q s)) buffer_of_item n (words_of n mode) (tx_changed q s).queue 0 ws hs
      → TellsReports n mode q.reported ws
      → IsLaidOutAs n mode (tx_changed q s) (ds ++ e ∷ []) cs ws hs
  driver-goes s e ws hs can drives knows same ctl laid_out tells = record {
    reachable = goes_on s can;
    completion = same.0 ∙ l.completion;
    driver = drove e ∙ drives;
    controller = ctl;
    laid_out = laid_out;
    reports = rw same.1 tells;
    fetched = rw (same.2, same.5, same.6) l.fetched;
    ready = rw (same.3, same.4, same.5) l.ready;
    follow = rw same.5 l.follow;
    learnt = knows_is (tx_changed q s) e (subst (λ (y : Knowing). Learnt n (tx_changed q s) y) (sym knows) (learnt-step n q keeps_it (knowing ds) l.learnt s can same.8 same.7));
  }
