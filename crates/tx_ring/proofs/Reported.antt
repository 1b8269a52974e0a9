-- Where the oldest report is looked for, the word that is found tells whether it was made.
use Rattle.std.proofs.Common.{◌≡◌, ℕ, zero, suc, ◌+◌, ◌-◌, ◌%◌, ◌<◌, ◌≤◌, Bool, true, false, not, ◌&&◌, List, length, Option, Some, None, sym, refl, ap, ◌∙◌, ⊎_elim, arith, mod-lt, if◌then◌else◌}
use Rattle.std.specs.Prelude.{slice_get, slice_index, nat_lt}
use Rattle.std.proofs.lemmas.Bool.{lt-ltb, le-ltb, cases_lt, false≢true}
use Rattle.std.proofs.lemmas.Option.{none-some, same_Some}
use mathlib.Core.Option as maybe
use Rattle.buffer_pool.specs.Buffer.{Buffer}
use Rattle.ring_model.specs.declared.states.Completion.{Completion}
use Rattle.ring_model.specs.declared.states.Completion.TheVariants.{Status, Head}
use Rattle.ring_model.specs.shared.Frames.{Bytes}
use Rattle.ring_model.specs.shared.Handshakes.{is_live}
use Rattle.ring_model.specs.shared.Places.{between_places}
use Rattle.ring_model.specs.shared.Queue.{posted_count}
use Rattle.ring_model.specs.transmit.Agreement.{done_word, is_told, posting_word}
use Rattle.ring_model.specs.transmit.Ring.{TxRing}
use Rattle.ring_model.specs.transmit.Steps.{by_head, asks_report, first_report, oldest_report}
use Rattle.ring_laws.specs.Places.{ahead}
use Rattle.ring_laws.specs.States.{live_unanswered}
use Rattle.ring_model.specs.kept.Transmit.{IsTxKept}
use Rattle.ring_laws.specs.Rings.{first_report-above}
use Rattle.tx_ring.specs.Records.{Posting, DriverStep, ControllerStep}
use Rattle.tx_ring.specs.Rule.{IsLaidOutAs, filled, word_of_item, word_of}
use Rattle.tx_ring.specs.Plays.{is_done, report_word, reports_item}
use Rattle.tx_ring.proofs.Words.{undone-tx_word, done-done_word}
use Rattle.tx_ring.proofs.Placing.{keeps_it, unreclaimed}

-- the report that is looked for is among those of so many items, and was asked for
found-below : (ps : List Posting) (k more j : ℕ) (b : Bool) → asks_report (slice_get ps k) ≡ b → (first_report ps (k + 1) more ≡ Some j → (j < k + 1 + more) × (asks_report (slice_get ps j) ≡ true))
    → (if b then Some k else first_report ps (k + 1) more) ≡ Some j → (j < k + suc more) × (asks_report (slice_get ps j) ≡ true)
found-below ps k more j true asked rest e = let s = same_Some k j e in (omega arith, ap (λ (i : ℕ). asks_report (slice_get ps i)) (sym s) ∙ asked)
found-below ps k more j false asked rest e = let r = rest e in let b = r.0 in (omega arith, r.1)

pub first_report-asks : (ps : List Posting) (k count j : ℕ) → first_report ps k count ≡ Some j → (j < k + count) × (asks_report (slice_get ps j) ≡ true)
first_report-asks ps k zero j e = absurd (none-some j e)
first_report-asks ps k (suc more) j e = found-below ps k more j (asks_report (slice_get ps k)) refl (first_report-asks ps (k + 1) more j) e

-- a descriptor has DD exactly where it is told
told-done : (told : Bool) (p : Posting) → p.rs ≡ true → length p.payload ≤ 2048 → is_done (posting_word length filled told p) ≡ told
told-done true p asked small = ap (λ (b : Bool). is_done (if b then done_word else word_of p)) asked ∙ done-done_word
told-done false p asked small = undone-tx_word (length p.payload) p.eop p.rs p.paylen small

said-done : (q : TxRing Bytes) (j : ℕ) (o s : Option Posting) → asks_report o ≡ true → ((p : Posting) → o ≡ Some p → length p.payload ≤ 2048) → is_done (word_of_item q j o s) ≡ is_told q j
said-done q j None s asked small = absurd (false≢true asked)
said-done q j (Some p) s asked small = told-done (is_told q j) p asked (small p refl)

module _ (n : ℕ) (mode : Completion) (q : TxRing Bytes) (ds : List DriverStep) (cs : List ControllerStep) (words : List ℕ) (homes : List (maybe.Option Buffer)) (pos : 1 < n) (l : IsLaidOutAs n mode q ds cs words homes) (j : ℕ)
    (oldest : oldest_report q ≡ Some j) (live : is_live q.handshake.driver ≡ true) where
  abbrev k : IsTxKept Bytes n q
  k = keeps_it n mode q ds cs words homes pos l

  asked : (q.seen_reported ≤ j) × (j < posted_count q.queue) × (asks_report (slice_get q.ledger.posted j) ≡ true)
  asked = let r = k.reports in let o = k.queue.order in let sp = o.completed_posted in let a = r.seen_reported in let b = r.reported_sent in
      let t = first_report-asks q.ledger.posted q.seen_reported (posted_count q.queue - q.seen_reported) j oldest in let f = t.0 in
      (first_report-above q.ledger.posted q.seen_reported (posted_count q.queue - q.seen_reported) j oldest, omega arith, t.1)

  by-status : by_head mode ≡ false → reports_item n q.seen_reported (Some j) (j % n) (slice_index words (j % n)) ≡ nat_lt j q.reported
  by-status alone = let m = l.laid_out in let i = m.items in let a = asked in let above = a.0 in let below = a.1 in let r = k.reports in let gs = r.reaped_seen in
      let un = unreclaimed n mode q ds cs words homes pos l (live_unanswered q.handshake.driver live) in let place : j % n < n = mod-lt j (omega arith) in
      ap (λ (b : Bool). if b then is_done (slice_index words (j % n)) else not (nat_lt (between_places n (q.seen_reported % n) (slice_index words (j % n))) (between_places n (q.seen_reported % n) ((j + 1) % n)))) (lt-ltb (j % n) n place)
      ∙ ap is_done (i.words j (omega arith) below)
      ∙ said-done q j (slice_get q.ledger.posted j) (slice_get q.ledger.completed j) a.2 (λ p e. let f = l.follow j p e in let g = f.follows in g.few_bytes)
      ∙ ap (λ (b : Bool). not b && nat_lt j q.reported) (ap by_head l.completion ∙ alone)

  past : (a b c : ℕ) → c ≤ a → c ≤ b → not (nat_lt (a - c) (b + 1 - c)) ≡ nat_lt b a
  past a b c ca cb = ⊎_elim
      (λ lt. ap not (le-ltb (a - c) (b + 1 - c) (omega arith)) ∙ sym (lt-ltb b a lt))
      (λ le. ap not (lt-ltb (a - c) (b + 1 - c) (omega arith)) ∙ sym (le-ltb b a le))
      (cases_lt b a)

  by-word : by_head mode ≡ true → reports_item n q.seen_reported (Some j) (n + 4) (slice_index words (n + 4)) ≡ nat_lt j q.reported
  by-word more = let a = asked in let above = a.0 in let below = a.1 in let r = k.reports in let gs = r.reaped_seen in let sr = r.seen_reported in let rs = r.reported_sent in let o = k.queue.order in let sp = o.completed_posted in let room = o.room in
      ap (λ (b : Bool). if b then is_done (slice_index words (n + 4)) else not (nat_lt (between_places n (q.seen_reported % n) (slice_index words (n + 4))) (between_places n (q.seen_reported % n) ((j + 1) % n)))) (le-ltb (n + 4) n (omega arith))
      ∙ ap (λ (w : ℕ). not (nat_lt (between_places n (q.seen_reported % n) w) (between_places n (q.seen_reported % n) ((j + 1) % n)))) (l.reports more)
      ∙ ap (λ (w : ℕ). not (nat_lt w (between_places n (q.seen_reported % n) ((j + 1) % n)))) (ahead n q.seen_reported q.reported (omega arith) sr (omega arith))
      ∙ ap (λ (w : ℕ). not (nat_lt (q.reported - q.seen_reported) w)) (ahead n q.seen_reported (j + 1) (omega arith) (omega arith) (omega arith))
      ∙ past q.reported j q.seen_reported sr above

shown : (n : ℕ) (mode : Completion) (seen i j : ℕ) (words : List ℕ) (made : Bool) → (by_head mode ≡ false → reports_item n seen (Some j) (j % n) (slice_index words (j % n)) ≡ made) → (by_head mode ≡ true → reports_item n seen (Some j) (n + 4) (slice_index words (n + 4)) ≡ made)
    → i ≡ report_word n mode j → reports_item n seen (Some j) i (slice_index words i) ≡ made
shown n Status seen i j words made a b at = ap (λ (p : ℕ). reports_item n seen (Some j) p (slice_index words p)) at ∙ a refl
shown n Head seen i j words made a b at = ap (λ (p : ℕ). reports_item n seen (Some j) p (slice_index words p)) at ∙ b refl

pub reports-shown : (n : ℕ) (mode : Completion) (q : TxRing Bytes) (ds : List DriverStep) (cs : List ControllerStep) (words : List ℕ) (homes : List (maybe.Option Buffer)) (pos : 1 < n) (l : IsLaidOutAs n mode q ds cs words homes) (i j : ℕ)
    → oldest_report q ≡ Some j → i ≡ report_word n mode j → is_live q.handshake.driver ≡ true → reports_item n q.seen_reported (Some j) i (slice_index words i) ≡ nat_lt j q.reported
reports-shown n mode q ds cs words homes pos l i j oldest at live = shown n mode q.seen_reported i j words (nat_lt j q.reported)
    (λ e. by-status n mode q ds cs words homes pos l j oldest live e) (λ e. by-word n mode q ds cs words homes pos l j oldest live e) at

-- a head word has a place of the ring
beyond : (n : ℕ) (mode : Completion) (i j : ℕ) → 0 < n → i ≡ report_word n mode j → n ≤ i → (by_head mode ≡ true) × (i ≡ n + 4)
beyond n Status i j pos at far = let m : j % n < n = mod-lt j pos in absurd (omega arith)
beyond n Head i j pos at far = (refl, at)

pub head-place : (n : ℕ) (mode : Completion) (q : TxRing Bytes) (ds : List DriverStep) (cs : List ControllerStep) (words : List ℕ) (homes : List (maybe.Option Buffer)) (pos : 1 < n) (l : IsLaidOutAs n mode q ds cs words homes) (i j : ℕ) → i ≡ report_word n mode j
    → n ≤ i → slice_index words i < n
head-place n mode q ds cs words homes pos l i j at far = let b = beyond n mode i j (omega arith) at far in let e : slice_index words i ≡ q.reported % n = ap (slice_index words) b.1 ∙ l.reports b.0 in
    let m : q.reported % n < n = mod-lt q.reported (omega arith) in omega arith
