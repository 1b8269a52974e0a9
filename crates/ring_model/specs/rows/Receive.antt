-- Worked rows of receive rings: the notes of schedules, computed from the definitions alone.
use Rattle.std.specs.Prelude.{◌≡◌, ℕ, zero, suc, ◌+◌, Bool, true, false, List, [], ◌∷◌, ◌++◌, map, length, take, drop, Option, Some, None}
use Rattle.ring_model.specs.declared.steps.ControlStep.TheVariants.{AskEnable, LookAsked, Answer, LookAnswered, AskDisable}
use Rattle.ring_model.specs.declared.steps.RxStep.{RxStep}
use Rattle.ring_model.specs.declared.steps.RxStep.TheVariants.{Post, Publish, Look, Fetch, Store, Take, Head, Control, Reclaim, StoreQuiet, LoadQuiet, ClearHead, ClearTail, ClearQuiet}
use Rattle.ring_model.specs.declared.notes.Note.{Note}
use Rattle.ring_model.specs.declared.notes.Note.TheVariants as note
use Rattle.ring_model.specs.declared.states.Owner.TheVariants as owner
use Rattle.ring_model.specs.rows.Told.{place, tail, head, buffer, control}
use Rattle.ring_model.specs.shared.Handshakes.{is_answered, has_ended, is_between_epochs}
use Rattle.ring_model.specs.shared.Lawful.{holder, window}
use Rattle.ring_model.specs.shared.Agreement.{wanted_word, wanted_slot, held_buffer}
use Rattle.ring_model.specs.receive.Agreement.{rx_word_of_item, rx_buffer_of_item}
use Rattle.ring_model.specs.receive.Laws.{rx_quiesced}
use Rattle.ring_model.specs.receive.Ring.{RxRing, RxLedger, rx_opening}
use Rattle.ring_model.specs.shared.Segments.{Segment}
use Rattle.ring_model.specs.receive.Steps.{rx_after_all, rx_happened, rx_notes}

abbrev pub on_8 : RxRing ℕ
on_8 = rx_opening 8 true

abbrev pub off_8 : RxRing ℕ
off_8 = rx_opening 8 false

abbrev pub free : ℕ → Option Note
free k = Some (note.Free k)

abbrev pub fetched : ℕ → ℕ → Option Note
fetched k b = Some (note.Fetched k b)

abbrev pub taken : ℕ → ℕ → Bool → Option Note
taken b len eop = Some (note.Taken (Some (record { buffer = b; len = len; eop = eop })))

abbrev pub nothing : Option Note
nothing = Some (note.Taken None)

abbrev pub quiet : ℕ → Option Note
quiet v = Some (note.Quiet v)

-- Posts the given number of buffers, numbered from `b`.
abbrev pub rx_posts : ℕ → ℕ → List (RxStep ℕ)
rx_posts b zero = []
rx_posts b (suc k) = Post b ∷ rx_posts (b + 1) k

-- Frame after frame: each is taken and a buffer posted before the next.
abbrev pub rx_turns : ℕ → ℕ → List (RxStep ℕ)
rx_turns k zero = []
rx_turns k (suc count) = Look ∷ Fetch ∷ Store (60 + k) true ∷ Head ∷ Take ∷ Post k ∷ Publish ∷ rx_turns (k + 1) count

abbrev pub seven_posted : List (RxStep ℕ)
seven_posted = rx_posts 0 7 ++ Publish ∷ []

-- A disabling asked in the middle of a frame is answered after the frame's last segment and head.
abbrev before_asking : List (RxStep ℕ)
before_asking = Post 1 ∷ Post 2 ∷ Publish ∷ Look ∷ Fetch ∷ Store 1024 false ∷ Head ∷ []

abbrev after_asking : List (RxStep ℕ)
after_asking = Control LookAsked ∷ Control Answer ∷ Fetch ∷ Store 10 true ∷ Control Answer ∷ Head ∷ Control Answer ∷ Control LookAnswered ∷ Take ∷ Reclaim ∷ Reclaim ∷ Reclaim ∷ []

abbrev pub disabling : List (RxStep ℕ)
disabling = before_asking ++ Control AskDisable ∷ after_asking

-- The queue is cleared and enabled again, and one frame goes through.
abbrev pub renewal : List (RxStep ℕ)
renewal = ClearHead ∷ ClearTail ∷ ClearQuiet ∷ Post 9 ∷ Publish ∷ Control AskEnable ∷ Control LookAsked ∷ Control Answer ∷ Control LookAnswered ∷ Look ∷ Fetch ∷ Store 60 true ∷ Take ∷ []

abbrev pub second_disabling : List (RxStep ℕ)
second_disabling = ClearHead ∷ Control AskDisable ∷ Post 3 ∷ Control LookAsked ∷ Control Answer ∷ Head ∷ Control Answer ∷ Look ∷ Control LookAnswered ∷ Reclaim ∷ ClearHead ∷ ClearTail ∷ ClearQuiet ∷ []

-- Asks for disabling before step `i` of that list, or at its end. The row counts how many of the 20 steps happen.
abbrev asked_at : ℕ → List (RxStep ℕ)
asked_at i = take i (before_asking ++ after_asking) ++ Control AskDisable ∷ drop i (before_asking ++ after_asking)

abbrev pub rx_counts_from : ℕ → ℕ → List ℕ
rx_counts_from i zero = []
rx_counts_from i (suc more) = rx_happened on_8 (asked_at i) ∷ rx_counts_from (i + 1) more

abbrev until_quiet : List (RxStep ℕ)
until_quiet = Post 1 ∷ Post 2 ∷ Publish ∷ Look ∷ Fetch ∷ StoreQuiet ∷ Store 60 true ∷ LoadQuiet ∷ StoreQuiet ∷ Fetch ∷ LoadQuiet ∷ Take ∷ Head ∷ Control AskDisable ∷ Control LookAsked ∷ Control Answer ∷ Control LookAnswered ∷ Reclaim ∷ []

abbrev after_quiet : List (RxStep ℕ)
after_quiet = ClearHead ∷ ClearTail ∷ LoadQuiet ∷ ClearQuiet ∷ LoadQuiet ∷ Control AskEnable ∷ Control LookAsked ∷ Control Answer ∷ Control LookAnswered ∷ Post 7 ∷ Publish ∷ Fetch ∷ Look ∷ Fetch ∷ []

-- Of 12 posted items, 5 are taken and 8 stored, and the next is held: the example of docs/MODEL.md.
abbrev example : RxRing ℕ
example = rx_after_all on_8 (seven_posted ++ rx_turns 0 4 ++ Fetch ∷ Store 64 true ∷ Fetch ∷ Store 65 true ∷ Fetch ∷ Store 66 false ∷ Fetch ∷ Store 67 true ∷ Head ∷ Take ∷ Post 4 ∷ Fetch ∷ [])

abbrev word_of_item : ℕ → Option ℕ → Option (Segment ℕ) → ℕ
word_of_item = rx_word_of_item {Buffer = ℕ × ℕ} (λ (n : ℕ). n) (λ (b : ℕ). (b, 0)) (λ (b n : ℕ). (b, n))

abbrev buffer_of_item : Option ℕ → Option (Segment ℕ) → Option (ℕ × ℕ)
buffer_of_item = rx_buffer_of_item (λ (n : ℕ). n) (λ (b : ℕ). (b, 0)) (λ (b n : ℕ). (b, n))

-- Rings that are off, on, quiet, stopping, ended, stopped, cleared, tailed, new, asked, and served again.
abbrev stages : List (RxRing ℕ)
stages = off_8 ∷ map (λ (k : ℕ). rx_after_all on_8 (take k (StoreQuiet ∷ Control AskDisable ∷ Control LookAsked ∷ Control Answer ∷ Control LookAnswered ∷ ClearHead ∷ ClearTail ∷ ClearQuiet ∷ Control AskEnable ∷ Control LookAsked ∷ Control Answer ∷ [])))
    (0 ∷ 1 ∷ 2 ∷ 4 ∷ 5 ∷ 6 ∷ 7 ∷ 8 ∷ 10 ∷ 11 ∷ [])

pub record RxRows : Type 0 where
  -- One frame: posted, published, seen, fetched, stored, taken.
  pub one_frame : rx_notes on_8 (Post 5 ∷ Publish ∷ Look ∷ Fetch ∷ Store 60 true ∷ Take ∷ []) ≡ place 0 ∷ tail 1 ∷ free 1 ∷ fetched 0 5 ∷ place 0 ∷ taken 5 60 true ∷ []
  -- A load before the write-back shows nothing. If nothing is out, there is no load.
  pub early_and_late_loads : rx_notes on_8 (Post 5 ∷ Publish ∷ Look ∷ Fetch ∷ Take ∷ Store 60 true ∷ Take ∷ Take ∷ [])
      ≡ place 0 ∷ tail 1 ∷ free 1 ∷ fetched 0 5 ∷ nothing ∷ place 0 ∷ taken 5 60 true ∷ None ∷ []
  -- At most n - 1 buffers are out.
  pub seven_places : rx_notes on_8 (rx_posts 0 8) ≡ place 0 ∷ place 1 ∷ place 2 ∷ place 3 ∷ place 4 ∷ place 5 ∷ place 6 ∷ None ∷ []
  pub seven_fit : rx_happened on_8 (rx_posts 0 8) ≡ 7
  -- A segment takes up its place until the driver takes it.
  pub not_taken : rx_notes (rx_after_all on_8 (seven_posted ++ Look ∷ Fetch ∷ Store 60 true ∷ [])) (Post 7 ∷ Take ∷ Post 7 ∷ []) ≡ None ∷ taken 0 60 true ∷ place 7 ∷ []
  -- 21 frames go round a ring of 8 nearly three times. The last one uses place 4.
  pub twenty_one : map (λ (s : Segment ℕ). s.payload) (rx_after_all on_8 (seven_posted ++ rx_turns 0 21)).ledger.reaped
      ≡ 60 ∷ 61 ∷ 62 ∷ 63 ∷ 64 ∷ 65 ∷ 66 ∷ 67 ∷ 68 ∷ 69 ∷ 70 ∷ 71 ∷ 72 ∷ 73 ∷ 74 ∷ 75 ∷ 76 ∷ 77 ∷ 78 ∷ 79 ∷ 80 ∷ []
  pub twenty_first : rx_notes (rx_after_all on_8 (seven_posted ++ rx_turns 0 20)) (rx_turns 20 1)
      ≡ free 7 ∷ fetched 4 13 ∷ place 4 ∷ head 5 ∷ taken 13 80 true ∷ place 3 ∷ tail 4 ∷ []
  pub twenty_one_head : (rx_after_all on_8 (seven_posted ++ rx_turns 0 21)).head ≡ 5
  -- The head may be stored before any segment is.
  pub head_alone : rx_notes on_8 (Head ∷ []) ≡ head 0 ∷ []
  -- The controller knows of published buffers after its next look. It fetches one at a time, and the head waits for it.
  pub looks : rx_notes on_8 (Fetch ∷ Look ∷ Post 5 ∷ Fetch ∷ Publish ∷ Fetch ∷ Look ∷ Fetch ∷ Fetch ∷ Head ∷ Post 6 ∷ Publish ∷ Store 60 true ∷ Fetch ∷ Look ∷ Fetch ∷ [])
      ≡ None ∷ free 0 ∷ place 0 ∷ None ∷ tail 1 ∷ None ∷ free 1 ∷ fetched 0 5 ∷ None ∷ None ∷ place 1 ∷ tail 2 ∷ place 0 ∷ None ∷ free 1 ∷ fetched 1 6 ∷ []
  -- A queue that was never enabled takes buffers and does nothing more.
  pub never_enabled : rx_notes off_8 (Post 3 ∷ Publish ∷ Look ∷ Fetch ∷ Head ∷ StoreQuiet ∷ Take ∷ Control Answer ∷ Control AskDisable ∷ Reclaim ∷ ClearHead ∷ ClearTail ∷ ClearQuiet ∷ LoadQuiet ∷ [])
      ≡ place 0 ∷ tail 1 ∷ None ∷ None ∷ None ∷ None ∷ None ∷ None ∷ None ∷ None ∷ None ∷ None ∷ None ∷ quiet 0 ∷ []
  pub disabling_in_a_frame : rx_notes on_8 disabling
      ≡ place 0 ∷ place 1 ∷ tail 2 ∷ free 2 ∷ fetched 0 1 ∷ place 0 ∷ head 1 ∷ control 3 ∷ control 3 ∷ None ∷ fetched 1 2 ∷ place 1 ∷ None ∷ head 2 ∷ control 0 ∷ control 0 ∷ None ∷ buffer 1 ∷ buffer 2 ∷ None ∷ []
  pub renewed : rx_notes (rx_after_all on_8 disabling) renewal
      ≡ head 0 ∷ tail 0 ∷ quiet 0 ∷ place 0 ∷ tail 1 ∷ control 1 ∷ control 1 ∷ control 2 ∷ control 2 ∷ free 1 ∷ fetched 0 9 ∷ place 0 ∷ taken 9 60 true ∷ []
  pub renewal_steps : length (disabling ++ renewal) ≡ 33
  pub renewal_count : rx_happened on_8 (disabling ++ renewal) ≡ 29
  -- The second epoch is disabled like the first, and becomes the second past one.
  pub second_disabled : rx_notes (rx_after_all on_8 (disabling ++ renewal)) second_disabling
      ≡ None ∷ control 3 ∷ None ∷ control 3 ∷ None ∷ head 1 ∷ control 0 ∷ None ∷ control 0 ∷ None ∷ head 0 ∷ tail 0 ∷ quiet 0 ∷ []
  pub two_epochs : length (rx_after_all on_8 (disabling ++ renewal ++ second_disabling)).past ≡ 2
  pub past_posted : map (λ (l : RxLedger ℕ). length l.posted) (rx_after_all on_8 (disabling ++ renewal ++ second_disabling)).past ≡ 2 ∷ 1 ∷ []
  pub asked_at_every_step : rx_counts_from 0 20 ≡ 6 ∷ 8 ∷ 10 ∷ 16 ∷ 16 ∷ 16 ∷ 16 ∷ 16 ∷ 14 ∷ 14 ∷ 14 ∷ 14 ∷ 14 ∷ 14 ∷ 14 ∷ 14 ∷ 14 ∷ 14 ∷ 14 ∷ 14 ∷ []
  -- Enabling and disabling, and no second enabling before the queue is cleared.
  pub on_and_off : rx_notes off_8 (Control AskEnable ∷ Control LookAsked ∷ Control Answer ∷ Control LookAnswered ∷ Control AskDisable ∷ Control LookAsked ∷ Control Answer ∷ Control LookAnswered ∷ Control AskEnable ∷ [])
      ≡ control 1 ∷ control 1 ∷ control 2 ∷ control 2 ∷ control 3 ∷ control 3 ∷ control 0 ∷ control 0 ∷ None ∷ []
  -- A disabling is asked only after the enabling was seen answered.
  pub asked_too_early : rx_notes off_8 (Control AskDisable ∷ Control AskEnable ∷ Control AskDisable ∷ Control LookAsked ∷ Control Answer ∷ Control AskDisable ∷ Control LookAnswered ∷ Control AskDisable ∷ [])
      ≡ None ∷ control 1 ∷ None ∷ control 1 ∷ control 2 ∷ None ∷ control 2 ∷ control 3 ∷ []
  -- Each request is answered once, and only after the controller saw it.
  pub answered_once : rx_notes off_8 (Control AskEnable ∷ Control Answer ∷ Control LookAsked ∷ Control LookAnswered ∷ Control Answer ∷ Control Answer ∷ Control LookAsked ∷ Control Answer ∷ Control LookAnswered
      ∷ Control AskDisable ∷ Control Answer ∷ Control LookAnswered ∷ Control LookAsked ∷ Control Answer ∷ Control Answer ∷ Control LookAsked ∷ Control Answer ∷ [])
      ≡ control 1 ∷ None ∷ control 1 ∷ control 1 ∷ control 2 ∷ None ∷ control 2 ∷ None ∷ control 2 ∷ control 3 ∷ None ∷ control 3 ∷ control 3 ∷ control 0 ∷ None ∷ control 0 ∷ None ∷ []
  -- The head is cleared once, after all buffers came back. A controller that has ended does nothing.
  pub cleared_once : rx_notes on_8 (Post 1 ∷ Publish ∷ Look ∷ Fetch ∷ Store 60 true ∷ Head ∷ ClearHead ∷ Control AskDisable ∷ ClearHead ∷ Control LookAsked ∷ Control Answer ∷ ClearHead ∷ Control LookAnswered ∷ ClearHead
      ∷ Reclaim ∷ ClearTail ∷ ClearHead ∷ ClearHead ∷ Look ∷ Fetch ∷ Head ∷ StoreQuiet ∷ [])
      ≡ place 0 ∷ tail 1 ∷ free 1 ∷ fetched 0 1 ∷ place 0 ∷ head 1 ∷ None ∷ control 3 ∷ None ∷ control 3 ∷ control 0 ∷ None ∷ control 0 ∷ None ∷ buffer 1 ∷ None ∷ head 0 ∷ None ∷ None ∷ None ∷ None ∷ None ∷ []
  pub head_before_clearing : (rx_after_all on_8 disabling).head ≡ 2
  pub head_after_clearing : (rx_after_all on_8 (disabling ++ ClearHead ∷ [])).head ≡ 0
  -- At each stage: whether the disabling was seen answered, the queue has ended or is between epochs, and the controller is quiesced.
  pub answered : map (λ (r : RxRing ℕ). is_answered r.handshake.driver) stages ≡ false ∷ false ∷ false ∷ false ∷ false ∷ true ∷ true ∷ true ∷ false ∷ false ∷ false ∷ []
  pub queue_ended : map (λ (r : RxRing ℕ). has_ended r.handshake) stages ≡ false ∷ false ∷ false ∷ false ∷ true ∷ true ∷ true ∷ true ∷ false ∷ false ∷ false ∷ []
  pub between : map (λ (r : RxRing ℕ). is_between_epochs r.handshake) stages ≡ false ∷ false ∷ false ∷ false ∷ false ∷ false ∷ false ∷ false ∷ true ∷ true ∷ false ∷ []
  pub quiesced : map rx_quiesced stages ≡ false ∷ false ∷ true ∷ true ∷ true ∷ true ∷ true ∷ true ∷ false ∷ false ∷ false ∷ []
  -- The example: its owners, and the words and buffers of the items that are out. At the end every place is the driver's.
  pub owners : example.owners ≡ owner.Controller ∷ owner.Ring ∷ owner.Ring ∷ owner.Ring ∷ owner.Driver ∷ owner.Ring ∷ owner.Ring ∷ owner.Ring ∷ []
  pub owners_at_the_end : (rx_after_all on_8 until_quiet).owners ≡ owner.Driver ∷ owner.Driver ∷ owner.Driver ∷ owner.Driver ∷ owner.Driver ∷ owner.Driver ∷ owner.Driver ∷ owner.Driver ∷ []
  pub out : window example.queue ≡ record { size = 8; first = 5; serving = 8; past = 12; held = true }
  pub holders : holder (window on_8.queue) 0 ∷ map (holder (window example.queue)) (7 ∷ 8 ∷ 9 ∷ []) ≡ owner.Ring ∷ owner.Ring ∷ owner.Controller ∷ owner.Ring ∷ []
  pub words : map (wanted_word word_of_item buffer_of_item example.queue) (5 ∷ 6 ∷ 7 ∷ 8 ∷ 9 ∷ []) ≡ 279172874243 ∷ 283467841537 ∷ 287762808835 ∷ 0 ∷ 0 ∷ []
  pub slots : map (wanted_slot word_of_item buffer_of_item example.queue) (5 ∷ 6 ∷ 7 ∷ 8 ∷ 9 ∷ []) ≡ Some (5, 65) ∷ Some (6, 66) ∷ Some (0, 67) ∷ None ∷ Some (2, 0) ∷ []
  pub unheld : wanted_slot word_of_item buffer_of_item (rx_after_all on_8 seven_posted).queue 0 ∷ held_buffer word_of_item buffer_of_item (rx_after_all on_8 seven_posted).queue ∷ held_buffer word_of_item buffer_of_item example.queue ∷ [] ≡ Some (0, 0) ∷ None ∷ Some (1, 0) ∷ []
  -- Quiet is stored only between frames. After it nothing is fetched, and the head can still be stored.
  pub quiet_between_frames : rx_notes on_8 (rx_posts 1 3 ++ Publish ∷ Look ∷ Fetch ∷ Store 1024 false ∷ StoreQuiet ∷ Fetch ∷ StoreQuiet ∷ Store 10 true ∷ StoreQuiet ∷ Fetch ∷ Head ∷ LoadQuiet ∷ StoreQuiet ∷ Look ∷ [])
      ≡ place 0 ∷ place 1 ∷ place 2 ∷ tail 3 ∷ free 3 ∷ fetched 0 1 ∷ place 0 ∷ None ∷ fetched 1 2 ∷ None ∷ place 1 ∷ quiet 1 ∷ None ∷ head 2 ∷ quiet 1 ∷ quiet 1 ∷ free 1 ∷ []
  -- A quiet epoch does not hold back the next one.
  pub quiet_and_renewed : rx_notes on_8 (until_quiet ++ after_quiet)
      ≡ place 0 ∷ place 1 ∷ tail 2 ∷ free 2 ∷ fetched 0 1 ∷ None ∷ place 0 ∷ quiet 0 ∷ quiet 1 ∷ None ∷ quiet 1 ∷ taken 1 60 true ∷ head 1 ∷ control 3 ∷ control 3 ∷ control 0 ∷ control 0 ∷ buffer 2
      ∷ head 0 ∷ tail 0 ∷ quiet 1 ∷ quiet 0 ∷ quiet 0 ∷ control 1 ∷ control 1 ∷ control 2 ∷ control 2 ∷ place 0 ∷ tail 1 ∷ None ∷ free 1 ∷ fetched 0 7 ∷ []
