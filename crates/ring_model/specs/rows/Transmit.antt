-- Worked rows of transmit rings: the notes of schedules, computed from the definitions alone.
use Rattle.std.specs.Prelude.{◌≡◌, ℕ, zero, suc, ◌+◌, Bool, true, false, List, [], ◌∷◌, ◌++◌, map, length, take, Option, Some, None}
use Rattle.ring_model.specs.declared.states.Completion.TheVariants as by
use Rattle.ring_model.specs.declared.steps.ControlStep.TheVariants.{AskEnable, LookAsked, Answer, LookAnswered, AskDisable}
use Rattle.ring_model.specs.declared.steps.TxStep.{TxStep}
use Rattle.ring_model.specs.declared.steps.TxStep.TheVariants.{Post, Publish, Look, Fetch, Send, Report, LoadReport, Clean, Control, Reclaim, ClearHead, ClearTail, ClearReport}
use Rattle.ring_model.specs.declared.notes.Note.{Note}
use Rattle.ring_model.specs.declared.notes.Note.TheVariants as note
use Rattle.ring_model.specs.rows.Told.{place, tail, head, buffer, control}
use Rattle.ring_model.specs.shared.Frames.{Bytes, itself, chains, frames, unfinished}
use Rattle.ring_model.specs.shared.Agreement.{wanted_word}
use Rattle.ring_model.specs.transmit.Agreement.{is_told, tx_word_of_item, tx_buffer_of_item}
use Rattle.ring_model.specs.transmit.Ring.{Posting, new_posting, TxRing, tx_opening, carried, number_of_posting}
use Rattle.ring_model.specs.transmit.Steps.{asks_report, tx_after_all, tx_happened, tx_notes}

abbrev pub by_status : TxRing ℕ
by_status = tx_opening 8 (record { enabled = true; completion = by.Status })

abbrev pub by_head_word : TxRing ℕ
by_head_word = tx_opening 8 (record { enabled = true; completion = by.Head })

abbrev pub off : TxRing ℕ
off = tx_opening 8 (record { enabled = false; completion = by.Status })

abbrev pub off_by_head : TxRing ℕ
off_by_head = tx_opening 8 (record { enabled = false; completion = by.Head })

-- A frame of 60 bytes in one segment.
abbrev pub frame : ℕ → Bool → Posting ℕ
frame b rs = new_posting b 60 true rs 60

-- The first 60 bytes of a frame of 120.
abbrev half : Posting ℕ
half = new_posting 3 60 false false 120

abbrev pub ready : ℕ → Option Note
ready k = Some (note.Ready k)

abbrev pub sends : ℕ → ℕ → ℕ → Bool → Bool → Option Note
sends k b len eop rs = Some (note.Sending k (record { buffer = b; len = len; eop = eop; rs = rs }))

abbrev pub sending : ℕ → ℕ → Bool → Option Note
sending k b rs = sends k b 60 true rs

abbrev sending_half : ℕ → Option Note
sending_half k = sends k 3 60 false false

abbrev pub unreported : Option Note
unreported = Some (note.Reported None)

abbrev pub reported : ℕ → Option Note
reported k = Some (note.Reported (Some k))

-- Posted, published, seen, fetched, sent, reported, cleaned. Loads of the report before it is made show nothing.
abbrev one_frame : List (TxStep (Posting ℕ))
one_frame = Post (frame 7 true) ∷ Publish ∷ LoadReport ∷ Look ∷ Fetch ∷ Send ∷ LoadReport ∷ Report ∷ LoadReport ∷ Clean ∷ []

-- One report also covers the descriptor before it, which asked for none.
abbrev two_frames : List (TxStep (Posting ℕ))
two_frames = Post (frame 1 false) ∷ Post (frame 2 true) ∷ Publish ∷ Look ∷ Fetch ∷ Send ∷ Fetch ∷ Send ∷ Report ∷ LoadReport ∷ Clean ∷ Clean ∷ Clean ∷ []

-- Two reports are made before the first is seen.
abbrev two_reports : List (TxStep (Posting ℕ))
two_reports = Post (frame 1 true) ∷ Post (frame 2 true) ∷ Publish ∷ Look ∷ Fetch ∷ Send ∷ Report ∷ Fetch ∷ Send ∷ Report ∷ Report ∷ Clean ∷ LoadReport ∷ Clean ∷ Clean ∷ LoadReport ∷ LoadReport ∷ Clean ∷ []

abbrev pub tx_posts : ℕ → ℕ → List (TxStep (Posting ℕ))
tx_posts b zero = []
tx_posts b (suc k) = Post (frame b false) ∷ tx_posts (b + 1) k

-- Frame after frame: each is reported and cleaned before the next.
abbrev pub tx_turns : ℕ → ℕ → List (TxStep (Posting ℕ))
tx_turns k zero = []
tx_turns k (suc count) = Post (frame k true) ∷ Publish ∷ Look ∷ Fetch ∷ Send ∷ Report ∷ LoadReport ∷ Clean ∷ tx_turns (k + 1) count

-- Three frames, one of them sent. The disabling waits for the owed report, and the buffers come back.
abbrev pub disabling : List (TxStep (Posting ℕ))
disabling = Post (frame 1 true) ∷ Post (frame 2 false) ∷ Post (frame 3 false) ∷ Publish ∷ Look ∷ Fetch ∷ Send ∷ Control AskDisable ∷ Post (frame 4 false) ∷ Control LookAsked ∷ Control Answer ∷ Report
    ∷ Control Answer ∷ Fetch ∷ Control LookAnswered ∷ LoadReport ∷ Reclaim ∷ ClearHead ∷ Reclaim ∷ Reclaim ∷ Reclaim ∷ []

-- A ring that reports in its descriptors is New once its tail is cleared. One that reports through a head word is New
-- once that is cleared too.
abbrev pub renewal : List (TxStep (Posting ℕ))
renewal = ClearReport ∷ ClearHead ∷ ClearReport ∷ ClearTail ∷ ClearReport ∷ Post (frame 9 true) ∷ Publish ∷ Control AskEnable ∷ Control LookAsked ∷ Control Answer ∷ Control LookAnswered ∷ Look ∷ Fetch ∷ Send ∷ Report ∷ LoadReport ∷ Clean ∷ []

abbrev pub second_disabling : List (TxStep (Posting ℕ))
second_disabling = Post (frame 5 false) ∷ Publish ∷ ClearHead ∷ Control AskDisable ∷ Publish ∷ Control LookAsked ∷ Look ∷ Fetch ∷ Control Answer ∷ Send ∷ Control Answer ∷ Look ∷ Control LookAnswered ∷ ClearHead ∷ Reclaim ∷ ClearHead ∷ ClearHead
    ∷ ClearTail ∷ ClearReport ∷ Control AskEnable ∷ []

-- The words of items 0 to 2: a frame with no report, one whose report is made, and a posting with RS and no EOP.
abbrev words_of : TxRing ℕ → List ℕ
words_of r = map (wanted_word (tx_word_of_item (λ (n : ℕ). n) (λ (p : Posting ℕ). p.number) (is_told (tx_after_all r (take 9 two_frames)))) (tx_buffer_of_item (λ (n : ℕ). n) (λ (p : Posting ℕ). p.number)) (tx_after_all r (take 9 two_frames ++ Post (new_posting 3 62 false true 92) ∷ [])).queue) (0 ∷ 1 ∷ 2 ∷ [])

-- A frame in two postings, one in a single posting, and an unfinished one.
abbrev postings : List (Posting Bytes)
postings = new_posting 7 (1 ∷ 2 ∷ []) false false 3 ∷ new_posting 8 (3 ∷ []) true true 3 ∷ new_posting 9 (4 ∷ []) true false 1 ∷ new_posting 5 (5 ∷ []) false false 2 ∷ new_posting 6 (6 ∷ []) false true 2 ∷ []

pub record TxRows : Type 0 where
  pub one_frame_by_status : tx_notes by_status one_frame ≡ place 0 ∷ tail 1 ∷ unreported ∷ ready 1 ∷ sending 0 7 true ∷ head 1 ∷ unreported ∷ place 0 ∷ reported 0 ∷ buffer 7 ∷ []
  pub one_frame_by_head : tx_notes by_head_word one_frame ≡ place 0 ∷ tail 1 ∷ unreported ∷ ready 1 ∷ sending 0 7 true ∷ head 1 ∷ unreported ∷ head 1 ∷ reported 0 ∷ buffer 7 ∷ []
  pub two_frames_by_status : tx_notes by_status two_frames
      ≡ place 0 ∷ place 1 ∷ tail 2 ∷ ready 2 ∷ sending 0 1 false ∷ head 1 ∷ sending 1 2 true ∷ head 2 ∷ place 1 ∷ reported 1 ∷ buffer 1 ∷ buffer 2 ∷ None ∷ []
  pub two_frames_by_head : tx_notes by_head_word two_frames
      ≡ place 0 ∷ place 1 ∷ tail 2 ∷ ready 2 ∷ sending 0 1 false ∷ head 1 ∷ sending 1 2 true ∷ head 2 ∷ head 2 ∷ reported 1 ∷ buffer 1 ∷ buffer 2 ∷ None ∷ []
  pub two_frames_cleaned : (tx_after_all by_status two_frames).ledger.reaped ≡ 1 ∷ 2 ∷ []
  pub words : words_of by_status ++ words_of by_head_word ≡ 4222125241008188 ∷ 4294967296 ∷ 6473925172133950 ∷ 4222125241008188 ∷ 4222125375225916 ∷ 6473925172133950 ∷ []
  pub slot : tx_buffer_of_item (λ (n : ℕ). n) (λ (p : Posting ℕ). p.number) (Some (frame 4 true)) None ≡ Some 4
  pub in_chains : map (map number_of_posting) (chains carried postings) ≡ (7 ∷ 8 ∷ []) ∷ (9 ∷ []) ∷ []
  pub in_frames : frames itself (map carried postings) ≡ (1 ∷ 2 ∷ 3 ∷ []) ∷ (4 ∷ []) ∷ []
  pub rest : map number_of_posting (unfinished carried postings) ≡ 5 ∷ 6 ∷ []
  pub two_frames_count : tx_happened by_status two_frames ≡ 12
  pub two_frames_count_by_head : tx_happened by_head_word two_frames ≡ 12
  -- Reports are seen one after another, and only buffers covered by a seen report are cleaned. If no report is
  -- outstanding, none is loaded.
  pub two_reports_by_status : tx_notes by_status two_reports
      ≡ place 0 ∷ place 1 ∷ tail 2 ∷ ready 2 ∷ sending 0 1 true ∷ head 1 ∷ place 0 ∷ sending 1 2 true ∷ head 2 ∷ place 1 ∷ None ∷ None ∷ reported 0 ∷ buffer 1 ∷ None ∷ reported 1 ∷ None ∷ buffer 2 ∷ []
  pub two_reports_by_head : tx_notes by_head_word two_reports
      ≡ place 0 ∷ place 1 ∷ tail 2 ∷ ready 2 ∷ sending 0 1 true ∷ head 1 ∷ head 1 ∷ sending 1 2 true ∷ head 2 ∷ head 2 ∷ None ∷ None ∷ reported 0 ∷ buffer 1 ∷ None ∷ reported 1 ∷ None ∷ buffer 2 ∷ []
  -- If no report is outstanding, none is loaded. Only whole frames are published. An owed report comes before the next
  -- fetch.
  pub in_turn : tx_notes by_status (LoadReport ∷ Post half ∷ Publish ∷ LoadReport ∷ Post (frame 4 true) ∷ Post (frame 5 true) ∷ Publish ∷ Look ∷ Fetch ∷ Send ∷ Clean ∷ Fetch ∷ Send ∷ Fetch ∷ Report ∷ Fetch ∷ [])
      ≡ None ∷ place 0 ∷ None ∷ None ∷ place 1 ∷ place 2 ∷ tail 3 ∷ ready 3 ∷ sending_half 0 ∷ head 1 ∷ None ∷ sending 1 4 true ∷ head 2 ∷ None ∷ place 1 ∷ sending 2 5 true ∷ []
  pub nothing_asks : asks_report {Payload = ℕ} None ≡ false
  -- At most n - 1 buffers are out.
  pub seven_places : tx_notes by_status (tx_posts 0 8) ≡ place 0 ∷ place 1 ∷ place 2 ∷ place 3 ∷ place 4 ∷ place 5 ∷ place 6 ∷ None ∷ []
  pub seven_fit : tx_happened by_status (tx_posts 0 8) ≡ 7
  -- The controller knows of published postings after its next look, and fetches one at a time.
  pub looks : tx_notes by_status (Fetch ∷ Look ∷ Post (frame 1 false) ∷ Look ∷ Fetch ∷ Publish ∷ Fetch ∷ Look ∷ Fetch ∷ Fetch ∷ Look ∷ Post (frame 2 false) ∷ Publish ∷ Send ∷ Fetch ∷ Report ∷ Look ∷ Fetch ∷ [])
      ≡ None ∷ ready 0 ∷ place 0 ∷ ready 0 ∷ None ∷ tail 1 ∷ None ∷ ready 1 ∷ sending 0 1 false ∷ None ∷ ready 1 ∷ place 1 ∷ tail 2 ∷ head 1 ∷ None ∷ None ∷ ready 1 ∷ sending 1 2 false ∷ []
  -- Reports are loaded once the driver saw the queue enabled. A queue that is not enabled does nothing.
  pub enabled_late : tx_notes off (Post (frame 1 true) ∷ Publish ∷ Look ∷ Fetch ∷ Send ∷ Report ∷ LoadReport ∷ Clean ∷ Control Answer ∷ Control AskEnable ∷ Control Answer ∷ Control LookAsked ∷ Control Answer ∷ Control Answer ∷ Look ∷ Fetch ∷ Send ∷ Report
      ∷ LoadReport ∷ Clean ∷ Control LookAnswered ∷ LoadReport ∷ Clean ∷ [])
      ≡ place 0 ∷ tail 1 ∷ None ∷ None ∷ None ∷ None ∷ None ∷ None ∷ None ∷ control 1 ∷ None ∷ control 1 ∷ control 2 ∷ None ∷ ready 1 ∷ sending 0 1 true ∷ head 1 ∷ place 0
      ∷ None ∷ None ∷ control 2 ∷ reported 0 ∷ buffer 1 ∷ []
  -- The place of a report wraps, and a head word like the head.
  pub wrapped_by_status : tx_notes (tx_after_all by_status (tx_turns 0 8)) (tx_turns 8 1) ≡ place 0 ∷ tail 1 ∷ ready 1 ∷ sending 0 8 true ∷ head 1 ∷ place 0 ∷ reported 0 ∷ buffer 8 ∷ []
  pub wrapped_report : tx_notes (tx_after_all by_head_word (tx_turns 0 7)) (tx_turns 7 2)
      ≡ place 7 ∷ tail 0 ∷ ready 1 ∷ sending 7 7 true ∷ head 0 ∷ head 0 ∷ reported 7 ∷ buffer 7 ∷ place 0 ∷ tail 1 ∷ ready 1 ∷ sending 0 8 true ∷ head 1 ∷ head 1 ∷ reported 0 ∷ buffer 8 ∷ []
  -- After an answered disabling, buffers come back by reclaiming alone, also those whose report was seen.
  pub reclaimed_only : tx_notes (tx_after_all by_status (Post (frame 1 true) ∷ Publish ∷ Look ∷ Fetch ∷ Send ∷ Report ∷ LoadReport ∷ Control AskDisable ∷ Control LookAsked ∷ Control Answer ∷ Control LookAnswered ∷ [])) (Clean ∷ Reclaim ∷ []) ≡ None ∷ buffer 1 ∷ []
  pub cleared : map (λ (r : TxRing ℕ). r.published ∷ r.reported ∷ []) (tx_after_all by_status (disabling ++ ClearHead ∷ ClearTail ∷ []) ∷ []) ≡ (0 ∷ 0 ∷ []) ∷ []
  pub disabled_by_status : tx_notes by_status disabling
      ≡ place 0 ∷ place 1 ∷ place 2 ∷ tail 3 ∷ ready 3 ∷ sending 0 1 true ∷ head 1 ∷ control 3 ∷ None ∷ control 3 ∷ None ∷ place 0 ∷ control 0 ∷ None ∷ control 0 ∷ None ∷ buffer 1 ∷ None ∷ buffer 2 ∷ buffer 3 ∷ None ∷ []
  pub renewed_by_status : tx_notes (tx_after_all by_status disabling) renewal
      ≡ None ∷ head 0 ∷ None ∷ tail 0 ∷ None ∷ place 0 ∷ tail 1 ∷ control 1 ∷ control 1 ∷ control 2 ∷ control 2 ∷ ready 1 ∷ sending 0 9 true ∷ head 1 ∷ place 0 ∷ reported 0 ∷ buffer 9 ∷ []
  pub renewed_by_head : tx_notes (tx_after_all by_head_word disabling) renewal
      ≡ None ∷ head 0 ∷ None ∷ tail 0 ∷ head 0 ∷ place 0 ∷ tail 1 ∷ control 1 ∷ control 1 ∷ control 2 ∷ control 2 ∷ ready 1 ∷ sending 0 9 true ∷ head 1 ∷ head 1 ∷ reported 0 ∷ buffer 9 ∷ []
  -- The second epoch is disabled like the first. Its head is cleared once, after all buffers came back, and no tail is
  -- stored after the request.
  pub second_disabled_by_status : tx_notes (tx_after_all by_status (disabling ++ renewal)) second_disabling
      ≡ place 1 ∷ tail 2 ∷ None ∷ control 3 ∷ None ∷ control 3 ∷ ready 1 ∷ sending 1 5 false ∷ None ∷ head 2 ∷ control 0 ∷ None ∷ control 0 ∷ None ∷ buffer 5 ∷ head 0 ∷ None ∷ tail 0 ∷ None ∷ control 1 ∷ []
  pub second_disabled_by_head : tx_notes (tx_after_all by_head_word (disabling ++ renewal)) second_disabling
      ≡ place 1 ∷ tail 2 ∷ None ∷ control 3 ∷ None ∷ control 3 ∷ ready 1 ∷ sending 1 5 false ∷ None ∷ head 2 ∷ control 0 ∷ None ∷ control 0 ∷ None ∷ buffer 5 ∷ head 0 ∷ None ∷ tail 0 ∷ head 0 ∷ control 1 ∷ []
  pub two_epochs : length (tx_after_all by_status (disabling ++ renewal ++ second_disabling)).past ≡ 2
