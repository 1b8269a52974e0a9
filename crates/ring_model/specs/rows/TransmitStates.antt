-- Worked rows of transmit rings: each step in each state where it can happen, so that no possible step is forbidden.
use Rattle.std.specs.Prelude.{◌≡◌, true, false, [], ◌∷◌, ◌++◌, None}
use Rattle.ring_model.specs.declared.steps.ControlStep.TheVariants.{AskEnable, LookAsked, Answer, LookAnswered, AskDisable}
use Rattle.ring_model.specs.declared.steps.TxStep.TheVariants.{Post, Publish, Look, Fetch, Send, Report, LoadReport, Clean, Control, Reclaim, ClearHead, ClearTail, ClearReport}
use Rattle.ring_model.specs.rows.Told.{place, tail, head, buffer, control}
use Rattle.ring_model.specs.transmit.Ring.{new_posting}
use Rattle.ring_model.specs.rows.Transmit.{by_status, by_head_word, off, off_by_head, frame, ready, sending, sends, unreported, reported, tx_posts, tx_turns, disabling, renewal, second_disabling}
use Rattle.ring_model.specs.transmit.Steps.{tx_after_all, tx_notes}

pub record TxStateRows : Type 0 where
  -- From New to the answered enabling, segments are posted and published and the control word is loaded: before the
  -- request, before the answer, and after it.
  pub asked : tx_notes off (Control LookAsked ∷ Control LookAnswered ∷ Publish ∷ Post (frame 1 false) ∷ Publish ∷ Publish ∷ Control AskEnable ∷ Post (frame 2 false) ∷ Publish ∷ Control LookAnswered
      ∷ Control LookAsked ∷ Post (frame 3 true) ∷ Publish ∷ Control LookAsked ∷ Control LookAnswered ∷ Control Answer ∷ Control LookAsked ∷ Post (frame 4 false) ∷ Publish ∷ Look ∷ Fetch ∷ Look
      ∷ Send ∷ LoadReport ∷ Control LookAnswered ∷ LoadReport ∷ [])
      ≡ control 0 ∷ control 0 ∷ tail 0 ∷ place 0 ∷ tail 1 ∷ tail 1 ∷ control 1 ∷ place 1 ∷ tail 2 ∷ control 1 ∷ control 1 ∷ place 2 ∷ tail 3 ∷ control 1 ∷ control 1 ∷ control 2 ∷ control 2
      ∷ place 3 ∷ tail 4 ∷ ready 4 ∷ sending 0 1 false ∷ ready 4 ∷ head 1 ∷ None ∷ control 2 ∷ unreported ∷ []
  -- Enabling is asked once, also if the ring is full.
  pub full_before_asking : tx_notes (tx_after_all off_by_head (tx_posts 0 7)) (Post (frame 7 false) ∷ Control AskEnable ∷ Control AskEnable ∷ [])
      ≡ None ∷ control 1 ∷ None ∷ []
  -- Frames of several segments: all words are loaded while one is held, within a frame, and while a report is owed.
  pub within_a_frame : tx_notes by_status (Publish ∷ Post (new_posting 1 2048 false false 2049) ∷ Publish ∷ Post (new_posting 2 1 true true 2049) ∷ Publish ∷ Post (new_posting 3 14 true true 14)
      ∷ Look ∷ Publish ∷ Fetch ∷ Look ∷ Control LookAsked ∷ Control LookAnswered ∷ Post (new_posting 4 2000 false false 2020) ∷ Publish ∷ Send ∷ Look ∷ Control LookAsked ∷ Control LookAnswered
      ∷ LoadReport ∷ Fetch ∷ Send ∷ Control LookAnswered ∷ Look ∷ Post (new_posting 5 20 true false 2020) ∷ Publish ∷ Report ∷ LoadReport ∷ Clean ∷ Fetch ∷ Clean ∷ Send ∷ Fetch ∷ Report ∷ Fetch
      ∷ Send ∷ Fetch ∷ Look ∷ Fetch ∷ [])
      ≡ tail 0 ∷ place 0 ∷ None ∷ place 1 ∷ tail 2 ∷ place 2 ∷ ready 2 ∷ tail 3 ∷ sends 0 1 2048 false false ∷ ready 3 ∷ control 2 ∷ control 2 ∷ place 3 ∷ None ∷ head 1 ∷ ready 2 ∷ control 2
      ∷ control 2 ∷ unreported ∷ sends 1 2 1 true true ∷ head 2 ∷ control 2 ∷ ready 1 ∷ place 4 ∷ tail 5 ∷ place 1 ∷ reported 1 ∷ buffer 1 ∷ sends 2 3 14 true true ∷ buffer 2 ∷ head 3 ∷ None
      ∷ place 2 ∷ None ∷ None ∷ None ∷ ready 2 ∷ sends 3 4 2000 false false ∷ []
  -- A report is seen and a buffer cleaned while the ring is full and a frame is half sent. A disabling waits for the
  -- other half.
  pub half_sent : tx_notes by_head_word (Post (frame 1 true) ∷ Post (new_posting 2 60 false false 120) ∷ Post (new_posting 3 60 true false 120) ∷ Post (frame 4 false) ∷ Post (frame 5 false)
      ∷ Post (frame 6 false) ∷ Publish ∷ Post (new_posting 7 30 false false 90) ∷ Post (new_posting 8 60 true false 90) ∷ Look ∷ Fetch ∷ Send ∷ Report ∷ LoadReport ∷ Fetch ∷ Send ∷ Clean
      ∷ Post (new_posting 8 60 true false 90) ∷ Publish ∷ Control AskDisable ∷ Control LookAsked ∷ Control Answer ∷ Fetch ∷ Send ∷ Control Answer ∷ [])
      ≡ place 0 ∷ place 1 ∷ place 2 ∷ place 3 ∷ place 4 ∷ place 5 ∷ tail 6 ∷ place 6 ∷ None ∷ ready 6 ∷ sending 0 1 true ∷ head 1 ∷ head 1 ∷ reported 0 ∷ sends 1 2 60 false false ∷ head 2
      ∷ buffer 1 ∷ place 7 ∷ tail 0 ∷ control 3 ∷ control 3 ∷ None ∷ sending 2 3 false ∷ head 3 ∷ control 0 ∷ []
  -- Reports are seen and buffers cleaned while a disabling is asked, and after the controller has ended, until the
  -- driver sees the answer.
  pub stopping : tx_notes by_status (Post (frame 1 true) ∷ Post (frame 2 true) ∷ Post (frame 3 true) ∷ Post (frame 4 false) ∷ Publish ∷ Look ∷ Fetch ∷ Send ∷ Report ∷ Fetch ∷ Control AskDisable
      ∷ LoadReport ∷ Control LookAnswered ∷ Control LookAsked ∷ Control LookAsked ∷ LoadReport ∷ Send ∷ Clean ∷ Control LookAnswered ∷ Look ∷ LoadReport ∷ Report ∷ Clean ∷ LoadReport
      ∷ Control LookAnswered ∷ Fetch ∷ Send ∷ Control Answer ∷ Report ∷ Control Answer ∷ Control LookAsked ∷ LoadReport ∷ Clean ∷ LoadReport ∷ Clean ∷ Control LookAnswered ∷ Reclaim ∷ Reclaim ∷ [])
      ≡ place 0 ∷ place 1 ∷ place 2 ∷ place 3 ∷ tail 4 ∷ ready 4 ∷ sending 0 1 true ∷ head 1 ∷ place 0 ∷ sending 1 2 true ∷ control 3 ∷ reported 0 ∷ control 3 ∷ control 3 ∷ control 3 ∷ unreported
      ∷ head 2 ∷ buffer 1 ∷ control 3 ∷ ready 2 ∷ unreported ∷ place 1 ∷ None ∷ reported 1 ∷ control 3 ∷ sending 2 3 true ∷ head 3 ∷ None ∷ place 2 ∷ control 0 ∷ control 0 ∷ reported 2 ∷ buffer 2
      ∷ None ∷ buffer 3 ∷ control 0 ∷ buffer 4 ∷ None ∷ []
  -- The control word is loaded in each state up to the answer of the next epoch.
  pub answered : tx_notes by_status (Post (frame 1 true) ∷ Post (frame 2 false) ∷ Publish ∷ Look ∷ Fetch ∷ Send ∷ Report ∷ Control AskDisable ∷ Control LookAsked ∷ Control Answer
      ∷ Control LookAnswered ∷ Control LookAsked ∷ Control LookAnswered ∷ Reclaim ∷ Control LookAsked ∷ Control LookAnswered ∷ Reclaim ∷ Reclaim ∷ ClearHead ∷ Control LookAsked
      ∷ Control LookAnswered ∷ ClearTail ∷ Control LookAsked ∷ Control LookAnswered ∷ Post (frame 3 true) ∷ Control AskEnable ∷ Control LookAsked ∷ Control LookAnswered ∷ Post (frame 4 false)
      ∷ Publish ∷ Control Answer ∷ [])
      ≡ place 0 ∷ place 1 ∷ tail 2 ∷ ready 2 ∷ sending 0 1 true ∷ head 1 ∷ place 0 ∷ control 3 ∷ control 3 ∷ control 0 ∷ control 0 ∷ control 0 ∷ control 0 ∷ buffer 1 ∷ control 0 ∷ control 0
      ∷ buffer 2 ∷ None ∷ head 0 ∷ control 0 ∷ control 0 ∷ tail 0 ∷ control 0 ∷ control 0 ∷ place 0 ∷ control 1 ∷ control 1 ∷ control 1 ∷ place 1 ∷ tail 2 ∷ control 2 ∷ []
  -- An epoch in which nothing is posted ends like any other. In the next one, enabling is asked within a frame.
  pub nothing_posted : tx_notes by_status (Control LookAnswered ∷ Control LookAsked ∷ Control AskDisable ∷ Control LookAsked ∷ Control Answer ∷ Control LookAnswered ∷ Reclaim ∷ ClearHead
      ∷ ClearTail ∷ Post (new_posting 1 30 false false 60) ∷ Control AskEnable ∷ Post (new_posting 2 30 true true 60) ∷ Publish ∷ Control LookAsked ∷ Control Answer ∷ Control LookAnswered
      ∷ LoadReport ∷ Look ∷ Fetch ∷ Send ∷ Fetch ∷ Send ∷ Report ∷ LoadReport ∷ Clean ∷ Clean ∷ [])
      ≡ control 2 ∷ control 2 ∷ control 3 ∷ control 3 ∷ control 0 ∷ control 0 ∷ None ∷ head 0 ∷ tail 0 ∷ place 0 ∷ control 1 ∷ place 1 ∷ tail 2 ∷ control 1 ∷ control 2 ∷ control 2 ∷ unreported
      ∷ ready 2 ∷ sends 0 1 30 false false ∷ head 1 ∷ sends 1 2 30 true true ∷ head 2 ∷ place 1 ∷ reported 1 ∷ buffer 1 ∷ buffer 2 ∷ []
  -- The same for a head word, which is cleared once.
  pub nothing_posted_by_head : tx_notes by_head_word (Control AskDisable ∷ Control LookAsked ∷ Control Answer ∷ Control LookAnswered ∷ ClearHead ∷ ClearReport ∷ ClearTail ∷ Control LookAsked
      ∷ Control LookAnswered ∷ ClearReport ∷ ClearReport ∷ [])
      ≡ control 3 ∷ control 3 ∷ control 0 ∷ control 0 ∷ head 0 ∷ None ∷ tail 0 ∷ control 0 ∷ control 0 ∷ head 0 ∷ None ∷ []
  -- What is posted but not published comes back too.
  pub not_published : tx_notes by_head_word (Post (frame 1 true) ∷ Publish ∷ Post (new_posting 2 60 false false 90) ∷ LoadReport ∷ Control AskDisable ∷ Control LookAnswered ∷ Control LookAsked
      ∷ Control Answer ∷ LoadReport ∷ Control LookAnswered ∷ Reclaim ∷ Reclaim ∷ ClearHead ∷ ClearTail ∷ ClearReport ∷ [])
      ≡ place 0 ∷ tail 1 ∷ place 1 ∷ unreported ∷ control 3 ∷ control 3 ∷ control 3 ∷ control 0 ∷ unreported ∷ control 0 ∷ buffer 1 ∷ buffer 2 ∷ head 0 ∷ tail 0 ∷ head 0 ∷ []
  -- A full ring that has gone round is disabled, and all seven buffers come back.
  pub full_ring : tx_notes (tx_after_all by_status (tx_turns 0 3 ++ tx_posts 3 7)) (Post (frame 10 false) ∷ Publish ∷ Look ∷ Fetch ∷ Control LookAsked ∷ Control LookAnswered ∷ Control AskDisable
      ∷ Send ∷ Control LookAnswered ∷ Control LookAsked ∷ Control Answer ∷ Control LookAnswered ∷ Reclaim ∷ Reclaim ∷ Reclaim ∷ Reclaim ∷ Reclaim ∷ Reclaim ∷ Reclaim ∷ Reclaim ∷ ClearHead
      ∷ ClearTail ∷ [])
      ≡ None ∷ tail 2 ∷ ready 7 ∷ sending 3 3 false ∷ control 2 ∷ control 2 ∷ control 3 ∷ head 4 ∷ control 3 ∷ control 3 ∷ control 0 ∷ control 0 ∷ buffer 3 ∷ buffer 4 ∷ buffer 5 ∷ buffer 6
      ∷ buffer 7 ∷ buffer 8 ∷ buffer 9 ∷ None ∷ head 0 ∷ tail 0 ∷ []
  -- A third epoch goes like the first two.
  pub third_epoch : tx_notes (tx_after_all by_status (disabling ++ renewal ++ second_disabling)) (Post (frame 1 true) ∷ Control LookAnswered ∷ Control LookAsked ∷ Control Answer ∷ Publish
      ∷ Control LookAnswered ∷ Look ∷ Fetch ∷ Send ∷ Report ∷ LoadReport ∷ Clean ∷ Control AskDisable ∷ [])
      ≡ place 0 ∷ control 1 ∷ control 1 ∷ control 2 ∷ tail 1 ∷ control 2 ∷ ready 1 ∷ sending 0 1 true ∷ head 1 ∷ place 0 ∷ reported 0 ∷ buffer 1 ∷ control 3 ∷ []
