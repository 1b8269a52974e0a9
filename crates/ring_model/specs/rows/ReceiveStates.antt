-- Worked rows of receive rings: each step in each state where it can happen, so that no possible step is forbidden.
use Rattle.std.specs.Prelude.{◌≡◌, true, false, [], ◌∷◌, ◌++◌, None}
use Rattle.ring_model.specs.declared.steps.ControlStep.TheVariants.{AskEnable, LookAsked, Answer, LookAnswered, AskDisable}
use Rattle.ring_model.specs.declared.steps.RxStep.TheVariants.{Post, Publish, Look, Fetch, Store, Take, Head, Control, Reclaim, StoreQuiet, LoadQuiet, ClearHead, ClearTail, ClearQuiet}
use Rattle.ring_model.specs.rows.Told.{place, tail, head, buffer, control}
use Rattle.ring_model.specs.rows.Receive.{on_8, off_8, free, fetched, taken, nothing, quiet, rx_posts, rx_turns, seven_posted, disabling, renewal, second_disabling}
use Rattle.ring_model.specs.receive.Steps.{rx_after_all, rx_notes}

pub record RxStateRows : Type 0 where
  -- From New to the answered enabling, buffers are posted and published and all words are loaded: before the request,
  -- before the answer, and after it.
  pub asked : rx_notes off_8 (Control LookAsked ∷ Control LookAnswered ∷ LoadQuiet ∷ Publish ∷ Post 1 ∷ Publish ∷ Publish ∷ Control AskEnable ∷ LoadQuiet ∷ Post 2 ∷ Publish ∷ Control LookAnswered
      ∷ Control LookAsked ∷ Post 3 ∷ Publish ∷ Control LookAsked ∷ Control LookAnswered ∷ LoadQuiet ∷ Control Answer ∷ Control LookAsked ∷ LoadQuiet ∷ Post 4 ∷ Publish ∷ Look ∷ StoreQuiet
      ∷ LoadQuiet ∷ Head ∷ [])
      ≡ control 0 ∷ control 0 ∷ quiet 0 ∷ tail 0 ∷ place 0 ∷ tail 1 ∷ tail 1 ∷ control 1 ∷ quiet 0 ∷ place 1 ∷ tail 2 ∷ control 1 ∷ control 1 ∷ place 2 ∷ tail 3 ∷ control 1 ∷ control 1 ∷ quiet 0
      ∷ control 2 ∷ control 2 ∷ quiet 0 ∷ place 3 ∷ tail 4 ∷ free 4 ∷ quiet 1 ∷ quiet 1 ∷ head 0 ∷ []
  -- Enabling is asked once, also if the ring is full.
  pub full_before_asking : rx_notes (rx_after_all off_8 (rx_posts 0 7)) (Post 7 ∷ Control AskEnable ∷ Control AskEnable ∷ [])
      ≡ None ∷ control 1 ∷ None ∷ []
  -- The controller serves before the driver sees the answer. A segment is taken with the length and EOP it was stored
  -- with.
  pub completed_while_asked : rx_notes off_8 (Post 1 ∷ Post 2 ∷ Publish ∷ Control AskEnable ∷ Control LookAsked ∷ Control Answer ∷ Look ∷ Post 3 ∷ Fetch ∷ Look ∷ LoadQuiet ∷ Control LookAsked
      ∷ Store 1 false ∷ Look ∷ Head ∷ LoadQuiet ∷ Post 4 ∷ Publish ∷ Fetch ∷ Store 2048 true ∷ Head ∷ Control LookAnswered ∷ StoreQuiet ∷ Take ∷ Take ∷ Take ∷ Look ∷ [])
      ≡ place 0 ∷ place 1 ∷ tail 2 ∷ control 1 ∷ control 1 ∷ control 2 ∷ free 2 ∷ place 2 ∷ fetched 0 1 ∷ free 2 ∷ quiet 0 ∷ control 2 ∷ place 0 ∷ free 1 ∷ head 1 ∷ quiet 0 ∷ place 3 ∷ tail 4
      ∷ fetched 1 2 ∷ place 1 ∷ head 2 ∷ control 2 ∷ quiet 1 ∷ taken 1 1 false ∷ taken 2 2048 true ∷ nothing ∷ free 2 ∷ []
  -- All words are loaded while a buffer is held, within a frame, and while a disabling is asked.
  pub within_a_frame : rx_notes on_8 (Publish ∷ Post 1 ∷ Post 2 ∷ Publish ∷ Look ∷ Fetch ∷ Control LookAnswered ∷ Control LookAsked ∷ LoadQuiet ∷ Look ∷ Take ∷ Store 2048 false
      ∷ Control LookAnswered ∷ Control LookAsked ∷ Look ∷ LoadQuiet ∷ Post 3 ∷ Take ∷ Publish ∷ Publish ∷ Fetch ∷ Head ∷ Control AskDisable ∷ Control LookAsked ∷ Look ∷ LoadQuiet ∷ Take
      ∷ Store 1 true ∷ Look ∷ Head ∷ Take ∷ Take ∷ [])
      ≡ tail 0 ∷ place 0 ∷ place 1 ∷ tail 2 ∷ free 2 ∷ fetched 0 1 ∷ control 2 ∷ control 2 ∷ quiet 0 ∷ free 2 ∷ nothing ∷ place 0 ∷ control 2 ∷ control 2 ∷ free 1 ∷ quiet 0 ∷ place 2
      ∷ taken 1 2048 false ∷ tail 3 ∷ tail 3 ∷ fetched 1 2 ∷ None ∷ control 3 ∷ control 3 ∷ free 2 ∷ quiet 0 ∷ nothing ∷ place 1 ∷ free 1 ∷ head 2 ∷ taken 2 1 true ∷ nothing ∷ []
  -- While a disabling is asked, the driver takes stored segments, and the controller may become quiet.
  pub stopping : rx_notes on_8 (Post 1 ∷ Post 2 ∷ Post 3 ∷ Publish ∷ Look ∷ Fetch ∷ Store 60 true ∷ Fetch ∷ Store 61 true ∷ Control AskDisable ∷ Control LookAnswered ∷ LoadQuiet ∷ Take ∷ StoreQuiet
      ∷ Control LookAsked ∷ Control LookAsked ∷ Control LookAnswered ∷ LoadQuiet ∷ Take ∷ StoreQuiet ∷ Head ∷ Control Answer ∷ Control LookAnswered ∷ Reclaim ∷ Reclaim ∷ [])
      ≡ place 0 ∷ place 1 ∷ place 2 ∷ tail 3 ∷ free 3 ∷ fetched 0 1 ∷ place 0 ∷ fetched 1 2 ∷ place 1 ∷ control 3 ∷ control 3 ∷ quiet 0 ∷ taken 1 60 true ∷ quiet 1 ∷ control 3 ∷ control 3
      ∷ control 3 ∷ quiet 1 ∷ taken 2 61 true ∷ quiet 1 ∷ head 2 ∷ control 0 ∷ control 0 ∷ buffer 3 ∷ None ∷ []
  -- Stored segments are taken after the controller has ended, until the driver sees the answer. Control and quiet are
  -- loaded in each state up to the next epoch.
  pub answered : rx_notes on_8 (Post 1 ∷ Post 2 ∷ Post 3 ∷ Publish ∷ Look ∷ Fetch ∷ Store 60 false ∷ Fetch ∷ Store 61 true ∷ Head ∷ Control AskDisable ∷ Control LookAsked ∷ Control Answer
      ∷ LoadQuiet ∷ Control LookAsked ∷ Take ∷ Take ∷ Take ∷ Head ∷ Control LookAnswered ∷ LoadQuiet ∷ Control LookAsked ∷ Control LookAnswered ∷ Reclaim ∷ LoadQuiet ∷ Control LookAsked
      ∷ Control LookAnswered ∷ ClearHead ∷ LoadQuiet ∷ Control LookAsked ∷ Control LookAnswered ∷ ClearTail ∷ LoadQuiet ∷ Control LookAsked ∷ Control LookAnswered ∷ ClearQuiet ∷ LoadQuiet
      ∷ Control LookAsked ∷ Control LookAnswered ∷ [])
      ≡ place 0 ∷ place 1 ∷ place 2 ∷ tail 3 ∷ free 3 ∷ fetched 0 1 ∷ place 0 ∷ fetched 1 2 ∷ place 1 ∷ head 2 ∷ control 3 ∷ control 3 ∷ control 0 ∷ quiet 0 ∷ control 0 ∷ taken 1 60 false
      ∷ taken 2 61 true ∷ nothing ∷ None ∷ control 0 ∷ quiet 0 ∷ control 0 ∷ control 0 ∷ buffer 3 ∷ quiet 0 ∷ control 0 ∷ control 0 ∷ head 0 ∷ quiet 0 ∷ control 0 ∷ control 0 ∷ tail 0 ∷ quiet 0
      ∷ control 0 ∷ control 0 ∷ quiet 0 ∷ quiet 0 ∷ control 0 ∷ control 0 ∷ []
  -- A controller may be quiet before anything is posted.
  pub quiet_first : rx_notes on_8 (StoreQuiet ∷ Post 1 ∷ Publish ∷ Look ∷ Publish ∷ LoadQuiet ∷ Take ∷ Fetch ∷ [])
      ≡ quiet 1 ∷ place 0 ∷ tail 1 ∷ free 1 ∷ tail 1 ∷ quiet 1 ∷ nothing ∷ None ∷ []
  -- An epoch in which nothing is posted ends like any other, and the next one may be quiet.
  pub nothing_posted : rx_notes on_8 (Control AskDisable ∷ Control LookAsked ∷ Control Answer ∷ Control LookAnswered ∷ Reclaim ∷ ClearHead ∷ ClearTail ∷ ClearQuiet ∷ Post 1 ∷ Control AskEnable
      ∷ Control LookAnswered ∷ LoadQuiet ∷ Post 2 ∷ Publish ∷ Control LookAsked ∷ Control LookAsked ∷ LoadQuiet ∷ Control Answer ∷ StoreQuiet ∷ Control LookAnswered ∷ StoreQuiet ∷ Take ∷ LoadQuiet
      ∷ Look ∷ Fetch ∷ [])
      ≡ control 3 ∷ control 3 ∷ control 0 ∷ control 0 ∷ None ∷ head 0 ∷ tail 0 ∷ quiet 0 ∷ place 0 ∷ control 1 ∷ control 1 ∷ quiet 0 ∷ place 1 ∷ tail 2 ∷ control 1 ∷ control 1 ∷ quiet 0 ∷ control 2
      ∷ quiet 1 ∷ control 2 ∷ quiet 1 ∷ nothing ∷ quiet 1 ∷ free 2 ∷ None ∷ []
  -- A buffer that is posted but not published comes back too.
  pub not_published : rx_notes on_8 (Post 1 ∷ Take ∷ Publish ∷ Post 2 ∷ StoreQuiet ∷ Control AskDisable ∷ Control LookAsked ∷ Control Answer ∷ Take ∷ Control LookAnswered ∷ Reclaim ∷ Reclaim
      ∷ Reclaim ∷ ClearHead ∷ ClearTail ∷ ClearQuiet ∷ [])
      ≡ place 0 ∷ nothing ∷ tail 1 ∷ place 1 ∷ quiet 1 ∷ control 3 ∷ control 3 ∷ control 0 ∷ nothing ∷ control 0 ∷ buffer 1 ∷ buffer 2 ∷ None ∷ head 0 ∷ tail 0 ∷ quiet 0 ∷ []
  -- A full ring that has gone round is disabled, and all seven buffers come back.
  pub full_ring : rx_notes (rx_after_all on_8 (seven_posted ++ rx_turns 0 3)) (Post 9 ∷ LoadQuiet ∷ Control LookAsked ∷ Control LookAnswered ∷ StoreQuiet ∷ LoadQuiet ∷ Control AskDisable
      ∷ Control LookAsked ∷ Control LookAnswered ∷ LoadQuiet ∷ Look ∷ Control Answer ∷ LoadQuiet ∷ Control LookAnswered ∷ Reclaim ∷ Reclaim ∷ Reclaim ∷ Reclaim ∷ Reclaim ∷ Reclaim ∷ Reclaim
      ∷ Reclaim ∷ ClearHead ∷ ClearTail ∷ ClearQuiet ∷ [])
      ≡ None ∷ quiet 0 ∷ control 2 ∷ control 2 ∷ quiet 1 ∷ quiet 1 ∷ control 3 ∷ control 3 ∷ control 3 ∷ quiet 1 ∷ free 7 ∷ control 0 ∷ quiet 1 ∷ control 0 ∷ buffer 3 ∷ buffer 4 ∷ buffer 5
      ∷ buffer 6 ∷ buffer 0 ∷ buffer 1 ∷ buffer 2 ∷ None ∷ head 0 ∷ tail 0 ∷ quiet 0 ∷ []
  -- A third epoch goes like the first two.
  pub third_epoch : rx_notes (rx_after_all on_8 (disabling ++ renewal ++ second_disabling)) (Post 1 ∷ Post 2 ∷ Publish ∷ LoadQuiet ∷ Control LookAnswered ∷ Control AskEnable ∷ Control LookAsked
      ∷ Control Answer ∷ Control LookAnswered ∷ Look ∷ Fetch ∷ Store 60 true ∷ Head ∷ Take ∷ StoreQuiet ∷ LoadQuiet ∷ Control AskDisable ∷ Control LookAsked ∷ Control Answer ∷ Control LookAnswered
      ∷ Reclaim ∷ ClearHead ∷ ClearTail ∷ ClearQuiet ∷ [])
      ≡ place 0 ∷ place 1 ∷ tail 2 ∷ quiet 0 ∷ control 0 ∷ control 1 ∷ control 1 ∷ control 2 ∷ control 2 ∷ free 2 ∷ fetched 0 1 ∷ place 0 ∷ head 1 ∷ taken 1 60 true ∷ quiet 1 ∷ quiet 1 ∷ control 3
      ∷ control 3 ∷ control 0 ∷ control 0 ∷ buffer 2 ∷ head 0 ∷ tail 0 ∷ quiet 0 ∷ []
