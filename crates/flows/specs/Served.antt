-- The knowledge of the controller's side of a flow.
use Rattle.std.specs.Prelude.{◌≡◌, ℕ, ◌*◌, ◌≤◌, Bool, false, true, List, [], length, sum_by, take}
use Rattle.atomic_table.specs.Seated.{TableId}
use Rattle.limits.specs.declared.profile.TheConstants.{MOST_FRAME}
use Rattle.ring_model.specs.shared.Frames.{Bytes, frames}
use Rattle.ring_model.specs.shared.Handshakes.{is_serving}
use Rattle.ring_model.specs.shared.Segments.{piece_of}
use Rattle.ring_model.specs.transmit.Ring.{carried}
use Rattle.rx_ring.specs.Ends as receive
use Rattle.tx_ring.specs.Ends as transmit
use Rattle.controller.specs.declared.offer.Offer.{Offer}
use Rattle.controller.specs.declared.offer.Offer.TheVariants.{Off, Oversize, Stored, Dropped, Held}
use Rattle.controller.specs.Receiving.{Receiving}
use Rattle.counters.specs.declared.tally.Tally.{Tally}
use Rattle.counters.specs.Kinds.{AddsUp}
use Rattle.flows.specs.Outputs.{AreCut, Chosen, fitting, oversized}
use Rattle.flows.specs.Keys.{Input, ControllerKey}
use Rattle.flows.specs.Sent.{HasSent, Holds}
use Rattle.flows.specs.declared.flow_frames.TheConstants.{MOST_OFFERED}
use Rattle.flows.specs.declared.output.Output.{Output}
use Rattle.flows.specs.declared.queue_phase.QueuePhase.{QueuePhase}
use Rattle.flows.specs.declared.queue_phase.QueuePhase.TheVariants.{Waiting, Serving, Ended}
use Rattle.flows.specs.declared.concluding.ControllerDone.{ControllerDone}

-- The first `next` frames were decided, and no others. The stored frames are among them, in order, and the tally
-- matches and counts the oversize ones. If frames are not dropped, exactly those are left out.
pub record OfferedSoFar (i : Input) (r : Receiving) (next : ℕ) : Type 0 where
  pub own : r.end.table ≡ i.from
  pub fill : r.bsize ≡ i.fill
  pub drops : r.drop_en ≡ i.drops
  pub few_frames : length i.frames ≤ MOST_OFFERED
  pub few : next ≤ length i.frames
  pub offered : r.tally.offered ≡ next
  pub chosen : Chosen (frames piece_of (receive.stored r.end)) (take next i.frames)
  pub stored : r.tally.stored ≡ length (frames piece_of (receive.stored r.end))
  pub full : i.drops ≡ false → frames piece_of (receive.stored r.end) ≡ fitting i.from.slots i.fill (take next i.frames)
  pub none_dropped : i.drops ≡ false → r.tally.dropped ≡ 0
  pub oversize : r.tally.oversize ≡ length (oversized i.from.slots i.fill (take next i.frames))

-- The offer decides on the frame, so it is not offered again.
abbrev pub decides : Offer → Bool
decides Stored = true
decides Dropped = true
decides Oversize = true
decides Held = false
decides Off = false

-- The bytes that the offer of a frame of this length adds to those stored.
abbrev pub bytes_by : Offer → ℕ → ℕ
bytes_by Stored len = len
bytes_by Dropped len = 0
bytes_by Oversize len = 0
bytes_by Held len = 0
bytes_by Off len = 0

-- Whether the end serves its queue now, in each phase of the queue.
abbrev pub StandsAs : QueuePhase → Bool → Type 0
StandsAs Waiting serving = serving ≡ false
StandsAs Serving serving = serving ≡ true
StandsAs Ended serving = serving ≡ false

-- The next phase of the queue, given whether the end serves its queue now.
abbrev pub after : QueuePhase → Bool → QueuePhase
after Waiting true = Serving
after Waiting false = Waiting
after Serving true = Serving
after Serving false = Ended
after Ended serving = Ended

-- The receive queue of a flow, as its controller serves it, and the number of bytes of its stored frames.
pub record RxSource : Type 0 where
  pub input : Input
  pub controller : Receiving
  pub next : ℕ
  pub stored_bytes : ℕ
  pub queue_phase : QueuePhase

abbrev pub rx_source : TableId → List Bytes → Receiving → ℕ → ℕ → QueuePhase → RxSource
rx_source from frames_in controller next stored_bytes queue_phase = record { input = record { from = from; frames = frames_in; fill = controller.bsize; drops = controller.drop_en }; controller = controller; next = next; stored_bytes = stored_bytes; queue_phase = queue_phase }

-- Nothing was done yet.
pub record IsUnserved (o : RxSource) : Type 0 where
  pub next : o.next ≡ 0
  pub stored : receive.stored o.controller.end ≡ []
  pub loud : receive.is_quiet o.controller.end ≡ false

-- The stored segments are those of the stored frames, whose bytes are counted. Quiet was said only after all frames were
-- decided.
pub record IsRxSource (o : RxSource) : Type 0 where
  pub so_far : OfferedSoFar o.input o.controller o.next
  pub are_cut : AreCut o.input.fill (receive.stored o.controller.end)
  pub stored_bytes : o.stored_bytes ≡ sum_by length (frames piece_of (receive.stored o.controller.end))
  pub few_bytes : o.stored_bytes ≤ MOST_FRAME * o.next
  pub stands : StandsAs o.queue_phase (is_serving (receive.controller_state o.controller.end))
  pub unserved : o.queue_phase ≡ Waiting → IsUnserved o
  pub finished : receive.is_quiet o.controller.end ≡ true → o.next ≡ length o.input.frames

-- The transmit queue of a flow, as its controller serves it.
pub record TxSink : Type 0 where
  pub to : TableId
  pub controller : transmit.ControllerSide
  pub output : Output
  pub queue_phase : QueuePhase

abbrev pub tx_sink : TableId → transmit.ControllerSide → Output → QueuePhase → TxSink
tx_sink to controller output queue_phase = record { to = to; controller = controller; output = output; queue_phase = queue_phase }

-- All frames that it sent.
abbrev pub sent_frames : TxSink → List Bytes
sent_frames w = frames carried (transmit.sent w.controller)

-- The output holds the sent frames.
pub record IsTxSink (w : TxSink) : Type 0 where
  pub own : w.controller.table ≡ w.to
  pub stands : StandsAs w.queue_phase (is_serving (transmit.controller_state w.controller))
  pub unserved : w.queue_phase ≡ Waiting → transmit.sent w.controller ≡ []
  pub output : Holds w.output (sent_frames w)

-- What is known of the input whenever the controller's end is returned.
pub record HasOffered (i : Input) (end : receive.ControllerSide) (tally : Tally) (stored_bytes : ℕ) : Type 0 where
  pub own : end.table ≡ i.from
  pub few_frames : length i.frames ≤ MOST_OFFERED
  pub next : ℕ
  pub few : next ≤ length i.frames
  pub offered : tally.offered ≡ next
  pub adds : AddsUp tally
  pub chosen : Chosen (frames piece_of (receive.stored end)) (take next i.frames)
  pub stored : tally.stored ≡ length (frames piece_of (receive.stored end))
  pub full : i.drops ≡ false → frames piece_of (receive.stored end) ≡ fitting i.from.slots i.fill (take next i.frames)
  pub none_dropped : i.drops ≡ false → tally.dropped ≡ 0
  pub oversize : tally.oversize ≡ length (oversized i.from.slots i.fill (take next i.frames))
  pub are_cut : AreCut i.fill (receive.stored end)
  pub bytes_are : stored_bytes ≡ sum_by length (frames piece_of (receive.stored end))
  pub few_bytes : stored_bytes ≤ MOST_FRAME * next
  pub finished : receive.is_quiet end ≡ true → next ≡ length i.frames

-- Both halves together.
pub record HasServed (k : ControllerKey) (s : ControllerDone) : Type 0 where
  pub input : HasOffered k.input s.rx s.tally s.stored_bytes
  pub open input use *
  pub sends : s.tx.table ≡ k.to
  pub sent : HasSent k.keeps (frames carried (transmit.sent s.tx)) s.wire s.sent s.sent_bytes
