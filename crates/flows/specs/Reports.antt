-- The meaning of a flow's report.
use Rattle.std.specs.Prelude.{◌≡◌, ◌+◌, ◌≤◌, true, false, List, [], length, map, sum_by, take}
use Rattle.ring_model.specs.receive.Lawful.{IsLawfulRxLedger}
use Rattle.ring_model.specs.receive.Ring.{RxLedger}
use Rattle.ring_model.specs.shared.Frames.{Bytes, frames}
use Rattle.ring_model.specs.shared.Segments.{piece_of}
use Rattle.ring_model.specs.transmit.Lawful.{IsLawfulTxLedger}
use Rattle.ring_model.specs.transmit.Ring.{TxLedger, carried}
use Rattle.forwarding.specs.declared.report.Ended.TheVariants.{Drained}
use Rattle.forwarding.specs.declared.report.FlowReport.{FlowReport}
use Rattle.forwarding.specs.Touching.{touch}
use Rattle.flows.specs.Outputs.{AreCut, Chosen, IsLawfulOutput, IsFullOutput, oversized}
use Rattle.flows.specs.Keys.{Plan}

-- These are the frames that went out: they are on the report's wire if the plan keeps them, and otherwise that is empty.
-- The report has their numbers.
pub record WentOut (p : Plan) (r : FlowReport) (went : List Bytes) : Type 0 where
  pub kept : p.keeps ≡ true → r.wire ≡ went
  pub unkept : p.keeps ≡ false → r.wire ≡ []
  pub sent : r.sent ≡ length went
  pub sent_bytes : r.sent_bytes ≡ sum_by length went

-- There are lawful ledgers of the flow's two queues. The stored frames are among the first `offered` frames of the
-- flow, cut into the buffers that the plan says, and the posted ones are touched copies of taken ones, both in order. The
-- counts are those of their frames, `went` are the sent frames, and `left` is the number of segments left in both
-- together. If nothing was dropped for lack of room on the transmit ring, every stored frame of a drained flow went out.
pub record AreLedgers (p : Plan) (r : FlowReport) (went : List Bytes) : Type 0 where
  pub received : RxLedger Bytes
  pub sent : TxLedger Bytes
  pub lawful_received : IsLawfulRxLedger Bytes p.size received
  pub lawful_sent : IsLawfulTxLedger Bytes p.size sent
  pub were_offered : Chosen (frames piece_of received.completed) (take r.tally.offered p.frames)
  pub were_taken : Chosen (frames carried sent.posted) (map touch (frames piece_of received.reaped))
  pub are_cut : AreCut p.fill received.completed
  pub stored : r.tally.stored ≡ length (frames piece_of received.completed)
  pub stored_bytes : r.stored_bytes ≡ sum_by length (frames piece_of received.completed)
  pub taken : r.driven.taken ≡ length (frames piece_of received.reaped)
  pub posted : r.driven.posted ≡ length (frames carried sent.posted)
  pub went_out : went ≡ frames carried sent.completed
  pub left : length received.reaped + length sent.completed + r.left ≡ length received.completed + length sent.posted
  pub all_stored : r.ended ≡ Drained → p.retries ≡ true → went ≡ map touch (frames piece_of received.completed)

-- Each frame of the flow was offered, each stored frame was taken and then posted or dropped, and each posted frame was
-- sent.
pub record IsDrained (p : Plan) (r : FlowReport) : Type 0 where
  pub all_offered : r.tally.offered ≡ length p.frames
  pub all_taken : r.driven.taken ≡ r.tally.stored
  pub all_posted : r.driven.posted + r.driven.tx_dropped ≡ r.driven.taken
  pub all_sent : r.sent ≡ r.driven.posted
  pub none_left : r.left ≡ 0

-- Only oversize frames were lost.
pub record IsFull (p : Plan) (r : FlowReport) (went : List Bytes) : Type 0 where
  pub none_dropped : r.tally.dropped ≡ 0
  pub all_posted : r.driven.tx_dropped ≡ 0
  pub output : IsFullOutput p.size p.fill p.frames went

-- Exactly the first `offered` frames of the flow were offered, and those of them that can never fit are oversize. None
-- is dropped for lack of room unless the settings allow it. `went` are the frames that went out.
pub record IsReport (p : Plan) (r : FlowReport) : Type 0 where
  pub went : List Bytes
  pub went_out : WentOut p r went
  pub output : IsLawfulOutput p.frames went
  pub few_offered : r.tally.offered ≤ length p.frames
  pub adds : r.tally.offered ≡ r.tally.stored + r.tally.dropped + r.tally.oversize
  pub oversize : r.tally.oversize ≡ length (oversized p.size p.fill (take r.tally.offered p.frames))
  pub none_dropped : p.drops ≡ false → r.tally.dropped ≡ 0
  pub none_tx_dropped : p.retries ≡ true → r.driven.tx_dropped ≡ 0
  pub no_more : r.driven.posted + r.driven.tx_dropped ≤ r.driven.taken
  pub ledgers : AreLedgers p r went
  pub drained : r.ended ≡ Drained → IsDrained p r
  pub never_cut : p.turns ≡ 0 → p.stops ≡ false → r.ended ≡ Drained
  pub full : r.ended ≡ Drained → p.drops ≡ false → p.retries ≡ true → IsFull p r went
