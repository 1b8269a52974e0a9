-- What follows for a flow once both its rings' ends met.
use Rattle.std.proofs.Common.{◌≡◌, ◌∙◌, ℕ, ◌+◌, ◌-◌, ◌^◌, ◌≤◌, Bool, true, false, List, [], length, map, take, ap, sym, refl, subst, arith, if◌then◌else◌, ⊎_elim, ◌⊎◌, ◌<◌}
use Rattle.std.specs.Prelude.{◌&&◌, Option, Some, sum_by}
use Rattle.std.proofs.lemmas.Bool.{false≢true}
use Rattle.std.proofs.lemmas.List.{length-map, take-append-drop, take_all}
use Rattle.atomic_table.specs.Seated.{TableId}
use Rattle.ring_model.specs.shared.Frames.{Bytes, frames}
use Rattle.ring_model.specs.shared.Lists.{IsBeginning}
use Rattle.ring_model.specs.shared.Handshakes.{is_open, is_ended}
use Rattle.ring_model.specs.shared.Segments.{Segment, piece_of}
use Rattle.ring_model.specs.receive.Lawful.{IsLawfulRxLedger}
use Rattle.ring_model.specs.transmit.Lawful.{IsLawfulTxLedger}
use Rattle.ring_model.specs.transmit.Ring.{carried}
use Rattle.ring_laws.specs.Frames.{frames-beginning}
use Rattle.shared_ring.specs.Meeting.{IsTold}
use Rattle.rx_ring.specs.Ends as receive
use Rattle.rx_ring.specs.Calls as received
use Rattle.rx_ring.specs.Meeting as meeting
use Rattle.tx_ring.specs.Ends as transmit
use Rattle.tx_ring.specs.Meeting as transmitted
use Rattle.tx_ring.specs.Records.{Posting}
use Rattle.forwarding.specs.Touching.{touch}
use Rattle.counters.specs.declared.driven.Driven.{Driven}
use Rattle.forwarding.specs.declared.report.Ended.{Ended}
use Rattle.forwarding.specs.declared.report.Ended.TheVariants.{Drained, Cut}
use Rattle.forwarding.specs.declared.report.FlowReport.{FlowReport}
use Rattle.flows.specs.declared.concluding.DriverDone.{DriverDone}
use Rattle.flows.specs.declared.concluding.ControllerDone.{ControllerDone}
use Rattle.flows.specs.Outputs.{AreCut, Chosen, fitting, oversized}
use Rattle.counters.specs.Kinds.{most_exact}
use Rattle.flows.specs.Driven.{AreExact, AreFull, HasDriven, HasDrained, EndedAs, taken_frames, posted_frames}
use Rattle.flows.specs.Keys.{DriverKey, ControllerKey, Plan, plan_of}
use Rattle.flows.specs.Reports.{AreLedgers, IsDrained, IsFull, IsReport, WentOut}
use Rattle.flows.specs.Served.{HasServed}
use Rattle.flows.proofs.Counted.{few-sent, shown-few}
use Rattle.flows.proofs.Choosing.{chosen-front, chosen-beginning, chosen-of-more, chosen-through, chosen-few, chosen-all, chosen-map}

and-false : (a b : Bool) → b ≡ false → (a && b) ≡ false
and-false true b e = e
and-false false b e = refl

rx-served : (d : receive.DriverSide) (c : receive.ControllerSide) → is_open (receive.driver_state d) ≡ false → meeting.stored_now d c ≡ receive.stored c
rx-served d c e = ap (λ (b : Bool). if b then [] else receive.stored c) (and-false (is_ended (receive.controller_state c)) (is_open (receive.driver_state d)) e)

tx-served : (d : transmit.DriverSide) (c : transmit.ControllerSide) → is_open (transmit.driver_state d) ≡ false → transmitted.sent_now d c ≡ transmit.sent c
tx-served d c e = ap (λ (b : Bool). if b then [] else transmit.sent c) (and-false (is_ended (transmit.controller_state c)) (is_open (transmit.driver_state d)) e)

beginning-few : {X : Type 0} (xs ys : List X) → IsBeginning xs ys → length xs ≤ length ys
beginning-few xs ys b = let e = ap length b.1 in let s = Rattle.std.proofs.Common.length-append xs b.0 in omega (arith, e, s)

told : (o : Option ℕ) (left fewer more : ℕ) → o ≡ Some left → IsTold o fewer more → more ≡ fewer + left
told o left fewer more e t = subst (λ (x : Option ℕ). IsTold x fewer more) e t

-- as few as a script has are fewer than are counted
exactly : (rx : receive.DriverSide) (tx : transmit.DriverSide) (c : Driven) (waiting : ℕ) → length (taken_frames rx) ≤ most_exact → AreExact rx tx c waiting ⊎ AreFull rx c → AreExact rx tx c waiting
exactly rx tx c waiting few counted = ⊎_elim (λ e. e) (λ (f : AreFull rx c). let many = f.many in absurd (omega (arith, few, many))) counted

uncut : (turns : ℕ) (stops : Bool) (rx : receive.DriverSide) (tx : transmit.DriverSide) (waiting : List Bytes) (e : Ended) → EndedAs turns stops rx tx waiting e → turns ≡ 0 → stops ≡ false → e ≡ Drained
uncut turns stops rx tx waiting Drained h none never = refl
uncut turns stops rx tx waiting Cut h none never = absurd (⊎_elim (λ (some : 0 < turns). let bad : ⊥ = omega (arith, some, none) in bad) (λ (asked : stops ≡ true). false≢true (sym never ∙ asked)) h)

module _ (dk : DriverKey) (ck : ControllerKey) (from to : TableId) (d : DriverDone) (s : ControllerDone) (d_from : dk.from ≡ from) (s_from : ck.input.from ≡ from) (driven : HasDriven dk d) (served : HasServed ck s)
    (quiet : receive.saw_quiet d.rx ≡ true → receive.is_quiet s.rx ≡ true)
    (lawful_rx : IsLawfulRxLedger Bytes (receive.driver_size d.rx) (meeting.ledger_of d.rx s.rx))
    (lawful_tx : IsLawfulTxLedger Bytes (transmit.driver_size d.tx) (transmitted.ledger_of d.tx s.tx))
    (left_rx : IsTold (received.told_left d.rx) (length (receive.taken d.rx)) (length (meeting.stored_now d.rx s.rx)))
    (left_tx : IsTold (transmitted.told_left d.tx) (length (transmitted.sent_now d.tx s.tx)) (length (transmit.posted d.tx)))
    (drained : receive.is_drained d.rx ≡ true → receive.taken d.rx ≡ meeting.stored_now d.rx s.rx)
    (all : length (transmit.posted d.tx) ≤ length (transmit.cleaned d.tx) → transmitted.sent_now d.tx s.tx ≡ transmit.posted d.tx)
    (left : ℕ) (left_is : left ≡ d.untaken + d.unsent) where
  abbrev p : Plan
  p = plan_of dk ck

  abbrev stored_frames : List Bytes
  stored_frames = frames piece_of (receive.stored s.rx)

  abbrev sent_frames : List Bytes
  sent_frames = frames carried (transmit.sent s.tx)

  stored_is : meeting.stored_now d.rx s.rx ≡ receive.stored s.rx
  stored_is = rx-served d.rx s.rx driven.rx_over

  sent_is : transmitted.sent_now d.tx s.tx ≡ transmit.sent s.tx
  sent_is = tx-served d.tx s.tx driven.tx_over

  taken_first : IsBeginning (taken_frames d.rx) stored_frames
  taken_first = frames-beginning piece_of (receive.taken d.rx) (receive.stored s.rx) (subst (λ (l : List (Segment Bytes)). IsBeginning (receive.taken d.rx) l) stored_is lawful_rx.taken)

  sent_first : IsBeginning sent_frames (posted_frames d.tx)
  sent_first = frames-beginning carried (transmit.sent s.tx) (transmit.posted d.tx) (subst (λ (l : List Posting). IsBeginning l (transmit.posted d.tx)) sent_is lawful_tx.sent)

  from_script : Chosen stored_frames ck.input.frames
  from_script = subst (λ (l : List Bytes). Chosen stored_frames l) (take-append-drop served.next ck.input.frames) (chosen-of-more stored_frames (take served.next ck.input.frames) (Rattle.std.proofs.Common.drop served.next ck.input.frames) served.chosen)

  few : length (taken_frames d.rx) ≤ most_exact
  few = let a = beginning-few (taken_frames d.rx) stored_frames taken_first in let b = chosen-few stored_frames ck.input.frames from_script in let c = served.few_frames in omega (arith, a, b, c)

  relayed : Chosen (posted_frames d.tx) (map touch (taken_frames d.rx))
  relayed = chosen-front (posted_frames d.tx) driven.waiting (map touch (taken_frames d.rx)) driven.relayed.chosen

  output : Chosen sent_frames (map touch ck.input.frames)
  output = chosen-beginning sent_frames (posted_frames d.tx) (map touch ck.input.frames) sent_first
      (chosen-through (posted_frames d.tx) (map touch (taken_frames d.rx)) (map touch ck.input.frames) relayed
      (chosen-map touch (taken_frames d.rx) ck.input.frames (chosen-beginning (taken_frames d.rx) stored_frames ck.input.frames taken_first from_script)))

  few_sent : length sent_frames ≤ 2 ^ 64 - 1
  few_sent = let a = chosen-few sent_frames (map touch ck.input.frames) output in let b = length-map ck.input.frames touch in let c = served.few_frames in omega (arith, a, b, c)

  few_bytes : sum_by length sent_frames ≤ 2 ^ 64 - 1
  few_bytes =
      let a = few-sent sent_frames (posted_frames d.tx) (taken_frames d.rx) stored_frames sent_first relayed taken_first in
      let b = served.bytes_are in let c = served.few_bytes in let e = served.few in let f = served.few_frames in omega (arith, a, b, c, e, f)

  count : s.sent ≡ length sent_frames
  count = served.sent.frames ∙ shown-few (length sent_frames) few_sent

  exact : AreExact d.rx d.tx d.counts (length driven.waiting)
  exact = exactly d.rx d.tx d.counts (length driven.waiting) few driven.relayed.counted

  rx_left : length (meeting.stored_now d.rx s.rx) ≡ length (receive.taken d.rx) + d.untaken
  rx_left = told (received.told_left d.rx) d.untaken (length (receive.taken d.rx)) (length (meeting.stored_now d.rx s.rx)) driven.untaken left_rx

  tx_left : length (transmit.posted d.tx) ≡ length (transmitted.sent_now d.tx s.tx) + d.unsent
  tx_left = told (transmitted.told_left d.tx) d.unsent (length (transmitted.sent_now d.tx s.tx)) (length (transmit.posted d.tx)) driven.unsent left_tx

  abbrev pub report : FlowReport
  report = record { tally = s.tally; stored_bytes = s.stored_bytes; driven = d.counts; wire = s.wire; sent = s.sent; sent_bytes = s.sent_bytes; left = left; ended = d.ended }

  went_out : WentOut p report sent_frames
  went_out = record { kept = served.sent.kept; unkept = served.sent.unkept; sent = count; sent_bytes = served.sent.bytes ∙ shown-few (sum_by length sent_frames) few_bytes }

  module _ (is : d.ended ≡ Drained) where
    has : HasDrained d.rx d.tx driven.waiting
    has = subst (λ (e : Ended). EndedAs dk.turns dk.stops d.rx d.tx driven.waiting e) is driven.ended

    same_frames : taken_frames d.rx ≡ stored_frames
    same_frames = ap (frames piece_of) (drained has.drained ∙ stored_is)

    all_sent : sent_frames ≡ posted_frames d.tx
    all_sent = ap (frames carried) (sym sent_is ∙ all has.cleaned)

    all_offered : served.next ≡ length ck.input.frames
    all_offered = served.finished (quiet has.quiet)

    waits : length driven.waiting ≡ 0
    waits = ap length has.none_waits

    is-drained : IsDrained p report
    is-drained =
        let counted = exact.all in
        let wired = count ∙ ap length all_sent in
        let none_rx = ap length (drained has.drained) in
        let none_tx = ap length (all has.cleaned) in
        record {
          all_offered = served.offered ∙ all_offered;
          all_taken = exact.taken ∙ ap length same_frames ∙ sym served.stored;
          all_posted = omega (arith, counted, waits);
          all_sent = wired ∙ sym exact.posted;
          none_left = omega (arith, rx_left, tx_left, none_rx, none_tx, left_is);
        }

    -- with retries, all stored frames went out
    all-stored : p.retries ≡ true → sent_frames ≡ map touch (frames piece_of (meeting.stored_now d.rx s.rx))
    all-stored retries =
        let none = driven.relayed.retried retries in
        let counted = exact.all in let taken_count = exact.taken in let posted_count = exact.posted in
        let mapped = length-map (taken_frames d.rx) touch in
        let as_many : length (posted_frames d.tx) ≡ length (map touch (taken_frames d.rx)) = omega (arith, none, counted, waits, taken_count, posted_count, mapped) in
        all_sent ∙ chosen-all (posted_frames d.tx) (map touch (taken_frames d.rx)) relayed as_many ∙ ap (map touch) (ap (frames piece_of) (drained has.drained))

    is-full : p.drops ≡ false → p.retries ≡ true → IsFull p report sent_frames
    is-full holds retries =
        let whole : take served.next ck.input.frames ≡ ck.input.frames = take_all served.next ck.input.frames (omega (arith, all_offered)) in
        record {
          none_dropped = served.none_dropped holds;
          all_posted = driven.relayed.retried retries;
          output = all-stored retries ∙ ap (map touch) (ap (frames piece_of) stored_is ∙ served.full holds)
              ∙ ap (λ (l : List Bytes). map touch (fitting ck.input.from.slots ck.input.fill l)) whole ∙ ap (λ (t : TableId). map touch (fitting t.slots ck.input.fill ck.input.frames)) (s_from ∙ sym d_from);
        }

  ledgers : AreLedgers p report sent_frames
  ledgers = record {
    received = meeting.ledger_of d.rx s.rx;
    sent = transmitted.ledger_of d.tx s.tx;
    lawful_received = subst (λ (n : ℕ). IsLawfulRxLedger Bytes n (meeting.ledger_of d.rx s.rx)) (ap (λ (t : TableId). t.slots) driven.receives) lawful_rx;
    lawful_sent = subst (λ (n : ℕ). IsLawfulTxLedger Bytes n (transmitted.ledger_of d.tx s.tx)) (ap (λ (t : TableId). t.slots) driven.sends ∙ driven.one_length) lawful_tx;
    were_offered = subst (λ (l : List (Segment Bytes)). Chosen (frames piece_of l) (take s.tally.offered ck.input.frames)) (sym stored_is)
        (subst (λ (k : ℕ). Chosen stored_frames (take k ck.input.frames)) (sym served.offered) served.chosen);
    were_taken = relayed;
    are_cut = subst (AreCut ck.input.fill) (sym stored_is) served.are_cut;
    stored = served.stored ∙ ap (λ (l : List (Segment Bytes)). length (frames piece_of l)) (sym stored_is);
    stored_bytes = served.bytes_are ∙ ap (λ (l : List (Segment Bytes)). sum_by length (frames piece_of l)) (sym stored_is);
    taken = exact.taken;
    posted = exact.posted;
    went_out = ap (frames carried) (sym sent_is);
    left = omega (arith, rx_left, tx_left, left_is);
    all_stored = all-stored;
  }

  pub concluded : IsReport p report
  concluded = record {
    went = sent_frames;
    went_out = went_out;
    output = output;
    few_offered = subst (λ (k : ℕ). k ≤ length ck.input.frames) (sym served.offered) served.few;
    adds = served.adds;
    oversize = served.oversize ∙ ap (λ (k : ℕ). length (oversized ck.input.from.slots ck.input.fill (take k ck.input.frames))) (sym served.offered)
        ∙ ap (λ (t : TableId). length (oversized t.slots ck.input.fill (take s.tally.offered ck.input.frames))) (s_from ∙ sym d_from);
    none_dropped = served.none_dropped;
    none_tx_dropped = driven.relayed.retried;
    no_more = driven.relayed.no_more;
    ledgers = ledgers;
    drained = is-drained;
    never_cut = uncut dk.turns dk.stops d.rx d.tx driven.waiting d.ended driven.ended;
    full = is-full;
  }
