-- What reclaiming keeps of a flow that has ended.
use Rattle.std.proofs.Common.{◌≡◌, ◌∙◌, ⊎_elim, inl, inr, arith, ℕ, ◌+◌, ◌-◌, ◌%◌, ◌<◌, ◌≤◌, Bool, List, ◌++◌, length, map, ap, sym, refl, subst, true}
use Rattle.std.specs.Prelude.{Option, Some, None}
use Rattle.atomic_table.specs.Seated.{TableId}
use Rattle.ring_model.specs.shared.Frames.{Bytes, frames}
use Rattle.ring_model.specs.shared.Handshakes.{is_stopped}
use Rattle.ring_model.specs.shared.Segments.{Segment, piece_of}
use Rattle.ring_model.specs.transmit.Ring.{carried}
use Rattle.rx_ring.specs.Records as rx
use Rattle.rx_ring.specs.Ends as receive
use Rattle.rx_ring.specs.Calls as received
use Rattle.tx_ring.specs.Records as tx
use Rattle.tx_ring.specs.Ends as transmit
use Rattle.tx_ring.specs.Meeting as transmitted
use Rattle.buffer_pool.specs.Buffer.{Buffer}
use Rattle.ring_model.specs.transmit.Ring.{number_of_posting}
use Rattle.driver.specs.Reclaiming.{CameBack}
use Rattle.driver.specs.receive.Receiver.{Receiver}
use Rattle.driver.specs.receive.Returns.{GaveBack}
use Rattle.driver.specs.transmit.Transmitter.{Transmitter}
use Rattle.forwarding.specs.Driving.{Driving, driving}
use Rattle.forwarding.specs.Touching.{touch}
use Rattle.counters.specs.Kinds.{most_exact}
use Rattle.flows.specs.Outputs.{Chosen}
use Rattle.flows.specs.Keys.{DriverKey}
use Rattle.counters.specs.declared.driven.Driven.{Driven}
use Rattle.flows.specs.declared.phase.Phase.{Phase}
use Rattle.flows.specs.declared.phase.Phase.TheVariants.{EnablingTx, EnablingRx, Forwarding, Disabling, Reclaiming, Over}
use Rattle.forwarding.specs.declared.report.Ended.{Ended}
use Rattle.forwarding.specs.declared.report.Ended.TheVariants.{Drained, Cut}
use Rattle.flows.specs.Driven.{AreExact, AreFull, Relayed, EndedAs, HasEnded, IsAt, IsClosing, IsLastTurn, MayBeCut, RxStands, TxStands, taken_frames, posted_frames}

-- how many are left is told by the head, the ring's length, and a number of segments
rx-left : ℕ → ℕ → Option ℕ → Option ℕ
rx-left n taken None = None
rx-left n taken (Some head) = Some ((head + n - taken % n) % n)

rx-told : (d : receive.DriverSide) (o : Option ℕ) → received.left_at d o ≡ rx-left (receive.driver_size d) (length (receive.taken d)) o
unfolding rx-left
rx-told d None = refl
rx-told d (Some head) = refl

tx-left : ℕ → ℕ → Option ℕ → Option ℕ
tx-left n posted None = None
tx-left n posted (Some head) = Some ((posted % n + n - head) % n)

tx-told : (d : transmit.DriverSide) (o : Option ℕ) → transmitted.left_at d o ≡ tx-left (transmit.driver_size d) (length (transmit.posted d)) o
unfolding tx-left
tx-told d None = refl
tx-told d (Some head) = refl

pub rx-same : (a b : receive.DriverSide) → b.table ≡ a.table → receive.taken b ≡ receive.taken a → receive.known_of b ≡ receive.known_of a → received.told_left b ≡ received.told_left a
rx-same a b own taken known = rx-told b (receive.known_of b).head
    ∙ (ap (λ (t : TableId). rx-left t.slots (length (receive.taken b)) (receive.known_of b).head) own ∙ (ap (λ (l : List (Segment Bytes)). rx-left (receive.driver_size a) (length l) (receive.known_of b).head) taken
    ∙ (ap (λ (k : rx.Knowing). rx-left (receive.driver_size a) (length (receive.taken a)) k.head) known ∙ sym (rx-told a (receive.known_of a).head))))

pub tx-same : (a b : transmit.DriverSide) → b.table ≡ a.table → transmit.posted b ≡ transmit.posted a → transmit.known_of b ≡ transmit.known_of a → transmitted.told_left b ≡ transmitted.told_left a
tx-same a b own posted known = tx-told b (transmit.known_of b).head
    ∙ (ap (λ (t : TableId). tx-left t.slots (length (transmit.posted b)) (transmit.known_of b).head) own ∙ (ap (λ (l : List tx.Posting). tx-left (transmit.driver_size a) (length l) (transmit.known_of b).head) posted
    ∙ (ap (λ (k : tx.Knowing). tx-left (transmit.driver_size a) (length (transmit.posted a)) k.head) known ∙ sym (tx-told a (transmit.known_of a).head))))

-- the counts and the output, where no list grew
pub relayed-as : (retries : Bool) (a b : receive.DriverSide) (s t : transmit.DriverSide) (c : Driven) (waiting : List Bytes) → receive.taken b ≡ receive.taken a → transmit.posted t ≡ transmit.posted s → Relayed retries a s c waiting → Relayed retries b t c waiting
relayed-as retries a b s t c waiting taken posted r =
    let frames_b : taken_frames b ≡ taken_frames a = ap (frames piece_of) taken in let frames_t : posted_frames t ≡ posted_frames s = ap (frames carried) posted in record {
      chosen = subst (λ (l : List Bytes). Chosen (l ++ waiting) (map touch (taken_frames b))) (sym frames_t) (subst (λ (l : List Bytes). Chosen (posted_frames s ++ waiting) (map touch l)) (sym frames_b) r.chosen);
      counted = ⊎_elim
          (λ (e : AreExact a s c (length waiting)). inl (record { taken = e.taken ∙ ap length (sym frames_b); posted = e.posted ∙ ap length (sym frames_t); all = e.all }))
          (λ (f : AreFull a c). inr (record { full = f.full; many = subst (λ (l : List Bytes). most_exact < length l) (sym frames_b) f.many })) r.counted;
      no_more = r.no_more;
      retried = r.retried;
    }

ended-as : (turns : ℕ) (stops : Bool) (a b : receive.DriverSide) (s t : transmit.DriverSide) (waiting : List Bytes) (e : Ended) → receive.known_of b ≡ receive.known_of a → transmit.posted t ≡ transmit.posted s → transmit.cleaned t ≡ transmit.cleaned s → EndedAs turns stops a s waiting e → EndedAs turns stops b t waiting e
ended-as turns stops a b s t waiting Drained known posted cleaned h = record {
  quiet = ap (λ (k : rx.Knowing). k.quiet) known ∙ h.quiet;
  drained = ap (λ (k : rx.Knowing). k.drained) known ∙ h.drained;
  cleaned = subst (λ (l : List tx.Posting). length l ≤ length (transmit.cleaned t)) (sym posted) (subst (λ (l : List ℕ). length (transmit.posted s) ≤ length l) (sym cleaned) h.cleaned);
  none_waits = h.none_waits;
}
ended-as turns stops a b s t waiting Cut known posted cleaned h = h

has-ended-as : (k : DriverKey) (d e : Driving) (c : Driven) (ended : Ended) → receive.taken e.rx.end ≡ receive.taken d.rx.end → receive.known_of e.rx.end ≡ receive.known_of d.rx.end → transmit.posted e.tx.end ≡ transmit.posted d.tx.end → transmit.cleaned e.tx.end ≡ transmit.cleaned d.tx.end
    → HasEnded k d c ended → HasEnded k e c ended
has-ended-as k d e c ended taken known posted cleaned h = record {
  waiting = h.waiting;
  relayed = relayed-as k.retries d.rx.end e.rx.end d.tx.end e.tx.end c h.waiting taken posted h.relayed;
  ended_as = ended-as k.turns k.stops d.rx.end e.rx.end d.tx.end e.tx.end h.waiting ended known posted cleaned h.ended_as;
}

-- the receive queue's buffers came back
pub closing-rx : (k : DriverKey) (d : Driving) (c : Driven) (ended : Ended) (untaken unsent : ℕ) (rx' : Receiver) (stash stash' : List ℕ) (packets : List (List Buffer)) → IsClosing k d c ended (Some untaken) (Some unsent) → rx'.end.table ≡ d.rx.end.table → GaveBack d.rx stash rx' stash'
    → IsClosing k (driving rx' d.tx stash' packets) c ended (Some untaken) (Some unsent)
closing-rx k d c ended untaken unsent rx' stash stash' packets h own g =
    let taken = ap (λ (x : rx.RxDriven). x.reaped) g.ring.did in record {
      rx_stands = (ap (λ (x : rx.RxDriven). is_stopped x.state) g.ring.did ∙ h.rx_stands.0, rx-same d.rx.end rx'.end own taken g.known ∙ h.rx_stands.1);
      tx_stands = h.tx_stands;
      has_ended = has-ended-as k d (driving rx' d.tx stash' packets) c ended taken g.known refl refl h.has_ended;
    }

-- and those of the transmit queue
pub closing-tx : (k : DriverKey) (d : Driving) (c : Driven) (ended : Ended) (untaken unsent : ℕ) (tx' : Transmitter) (stash stash' : List ℕ) (packets : List (List Buffer)) → IsClosing k d c ended (Some untaken) (Some unsent) → tx'.end.table ≡ d.tx.end.table → transmit.known_of tx'.end ≡ transmit.known_of d.tx.end
    → CameBack number_of_posting d.tx.end stash tx'.end stash' → IsClosing k (driving d.rx tx' stash' packets) c ended (Some untaken) (Some unsent)
closing-tx k d c ended untaken unsent tx' stash stash' packets h own known g =
    let posted = ap (λ (x : tx.TxDriven). x.posted) g.did in record {
      rx_stands = h.rx_stands;
      tx_stands = (ap (λ (x : tx.TxDriven). is_stopped x.state) g.did ∙ h.tx_stands.0, tx-same d.tx.end tx'.end own posted known ∙ h.tx_stands.1);
      has_ended = has-ended-as k d (driving d.rx tx' stash' packets) c ended refl refl posted (ap (λ (x : tx.TxDriven). x.reaped) g.did) h.has_ended;
    }

-- what is at hand plays no part in it
pub closing-still : (k : DriverKey) (d e : Driving) (c : Driven) (ended : Ended) (untaken unsent : Option ℕ) → e.rx ≡ d.rx → e.tx ≡ d.tx → IsClosing k d c ended untaken unsent → IsClosing k e c ended untaken unsent
closing-still k d e c ended untaken unsent rx' tx' h = record {
  rx_stands = subst (λ (r : Receiver). RxStands untaken r.end) (sym rx') h.rx_stands;
  tx_stands = subst (λ (t : Transmitter). TxStands unsent t.end) (sym tx') h.tx_stands;
  has_ended = has-ended-as k d e c ended (ap (λ (r : Receiver). receive.taken r.end) rx') (ap (λ (r : Receiver). receive.known_of r.end) rx') (ap (λ (t : Transmitter). transmit.posted t.end) tx') (ap (λ (t : Transmitter). transmit.cleaned t.end) tx') h.has_ended;
}

-- the last turn is one, or somebody may stop the flow
pub last-cuts : (turns made : ℕ) (stops : Bool) → IsLastTurn turns stops made → MayBeCut turns stops
last-cuts turns made stops h = ⊎_elim (λ (e : made + 1 ≡ turns). inl (omega (arith, e))) (λ (asked : stops ≡ true). inr asked) h

-- in each phase no more is posted and dropped than is taken
pub at-rule : (k : DriverKey) (d : Driving) (c : Driven) (phase : Phase) → IsAt k d c phase → c.posted + c.tx_dropped ≤ c.taken
at-rule k d c EnablingTx h = h.0.relayed.no_more
at-rule k d c EnablingRx h = h.0.relayed.no_more
at-rule k d c (Forwarding made) h = h.0.relayed.no_more
at-rule k d c (Disabling ended untaken unsent) h = h.has_ended.relayed.no_more
at-rule k d c (Reclaiming left) h = h.has_ended.relayed.no_more
at-rule k d c (Over left) h = h.has_ended.relayed.no_more
