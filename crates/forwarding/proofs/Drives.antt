-- A receive batch, whose packets are touched, and a transmit batch behind it.
use Rattle.std.proofs.Common.{◌≡◌, ◌∙◌, ℕ, List, [], ◌++◌, length, map, take, drop, ap, sym, subst, arith, length-append, append-nil}
use Rattle.std.specs.Prelude.{All}
use Rattle.std.specs.List.{refill}
use Rattle.std.proofs.lemmas.List.{drop_all, map-append, take-append-drop, length-take-le, take_all}
use Rattle.std.proofs.lemmas.List.Elements.{All-append, All-drop}
use Rattle.atomic_table.specs.Seated.{TableId}
use Rattle.buffer_pool.specs.Buffer.{Buffer}
use Rattle.buffer_pool.specs.Packed.{bytes_of, shape_of}
use Rattle.ring_model.specs.shared.Frames.{frames}
use Rattle.ring_model.specs.shared.Handshakes.{is_live}
use Rattle.ring_model.specs.shared.Segments.{piece_of}
use Rattle.ring_model.specs.transmit.Ring.{carried}
use Rattle.rx_ring.specs.Ends as receive
use Rattle.tx_ring.specs.Ends.{posted}
use Rattle.driver.specs.receive.Chains.{IsTaken}
use Rattle.driver.specs.receive.Receiver.{Receiver}
use Rattle.driver.specs.transmit.Transmitter.{Transmitter, sending}
use Rattle.driver.specs.transmit.Batches as sent
use Rattle.driver.specs.receive.Batches as received
use Rattle.driver.specs.receive.Batches.{Hands}
use Rattle.forwarding.specs.Touching.{touch, touched, shapes}
use Rattle.forwarding.specs.Driving.{Driving, driving, CanDrive, Moved, Received, Sent, Drove, Counted}
use Rattle.forwarding.proofs.Touches.{touched-behind, same-length}

-- ---- the two halves

pub batch-waiting : (n batch most count : ℕ) (old new : Hands) → receive.driver_size old.end ≡ n → received.Batched batch most count old new → All (IsTaken n) old.list → All (IsTaken n) new.list
batch-waiting n batch most count old new size b were =
    let grew = b.grew in
    subst (λ ps. All (IsTaken n) ps) (sym grew.appended) (All-append (IsTaken n) old.list grew.packets were (subst (λ k. All (IsTaken k) grew.packets) size grew.lawful))

pub refilled : (xs ws : List (List Buffer)) → shapes ws ≡ shapes xs → refill (length xs) xs ws ≡ ws
refilled xs ws e =
    let long : length ws ≡ length xs = sym (same-length (map shape_of) ws) ∙ ap length e ∙ same-length (map shape_of) xs in
    ap (λ l. take (length xs) (ws ++ l)) (drop_all (length ws) xs (omega (arith, long))) ∙ (ap (take (length xs)) (append-nil ws) ∙ take_all (length xs) ws (omega (arith, long)))

received-bytes : (count : ℕ) (old : Receiver) (had : List ℕ) (waited : List (List Buffer)) (new : Receiver) (has : List ℕ) (list : List (List Buffer)) (r : Received count old had waited new has list)
    → map bytes_of list ≡ map bytes_of waited ++ map touch (map bytes_of r.batch.grew.packets)
received-bytes count old had waited new has list r =
    r.touching.bytes ∙ ap (λ ps. touched (length waited) (length ps) (map bytes_of ps)) r.batch.grew.appended ∙ touched-behind waited r.batch.grew.packets

pub unmoved : (d : Driving) → Moved d d
unmoved d = record {
  taken = [];
  posted = [];
  takes = sym (append-nil (frames piece_of (receive.taken d.rx.end)));
  posts = sym (append-nil (frames carried (posted d.tx.end)));
  order = append-nil (map bytes_of d.packets);
}

module _ (from to : TableId) (old : Driving) (can : CanDrive from to old) (count : ℕ) (rx : Receiver) (has : List ℕ) (list : List (List Buffer)) (r : Received count old.rx old.stash old.packets rx has list) where
  pub received-can : All (IsTaken from.slots) list → CanDrive from to (driving rx old.tx has list)
  received-can waiting = record {
    receives = r.batch.grew.own ∙ can.receives;
    sends = can.sends;
    one_length = can.one_length;
    rx_live = ap is_live r.batch.grew.state ∙ can.rx_live;
    tx_live = can.tx_live;
    waiting = waiting;
  }

  pub received-moved : Moved old (driving rx old.tx has list)
  received-moved = record {
    taken = map bytes_of r.batch.grew.packets;
    posted = [];
    takes = r.batch.grew.framed;
    posts = sym (append-nil (frames carried (posted old.tx.end)));
    order = sym (received-bytes count old.rx old.stash old.packets rx has list r);
  }

  module _ (posts : ℕ) (tx : Transmitter) (stash : List ℕ) (left : List (List Buffer)) (s : Sent posts old.tx has list tx stash left) where
    pub drove-can : All (IsTaken from.slots) left → CanDrive from to (driving rx tx stash left)
    drove-can waiting = record {
      receives = r.batch.grew.own ∙ can.receives;
      sends = s.own ∙ can.sends;
      one_length = can.one_length;
      rx_live = ap is_live r.batch.grew.state ∙ can.rx_live;
      tx_live = ap is_live s.batch.state ∙ can.tx_live;
      waiting = waiting;
    }

    pub drove-moved : Moved old (driving rx tx stash left)
    drove-moved = record {
      taken = map bytes_of r.batch.grew.packets;
      posted = map bytes_of (take posts list);
      takes = r.batch.grew.framed;
      posts = s.framed;
      order = sym (received-bytes count old.rx old.stash old.packets rx has list r) ∙ (ap (map bytes_of) (sym (take-append-drop posts list))
          ∙ (map-append bytes_of (take posts list) (drop posts list) ∙ ap (λ ps. map bytes_of (take posts list) ++ map bytes_of ps) (sym s.batch.posting.left)));
    }

    pub drove-steps : Drove count posts old (driving rx tx stash left)
    drove-steps = record { stash = has; packets = list; receiving = r; sending = s }

    pub drove-counted : Counted count posts old (driving rx tx stash left)
    drove-counted =
        let grew = r.batch.grew in
        let many = r.batch.count_is in
        let longer = ap length grew.appended ∙ length-append old.packets grew.packets in
        let mapped = same-length bytes_of grew.packets in
        let sum = ap length grew.framed ∙ length-append (frames piece_of (receive.taken old.rx.end)) (map bytes_of grew.packets) in
        let few = length-take-le posts list s.batch.posting.few in
        let posted_few = same-length bytes_of (take posts list) in
        let total = ap length s.framed ∙ length-append (frames carried (posted old.tx.end)) (map bytes_of (take posts list)) in
        record { takes = omega (arith, many, longer, mapped, sum); posts = omega (arith, few, posted_few, total) }

-- those that stay fit the ring as those that waited did
pub sent-waiting : (n posts : ℕ) (list left : List (List Buffer)) → left ≡ drop posts list → All (IsTaken n) list → All (IsTaken n) left
sent-waiting n posts list left e waiting = subst (λ ps. All (IsTaken n) ps) (sym e) (All-drop (IsTaken n) posts list waiting)
