-- What the drivers' calls keep of the buffers that a flow holds.
use Rattle.std.proofs.Common.{◌≡◌, ◌∙◌, ◌⊎◌, ⊎_elim, ℕ, ◌+◌, ◌≤◌, true, List, [], ◌∷◌, ◌++◌, length, map, drop, reverse, ap, sym, refl, subst, arith}
use Rattle.std.specs.Prelude.{All}
use Rattle.std.proofs.lemmas.List.Elements.{All-nil}
use Rattle.driver.specs.receive.Chains.{IsTaken}
use Rattle.std.proofs.lemmas.List.{drop_all}
use Rattle.atomic_table.specs.Seated.{TableId}
use Rattle.buffer_pool.specs.Buffer.{Buffer}
use Rattle.buffer_pool.specs.Packed.{bytes_of, shape_of}
use Rattle.pool.specs.Hands.{total}
use Rattle.pool.specs.Bulk.{Refilled}
use Rattle.pool.specs.Owned.{Passed, IsOf}
use Rattle.pool.proofs.Totals.{total-append}
use Rattle.ring_model.specs.shared.Handshakes.{is_on}
use Rattle.ring_model.specs.transmit.Ring.{number_of_posting}
use Rattle.rx_ring.specs.Ends as receive
use Rattle.rx_ring.specs.Records.{DriverStep, RxDriven}
use Rattle.tx_ring.specs.Ends as transmit
use Rattle.driver.specs.Reclaiming.{CameBack}
use Rattle.driver.specs.receive.Batches.{itself}
use Rattle.driver.specs.receive.Receiver.{Receiver}
use Rattle.driver.specs.receive.Returns.{numbers_of, GaveBack}
use Rattle.driver.specs.transmit.Frames.{numbers_in}
use Rattle.driver.specs.transmit.Transmitter.{Transmitter}
use Rattle.forwarding.specs.Driving.{Driving, driving, CanDrive, Received, Drove, HeldBack, OnlyReceived}
use Rattle.forwarding.specs.Touching.{shapes}
use Rattle.counters.specs.declared.driven.Driven.{Driven}
use Rattle.flows.specs.Keys.{DriverKey}
use Rattle.buffer_accounting.specs.Lent.{lent, with_receiver, with_transmitter, SameNumbers}
use Rattle.buffer_accounting.proofs.Weights.{total-lent, total-receiver}
use Rattle.buffer_accounting.proofs.Batches.{total-received, total-sent}
use Rattle.buffer_accounting.proofs.Returns.{total-given, total-returned}
use Rattle.flows.specs.Holding.{Keeps, all_of}
use Rattle.flows.specs.Driven.{IsForwarding, IsEquipped, OnlyPosted, Relayed, RxAsBefore, TxAsBefore}
use Rattle.flows.proofs.Holds.{weighs-nothing}

-- a packet that was touched keeps its numbers
one-shaped : (p q : List Buffer) → map shape_of q ≡ map shape_of p → numbers_of q ≡ numbers_of p
one-shaped [] [] e = refl
one-shaped [] (y ∷ ys) e = cc e
one-shaped (x ∷ xs) [] e = cc e
one-shaped (x ∷ xs) (y ∷ ys) e =
    let first : y.number ≡ x.number = ap (λ l. (Rattle.std.proofs.Common.get_or l 0 (shape_of x)).0) e in
    ap (λ n. n ∷ numbers_of ys) first ∙ ap (λ l. x.number ∷ l) (one-shaped xs ys (ap (λ l. drop 1 l) e))

all-shaped : (ps qs : List (List Buffer)) → shapes qs ≡ shapes ps → numbers_in qs ≡ numbers_in ps
all-shaped [] [] e = refl
all-shaped [] (q ∷ qs) e = cc e
all-shaped (p ∷ ps) [] e = cc e
all-shaped (p ∷ ps) (q ∷ qs) e =
    ap (λ l. l ++ numbers_in qs) (one-shaped p q (ap (λ l. Rattle.std.proofs.Common.get_or l 0 []) e)) ∙ ap (λ l. numbers_of p ++ l) (all-shaped ps qs (ap (λ l. drop 1 l) e))

-- ---- all that a flow holds, by its parts

pub parts : (h : ℕ → ℕ) (d : Driving) → total h (all_of d) ≡ total h d.stash + total h (with_receiver d.rx) + total h (numbers_in d.packets) + total h (with_transmitter d.tx)
parts h d = total-lent h d.rx d.tx d.stash d.packets

module _ (h : ℕ → ℕ) where
  received : (tx : Transmitter) (count : ℕ) (old : Receiver) (had : List ℕ) (waited : List (List Buffer)) (new : Receiver) (has : List ℕ) (list : List (List Buffer)) → Received count old had waited new has list
      → total h (lent new tx has list) ≡ total h (lent old tx had waited)
  received tx count old had waited new has list r =
      ap (λ (ns : List ℕ). total h (has ++ (with_receiver new ++ (ns ++ with_transmitter tx)))) (all-shaped r.untouched list r.touching.shape) ∙ sym (total-received h old new tx had has waited r.untouched r.batch.grew)

pub drove-all : (a b : ℕ) (old new : Driving) → Drove a b old new → SameNumbers (all_of new) (all_of old)
drove-all a b old new d h =
    sym (total-sent h b new.rx old.tx new.tx d.stash new.stash d.packets new.packets d.sending.batch) ∙ received h old.tx a old.rx old.stash old.packets new.rx d.stash d.packets d.receiving

pub held-all : (old new : Driving) → HeldBack old new → SameNumbers (all_of new) (all_of old)
held-all old new b h = ⊎_elim
    (λ (e : new ≡ old). ap (λ (d : Driving). total h (all_of d)) e)
    (λ (o : OnlyReceived old new). ap (λ (t : Transmitter). total h (lent new.rx t new.stash new.packets)) o.unsent ∙ received h old.tx o.count old.rx old.stash old.packets new.rx new.stash new.packets o.receiving) b

-- ---- the drivers of a flow and their buffers

pub equipped-by : (k : DriverKey) (pass : Passed) (old new : Driving) (from to : TableId) → k.from ≡ from → k.to ≡ to → IsEquipped k pass old → CanDrive from to new → SameNumbers (all_of new) (all_of old) → IsEquipped k pass new
equipped-by k pass old new from to from_is to_is l can same = record {
  receives = can.receives ∙ sym from_is;
  sends = can.sends ∙ sym to_is;
  one_length = l.one_length;
  pool = l.pool;
  share = l.share;
  holds = λ h. (let a = l.holds h in let b = same h in omega (arith, a, b));
  waiting = subst (λ (t : TableId). All (IsTaken t.slots) new.packets) (sym from_is) can.waiting;
}

-- nothing but the records of the ends changed, and the buffers stayed where they were
pub equipped-still : (k : DriverKey) (pass : Passed) (d : Driving) (rx : Receiver) (tx : Transmitter) → IsEquipped k pass d → RxAsBefore d.rx rx → TxAsBefore d.tx tx → IsEquipped k pass (driving rx tx d.stash d.packets)
equipped-still k pass d rx tx l r t = record {
  receives = r.own ∙ l.receives;
  sends = t.own ∙ l.sends;
  one_length = l.one_length;
  pool = l.pool;
  share = l.share;
  holds = λ h. l.holds h ∙ ap (λ (x : List ℕ). total h (d.stash ++ (x ++ (numbers_in d.packets ++ with_transmitter d.tx)))) (sym r.holds) ∙ ap (λ (x : List ℕ). total h (d.stash ++ (with_receiver rx ++ (numbers_in d.packets ++ x)))) (sym t.holds);
  waiting = l.waiting;
}

-- the stash and the packets that wait are a part of what is held
pub at-hand : (d : Driving) (h : ℕ → ℕ) → total h (d.stash ++ numbers_in d.packets) ≤ total h (all_of d)
at-hand d h = let a = total-append h d.stash (numbers_in d.packets) in let b = parts h d in omega (arith, a, b)

-- .. and the stash alone
pub stash-at-hand : (d : Driving) (h : ℕ → ℕ) → total h d.stash ≤ total h (all_of d)
stash-at-hand d h = let b = parts h d in omega (arith, b)

-- what was at hand went to the pool, as far as it isn't in the stash
pub given-all : (k : DriverKey) (pass pass' : Passed) (d : Driving) (stash : List ℕ) (packets : List (List Buffer)) → packets ≡ [] → IsEquipped k pass d → IsOf k.pool pass' → pass'.hand.share ≡ pass.hand.share → Keeps pass.hand.held (d.stash ++ numbers_in d.packets) pass'.hand.held stash → IsEquipped k pass' (driving d.rx d.tx stash packets)
given-all k pass pass' d stash packets none l pool shared kept = subst (λ (ps : List (List Buffer)). IsEquipped k pass' (driving d.rx d.tx stash ps)) (sym none) (record {
  receives = l.receives;
  sends = l.sends;
  one_length = l.one_length;
  pool = pool;
  share = shared ∙ l.share;
  holds = λ h. (let a = l.holds h in let b = kept h in let c = total-append h d.stash (numbers_in d.packets) in let e = parts h d in let f = parts h (driving d.rx d.tx stash []) in omega (arith, a, b, c, e, f));
  waiting = All-nil (IsTaken k.from.slots);
})

-- and so the stash
pub given-stash : (k : DriverKey) (pass pass' : Passed) (d : Driving) (stash : List ℕ) → stash ≡ [] → IsEquipped k pass d → IsOf k.pool pass' → pass'.hand.share ≡ pass.hand.share → Keeps pass.hand.held d.stash pass'.hand.held [] → IsEquipped k pass' (driving d.rx d.tx stash d.packets)
given-stash k pass pass' d stash none l pool shared kept = subst (λ (xs : List ℕ). IsEquipped k pass' (driving d.rx d.tx xs d.packets)) (sym none) (record {
  receives = l.receives;
  sends = l.sends;
  one_length = l.one_length;
  pool = pool;
  share = shared ∙ l.share;
  holds = λ h. (let a = l.holds h in let b = kept h in let e = parts h d in let f = parts h (driving d.rx d.tx [] d.packets) in omega (arith, a, b, e, f));
  waiting = l.waiting;
})

-- ---- at the start

pub posted-one : (a b c : receive.DriverSide) (n : ℕ) (e : DriverStep) → OnlyPosted a b → c ≡ receive.driver_grown b e → receive.driver_record c ≡ record (receive.driver_record b) { posted = receive.posted b ++ n ∷ [] } → OnlyPosted a c
posted-one a b c n e o step did = record {
  own = ap (λ (d : receive.DriverSide). d.table) step ∙ o.own;
  taken = ap (λ (x : RxDriven). x.reaped) did ∙ o.taken;
  none_back = ap (λ (x : RxDriven). x.reclaimed) did ∙ o.none_back;
  state = ap (λ (x : RxDriven). x.state) did ∙ o.state;
}

pub posted-trans : (a b c : receive.DriverSide) → OnlyPosted a b → OnlyPosted b c → OnlyPosted a c
posted-trans a b c o p = record { own = p.own ∙ o.own; taken = p.taken ∙ o.taken; none_back = p.none_back ∙ o.none_back; state = p.state ∙ o.state }

pub posts-kept : (has stash stash' posted posted' : List ℕ) (n : ℕ) → Keeps [] has [] (stash ++ posted) → stash ≡ n ∷ stash' → posted' ≡ posted ++ n ∷ [] → Keeps [] has [] (stash' ++ posted')
posts-kept has stash stash' posted posted' n k e f = λ h.
    (let a = k h in let b = total-append h stash posted in let c = ap (total h) e in let d = total-append h stash' posted' in let g = ap (total h) f ∙ total-append h posted (n ∷ []) in omega (arith, a, b, c, d, g))

pub stocks-on : (held0 has0 held stash posted held' stash' ns stash'' posted'' : List ℕ) → Keeps held0 has0 held (stash ++ posted) → held' ≡ reverse ns ++ held → stash' ≡ reverse ns ++ stash → Keeps [] (stash' ++ posted) [] (stash'' ++ posted'') → Keeps held0 has0 held' (stash'' ++ posted'')
stocks-on held0 has0 held stash posted held' stash' ns stash'' posted'' k e f l = λ h.
    (let a = k h in let b = l h in let c = ap (total h) e ∙ total-append h (reverse ns) held in let d = ap (total h) f ∙ total-append h (reverse ns) stash in
    let x = total-append h stash posted in let y = total-append h stash' posted in omega (arith, a, b, c, d, x, y))

-- ---- at the end

none-out : {X : Type 0} (number : X → ℕ) (xs : List X) (k : ℕ) → k ≡ length xs → map number (drop k xs) ≡ []
none-out number xs k e = ap (λ l. map number l) (drop_all k xs (omega (arith, e)))

pub back-rx : (k : DriverKey) (pass : Passed) (d : Driving) (rx : Receiver) (stash : List ℕ) → IsEquipped k pass d → rx.end.table ≡ d.rx.end.table → GaveBack d.rx d.stash rx stash → IsEquipped k pass (driving rx d.tx stash d.packets)
back-rx k pass d rx stash l own g = record {
  receives = own ∙ l.receives;
  sends = l.sends;
  one_length = l.one_length;
  pool = l.pool;
  share = l.share;
  holds = λ h. (
      let a = l.holds h in let e = parts h d in let f = parts h (driving rx d.tx stash d.packets) in let g' = total-given h d.rx rx d.stash stash g in
      let x = total-append h d.stash (with_receiver d.rx) in let y = total-append h stash (with_receiver rx) in omega (arith, a, e, f, g', x, y));
  waiting = l.waiting;
}

pub back-tx : (k : DriverKey) (pass : Passed) (d : Driving) (tx : Transmitter) (stash : List ℕ) → IsEquipped k pass d → tx.end.table ≡ d.tx.end.table → CameBack number_of_posting d.tx.end d.stash tx.end stash → IsEquipped k pass (driving d.rx tx stash d.packets)
back-tx k pass d tx stash l own g = record {
  receives = l.receives;
  sends = own ∙ l.sends;
  one_length = l.one_length;
  pool = l.pool;
  share = l.share;
  holds = λ h. (
      let a = l.holds h in let e = parts h d in let f = parts h (driving d.rx tx stash d.packets) in let g' = total-returned h d.tx tx d.stash stash g in
      let x = total-append h d.stash (with_transmitter d.tx) in let y = total-append h stash (with_transmitter tx) in omega (arith, a, e, f, g', x, y));
  waiting = l.waiting;
}

pub all-back : (k : DriverKey) (pass : Passed) (d : Driving) → IsEquipped k pass d → d.stash ≡ [] → d.packets ≡ [] → d.rx.chain ≡ [] → receive.returned d.rx.end ≡ length (receive.posted d.rx.end) → transmit.returned d.tx.end ≡ length (transmit.posted d.tx.end) → pass.hand.held ≡ []
all-back k pass d l stash packets chain rx tx = weighs-nothing pass.hand.held [] refl (λ h. (
    let a = l.holds h in let e = parts h d in let x = total-receiver h d.rx in let s = ap (total h) stash in let p = ap (λ (ps : List (List Buffer)). total h (numbers_in ps)) packets in let c = ap (λ (bs : List Buffer). total h (numbers_of bs)) chain in
    let r = ap (total h) (none-out itself (receive.posted d.rx.end) (receive.returned d.rx.end) rx) in let t = ap (total h) (none-out number_of_posting (transmit.posted d.tx.end) (transmit.returned d.tx.end) tx) in
    omega (arith, a, e, x, s, p, c, r, t)))

-- buffers came from the pool
pub refilled : (k : DriverKey) (pass pass' : Passed) (d : Driving) (stash : List ℕ) (moved : ℕ) → IsEquipped k pass d → IsOf k.pool pass' → Refilled pass.hand d.stash moved pass'.hand stash → IsEquipped k pass' (driving d.rx d.tx stash d.packets)
refilled k pass pass' d stash moved l pool r = record {
  receives = l.receives;
  sends = l.sends;
  one_length = l.one_length;
  pool = pool;
  share = r.took.share ∙ l.share;
  holds = λ h. (
      let a = l.holds h in let e = parts h d in let f = parts h (driving d.rx d.tx stash d.packets) in
      let took = ap (total h) r.took.held ∙ total-append h (reverse r.numbers) pass.hand.held in let put = ap (total h) r.stashed ∙ total-append h (reverse r.numbers) d.stash in
      omega (arith, a, e, f, took, put));
  waiting = l.waiting;
}

pub forwarding-still : (k : DriverKey) (d e : Driving) (c : Driven) → e.rx ≡ d.rx → e.tx ≡ d.tx → e.packets ≡ d.packets → IsForwarding k d c → IsForwarding k e c
forwarding-still k d e c rx tx packets h = record {
  rx_on = subst (λ (r : Receiver). is_on (receive.driver_state r.end) ≡ true) (sym rx) h.rx_on;
  tx_on = subst (λ (t : Transmitter). is_on (transmit.driver_state t.end) ≡ true) (sym tx) h.tx_on;
  relayed = subst (λ (r : Receiver). Relayed k.retries r.end e.tx.end c (map bytes_of e.packets)) (sym rx) (subst (λ (t : Transmitter). Relayed k.retries d.rx.end t.end c (map bytes_of e.packets)) (sym tx)
      (subst (λ (ps : List (List Buffer)). Relayed k.retries d.rx.end d.tx.end c (map bytes_of ps)) (sym packets) h.relayed));
}
