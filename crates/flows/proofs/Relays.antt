-- What the calls of a driver's side keep of a flow.
use Rattle.std.proofs.Common.{◌≡◌, ◌∙◌, ◌⊎◌, ⊎_elim, inl, inr, ℕ, zero, suc, ◌+◌, ◌-◌, ◌<◌, ◌≤◌, Bool, true, false, List, [], ◌++◌, length, map, ap, sym, refl, subst, arith, append_assoc, append-nil, length-append, if◌then◌else◌}
use Rattle.std.proofs.lemmas.Bool.{lt-ltb, le-ltb, false≢true}
use Rattle.std.proofs.lemmas.List.{length-map, map-append}
use Rattle.buffer_pool.specs.Packed.{bytes_of, shape_of}
use Rattle.ring_model.specs.shared.Frames.{Bytes}
use Rattle.rx_ring.specs.Ends as receive
use Rattle.tx_ring.specs.Ends as transmit
use Rattle.limits.specs.declared.profile.TheConstants.{MOST_BATCH}
use Rattle.driver.specs.transmit.Transmitter.{Transmitter}
use Rattle.forwarding.specs.Touching.{touch}
use Rattle.forwarding.specs.Driving.{Driving, Moved, Counted, Drove, HeldBack, OnlyReceived}
use Rattle.counters.specs.declared.driven.Driven.{Driven}
use Rattle.counters.specs.Kinds.{after_turn, counted, most_exact}
use Rattle.flows.specs.Outputs.{Chosen}
use Rattle.flows.specs.Driven.{AreExact, AreFull, Relayed, taken_frames, posted_frames}
use Rattle.flows.proofs.Choosing.{chosen-both, chosen-front}

-- the lists alone
pub relayed-lists : (p p' waits waits' t t' taken posted : List Bytes) → Chosen (p ++ waits) (map touch t) → t' ≡ t ++ taken → p' ≡ p ++ posted → waits ++ map touch taken ≡ posted ++ waits'
    → Chosen (p' ++ waits') (map touch t')
relayed-lists p p' waits waits' t t' taken posted c et ep order =
    let more : Chosen ((p ++ waits) ++ map touch taken) (map touch t ++ map touch taken) = chosen-both (p ++ waits) (map touch t) (map touch taken) c in
    let front : (p ++ waits) ++ map touch taken ≡ p' ++ waits' = append_assoc p waits (map touch taken) ∙ (ap (λ (l : List Bytes). p ++ l) order ∙ (sym (append_assoc p posted waits') ∙ ap (λ (l : List Bytes). l ++ waits') (sym ep))) in
    let back : map touch t ++ map touch taken ≡ map touch t' = sym (map-append touch t taken) ∙ ap (map touch) (sym et) in
    subst (λ (l : List Bytes). Chosen l (map touch t')) front (subst (λ (l : List Bytes). Chosen ((p ++ waits) ++ map touch taken) l) back more)

-- the counts: as long as there is room they grow, and from then on stay
counted-more : (c : Driven) (a b d : ℕ) → c.taken ≤ most_exact → counted c a b d ≡ after_turn c a b d
counted-more c a b d low = ap (λ (x : Bool). if x then c else after_turn c a b d) (le-ltb most_exact c.taken low)

counted-full : (c : Driven) (a b d : ℕ) → most_exact < c.taken → counted c a b d ≡ c
counted-full c a b d high = ap (λ (x : Bool). if x then c else after_turn c a b d) (lt-ltb most_exact c.taken high)

le-or-lt : (n m : ℕ) → (n ≤ m) ⊎ (m < n)
le-or-lt zero m = inl (omega arith)
le-or-lt (suc n) zero = inr (omega arith)
le-or-lt (suc n) (suc m) = ⊎_elim (λ (h : n ≤ m). inl (omega (arith, h))) (λ (h : m < n). inr (omega (arith, h))) (le-or-lt n m)

-- What one turn adds to the lists, of which d packets were dropped after it
pub record Added (a b d : ℕ) (rx rx' : receive.DriverSide) (tx tx' : transmit.DriverSide) (waiting waiting' : ℕ) : Type 0 where
  pub takes : length (taken_frames rx') ≡ length (taken_frames rx) + a
  pub posts : length (posted_frames tx') ≡ length (posted_frames tx) + b
  pub waits : waiting + a ≡ b + d + waiting'

module _ (rx rx' : receive.DriverSide) (tx tx' : transmit.DriverSide) (c : Driven) (a b d waiting waiting' : ℕ) (added : Added a b d rx rx' tx tx' waiting waiting') where
  exact-on : c.taken ≤ most_exact → AreExact rx tx c waiting → AreExact rx' tx' (after_turn c a b d) waiting'
  exact-on low e =
      let et = e.taken in let ep = e.posted in let ea = e.all in let t = added.takes in let p = added.posts in let w = added.waits in
      record { taken = omega (arith, et, t); posted = omega (arith, ep, p); all = omega (arith, ea, w) }

  full-on : most_exact < c.taken → AreExact rx tx c waiting ⊎ AreFull rx c → AreFull rx' c
  full-on high counted = let t = added.takes in ⊎_elim
      (λ (e : AreExact rx tx c waiting). record { full = high; many = (let et = e.taken in omega (arith, et, t, high)) })
      (λ (f : AreFull rx c). record { full = high; many = (let m = f.many in omega (arith, m, t)) }) counted

  exactly : c.taken ≤ most_exact → AreExact rx tx c waiting ⊎ AreFull rx c → AreExact rx tx c waiting
  exactly low counted = ⊎_elim (λ e. e) (λ (f : AreFull rx c). let full = f.full in absurd (omega (arith, low, full))) counted

  -- the counts after it
  pub counts-on : (dropped : Bool) → (dropped ≡ true → d ≡ 0) → AreExact rx tx c waiting ⊎ AreFull rx c → c.posted + c.tx_dropped ≤ c.taken → (dropped ≡ true → c.tx_dropped ≡ 0)
      → (AreExact rx' tx' (counted c a b d) waiting' ⊎ AreFull rx' (counted c a b d)) × ((counted c a b d).posted + (counted c a b d).tx_dropped ≤ (counted c a b d).taken) × (dropped ≡ true → (counted c a b d).tx_dropped ≡ 0)
  counts-on retries none had few kept = ⊎_elim
      (λ (low : c.taken ≤ most_exact).
      let grown : Driven = after_turn c a b d in
      let is = counted-more c a b d low in let e = exact-on low (exactly low had) in (
        subst (λ (x : Driven). AreExact rx' tx' x waiting' ⊎ AreFull rx' x) (sym is) (inl e),
        subst (λ (x : Driven). x.posted + x.tx_dropped ≤ x.taken) (sym is) (let all = e.all in omega (arith, all)),
        λ r. ap (λ (x : Driven). x.tx_dropped) is ∙ (let h = kept r in let n = none r in omega (arith, h, n)),
      ))
      (λ (high : most_exact < c.taken).
      let is = counted-full c a b d high in (
        subst (λ (x : Driven). AreExact rx' tx' x waiting' ⊎ AreFull rx' x) (sym is) (inr (full-on high had)),
        subst (λ (x : Driven). x.posted + x.tx_dropped ≤ x.taken) (sym is) few,
        λ r. ap (λ (x : Driven). x.tx_dropped) is ∙ kept r,
      ))
      (le-or-lt c.taken most_exact)

-- what a drive adds
adds : (old new : Driving) (a b : ℕ) → Moved old new → Counted a b old new → Added a b 0 old.rx.end new.rx.end old.tx.end new.tx.end (length (map bytes_of old.packets)) (length (map bytes_of new.packets))
adds old new a b m c =
    let t : List Bytes = taken_frames old.rx.end in
    let q : List Bytes = posted_frames old.tx.end in
    let many_t = c.takes in let many_q = c.posts in
    let sum_t = ap length m.takes ∙ length-append t m.taken in
    let sum_q = ap length m.posts ∙ length-append q m.posted in
    let touched = length-map m.taken touch in
    let order = sym (length-append (map bytes_of old.packets) (map touch m.taken)) ∙ (ap length m.order ∙ length-append m.posted (map bytes_of new.packets)) in
    record { takes = many_t; posts = many_q; waits = omega (arith, many_t, many_q, sum_t, sum_q, touched, order) }

module _ (retries : Bool) (old new : Driving) (c : Driven) (a b : ℕ) (r : Relayed retries old.rx.end old.tx.end c (map bytes_of old.packets)) (m : Moved old new) (added : Counted a b old new) where
  went : Chosen (posted_frames new.tx.end ++ map bytes_of new.packets) (map touch (taken_frames new.rx.end))
  went = relayed-lists (posted_frames old.tx.end) (posted_frames new.tx.end) (map bytes_of old.packets) (map bytes_of new.packets) (taken_frames old.rx.end) (taken_frames new.rx.end) m.taken m.posted r.chosen m.takes m.posts m.order

  -- what stays is kept
  pub relays-on : Relayed retries new.rx.end new.tx.end (counted c a b 0) (map bytes_of new.packets)
  relays-on =
      let counts = counts-on old.rx.end new.rx.end old.tx.end new.tx.end c a b 0 (length (map bytes_of old.packets)) (length (map bytes_of new.packets)) (adds old new a b m added) retries (λ e. refl) r.counted r.no_more r.retried in
      record { chosen = went; counted = counts.0; no_more = counts.1; retried = counts.2 }

  -- what stays is dropped
  pub relays-dropping : retries ≡ false → Relayed retries new.rx.end new.tx.end (counted c a b (length new.packets)) []
  relays-dropping never =
      let was = adds old new a b m added in let t = was.takes in let p = was.posts in let w = was.waits in let many = length-map new.packets bytes_of in
      let dropped : Added a b (length new.packets) old.rx.end new.rx.end old.tx.end new.tx.end (length (map bytes_of old.packets)) 0 = record { takes = t; posts = p; waits = omega (arith, w, many) } in
      let counts = counts-on old.rx.end new.rx.end old.tx.end new.tx.end c a b (length new.packets) (length (map bytes_of old.packets)) 0 dropped retries (λ e. absurd (false≢true (sym never ∙ e))) r.counted r.no_more r.retried in
      record {
        chosen = subst (λ (l : List Bytes). Chosen l (map touch (taken_frames new.rx.end))) (sym (append-nil (posted_frames new.tx.end))) (chosen-front (posted_frames new.tx.end) (map bytes_of new.packets) (map touch (taken_frames new.rx.end)) went);
        counted = counts.0;
        no_more = counts.1;
        retried = counts.2;
      }

-- refused: what was taken then waits
pub held-counted : (old new : Driving) → HeldBack old new → Counted (length new.packets - length old.packets) 0 old new
held-counted old new = ⊎_elim
    (λ (e : new ≡ old). subst (λ (d : Driving). Counted (length d.packets - length old.packets) 0 old d) (sym e)
    (let none : length old.packets - length old.packets ≡ 0 = omega arith in record { takes = omega (arith, none); posts = omega arith }))
    (λ (o : OnlyReceived old new).
    let grew = o.receiving.batch.grew in
    let many = o.receiving.batch.count_is in
    let longer = ap length grew.appended ∙ length-append old.packets grew.packets in
    let mapped = length-map grew.packets bytes_of in
    let sum = ap length grew.framed ∙ length-append (taken_frames old.rx.end) (map bytes_of grew.packets) in
    let shaped = sym (length-map new.packets (map shape_of)) ∙ (ap length o.receiving.touching.shape ∙ length-map o.receiving.untouched (map shape_of)) in
    let rest : length new.packets - length old.packets ≡ o.count = omega (arith, many, shaped) in
    let same = ap (λ (t : Transmitter). length (posted_frames t.end)) o.unsent in
    record { takes = omega (arith, many, longer, mapped, sum, rest); posts = omega (arith, same) })

-- after a batch that took nothing, though the queue was seen quiet and the list had room, nothing is left to take
pub batch-drained : (a b : ℕ) (old new : Driving) → Drove a b old new → 0 < old.rx.batch → receive.saw_quiet old.rx.end ≡ true → a ≡ 0 → length old.packets < MOST_BATCH → receive.is_drained new.rx.end ≡ true
batch-drained a b old new d some quiet none room =
    let r = d.receiving in let many = r.batch.count_is in
    r.batch.drained quiet (λ e. omega (arith, e, none, some)) (λ e. omega (arith, e, many, none, room))
