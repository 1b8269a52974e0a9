-- How the lists grow: not at all, one after another, by a posting, by a segment.
use Rattle.std.proofs.Common.{◌≡◌, ◌∙◌, ℕ, ◌+◌, ◌≤◌, ◌||◌, Bool, true, false, List, [], ◌∷◌, ◌++◌, length, map, drop, Some, sym, refl, ap, subst, arith, append_assoc, append-nil, length-append}
use Rattle.std.specs.Prelude.{All, slice_get}
use Rattle.std.proofs.lemmas.List.{map-append, drop-append-le}
use Rattle.std.proofs.lemmas.List.Elements.{All-nil, All-push, All-append}
use Rattle.buffer_pool.specs.Buffer.{Buffer, buffer}
use Rattle.buffer_pool.specs.Packed.{bytes_of}
use Rattle.ring_model.specs.shared.Segments.{Segment, piece_of}
use Rattle.ring_model.specs.shared.Frames.{Bytes, frames}
use Rattle.ring_model.specs.shared.Handshakes.{is_open}
use Rattle.shared_ring.specs.declared.events.DriverEvent.TheVariants as driver
use Rattle.rx_ring.specs.declared.events.RxDriverOwn.TheVariants.{NotDone, Taken}
use Rattle.rx_ring.specs.Records.{RxDriven, Knowing}
use Rattle.rx_ring.specs.Ends.{DriverSide, driver_size, driver_record, driver_state, posted, taken, returned, known_of, fill_place, next_place, driver_grown}
use Rattle.rx_ring.specs.Calls.{segment, TookSegment, SawNotDone}
use Rattle.shared_ring.proofs.Posting.{known-after}
use Rattle.driver.specs.Steps.{is_post}
use Rattle.driver.specs.receive.Chains.{going_on, segments_of, segments_in, IsTaken, HasSegment, IsRest}
use Rattle.driver.specs.Reclaiming.{out_of}
use Rattle.driver.specs.receive.Exchanges.{posting}
use Rattle.driver.specs.receive.Batches.{Hands, at, itself, numbers_in, GrewBy, Filled}
use Rattle.driver.proofs.Running.{runs-none, runs-one, runs-trans, runs-own}
use Rattle.driver.proofs.Returning.{from_item}
use Rattle.driver.proofs.receive.Chaining.{going_on-push, segments_of-push, segments_in-append, rest-more, rest-ended, frames-more, frames-ended, packet-ended}

-- two growths of a list, one behind the other
then_grew : {X : Type 0} (a b c xs ys : List X) → b ≡ a ++ xs → c ≡ b ++ ys → c ≡ a ++ (xs ++ ys)
then_grew a b c xs ys f g = g ∙ (ap (λ l. l ++ ys) f ∙ append_assoc a xs ys)

-- the numbers of the buffers that are out, as the record tells them
abbrev out_in : RxDriven → List ℕ
out_in x = map itself (drop (length x.reaped + x.reclaimed) x.posted)

-- buffers that are out, as more are posted and the oldest come back
then_out : (a b c f g s t : List ℕ) → a ++ f ≡ s ++ b → b ++ g ≡ t ++ c → a ++ (f ++ g) ≡ (s ++ t) ++ c
then_out a b c f g s t e h = sym (append_assoc a f g) ∙ (ap (λ (l : List ℕ). l ++ g) e ∙ (append_assoc s b g ∙ (ap (λ (l : List ℕ). s ++ l) h ∙ sym (append_assoc s t c))))

pub out-same : (d new : DriverSide) → out_of itself new ≡ out_of itself d → out_of itself d ++ [] ≡ out_of itself new
out-same d new e = append-nil (out_of itself d) ∙ sym e

out-posted : (d new : DriverSide) (number : ℕ) → returned d ≤ length (posted d) → driver_record new ≡ record (driver_record d) { posted = posted d ++ number ∷ [] }
    → out_of itself d ++ number ∷ [] ≡ out_of itself new
out-posted d new number within did = sym (ap out_in did ∙ (ap (map itself) (drop-append-le (returned d) (posted d) (number ∷ []) within) ∙ map-append itself (drop (returned d) (posted d)) (number ∷ [])))

-- the oldest that was out came back, with a segment
out-taken : (d new : DriverSide) (buf : Buffer) (eop : Bool) → TookSegment d buf eop new → out_of itself d ++ [] ≡ buf.number ∷ out_of itself new
out-taken d new buf eop t = append-nil (out_of itself d)
    ∙ (ap (map itself) (from_item (posted d) (returned d) buf.number oldest)
    ∙ (ap (λ (k : ℕ). buf.number ∷ map itself (drop k (posted d))) after
    ∙ ap (λ (x : RxDriven). buf.number ∷ map itself (drop (returned new) x.posted)) (sym t.grew)))
  where
    none_back : length (taken d) ≡ returned d
    none_back = let e = t.none_back in omega arith

    oldest : slice_get (posted d) (returned d) ≡ Some buf.number
    oldest = subst (λ (k : ℕ). slice_get (posted d) k ≡ Some buf.number) none_back t.number

    after : returned d + 1 ≡ returned new
    after = let e = ap (λ (x : RxDriven). length x.reaped + x.reclaimed) t.grew in let l = length-append (taken d) (segment buf eop ∷ []) in omega arith

pub grew-none : (h : Hands) → GrewBy h h
grew-none h = record {
  own = refl;
  segments = [];
  numbers = [];
  packets = [];
  took = sym (append-nil (taken h.end));
  posts = sym (append-nil (posted h.end));
  appended = sym (append-nil h.list);
  stash = refl;
  chained = append-nil (going_on h.chain);
  framed = sym (append-nil (frames piece_of (taken h.end)));
  lawful = All-nil (IsTaken (driver_size h.end));
  shut = λ e. refl;
  none_back = refl;
  out = append-nil (out_of itself h.end);
  state = refl;
  head = refl;
  quiet = refl;
  drained = λ e. e;
}

pub grew-trans : (a b c : Hands) → GrewBy a b → GrewBy b c → GrewBy a c
grew-trans a b c f g = record {
  own = g.own ∙ f.own;
  segments = f.segments ++ g.segments;
  numbers = f.numbers ++ g.numbers;
  packets = f.packets ++ g.packets;
  took = then_grew (taken a.end) (taken b.end) (taken c.end) f.segments g.segments f.took g.took;
  posts = then_grew (posted a.end) (posted b.end) (posted c.end) f.numbers g.numbers f.posts g.posts;
  appended = then_grew a.list b.list c.list f.packets g.packets f.appended g.appended;
  stash = f.stash ∙ (ap (λ (l : List ℕ). f.numbers ++ l) g.stash ∙ sym (append_assoc f.numbers g.numbers c.stash));
  chained = sym (append_assoc (going_on a.chain) f.segments g.segments)
      ∙ (ap (λ (l : List (Segment Bytes)). l ++ g.segments) f.chained
      ∙ (append_assoc (segments_in f.packets) (going_on b.chain) g.segments
      ∙ (ap (λ (l : List (Segment Bytes)). segments_in f.packets ++ l) g.chained
      ∙ (sym (append_assoc (segments_in f.packets) (segments_in g.packets) (going_on c.chain))
      ∙ ap (λ (l : List (Segment Bytes)). l ++ going_on c.chain) (sym (segments_in-append f.packets g.packets))))));
  framed = then_grew (frames piece_of (taken a.end)) (frames piece_of (taken b.end)) (frames piece_of (taken c.end)) (map bytes_of f.packets) (map bytes_of g.packets) f.framed g.framed
      ∙ ap (λ (l : List Bytes). frames piece_of (taken a.end) ++ l) (sym (map-append bytes_of f.packets g.packets));
  lawful = All-append (IsTaken (driver_size a.end)) f.packets g.packets f.lawful (subst (λ (n : ℕ). All (IsTaken n) g.packets) (ap (λ t. t.slots) f.own) g.lawful);
  shut = λ e. ap (λ (l : List ℕ). l ++ g.numbers) (f.shut e) ∙ g.shut (ap is_open f.state ∙ e);
  none_back = g.none_back ∙ f.none_back;
  out = then_out (out_of itself a.end) (out_of itself b.end) (out_of itself c.end) f.numbers g.numbers (numbers_in f.segments) (numbers_in g.segments) f.out g.out
      ∙ ap (λ (l : List ℕ). l ++ out_of itself c.end) (sym (map-append (λ (s : Segment Bytes). s.number) f.segments g.segments));
  state = g.state ∙ f.state;
  head = g.head ∙ f.head;
  quiet = g.quiet ∙ f.quiet;
  drained = λ e. g.drained (f.drained e);
}

-- Posting

pub filled-none : (d : DriverSide) (stash : List ℕ) → Filled d stash d stash
filled-none d stash = record {
  numbers = [];
  fills = refl;
  runs = runs-none is_post d;
  did = ap (λ (l : List ℕ). let x : RxDriven = record (driver_record d) { posted = l } in x) (sym (append-nil (posted d)));
  known = refl;
  stash = refl;
  out = append-nil (out_of itself d);
  shut = λ e. refl;
}

pub filled-one : (d new : DriverSide) (had has : List ℕ) (number : ℕ) → is_open (driver_state d) ≡ true → returned d ≤ length (posted d) → new ≡ driver_grown d (driver.Posted (fill_place d) 0 (buffer number []))
    → driver_record new ≡ record (driver_record d) { posted = posted d ++ number ∷ [] } → known_of new ≡ known_of d → had ≡ number ∷ has → Filled d had new has
filled-one d new had has number opened within step did known stash = record {
  numbers = number ∷ [];
  fills = step;
  runs = runs-one is_post d new (driver.Posted (fill_place d) 0 (buffer number [])) step refl;
  did = did;
  known = known;
  stash = stash;
  out = out-posted d new number within did;
  shut = λ e. absurd (cc);
}

pub posting-append : (xs ys : List ℕ) (d : DriverSide) → posting (xs ++ ys) d ≡ posting ys (posting xs d)
posting-append [] ys d = refl
posting-append (x ∷ xs) ys d = posting-append xs ys (driver_grown d (driver.Posted (fill_place d) 0 (buffer x [])))

pub filled-trans : (a b c : DriverSide) (had has left : List ℕ) → Filled a had b has → Filled b has c left → Filled a had c left
filled-trans a b c had has left f g = record {
  numbers = f.numbers ++ g.numbers;
  fills = g.fills ∙ (ap (posting g.numbers) f.fills ∙ sym (posting-append f.numbers g.numbers a));
  runs = runs-trans is_post a b c f.runs g.runs;
  did = g.did ∙ (ap (λ (y : RxDriven). let x : RxDriven = record y { posted = y.posted ++ g.numbers } in x) f.did
      ∙ ap (λ (l : List ℕ). let x : RxDriven = record (driver_record a) { posted = l } in x) (append_assoc (posted a) f.numbers g.numbers));
  known = g.known ∙ f.known;
  stash = f.stash ∙ (ap (λ (l : List ℕ). f.numbers ++ l) g.stash ∙ sym (append_assoc f.numbers g.numbers left));
  out = sym (append_assoc (out_of itself a) f.numbers g.numbers) ∙ (ap (λ (l : List ℕ). l ++ g.numbers) f.out ∙ g.out);
  shut = λ e. ap (λ (l : List ℕ). l ++ g.numbers) (f.shut e) ∙ g.shut (ap (λ (x : RxDriven). is_open x.state) f.did ∙ e);
}

-- with a chain and a list beside it
pub grew-filled : (d new : DriverSide) (had has : List ℕ) (chain : List Buffer) (list : List (List Buffer)) → Filled d had new has → GrewBy (at d chain had list) (at new chain has list)
grew-filled d new had has chain list f = record {
  own = runs-own is_post d new f.runs;
  segments = [];
  numbers = f.numbers;
  packets = [];
  took = ap (λ (x : RxDriven). x.reaped) f.did ∙ sym (append-nil (taken d));
  posts = ap (λ (x : RxDriven). x.posted) f.did;
  appended = sym (append-nil list);
  stash = f.stash;
  chained = append-nil (going_on chain);
  framed = ap (λ (x : RxDriven). frames piece_of x.reaped) f.did ∙ sym (append-nil (frames piece_of (taken d)));
  lawful = All-nil (IsTaken (driver_size d));
  shut = f.shut;
  none_back = ap (λ (x : RxDriven). x.reclaimed) f.did;
  out = f.out;
  state = ap (λ (x : RxDriven). x.state) f.did;
  head = ap (λ (k : Knowing). k.head) f.known;
  quiet = ap (λ (k : Knowing). k.quiet) f.known;
  drained = λ e. ap (λ (k : Knowing). k.drained) f.known ∙ e;
}

-- Polling

or_left : (a b : Bool) → a ≡ true → (a || b) ≡ true
or_left true b e = refl
or_left false b e = absurd (cc)

module _ (d new : DriverSide) (buf : Buffer) (stash : List ℕ) (list : List (List Buffer)) (chain : List Buffer) where
  -- what a segment that was taken leaves of the chain, and which packets it adds to the list
  grew-taken : (eop : Bool) (left : List Buffer) (packets longer : List (List Buffer)) → TookSegment d buf eop new → longer ≡ list ++ packets → going_on chain ++ segment buf eop ∷ [] ≡ segments_in packets ++ going_on left
      → frames piece_of (taken new) ≡ frames piece_of (taken d) ++ map bytes_of packets → All (IsTaken (driver_size d)) packets → GrewBy (at d chain stash list) (at new left stash longer)
  grew-taken eop left packets longer t appended chained framed lawful = let k = known-after d new (driver.Own (Taken (next_place d) _ buf)) t.step in record {
    own = ap (λ (s : DriverSide). s.table) t.step;
    segments = segment buf eop ∷ [];
    numbers = [];
    packets = packets;
    took = ap (λ (x : RxDriven). x.reaped) t.grew;
    posts = ap (λ (x : RxDriven). x.posted) t.grew ∙ sym (append-nil (posted d));
    appended = appended;
    stash = refl;
    chained = chained;
    framed = framed;
    lawful = lawful;
    shut = λ e. refl;
    none_back = ap (λ (x : RxDriven). x.reclaimed) t.grew;
    out = out-taken d new buf eop t;
    state = ap (λ (x : RxDriven). x.state) t.grew;
    head = ap (λ (x : Knowing). x.head) k;
    quiet = ap (λ (x : Knowing). x.quiet) k;
    drained = λ e. ap (λ (x : Knowing). x.drained) k ∙ or_left (known_of d).drained _ e;
  }

  -- one that does not end its frame
  pub grew-more : TookSegment d buf false new → IsRest d chain → GrewBy (at d chain stash list) (at new (chain ++ buf ∷ []) stash list)
  grew-more t r = grew-taken false (chain ++ buf ∷ []) [] list t (sym (append-nil list)) (sym (going_on-push chain buf))
      (frames-more (driver_size d) (taken d) (taken new) chain buf r.rest (ap (λ (x : RxDriven). x.reaped) t.grew)) (All-nil (IsTaken (driver_size d)))

  pub rest-grows : TookSegment d buf false new → IsRest d chain → IsRest new (chain ++ buf ∷ [])
  rest-grows t r = record {
    rest = rest-more (driver_size d) (taken d) (taken new) chain buf r.rest (ap (λ (x : RxDriven). x.reaped) t.grew);
    each = All-push HasSegment chain buf r.each (record { real = t.real; some_bytes = t.follows.some_bytes });
  }

  -- one that does
  pub grew-ended : TookSegment d buf true new → IsRest d chain → GrewBy (at d chain stash list) (at new [] stash (list ++ (chain ++ buf ∷ []) ∷ []))
  grew-ended t r = grew-taken true [] ((chain ++ buf ∷ []) ∷ []) (list ++ (chain ++ buf ∷ []) ∷ []) t refl
      (sym (append-nil ((segments_of (chain ++ buf ∷ [])) ++ []) ∙ (append-nil (segments_of (chain ++ buf ∷ [])) ∙ segments_of-push chain buf)))
      (frames-ended (driver_size d) (taken d) (taken new) chain buf r.rest (ap (λ (x : RxDriven). x.reaped) t.grew))
      (All-push (IsTaken (driver_size d)) [] (chain ++ buf ∷ []) (All-nil (IsTaken (driver_size d))) (packet-ended (driver_size d) (taken d) (taken new) chain buf r.rest true t.follows refl r.each))

  pub rest-ends : TookSegment d buf true new → IsRest d chain → IsRest new []
  rest-ends t r = record {
    rest = rest-ended (driver_size d) (taken d) (taken new) chain buf r.rest (ap (λ (x : RxDriven). x.reaped) t.grew);
    each = All-nil HasSegment;
  }

  -- no DD
  pub grew-not_done : SawNotDone d new → GrewBy (at d chain stash list) (at new chain stash list)
  grew-not_done s = let k = known-after d new (driver.Own (NotDone (next_place d) s.word)) s.step in record {
    own = ap (λ (x : DriverSide). x.table) s.step;
    segments = [];
    numbers = [];
    packets = [];
    took = ap (λ (x : RxDriven). x.reaped) s.same ∙ sym (append-nil (taken d));
    posts = ap (λ (x : RxDriven). x.posted) s.same ∙ sym (append-nil (posted d));
    appended = sym (append-nil list);
    stash = refl;
    chained = append-nil (going_on chain);
    framed = ap (λ (x : RxDriven). frames piece_of x.reaped) s.same ∙ sym (append-nil (frames piece_of (taken d)));
    lawful = All-nil (IsTaken (driver_size d));
    shut = λ e. refl;
    none_back = ap (λ (x : RxDriven). x.reclaimed) s.same;
    out = out-same d new (ap out_in s.same);
    state = ap (λ (x : RxDriven). x.state) s.same;
    head = ap (λ (x : Knowing). x.head) k;
    quiet = ap (λ (x : Knowing). x.quiet) k;
    drained = λ e. ap (λ (x : Knowing). x.drained) k ∙ or_left (known_of d).drained _ e;
  }
