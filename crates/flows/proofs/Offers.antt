-- What the calls of a receive controller keep of a flow.
use Rattle.std.proofs.Common.{◌≡◌, ◌∙◌, ℕ, zero, suc, ◌+◌, ◌<◌, ◌≤◌, Bool, true, false, cond, List, [], ◌∷◌, ◌++◌, length, take, get_or, ap, sym, refl, subst, arith, append-nil, length-append, if◌then◌else◌}
use Rattle.std.specs.Prelude.{nat_lt, not, Ok}
use Rattle.std.proofs.lemmas.Bool.{lt-ltb, le-ltb, false≢true}
use Rattle.std.proofs.lemmas.List.Elements.{filter_more}
use Rattle.std.proofs.lemmas.List.Filters.{length-filter_more}
use Rattle.atomic_table.specs.Seated.{TableId}
use Rattle.ring_model.specs.shared.Frames.{Bytes, frames, piece_count}
use Rattle.ring_model.specs.shared.Segments.{piece_of}
use Rattle.ring_model.specs.declared.states.ControllerState.{ControllerState}
use Rattle.ring_model.specs.shared.Handshakes.{is_serving}
use Rattle.rx_ring.specs.Ends.{controller_size, controller_state, is_quiet, stored}
use Rattle.counters.specs.declared.tally.Tally.{Tally}
use Rattle.controller.specs.declared.offer.Offer.{Offer}
use Rattle.controller.specs.declared.offer.Offer.TheVariants.{Stored, Dropped, Oversize, Held, Off}
use Rattle.controller.specs.Receiving.{Receiving, needed, Offered, WasStored, WasDropped, WasOversize, WasHeld, WasOff, frames_by}
use Rattle.controller.specs.Tallying.{exact, most_count}
use Rattle.flows.specs.Outputs.{AreCut, Chosen, fitting, oversized}
use Rattle.flows.specs.Keys.{Input}
use Rattle.flows.specs.declared.queue_phase.QueuePhase.{QueuePhase}
use Rattle.flows.specs.declared.queue_phase.QueuePhase.TheVariants.{Waiting, Serving}
use Rattle.flows.specs.Served.{OfferedSoFar, StandsAs, IsRxSource, rx_source, bytes_by, decides}
use Rattle.flows.proofs.Choosing.{chosen-both, chosen-of-more}
use Rattle.flows.proofs.Pieces.{offers-bytes, offers-cut, offers-few, undecided-bytes}

take-one : {X : Type 0} (xs : List X) (i : ℕ) (d : X) → i < length xs → take (suc i) xs ≡ take i xs ++ get_or xs i d ∷ []
take-one [] i d low = absurd (omega (arith, low))
take-one (x ∷ xs) zero d low = refl
take-one (x ∷ xs) (suc i) d low = ap (λ l. x ∷ l) (take-one xs i d (omega (arith, low)))

exact-few : (t more : Tally) → t.offered < most_count → exact t more ≡ more
exact-few t more h = ap (λ (b : Bool). if b then more else t) (lt-ltb t.offered most_count h)

module _ (i : Input) (old new : Receiving) (f : Bytes) (next : ℕ) (o : OfferedSoFar i old next) (here : next < length i.frames) (f_is : get_or i.frames next f ≡ f) (own : new.end.table ≡ old.end.table) where
  more : take (next + 1) i.frames ≡ take next i.frames ++ f ∷ []
  more = ap (λ (k : ℕ). take k i.frames) (let e : next + 1 ≡ suc next = omega arith in e) ∙ (take-one i.frames next f here ∙ ap (λ (x : Bytes). take next i.frames ++ x ∷ []) f_is)

  more_fitting : (b : Bool) → nat_lt (piece_count i.fill (length f)) i.from.slots ≡ b → fitting i.from.slots i.fill (take (next + 1) i.frames) ≡ fitting i.from.slots i.fill (take next i.frames) ++ cond b (f ∷ []) []
  more_fitting b e = filter_more (λ x. nat_lt (piece_count i.fill (length x)) i.from.slots) i.frames next f here
      ∙ (ap (λ (x : Bytes). fitting i.from.slots i.fill (take next i.frames) ++ cond (nat_lt (piece_count i.fill (length x)) i.from.slots) (x ∷ []) []) f_is
      ∙ ap (λ (c : Bool). fitting i.from.slots i.fill (take next i.frames) ++ cond c (f ∷ []) []) e)

  -- whether the frame is oversize, by the controller's settings and by the flow's
  fits : needed old f < controller_size old.end → nat_lt (piece_count i.fill (length f)) i.from.slots ≡ true
  fits h = lt-ltb (piece_count i.fill (length f)) i.from.slots
      (let a = o.fill in let b = ap (λ (t : TableId). t.slots) o.own in subst (λ (k : ℕ). piece_count k (length f) < i.from.slots) a (subst (λ (k : ℕ). piece_count old.bsize (length f) < k) b h))

  exceeds : controller_size old.end ≤ needed old f → nat_lt (piece_count i.fill (length f)) i.from.slots ≡ false
  exceeds h = le-ltb (piece_count i.fill (length f)) i.from.slots
      (let a = o.fill in let b = ap (λ (t : TableId). t.slots) o.own in subst (λ (k : ℕ). i.from.slots ≤ piece_count k (length f)) a (subst (λ (k : ℕ). k ≤ piece_count old.bsize (length f)) b h))

  -- and how many are
  more_oversized : (b : Bool) → nat_lt (piece_count i.fill (length f)) i.from.slots ≡ b → length (oversized i.from.slots i.fill (take (next + 1) i.frames)) ≡ length (oversized i.from.slots i.fill (take next i.frames)) + cond (not b) 1 0
  more_oversized b e = length-filter_more (λ x. not (nat_lt (piece_count i.fill (length x)) i.from.slots)) i.frames next f here
      ∙ (ap (λ (x : Bytes). length (oversized i.from.slots i.fill (take next i.frames)) + cond (not (nat_lt (piece_count i.fill (length x)) i.from.slots)) 1 0) f_is
      ∙ ap (λ (c : Bool). length (oversized i.from.slots i.fill (take next i.frames)) + cond (not c) 1 0) e)

  same_oversize : new.tally.oversize ≡ old.tally.oversize → needed old f < controller_size old.end → new.tally.oversize ≡ length (oversized i.from.slots i.fill (take (next + 1) i.frames))
  same_oversize same h = let a = o.oversize in let m = more_oversized true (fits h) in omega (arith, same, a, m)

  exactly : (t : Tally) → exact old.tally t ≡ t
  exactly t = exact-few old.tally t (let a = o.offered in let b = o.few in let c = o.few_frames in omega (arith, a, b, c))

  -- a frame that is decided is one more that was offered
  decided : new.bsize ≡ old.bsize → new.drop_en ≡ old.drop_en → new.tally.offered ≡ old.tally.offered + 1 → Chosen (frames piece_of (stored new.end)) (take next i.frames ++ f ∷ [])
      → new.tally.stored ≡ length (frames piece_of (stored new.end)) → (i.drops ≡ false → frames piece_of (stored new.end) ≡ fitting i.from.slots i.fill (take (next + 1) i.frames))
      → (i.drops ≡ false → new.tally.dropped ≡ 0) → new.tally.oversize ≡ length (oversized i.from.slots i.fill (take (next + 1) i.frames)) → OfferedSoFar i new (next + 1)
  decided fill drops offered chosen count full none_dropped oversize = record {
    own = own ∙ o.own;
    fill = fill ∙ o.fill;
    drops = drops ∙ o.drops;
    few_frames = o.few_frames;
    few = omega (arith, here);
    offered = offered ∙ ap (λ (k : ℕ). k + 1) o.offered;
    chosen = subst (λ (l : List Bytes). Chosen (frames piece_of (stored new.end)) l) (sym more) chosen;
    stored = count;
    full = full;
    none_dropped = none_dropped;
    oversize = oversize;
  }

  pub offers-stored : frames piece_of (stored new.end) ≡ frames piece_of (stored old.end) ++ f ∷ [] → WasStored old f new → OfferedSoFar i new (next + 1)
  offers-stored ready w =
      let tally : new.tally ≡ record old.tally { offered = old.tally.offered + 1; stored = old.tally.stored + 1 } = ap (λ (r : Receiving). r.tally) w.same ∙ exactly (record old.tally { offered = old.tally.offered + 1; stored = old.tally.stored + 1 }) in
      decided (ap (λ (r : Receiving). r.bsize) w.same) (ap (λ (r : Receiving). r.drop_en) w.same) (ap (λ (t : Tally). t.offered) tally)
      (subst (λ (l : List Bytes). Chosen l (take next i.frames ++ f ∷ [])) (sym ready) (chosen-both (frames piece_of (stored old.end)) (take next i.frames) (f ∷ []) o.chosen))
      (ap (λ (t : Tally). t.stored) tally ∙ (ap (λ (k : ℕ). k + 1) o.stored ∙ sym (ap length ready ∙ length-append (frames piece_of (stored old.end)) (f ∷ []))))
      (λ holds. ready ∙ (ap (λ (l : List Bytes). l ++ f ∷ []) (o.full holds) ∙ sym (more_fitting true (fits w.fits))))
      (λ holds. ap (λ (t : Tally). t.dropped) tally ∙ o.none_dropped holds)
      (same_oversize (ap (λ (t : Tally). t.oversize) tally) w.fits)

  -- the frames are told by `frames` of `offer`, at each of its answers
  module _ (same : frames piece_of (stored new.end) ≡ frames piece_of (stored old.end) ++ []) where
    kept : frames piece_of (stored new.end) ≡ frames piece_of (stored old.end)
    kept = same ∙ append-nil (frames piece_of (stored old.end))

    still : Chosen (frames piece_of (stored new.end)) (take next i.frames ++ f ∷ [])
    still = subst (λ (l : List Bytes). Chosen l (take next i.frames ++ f ∷ [])) (sym kept) (chosen-of-more (frames piece_of (stored old.end)) (take next i.frames) (f ∷ []) o.chosen)

    pub offers-dropped : WasDropped old f new → OfferedSoFar i new (next + 1)
    offers-dropped w =
        let same_new = w.scarce.same in
        let tally : new.tally ≡ record old.tally { offered = old.tally.offered + 1; dropped = old.tally.dropped + 1 } = ap (λ (r : Receiving). r.tally) same_new ∙ exactly (record old.tally { offered = old.tally.offered + 1; dropped = old.tally.dropped + 1 }) in
        let never : (i.drops ≡ false → ⊥) = λ holds. false≢true (sym (o.drops ∙ holds) ∙ w.drops) in
        decided (ap (λ (r : Receiving). r.bsize) same_new) (ap (λ (r : Receiving). r.drop_en) same_new) (ap (λ (t : Tally). t.offered) tally) still
        (ap (λ (t : Tally). t.stored) tally ∙ (o.stored ∙ sym (ap length kept))) (λ holds. absurd (never holds)) (λ holds. absurd (never holds))
        (same_oversize (ap (λ (t : Tally). t.oversize) tally) w.scarce.fits)

    pub offers-oversize : WasOversize old f new → OfferedSoFar i new (next + 1)
    offers-oversize w =
        let tally : new.tally ≡ record old.tally { offered = old.tally.offered + 1; oversize = old.tally.oversize + 1 } = ap (λ (r : Receiving). r.tally) w.same ∙ exactly (record old.tally { offered = old.tally.offered + 1; oversize = old.tally.oversize + 1 }) in
        decided (ap (λ (r : Receiving). r.bsize) w.same) (ap (λ (r : Receiving). r.drop_en) w.same) (ap (λ (t : Tally). t.offered) tally) still
        (ap (λ (t : Tally). t.stored) tally ∙ (o.stored ∙ sym (ap length kept)))
        (λ holds. kept ∙ (o.full holds ∙ sym (more_fitting false (exceeds w.many) ∙ append-nil (fitting i.from.slots i.fill (take next i.frames)))))
        (λ holds. ap (λ (t : Tally). t.dropped) tally ∙ o.none_dropped holds)
        (let one = ap (λ (t : Tally). t.oversize) tally in let a = o.oversize in let m = more_oversized false (exceeds w.many) in omega (arith, one, a, m))

    -- nothing is counted of a frame that is held, or offered to a queue that is off
    uncounted : new.tally ≡ old.tally → new.bsize ≡ old.bsize → new.drop_en ≡ old.drop_en → OfferedSoFar i new next
    uncounted tally fill drops = record {
      own = own ∙ o.own;
      fill = fill ∙ o.fill;
      drops = drops ∙ o.drops;
      few_frames = o.few_frames;
      few = o.few;
      offered = ap (λ (t : Tally). t.offered) tally ∙ o.offered;
      chosen = subst (λ (l : List Bytes). Chosen l (take next i.frames)) (sym kept) o.chosen;
      stored = ap (λ (t : Tally). t.stored) tally ∙ (o.stored ∙ sym (ap length kept));
      full = λ holds. kept ∙ o.full holds;
      none_dropped = λ holds. ap (λ (t : Tally). t.dropped) tally ∙ o.none_dropped holds;
      oversize = ap (λ (t : Tally). t.oversize) tally ∙ o.oversize;
    }

    pub offers-held : WasHeld old f new → OfferedSoFar i new next
    offers-held w = uncounted (ap (λ (r : Receiving). r.tally) w.scarce.same) (ap (λ (r : Receiving). r.bsize) w.scarce.same) (ap (λ (r : Receiving). r.drop_en) w.scarce.same)

    pub offers-off : WasOff old f new → OfferedSoFar i new next
    offers-off w = uncounted (ap (λ (r : Receiving). r.tally) w.same) (ap (λ (r : Receiving). r.bsize) w.same) (ap (λ (r : Receiving). r.drop_en) w.same)

-- an offer by which a frame is decided
pub offers-on : (i : Input) (old new : Receiving) (f : Bytes) (next : ℕ) (offer : Offer) → OfferedSoFar i old next → next < length i.frames → get_or i.frames next f ≡ f → new.end.table ≡ old.end.table
    → frames piece_of (stored new.end) ≡ frames piece_of (stored old.end) ++ frames_by (Ok offer) f → Offered old f (Ok offer) new → decides offer ≡ true → OfferedSoFar i new (next + 1)
offers-on i old new f next Stored o here f_is own ready w is = offers-stored i old new f next o here f_is own ready w
offers-on i old new f next Dropped o here f_is own ready w is = offers-dropped i old new f next o here f_is own ready w
offers-on i old new f next Oversize o here f_is own ready w is = offers-oversize i old new f next o here f_is own ready w
offers-on i old new f next Held o here f_is own ready w is = absurd (false≢true is)
offers-on i old new f next Off o here f_is own ready w is = absurd (false≢true is)

-- and one by which none is
pub offers-none : (i : Input) (old new : Receiving) (f : Bytes) (next : ℕ) (offer : Offer) → OfferedSoFar i old next → next < length i.frames → get_or i.frames next f ≡ f → new.end.table ≡ old.end.table
    → frames piece_of (stored new.end) ≡ frames piece_of (stored old.end) ++ frames_by (Ok offer) f → Offered old f (Ok offer) new → decides offer ≡ false → OfferedSoFar i new next
offers-none i old new f next Stored o here f_is own ready w is = absurd (false≢true (sym is))
offers-none i old new f next Dropped o here f_is own ready w is = absurd (false≢true (sym is))
offers-none i old new f next Oversize o here f_is own ready w is = absurd (false≢true (sym is))
offers-none i old new f next Held o here f_is own ready w is = offers-held i old new f next o here f_is own ready w
offers-none i old new f next Off o here f_is own ready w is = offers-off i old new f next o here f_is own ready w

-- ---- the queue as its controller serves it

same-config : (c new : Receiving) (f : Bytes) (offer : Offer) → Offered c f (Ok offer) new → (new.bsize ≡ c.bsize) × (new.drop_en ≡ c.drop_en)
same-config c new f Stored w = (ap (λ (r : Receiving). r.bsize) w.same, ap (λ (r : Receiving). r.drop_en) w.same)
same-config c new f Dropped w = (ap (λ (r : Receiving). r.bsize) w.scarce.same, ap (λ (r : Receiving). r.drop_en) w.scarce.same)
same-config c new f Oversize w = (ap (λ (r : Receiving). r.bsize) w.same, ap (λ (r : Receiving). r.drop_en) w.same)
same-config c new f Held w = (ap (λ (r : Receiving). r.bsize) w.scarce.same, ap (λ (r : Receiving). r.drop_en) w.scarce.same)
same-config c new f Off w = (ap (λ (r : Receiving). r.bsize) w.same, ap (λ (r : Receiving). r.drop_en) w.same)

waiting≢serving : Waiting ≡ Serving → ⊥
waiting≢serving e = cc e

module _ (from : TableId) (fs : List Bytes) (c new : Receiving) (next bytes : ℕ) (s : QueuePhase) (f : Bytes) (offer : Offer) (was : IsRxSource (rx_source from fs c next bytes s)) (serves : s ≡ Serving) (here : next < length fs)
    (f_is : get_or fs next f ≡ f) (own : new.end.table ≡ from) (ready : frames piece_of (stored new.end) ≡ frames piece_of (stored c.end) ++ frames_by (Ok offer) f) (w : Offered c f (Ok offer) new)
    (state : controller_state new.end ≡ controller_state c.end) (quiet : is_quiet new.end ≡ is_quiet c.end) where
  abbrev input : Receiving → Input
  input r = record { from = from; frames = fs; fill = r.bsize; drops = r.drop_en }

  same_input : input c ≡ input new
  same_input = let same = same-config c new f offer w in ap (λ (b : ℕ). record { from = from; frames = fs; fill = b; drops = c.drop_en }) (sym same.0) ∙ ap (λ (b : Bool). record { from = from; frames = fs; fill = new.bsize; drops = b }) (sym same.1)

  stands : StandsAs s (is_serving (controller_state new.end))
  stands = subst (λ (x : ControllerState). StandsAs s (is_serving x)) (sym state) was.stands

  loud : is_quiet new.end ≡ true → ⊥
  loud is = let over = was.finished (sym quiet ∙ is) in omega (arith, over, here)

  table : new.end.table ≡ c.end.table
  table = own ∙ sym was.so_far.own

  cut : AreCut new.bsize (stored new.end)
  cut = subst (λ (b : ℕ). AreCut b (stored new.end)) (sym (same-config c new f offer w).0) (offers-cut c new f offer w ready was.are_cut)

  more-bytes : decides offer ≡ true → IsRxSource (rx_source from fs new (next + 1) (bytes + bytes_by offer (length f)) s)
  more-bytes is = record {
    so_far = subst (λ (i : Input). OfferedSoFar i new (next + 1)) same_input (offers-on (input c) c new f next offer was.so_far here f_is table ready w is);
    are_cut = cut;
    stored_bytes = offers-bytes (frames piece_of (stored c.end)) (frames piece_of (stored new.end)) f offer bytes ready was.stored_bytes;
    few_bytes = offers-few c new f offer bytes next w was.few_bytes;
    stands = stands;
    unserved = λ e. absurd (waiting≢serving (sym e ∙ serves));
    finished = λ is. absurd (loud is);
  }

  pub decided-on : (added : ℕ) → added ≡ bytes_by offer (length f) → decides offer ≡ true → IsRxSource (rx_source from fs new (next + 1) (bytes + added) s)
  decided-on added added_is is = subst (λ (k : ℕ). IsRxSource (rx_source from fs new (next + 1) (bytes + k) s)) (sym added_is) (more-bytes is)

  pub undecided : decides offer ≡ false → IsRxSource (rx_source from fs new next bytes s)
  undecided is = record {
    so_far = subst (λ (i : Input). OfferedSoFar i new next) same_input (offers-none (input c) c new f next offer was.so_far here f_is table ready w is);
    are_cut = cut;
    stored_bytes = undecided-bytes (frames piece_of (stored c.end)) (frames piece_of (stored new.end)) f offer bytes ready was.stored_bytes is;
    few_bytes = was.few_bytes;
    stands = stands;
    unserved = λ e. absurd (waiting≢serving (sym e ∙ serves));
    finished = λ is. absurd (loud is);
  }
