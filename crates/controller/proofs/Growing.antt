-- A frame as it is stored, segment by segment, over the record of the controller's end.
use Rattle.std.proofs.Common.{◌≡◌, ℕ, ◌-◌, ◌%◌, ◌<◌, ◌≤◌, Bool, true, false, List, [], ◌∷◌, ◌++◌, map, length, take, drop, None, Option, sym, refl, ap, ◌∙◌, subst, arith, append_assoc, append-nil, length-append, length-drop}
use Rattle.std.proofs.lemmas.List.{map-append}
use Rattle.atomic_table.specs.Seated.{TableId}
use Rattle.buffer_pool.specs.Buffer.{Buffer}
use Rattle.ring_model.specs.shared.Frames.{Bytes, Piece, piece_count, cut, frames, unfinished_from, unfinished, chains_from, join, Follows}
use Rattle.ring_model.specs.kept.CanCut.{CanCut}
use Rattle.ring_model.specs.shared.Segments.{Segment, piece_of}
use Rattle.ring_model.proofs.shared.Cuts.{ends-cut}
use Rattle.ring_laws.specs.Frames.{follows-cut, unfinished-whole, frames-append, unfinished-append, unfinished-snoc}
use Rattle.shared_ring.specs.declared.events.ControllerEvent.TheVariants.{StoredHead}
use Rattle.rx_ring.specs.Records.{RxControlled}
use Rattle.rx_ring.specs.Calls.{StoredBytes, StoredSegment}
use Rattle.rx_ring.specs.Ends.{ControllerSide, controller_size, controller_record, stored, known_free, held, serve_place, controller_grown}
use Rattle.controller.specs.Chained.{Chained}
use Rattle.controller.specs.Receiving.{IsIdle, StoredFrame}
use Rattle.controller.proofs.Cutting.{cut-more, cut-last, length-cut, Carried, carried_front}
use Rattle.controller.proofs.Stepping.{chained-nil, chained-snoc}

-- the first segments of the frame f are stored, and `rest` is what is left of it
pub record IsStoring (b : ℕ) (f : Bytes) (old : ControllerSide) (rest : Bytes) (now : ControllerSide) : Type 0 where
  pub segments : List (Segment Bytes)
  pub each : Chained StoredSegment old segments now
  pub grew : controller_record now ≡ record (controller_record old) { completed = stored old ++ segments; held = None }
  pub pieces : map piece_of segments ++ cut b rest ≡ cut b f
  pub begun : unfinished piece_of (stored now) ≡ segments
  pub own : now.table ≡ old.table
  pub some : 0 < length rest

pub begins : (b : ℕ) (f : Bytes) (old : ControllerSide) → held old ≡ None → unfinished piece_of (stored old) ≡ [] → 0 < length f → IsStoring b f old f old
begins b f old unheld whole some = record {
  segments = [];
  each = chained-nil StoredSegment old;
  grew = ap (λ (h : Option Buffer). record (controller_record old) { held = h }) unheld
      ∙ ap (λ (l : List (Segment Bytes)). record (controller_record old) { completed = l; held = None }) (sym (append-nil (stored old)));
  pieces = refl;
  begun = whole;
  own = refl;
  some = some;
}

-- the record after one more segment
grown : (old now new : ControllerSide) (segments : List (Segment Bytes)) (s : Segment Bytes) → controller_record now ≡ record (controller_record old) { completed = stored old ++ segments; held = None }
    → controller_record new ≡ record (controller_record now) { completed = stored now ++ s ∷ []; held = None }
    → controller_record new ≡ record (controller_record old) { completed = stored old ++ (segments ++ s ∷ []); held = None }
grown old now new segments s was e = e
    ∙ (ap (λ (x : RxControlled). record x { completed = x.completed ++ s ∷ []; held = None }) was
    ∙ ap (λ (l : List (Segment Bytes)). record (controller_record old) { completed = l; held = None }) (append_assoc (stored old) segments (s ∷ [])))

stepped : (old new : ControllerSide) (s : Segment Bytes) → StoredSegment old s new → new.table ≡ old.table
stepped old new s st = ap (λ (c : ControllerSide). c.table) st.step

-- one more full piece is stored
pub goes_on : (b : ℕ) (f : Bytes) (old now new : ControllerSide) (rest piece more : Bytes) → 0 < b → IsStoring b f old rest now → b < length rest → piece ≡ take b rest → more ≡ drop b rest
    → StoredBytes now piece false new → IsStoring b f old more new
goes_on b f old now new rest piece more pos i h front back st =
    let s : Segment Bytes = record { number = st.number; payload = piece; eop = false } in
    let left = length-drop b rest in
    let first : piece_of s ∷ cut b more ≡ cut b rest = ap (λ (x : Bytes). record { bytes = x; eop = false } ∷ cut b more) front ∙ (ap (λ (x : Bytes). record { bytes = take b rest; eop = false } ∷ cut b x) back ∙ sym (cut-more b rest pos h)) in
    record {
      segments = i.segments ++ s ∷ [];
      each = chained-snoc StoredSegment old i.segments now s new i.each st.stored_as;
      grew = grown old now new i.segments s i.grew st.stored_as.grew;
      pieces = ap (λ (l : List Piece). l ++ cut b more) (map-append piece_of i.segments (s ∷ [])) ∙ (append_assoc (map piece_of i.segments) (piece_of s ∷ []) (cut b more) ∙ (ap (λ (l : List Piece). map piece_of i.segments ++ l) first ∙ i.pieces));
      begun = ap (λ (x : RxControlled). unfinished piece_of x.completed) st.stored_as.grew ∙ (unfinished-snoc piece_of (stored now) s ∙ ap (λ (l : List (Segment Bytes)). l ++ s ∷ []) i.begun);
      own = stepped now new s st.stored_as ∙ i.own;
      some = rw back (omega arith);
    }

-- The next piece may be stored: its descriptor is free, and its bytes follow
pub record CanStore (now : ControllerSide) (bytes : Bytes) (eop : Bool) : Type 0 where
  pub unheld : held now ≡ None
  pub free : 0 < known_free now
  pub follows : Follows piece_of (controller_size now) (unfinished piece_of (stored now)) bytes eop

can_store_next : (b : ℕ) (f : Bytes) (old now : ControllerSide) (rest : Bytes) (p : Piece) (others : List Piece) → CanCut (controller_size old) b (length f) → piece_count b (length f) ≤ known_free old
    → IsStoring b f old rest now → cut b rest ≡ p ∷ others → CanStore now p.bytes p.eop
can_store_next b f old now rest p others can free i first =
    let at : Carried piece_of (cut b f) i.segments p = carried_front piece_of (cut b f) i.segments p others (ap (λ (l : List Piece). map piece_of i.segments ++ l) (sym first) ∙ i.pieces) in
    let count = length-cut b f in
    let below = at.count in
    let longer = length-append (stored old) i.segments in
    let known : known_free now ≡ (controller_record old).known - length (stored old ++ i.segments) = ap (λ (x : RxControlled). x.known - length x.completed) i.grew in
    record {
      unheld = ap (λ (x : RxControlled). x.held) i.grew;
      free = omega arith;
      follows = subst (λ (l : List (Segment Bytes)). Follows piece_of (controller_size now) l p.bytes p.eop) (sym i.begun)
          (subst (λ (t : TableId). Follows piece_of t.slots i.segments p.bytes p.eop) (sym i.own) (follows-cut piece_of (controller_size old) b f i.segments (length i.segments) p can at.front at.next));
    }

pub can_go_on : (b : ℕ) (f : Bytes) (old now : ControllerSide) (rest : Bytes) → CanCut (controller_size old) b (length f) → piece_count b (length f) ≤ known_free old → IsStoring b f old rest now → b < length rest
    → CanStore now (take b rest) false
can_go_on b f old now rest can free i h = can_store_next b f old now rest (record { bytes = take b rest; eop = false }) (cut b (drop b rest)) can free i (cut-more b rest can.some_room h)

pub can_end : (b : ℕ) (f : Bytes) (old now : ControllerSide) (rest : Bytes) → CanCut (controller_size old) b (length f) → piece_count b (length f) ≤ known_free old → IsStoring b f old rest now → length rest ≤ b
    → CanStore now rest true
can_end b f old now rest can free i h = can_store_next b f old now rest (record { bytes = rest; eop = true }) [] can free i (cut-last b rest i.some h)

-- a frame whose segments behind whole ones are stored is one more frame, and leaves nothing unfinished
whole_frame : (b : ℕ) (f : Bytes) (before segments : List (Segment Bytes)) → 0 < b → 0 < length f → unfinished piece_of before ≡ [] → map piece_of segments ≡ cut b f
    → (frames piece_of (before ++ segments) ≡ frames piece_of before ++ f ∷ []) × (unfinished piece_of (before ++ segments) ≡ [])
whole_frame b f before segments pos some whole pieces =
    let ends = ends-cut piece_of b [] segments f pos some pieces in (
      frames-append piece_of before segments ∙ (ap (λ (l : List (Segment Bytes)). frames piece_of before ++ map (join piece_of) (chains_from piece_of l segments)) whole ∙ ap (λ (l : List Bytes). frames piece_of before ++ l) ends.frames),
      unfinished-append piece_of before segments ∙ (ap (λ (l : List (Segment Bytes)). unfinished_from piece_of l segments) whole ∙ ends.unfinished),
    )

-- the last piece is stored, and the head after it
pub ends_frame_with : (b : ℕ) (f : Bytes) (old now last new : ControllerSide) (rest : Bytes) → 0 < b → 0 < length f → unfinished piece_of (stored old) ≡ [] → IsStoring b f old rest now → length rest ≤ b
    → StoredBytes now rest true last → new ≡ controller_grown last (StoredHead (serve_place last)) → controller_record new ≡ record (controller_record last) { head = serve_place last }
    → StoredFrame b f old new × IsIdle new × (new.table ≡ old.table)
ends_frame_with b f old now last new rest pos some whole i h st head e =
    let s : Segment Bytes = record { number = st.number; payload = rest; eop = true } in
    let all = i.segments ++ s ∷ [] in
    let pieces : map piece_of all ≡ cut b f = map-append piece_of i.segments (s ∷ []) ∙ (ap (λ (l : List Piece). map piece_of i.segments ++ l) (sym (cut-last b rest i.some h)) ∙ i.pieces) in
    let grew : controller_record last ≡ record (controller_record old) { completed = stored old ++ all; held = None } = grown old now last i.segments s i.grew st.stored_as.grew in
    let after : stored new ≡ stored old ++ all = ap (λ (x : RxControlled). x.completed) e ∙ ap (λ (x : RxControlled). x.completed) grew in
    let done = whole_frame b f (stored old) all pos some whole pieces in
    let same : new.table ≡ last.table = ap (λ (c : ControllerSide). c.table) head in (
      record {
        segments = all;
        last = last;
        each = chained-snoc StoredSegment old i.segments now s last i.each st.stored_as;
        head = head;
        pieces = pieces;
        grew = e ∙ ap (λ (x : RxControlled). record x { head = serve_place last }) grew;
        frames_are = ap (frames piece_of) after ∙ done.0;
      },
      record {
        unheld = ap (λ (x : RxControlled). x.held) e ∙ ap (λ (x : RxControlled). x.held) grew;
        at_frame_end = unfinished-whole piece_of (stored new) (ap (unfinished piece_of) after ∙ done.1);
        head = ap (λ (x : RxControlled). x.head) e ∙ (ap (λ (x : RxControlled). length x.completed % controller_size last) (sym e) ∙ ap (λ (t : TableId). length (stored new) % t.slots) (sym same));
      },
      same ∙ (stepped now last s st.stored_as ∙ i.own),
    )
