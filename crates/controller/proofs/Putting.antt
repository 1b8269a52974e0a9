-- A frame as it is sent, segment by segment, over the record of the controller's end and the arena of the wire.
use Rattle.std.proofs.Common.{◌≡◌, ℕ, ◌%◌, ◌<◌, ◌≤◌, Bool, true, false, List, [], ◌∷◌, ◌++◌, length, Option, None, sym, refl, ap, ◌∙◌, arith, if◌then◌else◌, append_assoc, append-nil, length-append}
use Rattle.std.proofs.lemmas.Bool.{false≢true}
use Rattle.atomic_table.specs.Seated.{TableId}
use Rattle.buffer_pool.specs.Buffer.{Buffer}
use Rattle.limits.specs.declared.profile.TheConstants.{MOST_FRAME}
use Rattle.ring_model.specs.shared.Frames.{Bytes, ends_frame, frames, unfinished, join}
use Rattle.ring_model.specs.shared.Handshakes.{is_serving}
use Rattle.ring_model.specs.transmit.Ring.{are_whole, carried}
use Rattle.ring_laws.specs.Frames.{unfinished-whole, frames-snoc, unfinished-snoc, join-append}
use Rattle.tx_ring.specs.Records.{Posting, TxControlled}
use Rattle.tx_ring.specs.Ends.{ControllerSide, controller_size, controller_record, controller_state, sent, known_ready, held, is_owed, head_stored, seen, serve_place}
use Rattle.controller.specs.Chained.{Chained}
use Rattle.controller.specs.Laid.{Laid}
use Rattle.controller.specs.Sending.{CanSend, IsReady, SentBytes, SentNext, SentOn}
use Rattle.controller.specs.Transmitting.{IsIdle, SentFrame, SentSegment, asks, reported}
use Rattle.controller.proofs.Stepping.{chained-nil, chained-snoc}

-- the first postings of a frame are sent, and the next is ready
pub record IsSending (old now : ControllerSide) : Type 0 where
  pub postings : List Posting
  pub each : Chained SentSegment old postings now
  pub grew : controller_record now ≡ record (controller_record old) { completed = sent old ++ postings; held = None; head = head_stored now; barred = false }
  pub begun : unfinished carried (sent now) ≡ postings
  pub frames_same : frames carried (sent now) ≡ frames carried (sent old)
  pub next : IsReady now
  pub own : now.table ≡ old.table

-- and their bytes begin a frame on the wire
pub record IsSendingOn (old : ControllerSide) (arena : Laid) (now : ControllerSide) (arena' : Laid) : Type 0 where
  pub sending : IsSending old now
  pub can : CanSend now arena'
  pub on_wire : arena'.frames ≡ arena.frames
  pub entries : arena'.entries ≡ arena.entries

pub starts : (old : ControllerSide) → held old ≡ None → is_owed old ≡ false → unfinished carried (sent old) ≡ [] → is_serving (controller_state old) ≡ true → 0 < known_ready old → IsSending old old
starts old unheld paid whole serving ready = record {
  postings = [];
  each = chained-nil SentSegment old;
  grew = ap (λ (h : Option Buffer). record (controller_record old) { held = h }) unheld
      ∙ (ap (λ (b : Bool). record (controller_record old) { held = None; barred = b }) paid
      ∙ ap (λ (l : List Posting). record (controller_record old) { completed = l; held = None; barred = false }) (sym (append-nil (sent old))));
  begun = whole;
  frames_same = refl;
  next = record { serving = serving; unheld = unheld; paid = paid; ready = ready };
  own = refl;
}

pub starts_on : (old : ControllerSide) (arena : Laid) → held old ≡ None → is_owed old ≡ false → unfinished carried (sent old) ≡ [] → is_serving (controller_state old) ≡ true → 0 < known_ready old
    → arena.begun ≡ [] → MOST_FRAME ≤ arena.room → IsSendingOn old arena old arena
starts_on old arena unheld paid whole serving ready begun room =
    let s = starts old unheld paid whole serving ready in
    record {
      sending = s;
      can = record { next = s.next; begun = begun ∙ sym (ap (join carried) whole); room = omega arith };
      on_wire = refl;
      entries = refl;
    }

-- the frame's postings with one more
unfinished_more : (ps : List Posting) (p : Posting) (ends : Bool) → p.eop ≡ ends → unfinished carried (ps ++ p ∷ []) ≡ (if ends then [] else unfinished carried ps ++ p ∷ [])
unfinished_more ps p ends e = unfinished-snoc carried ps p ∙ ap (λ (b : Bool). if b then [] else unfinished carried ps ++ p ∷ []) e

frames_more : (ps : List Posting) (p : Posting) (ends : Bool) → p.eop ≡ ends → frames carried (ps ++ p ∷ []) ≡ frames carried ps ++ (if ends then join carried (unfinished carried ps ++ p ∷ []) ∷ [] else [])
frames_more ps p ends e = frames-snoc carried ps p ∙ ap (λ (b : Bool). frames carried ps ++ (if b then join carried (unfinished carried ps ++ p ∷ []) ∷ [] else [])) e

join_more : (ps : List Posting) (p : Posting) → join carried (ps ++ p ∷ []) ≡ join carried ps ++ p.payload
join_more ps p = join-append carried ps (p ∷ []) ∙ ap (λ (l : Bytes). join carried ps ++ l) (append-nil p.payload)

-- a posting that doesn't end its frame asks for no report
no_report : (rs eop : Bool) → (rs ≡ true → eop ≡ true) → eop ≡ false → rs ≡ false
no_report true eop asks goes = absurd (false≢true (sym goes ∙ asks refl))
no_report false eop asks goes = refl

pub own_table : (old new : ControllerSide) (p : Posting) → SentSegment old p new → new.table ≡ old.table
own_table old new p st = ap (λ (c : ControllerSide). c.table) st.step

-- the record after one more posting, which asks for a report or not
grown : (old now new : ControllerSide) (postings : List Posting) (p : Posting) (owed : Bool)
    → controller_record now ≡ record (controller_record old) { completed = sent old ++ postings; held = None; head = head_stored now; barred = false }
    → controller_record new ≡ record (controller_record now) { completed = sent now ++ p ∷ []; held = None; head = head_stored new; barred = owed }
    → controller_record new ≡ record (controller_record old) { completed = sent old ++ (postings ++ p ∷ []); held = None; head = head_stored new; barred = owed }
grown old now new postings p owed was e = e
    ∙ (ap (λ (x : TxControlled). record x { completed = x.completed ++ p ∷ []; held = None; head = head_stored new; barred = owed }) was
    ∙ ap (λ (l : List Posting). record (controller_record old) { completed = l; held = None; head = head_stored new; barred = owed }) (append_assoc (sent old) postings (p ∷ [])))

-- what is unfinished after one more that does not end the frame
pub more_begun : (now new : ControllerSide) (p : Posting) → SentNext now p false new → unfinished carried (sent new) ≡ unfinished carried (sent now) ++ p ∷ []
more_begun now new p st = ap (λ (x : TxControlled). unfinished carried x.completed) st.same ∙ unfinished_more (sent now) p false st.ends_is

-- one more is sent, and the frame goes on
pub sends_next : (old now new : ControllerSide) (p : Posting) → IsSending old now → SentNext now p false new → IsSending old new
sends_next old now new p i st =
    let more : sent new ≡ sent now ++ p ∷ [] = ap (λ (x : TxControlled). x.completed) st.same in
    let count = ap length more ∙ length-append (sent now) (p ∷ []) in
    let known : (controller_record new).known ≡ (controller_record now).known = ap (λ (x : TxControlled). x.known) st.same in
    let ready = st.ready refl in
    let none = no_report p.rs p.eop st.follows.asks_at_end st.ends_is in
    record {
      postings = i.postings ++ p ∷ [];
      each = chained-snoc SentSegment old i.postings now p new i.each st.sent_it;
      grew = grown old now new i.postings p p.rs i.grew st.same
          ∙ ap (λ (b : Bool). record (controller_record old) { completed = sent old ++ (i.postings ++ p ∷ []); held = None; head = head_stored new; barred = b }) none;
      begun = more_begun now new p st ∙ ap (λ (l : List Posting). l ++ p ∷ []) i.begun;
      frames_same = ap (frames carried) more ∙ (frames_more (sent now) p false st.ends_is ∙ (append-nil (frames carried (sent now)) ∙ i.frames_same));
      next = record {
        serving = ap (λ (x : TxControlled). is_serving x.state) st.same ∙ i.next.serving;
        unheld = ap (λ (x : TxControlled). x.held) st.same;
        paid = ap (λ (x : TxControlled). x.barred) st.same ∙ none;
        ready = omega arith;
      };
      own = own_table now new p st.sent_it ∙ i.own;
    }

-- and less is ready then, where the frame goes on
pub fewer : (now new : ControllerSide) (p : Posting) (ends : Bool) → IsReady now → SentNext now p ends new → (if ends then 0 else known_ready new) < known_ready now
fewer now new p true r st = r.ready
fewer now new p false r st =
    let more : sent new ≡ sent now ++ p ∷ [] = ap (λ (x : TxControlled). x.completed) st.same in
    let count = ap length more ∙ length-append (sent now) (p ∷ []) in
    let known : (controller_record new).known ≡ (controller_record now).known = ap (λ (x : TxControlled). x.known) st.same in
    let ready = r.ready in
    omega arith

pub sends_on : (old now new : ControllerSide) (arena arena' arena'' : Laid) → IsSendingOn old arena now arena' → SentBytes now arena' false new arena'' → IsSendingOn old arena new arena''
sends_on old now new arena arena' arena'' i st =
    let p = st.posting in
    let next = sends_next old now new p i.sending st.went in
    let bytes : arena''.begun ≡ join carried (unfinished carried (sent new)) = st.begun ∙ (ap (λ (b : Bytes). b ++ p.payload) i.can.begun ∙ (sym (join_more (unfinished carried (sent now)) p) ∙ sym (ap (join carried) (more_begun now new p st.went)))) in
    let longer = ap length st.begun ∙ length-append arena'.begun p.payload in
    let room = i.can.room in let less = st.room in
    record {
      sending = next;
      can = record { next = next.next; begun = bytes; room = omega arith };
      on_wire = st.frames ∙ i.on_wire;
      entries = st.entries ∙ i.entries;
    }

asks-snoc : (whole : Bool) (ps : List Posting) (p : Posting) → ends_frame (λ (q : Posting). q.rs) whole (ps ++ p ∷ []) ≡ p.rs
asks-snoc whole [] p = refl
asks-snoc whole (q ∷ ps) p = asks-snoc q.rs ps p

reported_own : (report : Bool) (c : ControllerSide) → (reported report c).table ≡ c.table
reported_own true c = refl
reported_own false c = refl

-- the last is sent, and the report is made where it is owed
pub sent_frame : (old now last new : ControllerSide) (p : Posting) (i : IsSending old now) → SentNext now p true last → new ≡ reported (is_owed last) last
    → controller_record new ≡ record (controller_record last) { barred = false } → SentFrame old (join carried (i.postings ++ p ∷ [])) new
sent_frame old now last new p i st report same =
    let all = i.postings ++ p ∷ [] in
    let more : sent last ≡ sent now ++ p ∷ [] = ap (λ (x : TxControlled). x.completed) st.same in
    let owed : is_owed last ≡ asks all = ap (λ (x : TxControlled). x.barred) st.same ∙ sym (asks-snoc false i.postings p) in
    record {
      postings = all;
      last = last;
      each = chained-snoc SentSegment old i.postings now p last i.each st.sent_it;
      report = report ∙ ap (λ (b : Bool). reported b last) owed;
      bytes = refl;
      grew = same ∙ (ap (λ (x : TxControlled). record x { barred = false }) (grown old now last i.postings p p.rs i.grew st.same)
          ∙ ap (λ (h : ℕ). record (controller_record old) { completed = sent old ++ all; held = None; head = h; barred = false }) st.head);
      frames_are = ap (frames carried) (ap (λ (x : TxControlled). x.completed) same ∙ more) ∙ (frames_more (sent now) p true st.ends_is
          ∙ (ap (λ (l : List Bytes). l ++ join carried (unfinished carried (sent now) ++ p ∷ []) ∷ []) i.frames_same
          ∙ ap (λ (l : List Posting). frames carried (sent old) ++ join carried (l ++ p ∷ []) ∷ []) i.begun));
    }

pub own_after : (old now last new : ControllerSide) (p : Posting) → IsSending old now → SentNext now p true last → new ≡ reported (is_owed last) last → new.table ≡ old.table
own_after old now last new p i st report = ap (λ (c : ControllerSide). c.table) report ∙ (reported_own (is_owed last) last ∙ (own_table now last p st.sent_it ∙ i.own))

-- and its frame is one more on the wire
pub sends_last : (old now last new : ControllerSide) (arena arena' arena'' wire : Laid) → IsSendingOn old arena now arena' → SentBytes now arena' true last arena''
    → wire.frames ≡ arena''.frames ++ arena''.begun ∷ [] → wire.begun ≡ [] → new ≡ reported (is_owed last) last → controller_record new ≡ record (controller_record last) { barred = false } → SentOn old arena new wire
sends_last old now last new arena arena' arena'' wire i st on_wire begun report same =
    let p = st.posting in
    let frame = join carried (i.sending.postings ++ p ∷ []) in
    let bytes : arena''.begun ≡ frame = st.begun ∙ (ap (λ (b : Bytes). b ++ p.payload) (i.can.begun ∙ ap (join carried) i.sending.begun) ∙ sym (join_more i.sending.postings p)) in
    record {
      frame = frame;
      went = sent_frame old now last new p i.sending st.went report same;
      frames = on_wire ∙ (ap (λ (l : List Bytes). l ++ arena''.begun ∷ []) (st.frames ∙ i.on_wire) ∙ ap (λ (f : Bytes). arena.frames ++ f ∷ []) bytes);
      begun = begun;
      own = own_after old now last new p i.sending st.went report;
    }

-- the head stays where it is stored, as long as nothing is sent
pub same_head : (old new : ControllerSide) → head_stored old ≡ serve_place old → new.table ≡ old.table → head_stored new ≡ head_stored old → sent new ≡ sent old → head_stored new ≡ serve_place new
same_head old new at own head same = head ∙ (at ∙ (ap (λ (l : List Posting). length l % controller_size old) (sym same) ∙ ap (λ (t : TableId). length (sent new) % t.slots) (sym own)))

-- the end after a whole frame
pub record IsSettled (old new : ControllerSide) : Type 0 where
  pub idle : IsIdle new
  pub state : controller_state new ≡ controller_state old
  pub seen_is : seen new ≡ seen old

pub settled : (old now last new : ControllerSide) (p : Posting) → IsSending old now → SentNext now p true last → new ≡ reported (is_owed last) last
    → controller_record new ≡ record (controller_record last) { barred = false } → IsSettled old new
settled old now last new p i st report same = record {
  idle = record {
    unheld = ap (λ (x : TxControlled). x.held) same ∙ ap (λ (x : TxControlled). x.held) st.same;
    at_frame_end = ap (λ (x : TxControlled). are_whole x.completed) same
        ∙ unfinished-whole carried (sent last) (ap (λ (x : TxControlled). unfinished carried x.completed) st.same ∙ unfinished_more (sent now) p true st.ends_is);
    head = λ _. same_head last new st.head (ap (λ (c : ControllerSide). c.table) report ∙ reported_own (is_owed last) last) (ap (λ (x : TxControlled). x.head) same) (ap (λ (x : TxControlled). x.completed) same);
    paid = ap (λ (x : TxControlled). x.barred) same;
  };
  state = ap (λ (x : TxControlled). x.state) same ∙ (ap (λ (x : TxControlled). x.state) st.same ∙ ap (λ (x : TxControlled). x.state) i.grew);
  seen_is = ap (λ (x : TxControlled). x.seen) same ∙ (ap (λ (x : TxControlled). x.seen) st.same ∙ ap (λ (x : TxControlled). x.seen) i.grew);
}
