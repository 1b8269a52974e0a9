-- A frame as it is sent into a room, segment by segment, or onto the wire if it is longer.
use Rattle.std.proofs.Common.{◌≡◌, ◌≢◌, ◌∙◌, ℕ, ◌+◌, ◌<◌, ◌≤◌, ⊎_elim, Bool, true, false, List, [], ◌∷◌, ◌++◌, length, take, drop, sym, refl, ap, subst, arith, append_assoc, append-nil, length-append, length-drop}
use Rattle.std.specs.Prelude.{Ok, Some, slice_get}
use Rattle.std.proofs.Math.Seq.{take-append_seam}
use Rattle.std.proofs.lemmas.Slice.{drop-append-drop}
use Rattle.limits.specs.declared.profile.TheConstants.{MOST_FRAME}
use Rattle.ring_model.specs.shared.Frames.{Bytes, unfinished, join}
use Rattle.ring_model.specs.shared.Handshakes.{is_serving}
use Rattle.ring_model.specs.transmit.Ring.{carried}
use Rattle.ring_model.specs.transmit.Frames.{MayFollow}
use Rattle.ring_laws.specs.Frames.{join-append}
use Rattle.shared_ring.proofs.Laying.{slice_get-last}
use Rattle.tx_ring.specs.Records.{Posting}
use Rattle.tx_ring.specs.Calls.{FoundReady}
use Rattle.tx_ring.specs.Ends.{ControllerSide, controller_size, controller_record, controller_state, sent, is_owed}
use Rattle.controller.specs.Laid.{Laid}
use Rattle.controller.specs.Sending.{CanPut, PutInRoom, PutOnWire, SentInRoom, SentNext, SentPast, SentPut}
use Rattle.controller.specs.Transmitting.{TurnedInto, reported}
use Rattle.controller.specs.declared.sending_into.TurnInto.TheVariants.{InRoom, OnWire}
use Rattle.controller.proofs.Putting.{IsSending, more_begun, own_after, own_table, sends_next, sent_frame}

-- what is in a room after one more piece is written behind those that it had
written : (first now after joined bytes : Bytes) (at past : ℕ) → at ≡ length joined → now ≡ joined ++ drop at first → past ≡ at + length bytes → after ≡ take at now ++ (bytes ++ drop past now)
    → after ≡ (joined ++ bytes) ++ drop past first
written first now after joined bytes at past here was behind is =
    let front : take at now ≡ joined = ap (take at) was ∙ (ap (λ (k : ℕ). take k (joined ++ drop at first)) here ∙ take-append_seam joined (drop at first)) in
    let rest : drop past now ≡ drop past first = ap (drop past) was ∙ drop-append-drop at first joined past (omega (arith, behind)) (sym here) in
    is ∙ (ap (λ (l : Bytes). l ++ (bytes ++ drop past now)) front ∙ (ap (λ (l : Bytes). joined ++ (bytes ++ l)) rest ∙ sym (append_assoc joined bytes (drop past first))))

same_length : (first after joined : Bytes) (past : ℕ) → past ≡ length joined → past ≤ length first → after ≡ joined ++ drop past first → length after ≡ length first
same_length first after joined past here within is =
    let sum : length after ≡ length joined + length (drop past first) = ap length is ∙ length-append joined (drop past first) in
    let rest = length-drop past first in
    omega (arith, here, within, sum, rest)

-- The bytes of a frame so far are in the room.
pub record IsInRoom (joined first : Bytes) (arena : Laid) (room : Bytes) (past : ℕ) (arena' : Laid) : Type 0 where
  pub past_is : past ≡ length joined
  pub copied : room ≡ joined ++ drop past first
  pub same : arena' ≡ arena

-- They begin a frame on the wire.
pub record IsOnWire (joined first : Bytes) (arena : Laid) (room : Bytes) (past : ℕ) (arena' : Laid) : Type 0 where
  pub past_is : past ≡ 0
  pub kept : room ≡ first
  pub frames : arena'.frames ≡ arena.frames
  pub begun : arena'.begun ≡ joined
  pub left : MOST_FRAME ≤ length arena'.begun + arena'.room
  pub entries : arena'.entries ≡ arena.entries

abbrev pub so_far : ControllerSide → Bytes
so_far c = join carried (unfinished carried (sent c))

-- The first postings of a frame are sent, into the room if a posting that may follow says that the frame fits there.
pub record IsSendingInto (old : ControllerSide) (first : Bytes) (arena : Laid) (now : ControllerSide) (room : Bytes) (past : ℕ) (arena' : Laid) : Type 0 where
  pub sending : IsSending old now
  pub long_as : length room ≡ length first
  pub in_room : (p : Posting) → MayFollow (controller_size now) (unfinished carried (sent now)) p → p.paylen ≤ length first → IsInRoom (so_far now) first arena room past arena'
  pub on_wire : (p : Posting) → MayFollow (controller_size now) (unfinished carried (sent now)) p → length first < p.paylen → IsOnWire (so_far now) first arena room past arena'

pub begins_into : (old : ControllerSide) (first : Bytes) (arena : Laid) → IsSending old old → unfinished carried (sent old) ≡ [] → arena.begun ≡ [] → MOST_FRAME ≤ arena.room
    → IsSendingInto old first arena old first 0 arena
begins_into old first arena s whole begun room = record {
  sending = s;
  long_as = refl;
  in_room = λ p h fits. record {
    past_is = sym (ap (λ (l : List Posting). length (join carried l)) whole);
    copied = subst (λ (l : List Posting). first ≡ join carried l ++ drop 0 first) (sym whole) refl;
    same = refl;
  };
  on_wire = λ p h long. record {
    past_is = refl;
    kept = refl;
    frames = refl;
    begun = begun ∙ sym (ap (join carried) whole);
    left = omega (arith, room);
    entries = refl;
  };
}

pub can_put : (old now : ControllerSide) (first room : Bytes) (arena arena' : Laid) (past : ℕ) → IsSendingInto old first arena now room past arena' → CanPut now room past arena'
can_put old now first room arena arena' past i = record {
  next = i.sending.next;
  in_room = λ p h fits.
      let same = i.long_as in
      let r = i.in_room p h (omega (arith, fits, same)) in
      let here = r.past_is in
      let within = h.within in
      omega (arith, here, within, fits);
  on_wire = λ p h long.
      let same = i.long_as in
      let r = i.on_wire p h (omega (arith, long, same)) in
      let begun = ap length r.begun in
      let left = r.left in
      let most = h.follows.most in
      omega (arith, begun, left, most);
}

module _ (old now : ControllerSide) (first room : Bytes) (arena arena' : Laid) (past : ℕ) (i : IsSendingInto old first arena now room past arena') (p : Posting) where
  -- the bytes of the frame with this posting
  abbrev longer : Bytes
  longer = so_far now ++ p.payload

  module _ (room' : Bytes) (past' : ℕ) (arena'' : Laid) (h : MayFollow (controller_size now) (unfinished carried (sent now)) p) where
    put_in : p.paylen ≤ length room → PutInRoom p.payload room past arena' room' past' arena'' → IsInRoom longer first arena room' past' arena''
    put_in fits w =
        let same = i.long_as in
        let r = i.in_room p h (omega (arith, fits, same)) in
        let here = r.past_is in
        let behind = w.past_is in
        let sum = length-append (so_far now) p.payload in
        record {
          past_is = omega (arith, here, behind, sum);
          copied = written first room room' (so_far now) p.payload past past' here r.copied behind w.written;
          same = w.same ∙ r.same;
        }

    put_on : length room < p.paylen → PutOnWire p.payload room past arena' room' past' arena'' → IsOnWire longer first arena room' past' arena''
    put_on long w =
        let same = i.long_as in
        let r = i.on_wire p h (omega (arith, long, same)) in
        let sum = length-append (so_far now) p.payload in
        let begun : arena''.begun ≡ longer = w.begun ∙ ap (λ (l : Bytes). l ++ p.payload) r.begun in
        let long_is = ap length begun in
        let was_long = ap length r.begun in
        let left = r.left in
        let less = w.room in
        record {
          past_is = w.past_is ∙ r.past_is;
          kept = w.kept ∙ r.kept;
          frames = w.frames ∙ r.frames;
          begun = begun;
          left = omega (arith, sum, long_is, was_long, left, less);
          entries = w.entries ∙ r.entries;
        }

-- the bytes of an unfinished frame with one more posting
more_so_far : (now new : ControllerSide) (p : Posting) → SentNext now p false new → so_far new ≡ so_far now ++ p.payload
more_so_far now new p st = ap (join carried) (more_begun now new p st) ∙ (join-append carried (unfinished carried (sent now)) (p ∷ []) ∙ ap (λ (l : Bytes). so_far now ++ l) (append-nil p.payload))

-- what may follow then belongs to the same frame
same_frame : (now new : ControllerSide) (p q : Posting) → SentNext now p false new → MayFollow (controller_size new) (unfinished carried (sent new)) q → p.paylen ≡ q.paylen
same_frame now new p q st h =
    h.same_frame (length (unfinished carried (sent now))) p (subst (λ (l : List Posting). slice_get l (length (unfinished carried (sent now))) ≡ Some p) (sym (more_begun now new p st)) (slice_get-last (unfinished carried (sent now)) p))

-- one more is sent, and the frame goes on
pub sends_into : (old now new : ControllerSide) (first room room' : Bytes) (arena arena' arena'' : Laid) (past past' : ℕ) → IsSendingInto old first arena now room past arena' → SentPut now room past arena' false new room' past' arena''
    → IsSendingInto old first arena new room' past' arena''
sends_into old now new first room room' arena arena' arena'' past past' i st =
    let p = st.posting in
    let h = st.went.follows in
    let long_as = i.long_as in
    let more = sym (more_so_far now new p st.went) in
    ⊎_elim
    (λ (a : (p.paylen ≤ length room) × PutInRoom p.payload room past arena' room' past' arena'').
    let fits = a.0 in
    let r = put_in old now first room arena arena' past i p room' past' arena'' h fits a.1 in
    let within = a.1.within in
    record {
      sending = sends_next old now new p i.sending st.went;
      long_as = same_length first room' (so_far now ++ p.payload) past' r.past_is (omega (arith, within, long_as)) r.copied;
      in_room = λ q hq few. subst (λ (l : Bytes). IsInRoom l first arena room' past' arena'') more r;
      on_wire = λ q hq long. let same = same_frame now new p q st.went hq in absurd (omega (arith, same, long, fits, long_as));
    })
    (λ (b : (length room < p.paylen) × PutOnWire p.payload room past arena' room' past' arena'').
    let long = b.0 in
    let r = put_on old now first room arena arena' past i p room' past' arena'' h long b.1 in
    record {
      sending = sends_next old now new p i.sending st.went;
      long_as = ap length r.kept;
      in_room = λ q hq few. let same = same_frame now new p q st.went hq in absurd (omega (arith, same, few, long, long_as));
      on_wire = λ q hq far. subst (λ (l : Bytes). IsOnWire l first arena room' past' arena'') more r;
    })
    st.put

module _ (old now last : ControllerSide) (first room room' : Bytes) (arena arena' arena'' : Laid) (past past' : ℕ) (i : IsSendingInto old first arena now room past arena') (st : SentPut now room past arena' true last room' past' arena'') where
  abbrev whole : Bytes
  whole = join carried (i.sending.postings ++ st.posting ∷ [])

  whole_is : so_far now ++ st.posting.payload ≡ whole
  whole_is = ap (λ (l : List Posting). join carried l ++ st.posting.payload) i.sending.begun
      ∙ sym (join-append carried i.sending.postings (st.posting ∷ []) ∙ ap (λ (l : Bytes). join carried i.sending.postings ++ l) (append-nil st.posting.payload))

  -- the last went into the room, if something is there
  last_in : past' ≢ 0 → IsInRoom (so_far now ++ st.posting.payload) first arena room' past' arena''
  last_in some = ⊎_elim
      (λ (a : (st.posting.paylen ≤ length room) × PutInRoom st.posting.payload room past arena' room' past' arena''). put_in old now first room arena arena' past i st.posting room' past' arena'' st.went.follows a.0 a.1)
      (λ (b : (length room < st.posting.paylen) × PutOnWire st.posting.payload room past arena' room' past' arena''). absurd (some (put_on old now first room arena arena' past i st.posting room' past' arena'' st.went.follows b.0 b.1).past_is))
      st.put

  -- and else onto the wire
  last_on : past' ≡ 0 → (length room < st.posting.paylen) × IsOnWire (so_far now ++ st.posting.payload) first arena room' past' arena''
  last_on none = ⊎_elim
      (λ (a : (st.posting.paylen ≤ length room) × PutInRoom st.posting.payload room past arena' room' past' arena''). let behind = a.1.past_is in let some = st.went.follows.follows.some_bytes in absurd (omega (arith, behind, some, none)))
      (λ (b : (length room < st.posting.paylen) × PutOnWire st.posting.payload room past arena' room' past' arena''). (b.0, put_on old now first room arena arena' past i st.posting room' past' arena'' st.went.follows b.0 b.1))
      st.put

  pub has_entry : past' ≡ 0 → 0 < arena.entries → 0 < arena''.entries
  has_entry none some = let same = (last_on none).1.entries in omega (arith, same, some)

  module _ (new : ControllerSide) (report : new ≡ reported (is_owed last) last) (same : controller_record new ≡ record (controller_record last) { barred = false }) where
    pub ends_in_room : past' ≢ 0 → SentInRoom old arena first past' new arena'' room'
    ends_in_room some =
        let r = last_in some in
        record {
          frame = whole;
          went = sent_frame old now last new st.posting i.sending st.went report same;
          len_is = r.past_is ∙ ap length whole_is;
          copied = r.copied ∙ (ap (λ (l : Bytes). l ++ drop past' first) whole_is ∙ ap (λ (k : ℕ). whole ++ drop k first) (r.past_is ∙ ap length whole_is));
          same = r.same;
          own = own_after old now last new st.posting i.sending st.went report;
        }

    pub ends_on_wire : (wire : Laid) → past' ≡ 0 → wire.frames ≡ arena''.frames ++ arena''.begun ∷ [] → wire.begun ≡ [] → SentPast old arena first new wire room'
    ends_on_wire wire none on_wire begun =
        let r = (last_on none).1 in
        let long = (last_on none).0 in
        let long_as = i.long_as in
        let all = st.went.follows.whole st.went.ends_is in
        let sum = length-append (so_far now) st.posting.payload in
        let len = ap length whole_is in
        record {
          on = record {
            frame = whole;
            went = sent_frame old now last new st.posting i.sending st.went report same;
            frames = on_wire ∙ (ap (λ (l : List Bytes). l ++ arena''.begun ∷ []) r.frames ∙ ap (λ (f : Bytes). arena.frames ++ f ∷ []) (r.begun ∙ whole_is));
            begun = begun;
            own = own_after old now last new st.posting i.sending st.went report;
          };
          long = omega (arith, long, long_as, all, sum, len);
          kept = r.kept;
        }

-- The last segment of a frame was sent, after these.
pub record IsEnded (old : ControllerSide) (first : Bytes) (arena : Laid) (last : ControllerSide) (room' : Bytes) (past' : ℕ) (arena'' : Laid) : Type 0 where
  pub now : ControllerSide
  pub room : Bytes
  pub past : ℕ
  pub arena' : Laid
  pub i : IsSendingInto old first arena now room past arena'
  pub st : SentPut now room past arena' true last room' past' arena''

abbrev pub IsGoing : ControllerSide → Bytes → Laid → Bool → ControllerSide → Bytes → ℕ → Laid → Type 0
IsGoing old first arena false now room past arena' = IsSendingInto old first arena now room past arena'
IsGoing old first arena true now room past arena' = IsEnded old first arena now room past arena'

-- one more is sent, and ends the frame or not
pub goes_into : (old now new : ControllerSide) (first room room' : Bytes) (arena arena' arena'' : Laid) (past past' : ℕ) (ends : Bool) → IsSendingInto old first arena now room past arena'
    → SentPut now room past arena' ends new room' past' arena'' → IsGoing old first arena ends new room' past' arena''
goes_into old now new first room room' arena arena' arena'' past past' false i st = sends_into old now new first room room' arena arena' arena'' past past' i st
goes_into old now new first room room' arena arena' arena'' past past' true i st = record { now = now; room = room; past = past; arena' = arena'; i = i; st = st }

pub still_going : (old : ControllerSide) (first : Bytes) (arena : Laid) (ends : Bool) (now : ControllerSide) (room : Bytes) (past : ℕ) (arena' : Laid) → ends ≡ false → IsGoing old first arena ends now room past arena'
    → IsSendingInto old first arena now room past arena'
still_going old first arena ends now room past arena' goes h = subst (λ (e : Bool). IsGoing old first arena e now room past arena') goes h

pub has_ended : (old : ControllerSide) (first : Bytes) (arena : Laid) (ends : Bool) (now : ControllerSide) (room : Bytes) (past : ℕ) (arena' : Laid) → ends ≡ true → IsGoing old first arena ends now room past arena'
    → IsEnded old first arena now room past arena'
has_ended old first arena ends now room past arena' over h = subst (λ (e : Bool). IsGoing old first arena e now room past arena') over h

pub own_ended : (old last : ControllerSide) (first room' : Bytes) (arena arena'' : Laid) (past' : ℕ) → IsEnded old first arena last room' past' arena'' → last.table ≡ old.table
own_ended old last first room' arena arena'' past' e = own_table e.now last e.st.posting e.st.went.sent_it ∙ e.i.sending.own

module _ (old tail new : ControllerSide) (ready : ℕ) (serving : is_serving (controller_state old) ≡ true) (looked : FoundReady old ready tail) (some : 0 < ready) (wire : List Bytes) (arena arena' : Laid) (reserved : arena.frames ≡ wire) (room room' : Bytes) where
  -- the tail was loaded, and a frame sent into the room
  pub turned_in_room : (len : ℕ) → SentInRoom tail arena room len new arena' room' → TurnedInto old wire room (Ok (InRoom len)) new arena'.frames room'
  turned_in_room len st = (
    record {
      frame = st.frame;
      was = record { serving = serving; ready = ready; tail = tail; looked = looked; some_ready = some; frame = st.frame; went = st.went; on_wire = refl };
      len_is = st.len_is;
      copied = st.copied;
    },
    ap (λ (a : Laid). a.frames) st.same ∙ reserved,
  )

  -- or onto the wire
  pub turned_on_wire : SentPast tail arena room new arena' room' → TurnedInto old wire room (Ok OnWire) new arena'.frames room'
  turned_on_wire st = (
    record {
      was = record {
        serving = serving;
        ready = ready;
        tail = tail;
        looked = looked;
        some_ready = some;
        frame = st.on.frame;
        went = st.on.went;
        on_wire = st.on.frames ∙ ap (λ (w : List Bytes). w ++ st.on.frame ∷ []) reserved;
      };
      long = st.long;
    },
    st.kept,
  )
