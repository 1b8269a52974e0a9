-- What two ends know of a frame once they met.
use Rattle.std.proofs.Common.{◌≡◌, ◌∙◌, sym, ap, refl, inl, inr, Bool, true, false, if◌then◌else◌, List, [], ◌∷◌, ◌++◌, map, drop, slice_index_or, append_assoc, append-nil}
use Rattle.std.specs.Prelude.{◌⊎◌}
use Rattle.std.proofs.lemmas.List.{map-append}
use Rattle.atomic_table.specs.Seated.{TableId}
use Rattle.buffer_pool.specs.Buffer.{Buffer}
use Rattle.buffer_pool.specs.Packed.{bytes_of}
use Rattle.ring_model.specs.shared.Lists.{IsBeginning}
use Rattle.ring_model.specs.shared.Frames.{Bytes, chains_from, frames, join, unfinished, unfinished_from}
use Rattle.ring_model.specs.shared.Segments.{Segment, piece_of}
use Rattle.ring_model.specs.receive.Lawful.{IsLawfulRxLedger}
use Rattle.ring_laws.specs.Frames.{frames-append, unfinished-append, whole-unfinished}
use Rattle.rx_ring.specs.Calls.{segment}
use Rattle.rx_ring.specs.Ends.{DriverSide, ControllerSide, driver_size, stored, taken}
use Rattle.rx_ring.specs.Meeting.{is_unanswered, ledger_of}
use Rattle.driver.specs.receive.Chains.{going_on, segments_in, segments_of}
use Rattle.commands.specs.Passing.{TookPacket, HasStored, StoredOnly, HasPassed}

-- ---- lists

first_none : {X : Type 0} (xs rest : List X) → xs ++ rest ≡ [] → xs ≡ []
first_none [] rest e = refl
first_none (x ∷ xs) rest e = cc e

last_none : {X : Type 0} (xs rest : List X) → xs ++ rest ≡ [] → rest ≡ []
last_none [] rest e = e
last_none (x ∷ xs) rest e = cc e

-- xs and then x, and perhaps more, are y alone: then nothing stands before x, nothing behind it, and x is y
record AreOne {X : Type 0} (xs : List X) (x y : X) (rest : List X) : Type 0 where
  none_before : xs ≡ []
  same : x ≡ y
  none_behind : rest ≡ []

one_alone : {X : Type 0} (xs : List X) (x y : X) (rest : List X) → (xs ++ x ∷ []) ++ rest ≡ y ∷ [] → AreOne xs x y rest
one_alone [] x y rest e = record { none_before = refl; same = ap (λ ks. slice_index_or ks 0 x) e; none_behind = ap (drop 1) e }
one_alone (z ∷ xs) x y rest e = let none : (xs ++ x ∷ []) ++ rest ≡ [] = ap (drop 1) e in let one : xs ++ x ∷ [] ≡ [] = first_none (xs ++ x ∷ []) rest none in let bad : x ∷ [] ≡ [] = last_none xs (x ∷ []) one in cc bad

none_mapped : {X Y : Type 0} (f : X → Y) (xs : List X) → map f xs ≡ [] → xs ≡ []
none_mapped f [] e = refl
none_mapped f (x ∷ xs) e = cc e

-- ---- segments

-- segments that end no frame are all left unfinished
none_ended : (rest xs : List (Segment Bytes)) → chains_from piece_of rest xs ≡ [] → unfinished_from piece_of rest xs ≡ rest ++ xs
none_ended rest [] e = sym (append-nil rest)
none_ended rest (x ∷ xs) e = by_eop x.eop e (none_ended (rest ++ x ∷ []) xs)
  where
    by_eop : (ends : Bool) → (if ends then (rest ++ x ∷ []) ∷ chains_from piece_of [] xs else chains_from piece_of (rest ++ x ∷ []) xs) ≡ []
        → (chains_from piece_of (rest ++ x ∷ []) xs ≡ [] → unfinished_from piece_of (rest ++ x ∷ []) xs ≡ (rest ++ x ∷ []) ++ xs)
        → unfinished_from piece_of (if ends then [] else rest ++ x ∷ []) xs ≡ rest ++ x ∷ xs
    by_eop true e later = cc e
    by_eop false e later = later e ∙ append_assoc rest (x ∷ []) xs

-- a packet ends its frame
packet_ends : (rest : List (Segment Bytes)) (b : Buffer) (bufs : List Buffer) (later : List (Segment Bytes)) → unfinished_from piece_of rest (segments_of (b ∷ bufs) ++ later) ≡ unfinished piece_of later
packet_ends rest b [] later = refl
packet_ends rest b (c ∷ bufs) later = packet_ends (rest ++ segment b false ∷ []) c bufs later

packets_end : (packets : List (List Buffer)) (later : List (Segment Bytes)) → unfinished piece_of (segments_in packets ++ later) ≡ unfinished piece_of later
packets_end [] later = refl
packets_end ([] ∷ packets) later = packets_end packets later
packets_end ((b ∷ bufs) ∷ packets) later = ap (unfinished piece_of) (append_assoc (segments_of (b ∷ bufs)) (segments_in packets) later)
    ∙ (packet_ends [] b bufs (segments_in packets ++ later) ∙ packets_end packets later)

goes_on : (rest : List (Segment Bytes)) (bufs : List Buffer) → unfinished_from piece_of rest (going_on bufs) ≡ rest ++ going_on bufs
goes_on rest [] = sym (append-nil rest)
goes_on rest (b ∷ bufs) = goes_on (rest ++ segment b false ∷ []) bufs ∙ append_assoc rest (segment b false ∷ []) (going_on bufs)

-- ---- what was taken and what was stored

module _ (ring : TableId) (frame : Bytes) (driver : DriverSide) (controller : ControllerSide) (packet : List Buffer) (took : TookPacket ring driver packet) where
  took_some : taken driver ≡ [] → ⊥
  took_some none =
      let no_packet : took.before ++ packet ∷ [] ≡ [] = none_mapped bytes_of (took.before ++ packet ∷ []) (sym took.frames_are ∙ ap (frames piece_of) none) in
      let bad : packet ∷ [] ≡ [] = last_none took.before (packet ∷ []) no_packet in cc bad

  -- the controller has answered, since something was taken
  answered_since : (unanswered : Bool) → IsBeginning (taken driver) (if unanswered then [] else stored controller) → IsBeginning (taken driver) (stored controller)
  answered_since true (more, e) = absurd (took_some (first_none (taken driver) more e))
  answered_since false begins = begins

  left_unfinished : unfinished piece_of (taken driver) ≡ going_on took.begun
  left_unfinished = ap (unfinished piece_of) took.segments ∙ (packets_end (took.before ++ packet ∷ []) (going_on took.begun) ∙ goes_on [] took.begun)

  module _ (more : List (Segment Bytes)) (begins : taken driver ++ more ≡ stored controller) (whole : unfinished piece_of (stored controller) ≡ []) (has : HasStored ring frame controller) where
    alone : AreOne (map bytes_of took.before) (bytes_of packet) frame (map (join piece_of) (chains_from piece_of (unfinished piece_of (taken driver)) more))
    alone = one_alone (map bytes_of took.before) (bytes_of packet) frame (map (join piece_of) (chains_from piece_of (unfinished piece_of (taken driver)) more))
        (ap (λ fs. fs ++ map (join piece_of) (chains_from piece_of (unfinished piece_of (taken driver)) more)) (sym (took.frames_are ∙ map-append bytes_of took.before (packet ∷ [])))
        ∙ (sym (frames-append piece_of (taken driver) more) ∙ (ap (frames piece_of) begins ∙ has.frames_are)))

    none_left : going_on took.begun ++ more ≡ []
    none_left = let no_chains = none_mapped (join piece_of) (chains_from piece_of (unfinished piece_of (taken driver)) more) alone.none_behind in
        ap (λ ss. ss ++ more) (sym left_unfinished) ∙ (sym (none_ended (unfinished piece_of (taken driver)) more no_chains)
        ∙ (sym (unfinished-append piece_of (taken driver) more) ∙ (ap (unfinished piece_of) begins ∙ whole)))

    all_taken : taken driver ≡ stored controller
    all_taken = sym (append-nil (taken driver)) ∙ (ap (λ ss. taken driver ++ ss) (sym (last_none (going_on took.begun) more none_left)) ∙ begins)

    in_packet : taken driver ≡ segments_of packet
    in_packet = took.segments ∙ (ap (λ ss. segments_in (took.before ++ packet ∷ []) ++ ss) (first_none (going_on took.begun) more none_left)
        ∙ (append-nil (segments_in (took.before ++ packet ∷ []))
        ∙ (ap (λ ps. segments_in (ps ++ packet ∷ [])) (none_mapped bytes_of took.before alone.none_before) ∙ append-nil (segments_of packet))))

  -- a driver that took a packet took the frame, where the controller stored nothing else
  pub has_passed : StoredOnly ring frame controller → IsLawfulRxLedger Bytes (driver_size driver) (ledger_of driver controller) → HasPassed frame driver controller packet
  has_passed only lawful = by_stored (answered_since (is_unanswered driver controller) lawful.taken) only.only
    where
      by_stored : IsBeginning (taken driver) (stored controller) → (stored controller ≡ []) ⊎ HasStored ring frame controller → HasPassed frame driver controller packet
      by_stored (more, begins) (inl none) = absurd (took_some (first_none (taken driver) more (begins ∙ none)))
      by_stored (more, begins) (inr has) = let whole = whole-unfinished piece_of (stored controller) only.whole in let one = alone more begins whole has in record {
        one_ring = only.own ∙ sym took.own;
        lawful = lawful;
        into_ring = has.pieces;
        across = all_taken more begins whole has;
        out_of_ring = in_packet more begins whole has;
        bytes = one.same;
      }
