-- The segments of chains and packets.
use Rattle.std.proofs.Common.{◌≡◌, ◌∙◌, ℕ, ◌<◌, Bool, true, false, List, [], ◌∷◌, ◌++◌, length, sym, refl, ap, arith, append_assoc, append-nil, length-append}
use Rattle.std.specs.Prelude.{All}
use Rattle.std.proofs.lemmas.List.{map-append, length-map}
use Rattle.std.proofs.lemmas.List.Elements.{All-push, All-weaker}
use Rattle.limits.specs.declared.profile.TheConstants.{MOST_SEGMENTS}
use Rattle.buffer_pool.specs.Buffer.{Buffer}
use Rattle.buffer_pool.specs.Packed.{bytes_of}
use Rattle.ring_model.specs.shared.Segments.{Segment, piece_of}
use Rattle.ring_model.specs.shared.Frames.{Bytes, join, frames, unfinished, Follows}
use Rattle.ring_laws.specs.Frames.{unfinished-snoc, frames-snoc}
use Rattle.rx_ring.specs.Calls.{segment}
use Rattle.driver.specs.receive.Chains.{going_on, segments_of, segments_in, IsTaken, HasSegment}

pub length-going_on : (bufs : List Buffer) → length (going_on bufs) ≡ length bufs
length-going_on bufs = length-map bufs (λ b. segment b false)

pub going_on-push : (bufs : List Buffer) (b : Buffer) → going_on (bufs ++ b ∷ []) ≡ going_on bufs ++ segment b false ∷ []
going_on-push bufs b = map-append (λ x. segment x false) bufs (b ∷ [])

pub segments_of-push : (bufs : List Buffer) (b : Buffer) → segments_of (bufs ++ b ∷ []) ≡ going_on bufs ++ segment b true ∷ []
segments_of-push [] b = refl
segments_of-push (a ∷ []) b = refl
segments_of-push (a ∷ c ∷ bufs) b = ap (λ (l : List (Segment Bytes)). segment a false ∷ l) (segments_of-push (c ∷ bufs) b)

pub segments_in-append : (ps qs : List (List Buffer)) → segments_in (ps ++ qs) ≡ segments_in ps ++ segments_in qs
segments_in-append [] qs = refl
segments_in-append (p ∷ ps) qs = ap (λ (l : List (Segment Bytes)). segments_of p ++ l) (segments_in-append ps qs) ∙ sym (append_assoc (segments_of p) (segments_in ps) (segments_in qs))

bytes_of-push : (bufs : List Buffer) (b : Buffer) → bytes_of (bufs ++ b ∷ []) ≡ bytes_of bufs ++ b.bytes
bytes_of-push [] b = append-nil b.bytes
bytes_of-push (a ∷ bufs) b = ap (λ (l : List ℕ). a.bytes ++ l) (bytes_of-push bufs b) ∙ sym (append_assoc a.bytes (bytes_of bufs) b.bytes)

pub join-going_on : (bufs : List Buffer) → join piece_of (going_on bufs) ≡ bytes_of bufs
join-going_on [] = refl
join-going_on (b ∷ bufs) = ap (λ (l : List ℕ). b.bytes ++ l) (join-going_on bufs)

join-ended : (bufs : List Buffer) (b : Buffer) → join piece_of (going_on bufs ++ segment b true ∷ []) ≡ bytes_of (bufs ++ b ∷ [])
join-ended [] b = refl
join-ended (a ∷ bufs) b = ap (λ (l : List ℕ). a.bytes ++ l) (join-ended bufs b)

-- What one more segment makes of the taken ones, behind a frame that has not ended
module _ (n : ℕ) (before after : List (Segment Bytes)) (chain : List Buffer) (b : Buffer) (rest : unfinished piece_of before ≡ going_on chain) where
  pub rest-more : after ≡ before ++ segment b false ∷ [] → unfinished piece_of after ≡ going_on (chain ++ b ∷ [])
  rest-more grew = ap (unfinished piece_of) grew ∙ (unfinished-snoc piece_of before (segment b false) ∙ (ap (λ (l : List (Segment Bytes)). l ++ segment b false ∷ []) rest ∙ sym (going_on-push chain b)))

  pub rest-ended : after ≡ before ++ segment b true ∷ [] → unfinished piece_of after ≡ []
  rest-ended grew = ap (unfinished piece_of) grew ∙ unfinished-snoc piece_of before (segment b true)

  pub frames-more : after ≡ before ++ segment b false ∷ [] → frames piece_of after ≡ frames piece_of before ++ []
  frames-more grew = ap (frames piece_of) grew ∙ frames-snoc piece_of before (segment b false)

  pub frames-ended : after ≡ before ++ segment b true ∷ [] → frames piece_of after ≡ frames piece_of before ++ bytes_of (chain ++ b ∷ []) ∷ []
  frames-ended grew = ap (frames piece_of) grew ∙ (frames-snoc piece_of before (segment b true)
      ∙ ap (λ (l : List ℕ). frames piece_of before ++ l ∷ []) (ap (λ (l : List (Segment Bytes)). join piece_of (l ++ segment b true ∷ [])) rest ∙ join-ended chain b))

  module _ (eop : Bool) (follows : Follows piece_of n (unfinished piece_of before) b.bytes eop) where
    count-rest : length (unfinished piece_of before) ≡ length chain
    count-rest = ap length rest ∙ length-going_on chain

    bytes-rest : length (join piece_of (unfinished piece_of before)) ≡ length (bytes_of chain)
    bytes-rest = ap (λ (l : List (Segment Bytes)). length (join piece_of l)) rest ∙ ap length (join-going_on chain)

    pub chain-room : length chain < MOST_SEGMENTS
    chain-room = let e = count-rest in let f = follows.segments in omega arith

    pub packet-ended : eop ≡ true → All HasSegment chain → IsTaken n (chain ++ b ∷ [])
    packet-ended ends each = let e = count-rest in let f = bytes-rest in let l = length-append chain (b ∷ []) in let m = ap length (bytes_of-push chain b) ∙ length-append (bytes_of chain) b.bytes in
        let d = follows.descriptors in let s = follows.segments in let least = follows.least ends in let most = follows.most in record {
          packet = record {
            some_segment = omega arith;
            few_segments = omega arith;
            none_empty = All-push (λ x. 0 < length x.bytes) chain b (All-weaker HasSegment (λ x. 0 < length x.bytes) (λ x h. h.some_bytes) chain each) follows.some_bytes;
            some_bytes = omega arith;
            few_bytes = omega arith;
          };
          few = omega arith;
        }
