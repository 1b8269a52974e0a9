-- A packet as it is made of a frame's bytes.
use Rattle.std.proofs.Common.{◌≡◌, ◌∙◌, ℕ, ◌+◌, ◌*◌, ◌<◌, ◌≤◌, List, [], ◌∷◌, ◌++◌, length, take, drop, ap, sym, refl, subst, arith, append_assoc, append-nil, length-append}
use Rattle.std.specs.Prelude.{All}
use Rattle.std.proofs.lemmas.List.{map-append, length-map, take-append-drop}
use Rattle.std.proofs.lemmas.List.Elements.{All-append, All-cons, All-nil}
use Rattle.buffer_pool.specs.Buffer.{Buffer, buffer}
use Rattle.buffer_pool.specs.Packed.{IsPacket, bytes_of}
use Rattle.limits.specs.declared.profile.TheConstants.{BUFFER_BYTES, MOST_FRAME, MOST_SEGMENTS}
use Rattle.ring_model.specs.shared.Frames.{HasFrameLength}
use Rattle.poll82599_c.specs.batches.Packets.{Packed, Pushed, numbers_of}

pub bytes_of-push : (bufs : List Buffer) (b : Buffer) → bytes_of (bufs ++ b ∷ []) ≡ bytes_of bufs ++ b.bytes
bytes_of-push [] b = append-nil b.bytes
bytes_of-push (a ∷ bufs) b = ap (λ (l : List ℕ). a.bytes ++ l) (bytes_of-push bufs b) ∙ sym (append_assoc a.bytes (bytes_of bufs) b.bytes)

-- the full buffers of a packet that has these bytes of the frame, and those that are left
pub record IsBegun (frame had : List ℕ) (packet : List Buffer) (has rest : List ℕ) : Type 0 where
  pub bytes : bytes_of packet ++ rest ≡ frame
  pub stash : had ≡ numbers_of packet ++ has
  pub full : length (bytes_of packet) ≡ BUFFER_BYTES * length packet
  pub none_empty : All (λ b. 0 < length b.bytes) packet
  pub some_left : 0 < length rest

module _ (frame had : List ℕ) (lawful : HasFrameLength frame) where
  pub begun_none : IsBegun frame had [] had frame
  begun_none = record { bytes = refl; stash = refl; full = refl; none_empty = All-nil (λ b. 0 < length b.bytes); some_left = (let h = lawful.0 in omega (arith, h)) }

  module _ (packet : List Buffer) (has rest : List ℕ) (h : IsBegun frame had packet has rest) where
    sizes : length (bytes_of packet) + length rest ≡ length frame
    sizes = sym (length-append (bytes_of packet) rest) ∙ ap length h.bytes

    pub begun_few : length packet < MOST_SEGMENTS
    begun_few = (let s = sizes in let f = h.full in let m = lawful.1 in let l = h.some_left in omega (arith, s, f, m, l))

    pub begun_left : length frame ≤ BUFFER_BYTES * length had → 0 < length has
    begun_left enough =
        let s = sizes in let f = h.full in let l = h.some_left in
        let count : length had ≡ length packet + length has = ap length h.stash ∙ (length-append (numbers_of packet) has ∙ ap (λ k. k + length has) (length-map packet (λ (b : Buffer). b.number))) in
        omega (arith, s, f, l, count, enough)

    module _ (piece : List ℕ) (packet' : List Buffer) (has' : List ℕ) (p : Pushed piece packet has packet' has') (some : 0 < length piece) where
      bytes_more : bytes_of packet' ≡ bytes_of packet ++ piece
      bytes_more = ap bytes_of p.behind ∙ bytes_of-push packet (buffer p.number piece)

      stash_more : had ≡ numbers_of packet' ++ has'
      stash_more = h.stash ∙ (ap (λ l. numbers_of packet ++ l) p.stash ∙ (sym (append_assoc (numbers_of packet) (p.number ∷ []) has')
          ∙ ap (λ l. l ++ has') (sym (map-append (λ (b : Buffer). b.number) packet (buffer p.number piece ∷ [])) ∙ ap numbers_of (sym p.behind))))

      none_empty_more : All (λ b. 0 < length b.bytes) packet'
      none_empty_more = subst (All (λ b. 0 < length b.bytes)) (sym p.behind) (All-append (λ b. 0 < length b.bytes) packet (buffer p.number piece ∷ []) h.none_empty
          (All-cons (λ b. 0 < length b.bytes) (buffer p.number piece) [] some (All-nil (λ b. 0 < length b.bytes))))

      count_more : length packet' ≡ length packet + 1
      count_more = ap length p.behind ∙ length-append packet (buffer p.number piece ∷ [])

      pub begun_more : (more : List ℕ) → rest ≡ piece ++ more → length piece ≡ BUFFER_BYTES → 0 < length more → IsBegun frame had packet' has' more
      begun_more more split full left = record {
        bytes = ap (λ l. l ++ more) bytes_more ∙ (append_assoc (bytes_of packet) piece more ∙ (ap (λ l. bytes_of packet ++ l) (sym split) ∙ h.bytes));
        stash = stash_more;
        full = (let a = ap length bytes_more ∙ length-append (bytes_of packet) piece in let f = h.full in let c = count_more in omega (arith, a, f, c, full));
        none_empty = none_empty_more;
        some_left = left;
      }

      pub begun_ended : rest ≡ piece → Packed frame had packet' has'
      begun_ended e =
          let bytes : bytes_of packet' ≡ frame = bytes_more ∙ (ap (λ l. bytes_of packet ++ l) (sym e) ∙ h.bytes) in
          let c = count_more in let f = begun_few in let long = ap length bytes in let least = lawful.0 in let most = lawful.1 in record {
            packet_is = record {
              some_segment = omega (arith, c);
              few_segments = omega (arith, c, f);
              none_empty = none_empty_more;
              some_bytes = omega (arith, long, least);
              few_bytes = omega (arith, long, most);
            };
            bytes = bytes;
            stash = stash_more;
          }

pub split_is : (n : ℕ) (rest front back : List ℕ) → front ≡ take n rest → back ≡ drop n rest → rest ≡ front ++ back
split_is n rest front back f b = sym (take-append-drop n rest) ∙ (ap (λ l. l ++ drop n rest) (sym f) ∙ ap (λ l. front ++ l) (sym b))

-- a packet with one more buffer is still a packet, if it is not too long
pub packet_grown : (bytes : List ℕ) (packet : List Buffer) (had : List ℕ) (packet' : List Buffer) (has : List ℕ) → Pushed bytes packet had packet' has
    → 0 < length bytes → length packet < MOST_SEGMENTS → length (bytes_of packet) + length bytes ≤ MOST_FRAME → IsPacket packet → IsPacket packet'
packet_grown bytes packet had packet' has p some few short h =
    let count : length packet' ≡ length packet + 1 = ap length p.behind ∙ length-append packet (buffer p.number bytes ∷ []) in
    let sum : length (bytes_of packet') ≡ length (bytes_of packet) + length bytes =
    ap length (ap bytes_of p.behind ∙ bytes_of-push packet (buffer p.number bytes)) ∙ length-append (bytes_of packet) bytes in
    record {
      some_segment = omega (arith, count);
      few_segments = omega (arith, count, few);
      none_empty = subst (All (λ b. 0 < length b.bytes)) (sym p.behind) (All-append (λ b. 0 < length b.bytes) packet (buffer p.number bytes ∷ []) h.none_empty
          (All-cons (λ b. 0 < length b.bytes) (buffer p.number bytes) [] some (All-nil (λ b. 0 < length b.bytes))));
      some_bytes = (let l = h.some_bytes in omega (arith, sum, l));
      few_bytes = omega (arith, sum, short);
    }
