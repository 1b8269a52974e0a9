-- The frames that are posted are the packets' bytes.
use Rattle.std.proofs.Common.{◌≡◌, ℕ, ◌+◌, ◌%◌, ◌<◌, Bool, true, false, List, [], ◌∷◌, ◌++◌, length, map, ap, refl, ◌∙◌, append_assoc, arith}
use Rattle.std.specs.Prelude.{All, ◌==◌, ◌||◌}
use Rattle.std.proofs.lemmas.List.Elements.{All-head, All-tail}
use Rattle.buffer_pool.specs.Buffer.{Buffer}
use Rattle.buffer_pool.specs.Packed.{IsPacket, bytes_of}
use Rattle.ring_model.specs.shared.Frames.{Bytes, join, chains_from, frames}
use Rattle.ring_model.specs.transmit.Ring.{are_whole, carried}
use Rattle.ring_laws.specs.Frames.{frames-append}
use Rattle.tx_ring.proofs.Whole.{whole-rest}
use Rattle.tx_ring.specs.Calls.{item_of}
use Rattle.tx_ring.specs.Records.{Posting}
use Rattle.driver.specs.transmit.Frames.{postings_of, frame_of, frames_of, is_none}

-- the segments of a packet are one chain
one_chain : (rest : List Posting) (paylen : ℕ) (rs : Bool) (b : Buffer) (bs : List Buffer) (ys : List Posting)
    → chains_from carried rest (postings_of paylen rs (b ∷ bs) ++ ys) ≡ (rest ++ postings_of paylen rs (b ∷ bs)) ∷ chains_from carried [] ys
one_chain rest paylen rs b [] ys = refl
one_chain rest paylen rs b (c ∷ bs) ys =
    let x = item_of b false false paylen in
    one_chain (rest ++ x ∷ []) paylen rs c bs ys
    ∙ ap (λ (l : List Posting). l ∷ chains_from carried [] ys) (append_assoc rest (x ∷ []) (postings_of paylen rs (c ∷ bs)))

joined : (paylen : ℕ) (rs : Bool) (packet : List Buffer) → join carried (postings_of paylen rs packet) ≡ bytes_of packet
joined paylen rs [] = refl
joined paylen rs (b ∷ []) = refl
joined paylen rs (b ∷ c ∷ bs) = ap (λ (l : Bytes). b.bytes ++ l) (joined paylen rs (c ∷ bs))

-- of a packet that has a buffer
chained : (rs : Bool) (packet : List Buffer) (ys : List Posting) → 0 < length packet → map (join carried) (chains_from carried [] (frame_of rs packet ++ ys)) ≡ bytes_of packet ∷ map (join carried) (chains_from carried [] ys)
chained rs [] ys some = absurd (omega (arith, some))
chained rs (b ∷ bs) ys some =
    let paylen = length (bytes_of (b ∷ bs)) in
    ap (map (join carried)) (one_chain [] paylen rs b bs ys) ∙ ap (λ (f : Bytes). f ∷ map (join carried) (chains_from carried [] ys)) (joined paylen rs (b ∷ bs))

all_chained : (every count : ℕ) (ps : List (List Buffer)) → All IsPacket ps → map (join carried) (chains_from carried [] (frames_of every count ps)) ≡ map bytes_of ps
all_chained every count [] are = refl
all_chained every count (p ∷ ps) are =
    let first = All-head IsPacket p ps are in
    chained ((count + 1) % every == 0 || is_none ps) p (frames_of every (count + 1) ps) first.some_segment
    ∙ ap (λ (l : List Bytes). bytes_of p ∷ l) (all_chained every (count + 1) ps (All-tail IsPacket p ps are))

pub frames_posted : (every count : ℕ) (xs : List Posting) (ps : List (List Buffer)) → are_whole xs ≡ true → All IsPacket ps → frames carried (xs ++ frames_of every count ps) ≡ frames carried xs ++ map bytes_of ps
frames_posted every count xs ps whole are =
    frames-append carried xs (frames_of every count ps)
    ∙ ap (λ (rest : List Posting). frames carried xs ++ map (join carried) (chains_from carried rest (frames_of every count ps))) (whole-rest xs whole)
    ∙ ap (λ (l : List Bytes). frames carried xs ++ l) (all_chained every count ps are)
