-- A packet keeps its limits by its shape alone: by how many bytes are in each of its buffers.
use Rattle.std.proofs.Common.{◌≡◌, ◌∙◌, ◌+◌, ◌<◌, List, [], ◌∷◌, length, map, drop, get_or, ap, sym, refl, arith, length-append}
use Rattle.std.specs.Prelude.{All}
use Rattle.std.proofs.lemmas.List.{length-map}
use Rattle.std.proofs.lemmas.List.Elements.{All-head, All-tail, All-cons}
use Rattle.buffer_pool.specs.Buffer.{Buffer}
use Rattle.buffer_pool.specs.Packed.{IsPacket, bytes_of, shape_of}

bytes-shaped : (xs ys : List Buffer) → map shape_of ys ≡ map shape_of xs → length (bytes_of ys) ≡ length (bytes_of xs)
bytes-shaped [] [] e = refl
bytes-shaped [] (y ∷ ys) e = cc e
bytes-shaped (x ∷ xs) [] e = cc e
bytes-shaped (x ∷ xs) (y ∷ ys) e =
    let first : length y.bytes ≡ length x.bytes = ap (λ l. (get_or l 0 (shape_of x)).1) e in
    let rest = bytes-shaped xs ys (ap (λ l. drop 1 l) e) in
    length-append y.bytes (bytes_of ys) ∙ (let s : length y.bytes + length (bytes_of ys) ≡ length x.bytes + length (bytes_of xs) = omega (arith, first, rest) in s) ∙ sym (length-append x.bytes (bytes_of xs))

none_empty-shaped : (xs ys : List Buffer) → map shape_of ys ≡ map shape_of xs → All (λ b. 0 < length b.bytes) xs → All (λ b. 0 < length b.bytes) ys
none_empty-shaped [] [] e h = h
none_empty-shaped [] (y ∷ ys) e h = cc e
none_empty-shaped (x ∷ xs) [] e h = cc e
none_empty-shaped (x ∷ xs) (y ∷ ys) e h =
    let first : length y.bytes ≡ length x.bytes = ap (λ l. (get_or l 0 (shape_of x)).1) e in
    let had = All-head (λ b. 0 < length b.bytes) x xs h in
    All-cons (λ b. 0 < length b.bytes) y ys (omega (arith, first, had)) (none_empty-shaped xs ys (ap (λ l. drop 1 l) e) (All-tail (λ b. 0 < length b.bytes) x xs h))

pub count-shaped : (xs ys : List Buffer) → map shape_of ys ≡ map shape_of xs → length ys ≡ length xs
count-shaped xs ys e = sym (length-map ys shape_of) ∙ ap length e ∙ length-map xs shape_of

pub packet-shaped : (xs ys : List Buffer) → map shape_of ys ≡ map shape_of xs → IsPacket xs → IsPacket ys
packet-shaped xs ys e p =
    let count = count-shaped xs ys e in let bytes = bytes-shaped xs ys e in
    record {
      some_segment = (let h = p.some_segment in omega (arith, count, h));
      few_segments = (let h = p.few_segments in omega (arith, count, h));
      none_empty = none_empty-shaped xs ys e p.none_empty;
      some_bytes = (let h = p.some_bytes in omega (arith, bytes, h));
      few_bytes = (let h = p.few_bytes in omega (arith, bytes, h));
    }
