-- A range of a packet's bytes, as it is read and replaced buffer by buffer.
use Rattle.std.proofs.Common.{◌≡◌, ◌∙◌, ℕ, zero, suc, ◌+◌, ◌<◌, ◌≤◌, ◌⊎◌, inl, inr, List, [], ◌∷◌, ◌++◌, length, map, ap, sym, refl, subst, arith, append_assoc, append-nil, length-append}
use Rattle.std.specs.Prelude.{All}
use Rattle.std.specs.List.{concat}
use Rattle.std.proofs.lemmas.List.{map-append}
use Rattle.std.proofs.lemmas.List.Elements.{All-head, All-tail}
use Rattle.buffer_pool.specs.Buffer.{Buffer}
use Rattle.buffer_pool.specs.Packed.{IsPacket, bytes_of, shape_of}
use Rattle.limits.specs.declared.profile.TheConstants.{MOST_SEGMENTS}
use Rattle.ring_model.specs.shared.Frames.{Bytes}
use Rattle.poll82599_c.specs.batches.Ranges.{Overlaid, patched}
use Rattle.poll82599_c.proofs.Packing.{bytes_of-push}

-- ---- reading

pub concat-bytes : (bufs : List Buffer) → concat (map (λ b. b.bytes) bufs) ≡ bytes_of bufs
concat-bytes [] = refl
concat-bytes (b ∷ bufs) = ap (λ (l : List ℕ). b.bytes ++ l) (concat-bytes bufs)

-- ---- replacing

-- a list that ends before the range stays
patched-past : (xs ys ws : List ℕ) (n k : ℕ) → length xs + k ≡ n → patched n ws (xs ++ ys) ≡ xs ++ patched k ws ys
patched-past [] ys ws n k e = ap (λ (i : ℕ). patched i ws ys) (omega arith)
patched-past (x ∷ xs) ys ws zero k e = absurd (omega arith)
patched-past (x ∷ xs) ys ws (suc n) k e = ap (λ (l : List ℕ). x ∷ l) (patched-past xs ys ws n k (omega arith))

-- in the list in which the range begins
patched-here : (k : ℕ) (now later xs ys : List ℕ) → k + length now ≤ length xs → (later ≡ []) ⊎ (k + length now ≡ length xs)
    → patched k (now ++ later) (xs ++ ys) ≡ patched k now xs ++ patched 0 later ys
patched-here (suc k) now later [] ys h e = absurd (omega arith)
patched-here (suc k) now later (x ∷ xs) ys h (inl e) = ap (λ (l : List ℕ). x ∷ l) (patched-here k now later xs ys (omega arith) (inl e))
patched-here (suc k) now later (x ∷ xs) ys h (inr e) = ap (λ (l : List ℕ). x ∷ l) (patched-here k now later xs ys (omega arith) (inr (omega arith)))
patched-here zero [] later xs ys h (inl e) = rw e refl
patched-here zero [] later [] ys h (inr e) = refl
patched-here zero [] later (x ∷ xs) ys h (inr e) = absurd (omega arith)
patched-here zero (w ∷ now) later [] ys h e = absurd (omega arith)
patched-here zero (w ∷ now) later (x ∷ xs) ys h (inl e) = ap (λ (l : List ℕ). w ∷ l) (patched-here zero now later xs ys (omega arith) (inl e))
patched-here zero (w ∷ now) later (x ∷ xs) ys h (inr e) = ap (λ (l : List ℕ). w ∷ l) (patched-here zero now later xs ys (omega arith) (inr (omega arith)))

pub length-patched : (k : ℕ) (ws xs : List ℕ) → k + length ws ≤ length xs → length (patched k ws xs) ≡ length xs
length-patched (suc k) ws [] h = absurd (omega arith)
length-patched (suc k) ws (x ∷ xs) h = ap suc (length-patched k ws xs (omega arith))
length-patched zero [] xs h = refl
length-patched zero (w ∷ ws) [] h = absurd (omega arith)
length-patched zero (w ∷ ws) (x ∷ xs) h = ap suc (length-patched zero ws xs (omega arith))

overlaid-bytes : (skip : ℕ) (rest : Bytes) (b b' : Buffer) (skip' : ℕ) (rest' ys : List ℕ) → Overlaid skip rest b b' skip' rest'
    → b'.bytes ++ patched skip' rest' ys ≡ patched skip rest (b.bytes ++ ys)
overlaid-bytes skip rest b b' skip' rest' ys (inl (e, same, kept)) =
    rw (same, kept) (sym (patched-past b.bytes ys rest skip skip' e))
overlaid-bytes skip rest b b' skip' rest' ys (inr p) =
    rw (p.skips, p.is, p.split) (sym (patched-here skip p.here rest' b.bytes ys p.fits p.ends))

overlaid-shape : (skip : ℕ) (rest : Bytes) (b b' : Buffer) (skip' : ℕ) (rest' : List ℕ) → Overlaid skip rest b b' skip' rest' → shape_of b' ≡ shape_of b
overlaid-shape skip rest b b' skip' rest' (inl (e, same, kept)) = ap shape_of kept
overlaid-shape skip rest b b' skip' rest' (inr p) = ap shape_of p.is ∙ ap (λ (n : ℕ). (b.number, n)) (length-patched skip p.here b.bytes p.fits)

overlaid-within : (skip : ℕ) (rest : Bytes) (b b' : Buffer) (skip' : ℕ) (rest' : List ℕ) (more : ℕ) → Overlaid skip rest b b' skip' rest'
    → skip + length rest ≤ length b.bytes + more → skip' + length rest' ≤ more
overlaid-within skip rest b b' skip' rest' more (inl (e, same, kept)) h = let s = ap length same in omega (arith, e, s, h)
overlaid-within skip rest b b' skip' rest' more (inr p) h = within p.ends
  where
    sum : length rest ≡ length p.here + length rest'
    sum = ap length p.split ∙ length-append p.here rest'

    within : (rest' ≡ []) ⊎ (skip + length p.here ≡ length b.bytes) → skip' + length rest' ≤ more
    within (inl none) = let n = ap length none in let z = p.skips in omega (arith, n, z)
    within (inr all) = let s = sum in let z = p.skips in omega (arith, all, s, z, h)

-- `done` are the buffers that have their bytes, and the others get theirs
pub record IsPatching (at : ℕ) (bytes : Bytes) (old done : List Buffer) (skip : ℕ) (rest : Bytes) (packet : List Buffer) : Type 0 where
  pub bytes_are : bytes_of done ++ patched skip rest (bytes_of packet) ≡ patched at bytes (bytes_of old)
  pub within : skip + length rest ≤ length (bytes_of packet)
  pub shape : map shape_of done ++ map shape_of packet ≡ map shape_of old
  pub none_empty : All (λ b. 0 < length b.bytes) packet
  pub few : length done + length packet ≤ MOST_SEGMENTS

pub patching_begun : (at : ℕ) (bytes : Bytes) (old : List Buffer) → IsPacket old → at + length bytes ≤ length (bytes_of old) → IsPatching at bytes old [] at bytes old
patching_begun at bytes old p within = record { bytes_are = refl; within = within; shape = refl; none_empty = p.none_empty; few = (let f = p.few_segments in omega (arith, f)) }

module _ (at : ℕ) (bytes : Bytes) (old done : List Buffer) (skip : ℕ) (rest : Bytes) where
  pub patching_more : (packet packet' : List Buffer) (b b' : Buffer) (skip' : ℕ) (rest' : Bytes) → IsPatching at bytes old done skip rest packet → packet ≡ b ∷ packet'
      → Overlaid skip rest b b' skip' rest' → IsPatching at bytes old (done ++ b' ∷ []) skip' rest' packet'
  patching_more packet packet' b b' skip' rest' h e o =
      let g : IsPatching at bytes old done skip rest (b ∷ packet') = subst (λ l. IsPatching at bytes old done skip rest l) e h in
      let w = g.within in let f = g.few in
      let sum = length-append b.bytes (bytes_of packet') in
      let longer = length-append done (b' ∷ []) in
      record {
        bytes_are = ap (λ l. l ++ patched skip' rest' (bytes_of packet')) (bytes_of-push done b')
            ∙ (append_assoc (bytes_of done) b'.bytes (patched skip' rest' (bytes_of packet'))
            ∙ (ap (λ l. bytes_of done ++ l) (overlaid-bytes skip rest b b' skip' rest' (bytes_of packet') o) ∙ g.bytes_are));
        within = overlaid-within skip rest b b' skip' rest' (length (bytes_of packet')) o (omega (arith, w, sum));
        shape = ap (λ l. l ++ map shape_of packet') (map-append shape_of done (b' ∷ []))
            ∙ (append_assoc (map shape_of done) (shape_of b' ∷ []) (map shape_of packet')
            ∙ (ap (λ s. map shape_of done ++ s ∷ map shape_of packet') (overlaid-shape skip rest b b' skip' rest' o) ∙ g.shape));
        none_empty = All-tail (λ b. 0 < length b.bytes) b packet' g.none_empty;
        few = omega (arith, f, longer);
      }

  -- the buffer that gets its bytes is not empty, and there is room for it
  pub patching_room : (packet packet' : List Buffer) (b : Buffer) → IsPatching at bytes old done skip rest packet → packet ≡ b ∷ packet' → length done < MOST_SEGMENTS
  patching_room packet packet' b h e = let f = h.few in let n = ap length e in omega (arith, f, n)

  pub patching_some : (packet packet' : List Buffer) (b b' : Buffer) (skip' : ℕ) (rest' : Bytes) → IsPatching at bytes old done skip rest packet → packet ≡ b ∷ packet'
      → Overlaid skip rest b b' skip' rest' → 0 < length b'.bytes
  patching_some packet packet' b b' skip' rest' h e o =
      let g : IsPatching at bytes old done skip rest (b ∷ packet') = subst (λ l. IsPatching at bytes old done skip rest l) e h in
      let some = All-head (λ b. 0 < length b.bytes) b packet' g.none_empty in
      let same = ap (λ s. s.1) (overlaid-shape skip rest b b' skip' rest' o) in
      omega (arith, some, same)

  pub patching_ended : (packet : List Buffer) → IsPatching at bytes old done skip rest packet → packet ≡ []
      → (bytes_of done ≡ patched at bytes (bytes_of old)) × (map shape_of done ≡ map shape_of old)
  patching_ended packet h e =
      let g : IsPatching at bytes old done skip rest [] = subst (λ l. IsPatching at bytes old done skip rest l) e h in
      (sym (append-nil (bytes_of done)) ∙ (ap (λ l. bytes_of done ++ l) (none skip rest g.within) ∙ g.bytes_are), sym (append-nil (map shape_of done)) ∙ g.shape)
    where
      none : (k : ℕ) (ws : Bytes) → k + length ws ≤ 0 → [] ≡ patched k ws []
      none zero [] l = refl
      none zero (w ∷ ws) l = absurd (omega arith)
      none (suc k) ws l = absurd (omega arith)
