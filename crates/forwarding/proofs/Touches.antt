-- Packets that are touched one after another.
use Rattle.std.proofs.Common.{◌≡◌, ◌∙◌, ℕ, zero, suc, ◌+◌, ◌<◌, ◌≤◌, List, [], ◌∷◌, ◌++◌, length, map, set, get_or, ap, sym, refl, arith}
use Rattle.std.specs.Prelude.{All}
use Rattle.std.proofs.lemmas.List.Elements.{All-head, All-tail, All-cons, All-nil}
use Rattle.buffer_pool.specs.Buffer.{Buffer}
use Rattle.buffer_pool.specs.Packed.{IsPacket, bytes_of, shape_of}
use Rattle.buffer_pool.proofs.Shaped.{count-shaped, packet-shaped}
use Rattle.ring_model.specs.shared.Frames.{Bytes}
use Rattle.driver.specs.receive.Chains.{IsTaken}
use Rattle.driver.specs.transmit.Frames.{IsTooLong}
use Rattle.forwarding.specs.Touching.{touch, touched, shapes, Touched}

pub map-set : {X Y : Type 0} (f : X → Y) (xs : List X) (i : ℕ) (y : X) → map f (set xs i y) ≡ set (map f xs) i (f y)
map-set f [] i y = refl
map-set f (x ∷ xs) zero y = refl
map-set f (x ∷ xs) (suc i) y = ap (λ l. f x ∷ l) (map-set f xs i y)

same-set : {X Y : Type 0} (f : X → Y) (xs : List X) (i : ℕ) (y d : X) → f y ≡ f (get_or xs i d) → map f (set xs i y) ≡ map f xs
same-set f [] i y d same = refl
same-set f (x ∷ xs) zero y d same = ap (λ l. l ∷ map f xs) same
same-set f (x ∷ xs) (suc i) y d same = ap (λ l. f x ∷ l) (same-set f xs i y d same)

touched-none : (k : ℕ) (fs : List Bytes) → touched k k fs ≡ fs
touched-none k [] = refl
touched-none zero (f ∷ fs) = refl
touched-none (suc k) (f ∷ fs) = ap (λ l. f ∷ l) (touched-none k fs)

touches-one : (first i : ℕ) (fs : List Bytes) (d : Bytes) → first ≤ i → i < length fs → set (touched first i fs) i (touch (get_or (touched first i fs) i d)) ≡ touched first (suc i) fs
touches-one first i [] d low high = absurd (omega (arith, high))
touches-one zero zero (f ∷ fs) d low high = ap (λ l. touch f ∷ l) (sym (touched-none zero fs))
touches-one (suc first) zero (f ∷ fs) d low high = absurd (omega (arith, low))
touches-one zero (suc i) (f ∷ fs) d low high = ap (λ l. touch f ∷ l) (touches-one zero i fs d (omega arith) (omega (arith, high)))
touches-one (suc first) (suc i) (f ∷ fs) d low high = ap (λ l. f ∷ l) (touches-one first i fs d (omega (arith, low)) (omega (arith, high)))

mapped-at : {X Y : Type 0} (f : X → Y) (xs : List X) (i : ℕ) (d : X) (e : Y) → i < length xs → get_or (map f xs) i e ≡ f (get_or xs i d)
mapped-at f [] i d e low = absurd (omega (arith, low))
mapped-at f (x ∷ xs) zero d e low = refl
mapped-at f (x ∷ xs) (suc i) d e low = mapped-at f xs i d e (omega (arith, low))

pub same-length : {X Y : Type 0} (f : X → Y) (xs : List X) → length (map f xs) ≡ length xs
same-length f [] = refl
same-length f (x ∷ xs) = ap suc (same-length f xs)

touched-length : (first past : ℕ) (fs : List Bytes) → length (touched first past fs) ≡ length fs
touched-length first past [] = refl
touched-length first zero (f ∷ fs) = refl
touched-length zero (suc past) (f ∷ fs) = ap suc (touched-length zero past fs)
touched-length (suc first) (suc past) (f ∷ fs) = ap suc (touched-length first past fs)

-- so far, and one more
pub record SoFar (first i : ℕ) (old new : List (List Buffer)) : Type 0 where
  pub bytes : map bytes_of new ≡ touched first i (map bytes_of old)
  pub shape : shapes new ≡ shapes old

pub so-far-none : (first : ℕ) (ps : List (List Buffer)) → SoFar first first ps ps
so-far-none first ps = record { bytes = sym (touched-none first (map bytes_of ps)); shape = refl }

pub so-far-more : (first i : ℕ) (old ps : List (List Buffer)) (y d : List Buffer) → first ≤ i → i < length ps → SoFar first i old ps → Touched (get_or ps i d) y → SoFar first (i + 1) old (set ps i y)
so-far-more first i old ps y d low high so one =
    let fs = map bytes_of old in
    let at : get_or (touched first i fs) i [] ≡ bytes_of (get_or ps i d) = ap (λ l. get_or l i []) (sym so.bytes) ∙ mapped-at bytes_of ps i d [] high in
    let long : length ps ≡ length fs = sym (same-length bytes_of ps) ∙ ap length so.bytes ∙ touched-length first i fs in
    record {
      bytes = map-set bytes_of ps i y ∙ ap (λ l. set l i (bytes_of y)) so.bytes ∙ ap (λ b. set (touched first i fs) i b) (one.bytes ∙ ap touch (sym at))
          ∙ touches-one first i fs [] low (omega (arith, high, long)) ∙ ap (λ k. touched first k fs) (let e : suc i ≡ i + 1 = omega arith in e);
      shape = same-set (map shape_of) ps i y d one.shape ∙ so.shape;
    }

-- ---- a packet keeps its limits by its shape alone

taken-shaped : (n : ℕ) (xs ys : List Buffer) → map shape_of ys ≡ map shape_of xs → IsTaken n xs → IsTaken n ys
taken-shaped n xs ys e t = let count = count-shaped xs ys e in let h = t.few in record { packet = packet-shaped xs ys e t.packet; few = omega (arith, count, h) }

pub all-taken-shaped : (n : ℕ) (ps qs : List (List Buffer)) → shapes qs ≡ shapes ps → All (IsTaken n) ps → All (IsTaken n) qs
all-taken-shaped n [] [] e h = h
all-taken-shaped n [] (q ∷ qs) e h = cc e
all-taken-shaped n (p ∷ ps) [] e h = cc e
all-taken-shaped n (p ∷ ps) (q ∷ qs) e h =
    All-cons (IsTaken n) q qs (taken-shaped n p q (ap (λ l. get_or l 0 []) e) (All-head (IsTaken n) p ps h))
    (all-taken-shaped n ps qs (ap (λ l. Rattle.std.proofs.Common.drop 1 l) e) (All-tail (IsTaken n) p ps h))

packet-at : (ps : List (List Buffer)) (i : ℕ) (d : List Buffer) → i < length ps → All IsPacket ps → IsPacket (get_or ps i d)
packet-at [] i d low h = absurd (omega (arith, low))
packet-at (p ∷ ps) zero d low h = All-head IsPacket p ps h
packet-at (p ∷ ps) (suc i) d low h = packet-at ps i d (omega (arith, low)) (All-tail IsPacket p ps h)

pub all-packets-shaped : (ps qs : List (List Buffer)) → shapes qs ≡ shapes ps → All IsPacket ps → All IsPacket qs
all-packets-shaped [] [] e h = h
all-packets-shaped [] (q ∷ qs) e h = cc e
all-packets-shaped (p ∷ ps) [] e h = cc e
all-packets-shaped (p ∷ ps) (q ∷ qs) e h =
    All-cons IsPacket q qs (packet-shaped p q (ap (λ l. get_or l 0 []) e) (All-head IsPacket p ps h))
    (all-packets-shaped ps qs (ap (λ l. Rattle.std.proofs.Common.drop 1 l) e) (All-tail IsPacket p ps h))

pub packet-still : (ps qs : List (List Buffer)) (i : ℕ) (d : List Buffer) → shapes qs ≡ shapes ps → All IsPacket ps → i < length qs → IsPacket (get_or qs i d)
packet-still ps qs i d e h low = packet-at qs i d low (all-packets-shaped ps qs e h)

pub taken-packets : (n : ℕ) (ps : List (List Buffer)) → All (IsTaken n) ps → All IsPacket ps
taken-packets n [] h = All-nil IsPacket
taken-packets n (p ∷ ps) h = All-cons IsPacket p ps (All-head (IsTaken n) p ps h).packet (taken-packets n ps (All-tail (IsTaken n) p ps h))

pub not-long : (n : ℕ) (ps : List (List Buffer)) → All (IsTaken n) ps → IsTooLong n ps → ⊥
not-long n [] h long = long
not-long n (p ∷ ps) h long = let few = (All-head (IsTaken n) p ps h).few in omega (arith, few, long)

all-touched : (ps : List (List Buffer)) → touched zero (length ps) (map bytes_of ps) ≡ map touch (map bytes_of ps)
all-touched [] = refl
all-touched (p ∷ ps) = ap (λ l. touch (bytes_of p) ∷ l) (all-touched ps)

pub touched-behind : (ps qs : List (List Buffer)) → touched (length ps) (length (ps ++ qs)) (map bytes_of (ps ++ qs)) ≡ map bytes_of ps ++ map touch (map bytes_of qs)
touched-behind [] qs = all-touched qs
touched-behind (p ∷ ps) qs = ap (λ l. bytes_of p ∷ l) (touched-behind ps qs)
