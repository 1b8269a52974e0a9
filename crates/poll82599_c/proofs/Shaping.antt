-- Packets stay packets where bytes of one are replaced, or one is let go.
use Rattle.std.proofs.Common.{◌≡◌, ◌∙◌, ℕ, zero, suc, List, [], ◌∷◌, ◌++◌, length, take, drop, ap, sym, subst, arith, append-nil}
use Rattle.std.specs.Prelude.{All, Some, remove, slice_get}
use Rattle.std.specs.List.{refill}
use Rattle.std.proofs.lemmas.List.{drop_all, take_all, length-set}
use Rattle.std.proofs.lemmas.List.Elements.{All-head, All-tail, All-append, All-drop, All-set, All-take}
use Rattle.buffer_pool.specs.Buffer.{Buffer}
use Rattle.buffer_pool.specs.Packed.{IsPacket}
use Rattle.buffer_pool.proofs.Shaped.{packet-shaped}
use Rattle.poll82599_c.specs.batches.Packets.{SetIn}
use Rattle.poll82599_c.specs.batches.Ranges.{PatchedIn}

-- what stands in a list of packets is one
pub packet-there : (ps : List (List Buffer)) (i : ℕ) (p : List Buffer) → slice_get ps i ≡ Some p → All IsPacket ps → IsPacket p
packet-there [] i p e h = cc e
packet-there (q ∷ ps) zero p e h = subst IsPacket (cc e) (All-head IsPacket q ps h)
packet-there (q ∷ ps) (suc i) p e h = packet-there ps i p e (All-tail IsPacket q ps h)

set-whole : (i at byte : ℕ) (old new : List (List Buffer)) → SetIn i at byte old new → All IsPacket old → All IsPacket new
set-whole i at byte old new s h =
    subst (All IsPacket) (sym s.list) (All-set IsPacket old i s.after (packet-shaped s.before s.after s.shape (packet-there old i s.before s.there h)) h)

refilled : (xs ws : List (List Buffer)) → length ws ≡ length xs → refill (length xs) xs ws ≡ ws
refilled xs ws long =
    ap (λ l. take (length xs) (ws ++ l)) (drop_all (length ws) xs (omega (arith, long))) ∙ (ap (take (length xs)) (append-nil ws) ∙ take_all (length xs) ws (omega (arith, long)))

-- what a slice of the list's packets was lent as, and came back as
pub touched_whole : (i at byte : ℕ) (items lent back : List (List Buffer)) → lent ≡ items → SetIn i at byte lent back → All IsPacket items → All IsPacket (refill (length items) items back)
touched_whole i at byte items lent back e s h =
    subst (All IsPacket) (sym (refilled items back (ap length s.list ∙ (length-set lent i s.after ∙ ap length e)))) (set-whole i at byte lent back s (subst (All IsPacket) (sym e) h))

patched_in-whole : (i at : ℕ) (bytes : List ℕ) (old new : List (List Buffer)) → PatchedIn i at bytes old new → All IsPacket old → All IsPacket new
patched_in-whole i at bytes old new s h =
    subst (All IsPacket) (sym s.list) (All-set IsPacket old i s.after (packet-shaped s.before s.after s.shape (packet-there old i s.before s.there h)) h)

-- the same where a range of bytes was replaced
pub patched_whole : (i at : ℕ) (bytes : List ℕ) (items lent back : List (List Buffer)) → lent ≡ items → PatchedIn i at bytes lent back → All IsPacket items
    → All IsPacket (refill (length items) items back)
patched_whole i at bytes items lent back e s h =
    subst (All IsPacket) (sym (refilled items back (ap length s.list ∙ (length-set lent i s.after ∙ ap length e))))
    (patched_in-whole i at bytes lent back s (subst (All IsPacket) (sym e) h))

pub kept_whole : (items lent back : List (List Buffer)) → lent ≡ items → back ≡ lent → All IsPacket items → All IsPacket (refill (length items) items back)
kept_whole items lent back e same h = subst (All IsPacket) (sym (refilled items back (ap length (same ∙ e)))) (subst (All IsPacket) (sym (same ∙ e)) h)

pub All-remove : {X : Type 0} (P : X → Type 0) (xs : List X) (i : ℕ) → All P xs → All P (remove xs i)
All-remove P xs i h = All-append P (take i xs) (drop (suc i) xs) (All-take P i xs h) (All-drop P (suc i) xs h)
