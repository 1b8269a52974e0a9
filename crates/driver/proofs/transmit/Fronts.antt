-- Frames posted one after another, and their count.
use Rattle.std.proofs.Common.{◌≡◌, ◌≢◌, ℕ, if◌then◌else◌, ◌+◌, ◌%◌, ◌<◌, Bool, true, false, List, [], ◌∷◌, ◌++◌, length, ap, sym, refl, ◌∙◌, subst, append_assoc, append-nil, length-append, arith}
use Rattle.std.specs.Prelude.{All, ◌==◌, ◌||◌}
use Rattle.std.proofs.Math.Nat.{mod-add-mod, mod-eq_of_lt, mod-mod, mod_self}
use Rattle.std.proofs.lemmas.Bool.{eqb-true, eqb-false, ne_eqb}
use Rattle.ring_model.specs.shared.Places.{place_next}
use Rattle.std.proofs.lemmas.List.Elements.{All-tail}
use Rattle.buffer_pool.specs.Buffer.{Buffer}
use Rattle.buffer_pool.specs.Packed.{IsPacket, bytes_of}
use Rattle.ring_model.specs.transmit.Ring.{are_whole}
use Rattle.tx_ring.specs.Ends.{DriverSide, posted}
use Rattle.tx_ring.specs.Records.{Posting, TxDriven}
use Rattle.driver.specs.transmit.Frames.{frame_of, frames_of, postings_of, is_none, segment_count}
use Rattle.driver.specs.transmit.Going.{PostedAll}
use Rattle.driver.proofs.transmit.Going.{none_posted_on, posted_on}

-- the next count, modulo
next_mod : (every a b : ℕ) → a % every ≡ b % every → (a + 1) % every ≡ (b + 1) % every
next_mod every a b same = sym (mod-add-mod a every 1) ∙ ap (λ (n : ℕ). (n + 1) % every) same ∙ mod-add-mod b every 1

-- it does not matter by how many multiples the count is less
pub frames_of-same : (every a b : ℕ) (ps : List (List Buffer)) → a % every ≡ b % every → frames_of every a ps ≡ frames_of every b ps
frames_of-same every a b [] same = refl
frames_of-same every a b (p ∷ ps) same =
    let next = next_mod every a b same in
    ap (λ (n : ℕ). frame_of (n == 0 || is_none ps) p ++ frames_of every (a + 1) ps) next
    ∙ ap (λ (xs : List Posting). frame_of ((b + 1) % every == 0 || is_none ps) p ++ xs) (frames_of-same every (a + 1) (b + 1) ps next)

-- So far as the packets `rest` are not posted yet
pub record FramesPosted (every before : ℕ) (packets : List (List Buffer)) (old : DriverSide) (frames : ℕ) (rest : List (List Buffer)) (now : DriverSide) : Type 0 where
  pub done : List Posting
  pub went : PostedAll old done now
  pub whole : are_whole (posted now) ≡ true
  pub all : done ++ frames_of every frames rest ≡ frames_of every before packets
  pub below : frames < every
  pub counted : (frames + length rest) % every ≡ (before + length packets) % every
  pub are_packets : All IsPacket rest
  pub needs : length (posted now) + segment_count rest ≡ length (posted old) + segment_count packets

pub none_posted : (every before : ℕ) (packets : List (List Buffer)) (old : DriverSide) → are_whole (posted old) ≡ true → before < every → All IsPacket packets
    → FramesPosted every before packets old before packets old
none_posted every before packets old whole below are = record {
  done = [];
  went = none_posted_on old;
  whole = whole;
  all = refl;
  below = below;
  counted = refl;
  are_packets = are;
  needs = refl;
}

pub postings_of-length : (paylen : ℕ) (rs : Bool) (p : List Buffer) → length (postings_of paylen rs p) ≡ length p
postings_of-length paylen rs [] = refl
postings_of-length paylen rs (b ∷ []) = refl
postings_of-length paylen rs (b ∷ c ∷ bs) = let rest = postings_of-length paylen rs (c ∷ bs) in omega (arith, rest)

module _ {every before : ℕ} {packets : List (List Buffer)} {old now : DriverSide} {frames : ℕ} where
  -- one more frame
  pub one_posted : (p : List Buffer) (rest : List (List Buffer)) (frames' : ℕ) (rs : Bool) (new : DriverSide) → FramesPosted every before packets old frames (p ∷ rest) now
      → frames' ≡ (frames + 1) % every → frames' < every → rs ≡ (frames' == 0 || is_none rest) → PostedAll now (frame_of rs p) new → are_whole (posted new) ≡ true
      → FramesPosted every before packets old frames' rest new
  one_posted p rest frames' rs new h next below rs_is went whole =
      let rs_as = rs_is ∙ ap (λ (n : ℕ). n == 0 || is_none rest) next in
      let same = ap (λ (n : ℕ). n % every) next ∙ mod-mod (frames + 1) every in
      let grew = ap (λ (x : TxDriven). length x.posted) went.did in
      let segments = postings_of-length (length (bytes_of p)) rs p in
      let needs = h.needs in
      record {
        done = h.done ++ frame_of rs p;
        went = posted_on h.went went;
        whole = whole;
        all = append_assoc h.done (frame_of rs p) (frames_of every frames' rest)
            ∙ ap (λ (b : Bool). h.done ++ (frame_of b p ++ frames_of every frames' rest)) rs_as
            ∙ ap (λ (xs : List Posting). h.done ++ (frame_of ((frames + 1) % every == 0 || is_none rest) p ++ xs)) (frames_of-same every frames' (frames + 1) rest same)
            ∙ h.all;
        below = below;
        counted = ap (λ (n : ℕ). (n + length rest) % every) next ∙ mod-add-mod (frames + 1) every (length rest)
            ∙ ap (λ (n : ℕ). n % every) (let e : frames + 1 + length rest ≡ frames + length (p ∷ rest) = omega arith in e) ∙ h.counted;
        are_packets = All-tail IsPacket p rest h.are_packets;
        needs = omega (arith, grew, segments, needs, length-append (posted now) (frame_of rs p));
      }

  -- none is left
  pub all_posted : (h : FramesPosted every before packets old frames [] now) → PostedAll old (frames_of every before packets) now
  all_posted h = subst (λ (xs : List Posting). PostedAll old xs now) (sym (append-nil h.done) ∙ h.all) h.went

  pub all_counted : (h : FramesPosted every before packets old frames [] now) → frames ≡ (before + length packets) % every
  all_counted h = sym (mod-eq_of_lt h.below) ∙ ap (λ (n : ℕ). n % every) (let e : frames ≡ frames + 0 = omega arith in e) ∙ h.counted

-- the count after this one, as it is kept
wrapped : (every f : ℕ) (last : Bool) → f < every → ((f + 1) == every) ≡ last → (if last then 0 else (f + 1)) ≡ (f + 1) % every
wrapped every f true below e = sym (ap (λ (n : ℕ). n % every) (eqb-true (f + 1) every e) ∙ mod_self every)
wrapped every f false below e = let other = eqb-false (f + 1) every e in let less : f + 1 < every = omega arith in sym (mod-eq_of_lt less)

pub next_count : (every f : ℕ) → f < every → place_next every f ≡ (f + 1) % every
next_count every f below = wrapped every f ((f + 1) == every) below refl

-- where a report is asked for
none_left : (k : ℕ) (rest : List (List Buffer)) → k ≡ length rest → (k == 0) ≡ is_none rest
none_left k [] e = ap (λ (n : ℕ). n == 0) e
none_left k (p ∷ ps) e = ne_eqb k 0 (omega (arith, e))

pub asks_multiple : (f : ℕ) (rs : Bool) (rest : List (List Buffer)) → f ≡ 0 → rs ≡ (f == 0) → rs ≡ (f == 0 || is_none rest)
asks_multiple f rs rest zero e = e ∙ ap (λ (n : ℕ). n == 0) zero ∙ sym (ap (λ (n : ℕ). n == 0 || is_none rest) zero)

pub asks_last : (f k : ℕ) (rs : Bool) (rest : List (List Buffer)) → f ≢ 0 → k ≡ length rest → rs ≡ (k == 0) → rs ≡ (f == 0 || is_none rest)
asks_last f k rs rest more count e = e ∙ none_left k rest count ∙ sym (ap (λ (b : Bool). b || is_none rest) (ne_eqb f 0 more))
