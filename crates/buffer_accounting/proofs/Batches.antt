-- A batch of either driver leaves the buffers that a worker has the same ones.
use Rattle.std.proofs.Common.{◌≡◌, ◌∙◌, ℕ, ◌+◌, List, [], ◌∷◌, ◌++◌, map, take, reverse, refl, sym, ap, arith}
use Rattle.std.proofs.lemmas.List.{map-append}
use Rattle.buffer_pool.specs.Buffer.{Buffer}
use Rattle.ring_model.specs.shared.Segments.{Segment}
use Rattle.ring_model.specs.shared.Frames.{Bytes}
use Rattle.driver.specs.Reclaiming.{out_of}
use Rattle.driver.specs.receive.Batches.{GrewBy}
use Rattle.driver.specs.receive.Chains.{going_on, segments_of, segments_in}
use Rattle.driver.specs.receive.Receiver.{Receiver, hands}
use Rattle.driver.specs.receive.Returns.{itself, numbers_of}
use Rattle.driver.specs.transmit.Batches as transmit
use Rattle.driver.specs.transmit.Frames.{numbers_in}
use Rattle.driver.specs.transmit.Transmitter.{Transmitter, sending}
use Rattle.pool.specs.Hands.{total}
use Rattle.pool.proofs.Totals.{total-append}
use Rattle.pool.proofs.Accounts.{same-members}
use Rattle.buffer_accounting.specs.Lent.{lent, with_transmitter}
use Rattle.buffer_accounting.specs.Laws.{BatchesMove}
use Rattle.buffer_accounting.proofs.Weights.{total-reverse, total-receiver, total-lent, total-packets, total-cut}

abbrev of_segments : List (Segment Bytes) → List ℕ
of_segments segments = map (λ s. s.number) segments

-- buffers have the numbers of the segments in them
numbers-going_on : (bufs : List Buffer) → of_segments (going_on bufs) ≡ numbers_of bufs
numbers-going_on [] = refl
numbers-going_on (b ∷ bufs) = ap (λ (l : List ℕ). b.number ∷ l) (numbers-going_on bufs)

numbers-segments_of : (bufs : List Buffer) → of_segments (segments_of bufs) ≡ numbers_of bufs
numbers-segments_of [] = refl
numbers-segments_of (b ∷ []) = refl
numbers-segments_of (b ∷ c ∷ bufs) = ap (λ (l : List ℕ). b.number ∷ l) (numbers-segments_of (c ∷ bufs))

numbers-segments_in : (ps : List (List Buffer)) → of_segments (segments_in ps) ≡ numbers_in ps
numbers-segments_in [] = refl
numbers-segments_in (p ∷ ps) = map-append (λ (s : Segment Bytes). s.number) (segments_of p) (segments_in ps)
    ∙ (ap (λ (l : List ℕ). l ++ of_segments (segments_in ps)) (numbers-segments_of p) ∙ ap (λ (l : List ℕ). numbers_of p ++ l) (numbers-segments_in ps))

module _ (h : ℕ → ℕ) where
  -- the chain before and the segments taken weigh what the packets and the chain after do
  total-chained : (before after : List Buffer) (segments : List (Segment Bytes)) (packets : List (List Buffer)) → going_on before ++ segments ≡ segments_in packets ++ going_on after
      → total h (numbers_of before) + total h (of_segments segments) ≡ total h (numbers_in packets) + total h (numbers_of after)
  total-chained before after segments packets e =
      let number : Segment Bytes → ℕ = λ s. s.number in
      let left = map-append number (going_on before) segments ∙ ap (λ (l : List ℕ). l ++ of_segments segments) (numbers-going_on before) in
      let right = map-append number (segments_in packets) (going_on after)
      ∙ (ap (λ (l : List ℕ). l ++ of_segments (going_on after)) (numbers-segments_in packets) ∙ ap (λ (l : List ℕ). numbers_in packets ++ l) (numbers-going_on after)) in
      sym (total-append h (numbers_of before) (of_segments segments))
      ∙ (ap (total h) (sym left ∙ (ap (map number) e ∙ right)) ∙ total-append h (numbers_in packets) (numbers_of after))

  pub total-received : (old new : Receiver) (tx : Transmitter) (had has : List ℕ) (before after : List (List Buffer)) → GrewBy (hands old had before) (hands new has after)
      → total h (lent old tx had before) ≡ total h (lent new tx has after)
  total-received old new tx had has before after g = omega (
    arith,
    total-lent h old tx had before,
    total-lent h new tx has after,
    total-receiver h old,
    total-receiver h new,
    ap (total h) g.stash,
    total-append h g.numbers has,
    ap (total h) g.out,
    total-append h (out_of itself old.end) g.numbers,
    total-append h (of_segments g.segments) (out_of itself new.end),
    total-chained old.chain new.chain g.segments g.packets g.chained,
    ap (λ (l : List (List Buffer)). total h (numbers_in l)) g.appended,
    total-packets h before g.packets,
  )

  pub total-cleaned : (rx : Receiver) (old new : Transmitter) (had has : List ℕ) (packets : List (List Buffer)) → transmit.CleanedInto old.end had new.end has
      → total h (lent rx old had packets) ≡ total h (lent rx new has packets)
  total-cleaned rx old new had has packets c = omega (
    arith,
    total-lent h rx old had packets,
    total-lent h rx new has packets,
    ap (total h) c.out,
    total-append h c.numbers (with_transmitter new),
    ap (total h) c.stashed,
    total-append h (reverse c.numbers) had,
    total-reverse h c.numbers,
  )

  pub total-sent : (count : ℕ) (rx : Receiver) (old new : Transmitter) (had has : List ℕ) (before after : List (List Buffer)) → transmit.Batched count (sending old had before) (sending new has after)
      → total h (lent rx old had before) ≡ total h (lent rx new has after)
  total-sent count rx old new had has before after b = omega (
    arith,
    total-lent h rx old had before,
    total-lent h rx new has after,
    ap (total h) b.cleaning.stashed,
    total-append h (reverse b.cleaning.numbers) had,
    total-reverse h b.cleaning.numbers,
    ap (total h) b.out,
    total-append h (with_transmitter old) (numbers_in (take count before)),
    total-append h b.cleaning.numbers (with_transmitter new),
    total-cut h count before,
    ap (λ (l : List (List Buffer)). total h (numbers_in l)) b.posting.left,
  )

pub batches-move : BatchesMove
batches-move = record {
  received = λ old new tx had has before after g. same-members (lent old tx had before) (lent new tx has after) (λ h. total-received h old new tx had has before after g);
  sent = λ count rx old new had has before after b. same-members (lent rx old had before) (lent rx new has after) (λ h. total-sent h count rx old new had has before after b);
  cleaned = λ rx old new had has packets c. same-members (lent rx old had packets) (lent rx new has packets) (λ h. total-cleaned h rx old new had has packets c);
}
