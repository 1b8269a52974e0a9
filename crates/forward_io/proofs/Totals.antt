-- Sums of counts with one flow more.
use Rattle.std.proofs.Common.{◌≡◌, ◌∙◌, ⊎_elim, ℕ, ◌+◌, ◌-◌, ◌^◌, ◌<◌, ◌≤◌, List, [], ◌∷◌, ◌++◌, ap, ap₂, sym, arith, length, take, get_or}
use Rattle.std.specs.Prelude.{min, sum_by}
use Rattle.std.proofs.Math.Nat.{min-eq_left, min-eq_right}
use Rattle.std.proofs.lemmas.Bool.{cases_lt}
use Rattle.std.proofs.lemmas.List.{take_more}
use Rattle.std.proofs.lemmas.List.Sums.{sum_by_push}
use Rattle.forwarding.specs.declared.report.FlowReport.{FlowReport}
use Rattle.forward_io.specs.Objects.{sums_of, total}
use Rattle.forward_io.specs.Sums.{added, with_came, with_left}

abbrev most : ℕ
most = 2 ^ 64 - 1

saturated : (a b : ℕ) → added (min a most) b ≡ min (a + b) most
saturated a b = ⊎_elim
    (λ (low : a < 2 ^ 64 - 1). ap (λ (m : ℕ). added m b) (min-eq_left {n = a} {m = 2 ^ 64 - 1} (omega (arith, low))))
    (λ (high : 2 ^ 64 - 1 ≤ a).
    ap (λ (m : ℕ). added m b) (min-eq_right {n = 2 ^ 64 - 1} {m = a} high)
    ∙ min-eq_right {n = 2 ^ 64 - 1} {m = 2 ^ 64 - 1 + b} (omega arith) ∙ sym (min-eq_right {n = 2 ^ 64 - 1} {m = a + b} (omega (arith, high))))
    (cases_lt a (2 ^ 64 - 1))

-- the total with one flow more
total-more : (count : FlowReport → ℕ) (flows : List FlowReport) (k : ℕ) (r : FlowReport) → k < length flows → r ≡ get_or flows k r
    → added (total count (take k flows)) (count r) ≡ total count (take (k + 1) flows)
total-more count flows k r low here =
    saturated (sum_by count (take k flows)) (count r)
    ∙ sym (ap (total count) (take_more flows k r low ∙ ap (λ (x : FlowReport). take k flows ++ x ∷ []) (sym here))
    ∙ ap (λ (n : ℕ). min n (2 ^ 64 - 1)) (sum_by_push count (take k flows) r))

module _ (came left : List FlowReport) (k : ℕ) (r : FlowReport) where
  pub came-more : k < length came → r ≡ get_or came k r → with_came (sums_of (take k came) left) r ≡ sums_of (take (k + 1) came) left
  came-more low here =
      let packets = total-more (λ q. q.tally.stored) came k r low here in
      let bytes = total-more (λ q. q.stored_bytes) came k r low here in
      let dropped = total-more (λ q. q.tally.dropped) came k r low here in
      ap (λ (n : ℕ). record (sums_of (take k came) left) { rx_packets = n; rx_bytes = added (total (λ q. q.stored_bytes) (take k came)) r.stored_bytes; rx_dropped = added (total (λ q. q.tally.dropped) (take k came)) r.tally.dropped }) packets
      ∙ ap₂ (λ (m n : ℕ). record (sums_of (take k came) left) { rx_packets = total (λ q. q.tally.stored) (take (k + 1) came); rx_bytes = m; rx_dropped = n }) bytes dropped

  pub left-more : k < length left → r ≡ get_or left k r → with_left (sums_of came (take k left)) r ≡ sums_of came (take (k + 1) left)
  left-more low here =
      let packets = total-more (λ q. q.sent) left k r low here in
      let bytes = total-more (λ q. q.sent_bytes) left k r low here in
      let dropped = total-more (λ q. q.driven.tx_dropped) left k r low here in
      ap (λ (n : ℕ). record (sums_of came (take k left)) { tx_packets = n; tx_bytes = added (total (λ q. q.sent_bytes) (take k left)) r.sent_bytes; tx_dropped = added (total (λ q. q.driven.tx_dropped) (take k left)) r.driven.tx_dropped }) packets
      ∙ ap₂ (λ (m n : ℕ). record (sums_of came (take k left)) { tx_packets = total (λ q. q.sent) (take (k + 1) left); tx_bytes = m; tx_dropped = n }) bytes dropped
