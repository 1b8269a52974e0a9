-- What is out of a stock, as a buffer is posted and as the oldest comes back.
use Rattle.std.proofs.Common.{◌≡◌, ◌∙◌, ℕ, ◌+◌, ◌≤◌, Bool, List, [], ◌∷◌, ◌++◌, length, map, drop, Some, IsPermutation, sym, ap, subst, arith, length-append}
use Rattle.std.specs.Prelude.{slice_get}
use Rattle.std.specs.List.{range_with_len}
use Rattle.std.proofs.lemmas.List.{map-append, drop-append-le}
use Rattle.std.proofs.lemmas.List.Sorted.{IsPermutation-append_comm, IsPermutation-append_right, IsPermutation-trans}
use Rattle.buffer_pool.specs.Buffer.{Buffer}
use Rattle.buffer_pool.specs.Stocked.{Stocked, Shares}
use Rattle.rx_ring.specs.Records.{RxDriven}
use Rattle.rx_ring.specs.Ends.{DriverSide, driver_record, posted, taken, returned}
use Rattle.rx_ring.specs.Calls.{segment, TookSegment}
use Rattle.rx_ring.specs.Meeting.{out_of}
use Rattle.driver.proofs.Returning.{from_item}

abbrev itself : ℕ → ℕ
itself n = n

-- the numbers of the buffers that are out, as the record tells them
abbrev pub out_in : RxDriven → List ℕ
out_in x = map itself (drop (length x.reaped + x.reclaimed) x.posted)

-- the buffer that was taken from the stock is posted behind those that are out
pub shared-posted : (s : Stocked) (number : ℕ) (d new : DriverSide) → returned d ≤ length (posted d)
    → driver_record new ≡ record (driver_record d) { posted = posted d ++ number ∷ [] } → Shares s (number ∷ out_of d) → Shares s (out_of new)
shared-posted s number d new within did h = subst (Shares s) (sym grew)
    (IsPermutation-trans (range_with_len s.first s.count) (s.numbers ++ (number ∷ out_of d)) (s.numbers ++ (out_of d ++ number ∷ [])) h
    (IsPermutation-append_right s.numbers (number ∷ out_of d) (out_of d ++ number ∷ []) (IsPermutation-append_comm (number ∷ []) (out_of d))))
  where
    grew : out_of new ≡ out_of d ++ number ∷ []
    grew = ap out_in did ∙ (ap (map itself) (drop-append-le (returned d) (posted d) (number ∷ []) within) ∙ map-append itself (drop (returned d) (posted d)) (number ∷ []))

-- the buffer of a segment was the oldest that was out
pub out-taken : (d new : DriverSide) (buf : Buffer) (eop : Bool) → TookSegment d buf eop new → out_of d ≡ buf.number ∷ out_of new
out-taken d new buf eop t = ap (map itself) (from_item (posted d) (returned d) buf.number oldest)
    ∙ (ap (λ (k : ℕ). buf.number ∷ map itself (drop k (posted d))) after
    ∙ ap (λ (x : RxDriven). buf.number ∷ map itself (drop (returned new) x.posted)) (sym t.grew))
  where
    none_back : length (taken d) ≡ returned d
    none_back = let e = t.none_back in omega arith

    oldest : slice_get (posted d) (returned d) ≡ Some buf.number
    oldest = subst (λ (k : ℕ). slice_get (posted d) k ≡ Some buf.number) none_back t.number

    after : returned d + 1 ≡ returned new
    after = let e = ap (λ (x : RxDriven). length x.reaped + x.reclaimed) t.grew in let l = length-append (taken d) (segment buf eop ∷ []) in omega arith

-- the oldest comes back to its stock
pub shared-taken : (s : Stocked) (d new : DriverSide) (buf : Buffer) (eop : Bool) → TookSegment d buf eop new → Shares s (out_of d) → Shares s (buf.number ∷ out_of new)
shared-taken s d new buf eop t h = subst (Shares s) (out-taken d new buf eop t) h
