-- What may be posted first, and behind a first half, from numbers alone.
use Rattle.std.proofs.Common.{◌≡◌, ℕ, zero, suc, ◌+◌, ◌<◌, ◌≤◌, Bool, true, false, [], ◌∷◌, length, Some, sym, refl, ap, ◌∙◌, arith, append-nil}
use Rattle.std.specs.Prelude.{slice_get}
use Rattle.std.proofs.lemmas.Option.{none-some, same_Some}
use Rattle.ring_model.specs.shared.Frames.{Bytes, join}
use Rattle.ring_model.specs.transmit.Ring.{Posting, new_posting, carried}
use Rattle.ring_model.specs.transmit.Frames.{MayFollow}

-- what a first posting owes, as numbers
pub record Begins (len : ℕ) (eop rs : Bool) (paylen : ℕ) : Type 0 where
  pub some_bytes : 0 < len
  pub few_bytes : len ≤ 2048
  pub asks_at_end : rs ≡ true → eop ≡ true
  pub long_enough : 14 ≤ paylen
  pub short_enough : paylen ≤ 15000
  pub within : len ≤ paylen
  pub whole : eop ≡ true → len ≡ paylen

pub begins : (len : ℕ) (eop rs : Bool) (paylen : ℕ) → Begins len eop rs paylen → (f : Bytes) → length f ≡ len → MayFollow 8 [] (new_posting 0 f eop rs paylen)
begins len eop rs paylen b f l = let some = b.some_bytes in let few = b.few_bytes in let low = b.long_enough in let high = b.short_enough in let in_it = b.within in record {
  follows = record { some_bytes = omega arith; few_bytes = omega arith; segments = omega arith; descriptors = omega arith; most = omega arith; least = λ e. let w = b.whole e in omega arith };
  asks_at_end = b.asks_at_end;
  long_enough = b.long_enough;
  short_enough = b.short_enough;
  same_frame = λ k q e. absurd (none-some q e);
  within = omega arith;
  whole = λ e. let w = b.whole e in omega arith;
}

pub begun : (len : ℕ) (eop rs : Bool) (paylen : ℕ) (f : Bytes) → length f ≡ len → MayFollow 8 [] (new_posting 0 f eop rs paylen) → Begins len eop rs paylen
begun len eop rs paylen f l m = let s = m.follows in let some = s.some_bytes in let few = s.few_bytes in let in_it = m.within in record {
  some_bytes = omega arith;
  few_bytes = omega arith;
  asks_at_end = m.asks_at_end;
  long_enough = m.long_enough;
  short_enough = m.short_enough;
  within = omega arith;
  whole = λ e. let w = m.whole e in omega arith;
}

-- behind 60 bytes of a frame with PAYLEN 120
pub record GoesOn (len : ℕ) (eop rs : Bool) (paylen : ℕ) : Type 0 where
  pub some_bytes : 0 < len
  pub few_bytes : len ≤ 2048
  pub asks_at_end : rs ≡ true → eop ≡ true
  pub same_frame : 120 ≡ paylen
  pub within : 60 + len ≤ 120
  pub whole : eop ≡ true → 60 + len ≡ 120

joined : (g : Bytes) → length g ≡ 60 → length (join carried (new_posting 0 g false false 120 ∷ [])) ≡ 60
joined g l = ap length (append-nil g) ∙ l

-- the only posting before has PAYLEN 120
one_before : (g : Bytes) (k : ℕ) (q : Posting Bytes) → slice_get (new_posting 0 g false false 120 ∷ []) k ≡ Some q → 120 ≡ q.paylen
one_before g zero q e = ap (λ (p : Posting Bytes). p.paylen) (same_Some (new_posting 0 g false false 120) q e)
one_before g (suc k) q e = absurd (none-some q e)

pub goes_on : (len : ℕ) (eop rs : Bool) (paylen : ℕ) → GoesOn len eop rs paylen → (g f : Bytes) → length g ≡ 60 → length f ≡ len → MayFollow 8 (new_posting 0 g false false 120 ∷ []) (new_posting 1 f eop rs paylen)
goes_on len eop rs paylen b g f l m = let j = joined g l in let some = b.some_bytes in let few = b.few_bytes in let same = b.same_frame in let in_it = b.within in record {
  follows = record { some_bytes = omega arith; few_bytes = omega arith; segments = omega arith; descriptors = omega arith; most = omega arith; least = λ e. omega arith };
  asks_at_end = b.asks_at_end;
  long_enough = omega arith;
  short_enough = omega arith;
  same_frame = λ k q e. sym (one_before g k q e) ∙ b.same_frame;
  within = omega arith;
  whole = λ e. let w = b.whole e in omega arith;
}

pub went_on : (len : ℕ) (eop rs : Bool) (paylen : ℕ) (g f : Bytes) → length g ≡ 60 → length f ≡ len → MayFollow 8 (new_posting 0 g false false 120 ∷ []) (new_posting 1 f eop rs paylen) → GoesOn len eop rs paylen
went_on len eop rs paylen g f l m may = let j = joined g l in let s = may.follows in let some = s.some_bytes in let few = s.few_bytes in
    let same : 120 ≡ paylen = may.same_frame zero (new_posting 0 g false false 120) refl in let in_it = may.within in record {
      some_bytes = omega arith;
      few_bytes = omega arith;
      asks_at_end = may.asks_at_end;
      same_frame = same;
      within = omega arith;
      whole = λ e. let w = may.whole e in omega arith;
    }
