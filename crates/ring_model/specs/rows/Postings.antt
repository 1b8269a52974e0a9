-- Worked rows of postings: what may be posted first, and after the first 60 bytes of a frame, for any bytes.
use Rattle.std.specs.Prelude.{◌≡◌, ℕ, Bool, true, false, List, [], ◌∷◌, length}
use Rattle.ring_model.specs.shared.Frames.{Bytes}
use Rattle.ring_model.specs.transmit.Ring.{Posting, new_posting}
use Rattle.ring_model.specs.transmit.Frames.{MayFollow}

-- In a ring of 8, a first posting of `len` bytes, with EOP, RS and PAYLEN.
abbrev MayBegin : ℕ → Bool → Bool → ℕ → Type 0
MayBegin len eop rs paylen = (f : Bytes) → length f ≡ len → MayFollow 8 [] (new_posting 0 f eop rs paylen)

abbrev MayNotBegin : ℕ → Bool → Bool → ℕ → Type 0
MayNotBegin len eop rs paylen = (f : Bytes) → length f ≡ len → MayFollow 8 [] (new_posting 0 f eop rs paylen) → ⊥

-- The first 60 bytes of a frame with PAYLEN 120.
abbrev half : Bytes → List (Posting Bytes)
half g = new_posting 0 g false false 120 ∷ []

abbrev MayGoOn : ℕ → Bool → Bool → ℕ → Type 0
MayGoOn len eop rs paylen = (g f : Bytes) → length g ≡ 60 → length f ≡ len → MayFollow 8 (half g) (new_posting 1 f eop rs paylen)

abbrev MayNotGoOn : ℕ → Bool → Bool → ℕ → Type 0
MayNotGoOn len eop rs paylen = (g f : Bytes) → length g ≡ 60 → length f ≡ len → MayFollow 8 (half g) (new_posting 1 f eop rs paylen) → ⊥

pub record PostingRows : Type 0 where
  -- A frame has 14 to 15,000 bytes.
  pub paylen_13 : MayNotBegin 1 false false 13
  pub paylen_14 : MayBegin 1 false false 14
  pub paylen_15_000 : MayBegin 1 false false 15000
  pub paylen_15_001 : MayNotBegin 1 false false 15001
  pub shortest : MayBegin 14 true true 14
  pub too_short : MayNotBegin 13 true true 13
  -- A segment has 1 to 2,048 bytes.
  pub nothing : MayNotBegin 0 false false 60
  pub full_buffer : MayBegin 2048 false false 15000
  pub quiesced_full : MayNotBegin 2049 false false 15000
  -- Only the last segment of a frame may ask for a report.
  pub report_at_end : MayBegin 60 true true 60
  pub no_report : MayBegin 60 true false 60
  pub report_too_early : MayNotBegin 60 false true 120
  -- The PAYLEN of each segment is the length of its whole frame.
  pub whole : MayNotBegin 60 true true 61
  pub rest : MayGoOn 60 true true 120
  pub more : MayGoOn 59 false false 120
  pub all_but_end : MayGoOn 60 false false 120
  pub other_paylen : MayNotGoOn 30 false false 121
  pub lesser_paylen : MayNotGoOn 30 false false 119
  pub past_the_end : MayNotGoOn 61 false false 120
  pub short_of_it : MayNotGoOn 59 true true 120
