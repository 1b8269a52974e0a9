-- More hex digits than a frame has.
use Rattle.std.proofs.Common.{◌≡◌, ◌⊎◌, inl, inr, ℕ, ◌*◌, ◌%◌, ◌<◌, true, false, nat_le, List, length, Result, Ok, Err, refl, sym, ◌∙◌, arith}
use Rattle.std.specs.List.{list_all}
use Rattle.std.proofs.lemmas.Bool.{and_right, lt-leb}
use Rattle.std.proofs.lemmas.List.Sums.{AllPass-from_list_all, list_all-from_AllPass}
use Rattle.hex.specs.Hex.{decode_of, is_hex_digit}
use Rattle.hex.specs.declared.error.FromHexError.{FromHexError}
use Rattle.hex.proofs.HexLemmas.{decode_of-digits, decode_of-ok}
use Rattle.limits.specs.declared.profile.TheConstants.{LEAST_FRAME, MOST_FRAME}
use Rattle.refusals.specs.declared.errors.ScriptError.TheVariants.{Bytes, FrameLength}
use Rattle.wire_script.specs.Line.{hex_in, sized}

-- a value or an error
either : (r : Result (List ℕ) FromHexError) → ((bytes : List ℕ) × (r ≡ Ok bytes)) ⊎ ((e : FromHexError) × (r ≡ Err e))
either (Ok bytes) = inl (bytes, refl)
either (Err e) = inr (e, refl)

-- pairs of digits
pub long_digits : (k : ℕ) (field : List ℕ) → 2 * MOST_FRAME < length field → length field % 2 ≡ 0 → list_all is_hex_digit field ≡ true
    → hex_in k field ≡ Err (FrameLength k)
unfolding hex_in sized
long_digits k field long even all =
    let digits = AllPass-from_list_all is_hex_digit field all in
    let read = decode_of-digits field even digits in
    let whole = decode_of-ok field read.0 read.1 in
    let above : MOST_FRAME < length read.0 = omega (arith, whole.2) in
    rw (read.1, lt-leb (length read.0) MOST_FRAME above, and_right (nat_le LEAST_FRAME (length read.0)) false refl) refl

-- anything else
pub no_digits : (k : ℕ) (field : List ℕ) → (length field % 2 ≡ 0 → list_all is_hex_digit field ≡ false) → hex_in k field ≡ Err (Bytes k)
unfolding hex_in
no_digits k field other =
    elim (either (decode_of field)) [
      | inl read ↦
          let whole = decode_of-ok field read.0 read.1 in
          cc (sym (other whole.0) ∙ list_all-from_AllPass is_hex_digit field whole.1)
      | inr bad ↦ rw bad.1 refl
    ]
