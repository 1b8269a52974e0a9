-- The bytes of an argument of hex digits.
use Rattle.std.specs.Prelude.{List, ℕ, Result}
use Rattle.std.specs.Result.{result_map_both}
use Rattle.hex.specs.Hex.{decode_of}
use Rattle.requests.specs.declared.refusal.Refusal.{Refusal}
use Rattle.requests.specs.declared.refusal.Refusal.TheVariants.{Hex}

-- the bytes of pairs of digits of either case, or `Hex`; memory is left out
abbrev pub bytes_in : List ℕ → Result (List ℕ) Refusal
bytes_in digits = result_map_both (λ bytes. bytes) (λ _. Hex) (decode_of digits)
