-- The write-back format of a transmit descriptor.
use Rattle.std.proofs.Common.{◌≡◌, ℕ, Result, refl, rules}
use Rattle.refusals.specs.declared.errors.DescError.{DescError}
use Rattle.refusals.specs.declared.errors.DescError.TheVariants.{Length, Reserved, Kind, Size}
use Rattle.descriptor.specs.declared.tx_back.TxBack.{TxBack}
use Rattle.descriptor.specs.Layout.{KeepsWords}
use Rattle.descriptor.specs.Transmit.{tx_back_form, no_numbers, tx_back_first, tx_back_second}
use Rattle.descriptor.proofs.Codec.{IsCodec}
use Rattle.descriptor.proofs.Fields.{IsKept}
use Rattle.descriptor.proofs.Refusals.{Decodes}

tx_back-kept : (e : DescError) → IsKept tx_back_form no_numbers e
tx_back-kept Length = record { first = λ w made. search rules; second = λ w made. search rules }
tx_back-kept Reserved = record { first = λ w made. search rules; second = λ w made. search rules }
tx_back-kept Kind = record { first = λ w made. search rules; second = λ w made. search rules }
tx_back-kept Size = record { first = λ w made. search rules; second = λ w made. search rules }

pub tx_back-codec : IsCodec {D = TxBack} tx_back_form (λ _. no_numbers)
tx_back-codec = record {
  whole = record { first = (refl, refl); second = (refl, (refl, (refl, (refl, refl)))) };
  narrow = λ d. record { first = search rules; second = search rules };
  kept = λ d. tx_back-kept;
  alone = λ d other h. refl;
}

abbrev pub TxBackDecodes : ℕ → ℕ → Result TxBack DescError → Type 0
TxBackDecodes first second r = Decodes (λ d. (first ≡ tx_back_first d) × (second ≡ tx_back_second d)) (KeepsWords tx_back_form first second) r
