-- A buffer's address, as a word of fields.
use Rattle.std.proofs.Common.{◌≡◌, ◌≢◌, ℕ, ◌*◌, ◌/◌, ◌%◌, ◌<◌, ◌^◌, refl, arith}
use Rattle.refusals.specs.declared.errors.DescError.TheVariants.{Reserved}
use Rattle.descriptor.specs.Address.{address_fields}
use Rattle.descriptor.specs.Layout.{KeepsField, EachField}
use Rattle.descriptor.proofs.Fields.{Tiles, word_of-settled}

pub address-tiles : Tiles 0 address_fields
address-tiles = (refl, (refl, (refl, refl)))

pub address-other : (address number : ℕ) → address < 2 ^ 64 → number ≡ address / 2 ^ 11 % 2 ^ 16 → address ≢ 2048 * number
    → ¬ EachField (KeepsField Reserved address) address_fields
address-other address number h is_number other keeps =
    let sum = word_of-settled address h address_fields address-tiles keeps in
    other (omega arith)

pub address-kept : (address number : ℕ) → number < 2 ^ 16 → address ≡ 2048 * number → EachField (KeepsField Reserved address) address_fields
address-kept address number h e = (omega arith, (tt, (omega arith, tt)))
