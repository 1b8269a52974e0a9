-- The words of a descriptor's form.
use Rattle.std.specs.Prelude.{ℕ, List, codes}
use Rattle.requests.specs.declared.decode.DescriptorForm.{DescriptorForm}
use Rattle.requests.specs.declared.decode.DescriptorForm.TheVariants.{RxRead, RxBack, TxRead, TxBack}

-- the two words that name a form: its ring, and its format
abbrev pub ring_word : DescriptorForm → List ℕ
ring_word RxRead = codes "rx"
ring_word RxBack = codes "rx"
ring_word TxRead = codes "tx"
ring_word TxBack = codes "tx"

abbrev pub format_word : DescriptorForm → List ℕ
format_word RxRead = codes "read"
format_word RxBack = codes "back"
format_word TxRead = codes "read"
format_word TxBack = codes "back"
