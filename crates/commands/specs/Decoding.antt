-- The results of `decode`.
use Rattle.std.specs.Prelude.{◌≡◌, ℕ, List, [], ◌∷◌, ◌++◌, codes, Result, Ok, Err}
use Rattle.refusals.specs.declared.errors.DescError.{DescError}
use Rattle.descriptor.specs.Layout.{KeepsBytes}
use Rattle.descriptor.specs.Layout as layout
use Rattle.descriptor.specs.Receive.{rx_read_form, rx_read_bytes, rx_back_form, rx_back_bytes}
use Rattle.descriptor.specs.Transmit.{tx_read_form, tx_read_bytes, tx_back_form, tx_back_bytes}
use Rattle.descriptor.specs.Texts.{rx_read_text, rx_back_text, tx_read_text, tx_back_text}
use Rattle.descriptor.specs.Refusal.{IsLowest}
use Rattle.requests.specs.declared.decode.DescriptorForm.{DescriptorForm}
use Rattle.requests.specs.declared.decode.DescriptorForm.TheVariants.{RxRead, RxBack, TxRead, TxBack}
use Rattle.requests.specs.declared.refusal.Refusal.{Refusal}
use Rattle.requests.specs.declared.refusal.Refusal.TheVariants.{Descriptor}

-- the datasheet's layout of a form
abbrev pub figure_of : DescriptorForm → layout.WordLayout
figure_of RxRead = rx_read_form
figure_of RxBack = rx_back_form
figure_of TxRead = tx_read_form
figure_of TxBack = tx_back_form

-- the line of the descriptor with these bytes
abbrev pub IsLineOf : {D : Type 0} → (D → List ℕ) → (D → List ℕ) → List ℕ → List ℕ → Type 0
IsLineOf {D} bytes_of text_of bytes line = (d : D) × (bytes ≡ bytes_of d) × (line ≡ text_of d ++ 10 ∷ [])

abbrev pub IsLine : DescriptorForm → List ℕ → List ℕ → Type 0
IsLine RxRead = IsLineOf rx_read_bytes rx_read_text
IsLine RxBack = IsLineOf rx_back_bytes rx_back_text
IsLine TxRead = IsLineOf tx_read_bytes tx_read_text
IsLine TxBack = IsLineOf tx_back_bytes tx_back_text

-- the result for bytes in a form: the line of the descriptor, or the lowest descriptor refusal that applies
abbrev pub IsRead : DescriptorForm → List ℕ → Result (List ℕ) Refusal → Type 0
IsRead form bytes (Ok line) = IsLine form bytes line
IsRead form bytes (Err refusal) = (e : DescError) × (refusal ≡ Descriptor e) × IsLowest (KeepsBytes (figure_of form) bytes) e

-- the result for an argument's bytes in a form; if the argument is refused, its refusal
abbrev pub IsDecoded : DescriptorForm → Result (List ℕ) Refusal → Result (List ℕ) Refusal → Type 0
IsDecoded form (Ok bytes) answer = IsRead form bytes answer
IsDecoded form (Err refusal) answer = answer ≡ Err refusal
