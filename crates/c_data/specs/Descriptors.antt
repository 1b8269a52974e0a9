-- The fields of a descriptor with its bytes, and the refusals of bytes that are no descriptor.
use Rattle.std.specs.Prelude.{◌≡◌, ℕ, ◌<◌, ◌≤◌, ◌^◌, true, List}
use Rattle.limits.specs.declared.profile.TheConstants.{BUFFER_BYTES, LEAST_FRAME, MOST_FRAME}
use Rattle.refusals.specs.declared.errors.DescError.{DescError}
use Rattle.descriptor.specs.Layout.{AreBytes, WordLayout, KeepsBytes}
use Rattle.descriptor.specs.Receive.{rx_back_form, rx_back_numbers, rx_read_form, rx_read_numbers}
use Rattle.descriptor.specs.Transmit.{tx_read_form, tx_read_numbers}
use Rattle.descriptor.specs.Refusal.{IsLowest}
use Rattle.refusals.specs.DescError.{refusal_number}
use Rattle.ffi_handle.specs.Words.{is_set}
use Rattle.c_data.specs.declared.descriptors.Poll82599Descriptor.{Poll82599Descriptor}

-- the bytes are a descriptor with these fields, in each form that has any

abbrev pub AreRxRead : Poll82599Descriptor → List ℕ → Type 0
AreRxRead d bytes = AreBytes rx_read_form (rx_read_numbers d.number) bytes

abbrev pub AreRxBack : Poll82599Descriptor → List ℕ → Type 0
AreRxBack d bytes = AreBytes rx_back_form (rx_back_numbers d.len (is_set d.eop)) bytes

abbrev pub AreTxRead : Poll82599Descriptor → List ℕ → Type 0
AreTxRead d bytes = AreBytes tx_read_form (tx_read_numbers d.number d.len (is_set d.eop) (is_set d.rs) d.paylen) bytes

-- the fields that a descriptor of the form can have

abbrev pub IsRxRead : Poll82599Descriptor → Type 0
IsRxRead d = d.number < 2 ^ 16

pub record IsRxBack (d : Poll82599Descriptor) : Type 0 where
  pub some_data : 1 ≤ d.len
  pub fits : d.len ≤ BUFFER_BYTES

pub record IsTxRead (d : Poll82599Descriptor) : Type 0 where
  pub number : d.number < 2 ^ 16
  pub some_data : 1 ≤ d.len
  pub fits : d.len ≤ BUFFER_BYTES
  pub reports_end : is_set d.rs ≡ true → is_set d.eop ≡ true
  pub long_enough : LEAST_FRAME ≤ d.paylen
  pub short_enough : d.paylen ≤ MOST_FRAME

-- the bytes are not of the form, and the result is the lowest number of the refusals that apply
pub record IsRefusal (form : WordLayout) (bytes : List ℕ) (answer : ℕ) : Type 0 where
  pub why : DescError
  pub number : answer ≡ refusal_number why
  pub lowest : IsLowest (KeepsBytes form bytes) why
