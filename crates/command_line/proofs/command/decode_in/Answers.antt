use Rattle.std.proofs.Common.{◌≡◌, ap, Option, Some, None, unwrap_or}
use Rattle.requests.specs.declared.decode.DescriptorForm.{DescriptorForm}
use Rattle.requests.specs.Decoding.{ring_word, format_word}
use Rattle.command_line.proofs.command.decode_in.Goals as goal

pub returns-in_err-form : goal.returns-in_err-form
returns-in_err-form c form digits has =
    let ring = c.in_ok-word_in.ensures (ring_word form) has.ring in
    let format = c.in_ok-word_in-2.ensures (format_word form) has.format in
    let none : None ≡ Some form = (c.in_err-form.ensures form).1 (ring, format) in cc none

pub returns : goal.returns
returns c form digits has =
    let ring = c.in_ok-word_in.ensures (ring_word form) has.ring in
    let format = c.in_ok-word_in-2.ensures (format_word form) has.format in
    let named : Some c.in_ok-form.form ≡ Some form = (c.in_ok-form.ensures form).1 (ring, format) in
    (ap (λ (o : Option DescriptorForm). unwrap_or o form) named, c.in_ok-digits.ensures digits has.hex)
