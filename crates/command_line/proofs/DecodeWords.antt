-- What clap makes of `decode`, the words of a form and an argument.
use Rattle.std.proofs.Common.{◌≡◌, ◌≢◌, ◌∙◌, ap, ap₂, refl, ℕ, Bool, true, false, ◌&&◌, List, [], ◌∷◌, codes, slice_index, slice_index_or, Option, Some, option_map}
use Rattle.std.specs.List.{list_all}
use Rattle.clap.specs.Words.{App, Row, Shape, Text, built, first_of, subcommand_of, takes}
use Rattle.clap.specs.Simple.{new_shape}
use Rattle.clap.specs.Walk.{Held, Step, Walk, after_step, finished, idle, nothing_held, value, walk, word_met}
use Rattle.clap.specs.Takes.{default_passes, is_valid, settle_passes, step_passes, word_passes}
use Rattle.clap.proofs.OnLiterals.{clap_on_literals}
use Rattle.requests.specs.declared.decode.DescriptorForm.{DescriptorForm}
use Rattle.requests.specs.declared.decode.DescriptorForm.TheVariants.{RxRead, RxBack, TxRead, TxBack}
use Rattle.requests.specs.Decoding.{ring_word, format_word}
use Rattle.command_line.specs.CommandLine.{Choices, HasDecode, IsProgram, SaysDecode, program_app}
use Rattle.command_line.proofs.CommandLine.{IsPlain, are_two, is_plain, plain_met, plain_passes, rows_in, two}

abbrev decode_words : DescriptorForm → Text → List Text
decode_words form digits = codes "decode" ∷ ring_word form ∷ format_word form ∷ digits ∷ []

-- the program, by where its choices lie
abbrev app_at : (p q r s t u : ℕ × ℕ) → App
app_at p q r s t u = program_app (two p q r (codes "rx") (codes "tx")) (two s t u (codes "read") (codes "back"))

-- `decode` as clap builds it
abbrev shape : Choices → Choices → Shape
shape rings formats = slice_index_or (built (program_app rings formats)).subs 1 (new_shape [])

-- its walk over the words of a form
abbrev walk_to : Choices → Choices → DescriptorForm → Walk
walk_to rings formats form = walk (shape rings formats).rules [] nothing_held (ring_word form ∷ format_word form ∷ [])

-- what is held once the last word is met
abbrev end_held : Choices → Choices → DescriptorForm → Text → Held × Step → Held
end_held rings formats form word met = (after_step (shape rings formats).rules word (walk_to rings formats form) met.0 met.1).held

abbrev passes : Choices → Choices → DescriptorForm → Text → Held × Step → Bool → Bool
passes rings formats form word met pass =
    let s = shape rings formats in
    let end = end_held rings formats form word met in
    ((((pass && step_passes s 3 met.0 met.1) && true)
    && (settle_passes s.rules s.args_override_self end && (list_all default_passes s.rules && is_valid s (finished s.rules end) false)))) && true

abbrev met : Choices → Choices → DescriptorForm → Text → Held × Step
met rings formats form word = word_met (shape rings formats).rules [] false idle 3 word (walk_to rings formats form).held

met_plain : (rings formats : Choices) (form : DescriptorForm) (word : Text) → IsPlain word → met rings formats form word ≡ ((walk_to rings formats form).held, value)
met_plain rings formats form word plain = plain_met (shape rings formats).rules 3 word (walk_to rings formats form).held plain

abbrev word_passing : Choices → Choices → DescriptorForm → Text → Bool
word_passing rings formats form word = word_passes (shape rings formats) [] false idle word (walk_to rings formats form).held

takes_by : (p q r s t u : ℕ × ℕ) (form : DescriptorForm) (word : Text)
    → let rings = two p q r (codes "rx") (codes "tx") in let formats = two s t u (codes "read") (codes "back") in
    takes (app_at p q r s t u) (decode_words form word) ≡ passes rings formats form word (met rings formats form word) (word_passing rings formats form word)
unfolding clap_on_literals
takes_by p q r s t u RxRead word = refl
takes_by p q r s t u RxBack word = refl
takes_by p q r s t u TxRead word = refl
takes_by p q r s t u TxBack word = refl

passes_plain : (p q r s t u : ℕ × ℕ) (form : DescriptorForm) (word : Text)
    → let rings = two p q r (codes "rx") (codes "tx") in let formats = two s t u (codes "read") (codes "back") in
    passes rings formats form word ((walk_to rings formats form).held, value) true ≡ true
unfolding clap_on_literals
passes_plain p q r s t u RxRead word = refl
passes_plain p q r s t u RxBack word = refl
passes_plain p q r s t u TxRead word = refl
passes_plain p q r s t u TxBack word = refl

takes_decode : (p q r s t u : ℕ × ℕ) (form : DescriptorForm) (digits : Text) → slice_index digits 0 ≢ 45 → takes (app_at p q r s t u) (decode_words form digits) ≡ true
takes_decode p q r s t u form digits other =
    let rings = two p q r (codes "rx") (codes "tx") in
    let formats = two s t u (codes "read") (codes "back") in
    let plain = is_plain digits other in
    takes_by p q r s t u form digits
    ∙ (ap₂ (passes rings formats form digits) (met_plain rings formats form digits plain)
    (plain_passes (shape rings formats) digits (walk_to rings formats form).held plain)
    ∙ passes_plain p q r s t u form digits)

-- the values of the three arguments
abbrev Values : Type 0
Values = Option Text × (Option Text × Option Text)

abbrev values_of : List Row → Values
values_of rows = (first_of (codes "ring") rows, (first_of (codes "format") rows, first_of (codes "hex") rows))

abbrev values_in : Option (Text × List Row) → Option (Text × Values)
values_in = option_map {U = Text × Values} (λ p. (p.0, values_of p.1))

abbrev said : DescriptorForm → Text → Values
said form digits = (Some (ring_word form), (Some (format_word form), Some digits))

-- the values, by what the last word is
abbrev values_by : Choices → Choices → DescriptorForm → Text → Held × Step → Option (Text × Values)
values_by rings formats form word met = Some (codes "decode", values_of (finished (shape rings formats).rules (end_held rings formats form word met)))

values_are : (rings formats : Choices) (form : DescriptorForm) (word : Text)
    → values_in (subcommand_of (program_app rings formats) (decode_words form word)) ≡ values_by rings formats form word (met rings formats form word)
unfolding clap_on_literals
values_are rings formats RxRead word = refl
values_are rings formats RxBack word = refl
values_are rings formats TxRead word = refl
values_are rings formats TxBack word = refl

values_plain : (rings formats : Choices) (form : DescriptorForm) (word : Text)
    → values_by rings formats form word ((walk_to rings formats form).held, value) ≡ Some (codes "decode", said form word)
unfolding clap_on_literals
values_plain rings formats RxRead word = refl
values_plain rings formats RxBack word = refl
values_plain rings formats TxRead word = refl
values_plain rings formats TxBack word = refl

values_of_decode : (rings formats : Choices) (form : DescriptorForm) (digits : Text) → slice_index digits 0 ≢ 45
    → values_in (subcommand_of (program_app rings formats) (decode_words form digits)) ≡ Some (codes "decode", said form digits)
values_of_decode rings formats form digits other =
    values_are rings formats form digits
    ∙ (ap (values_by rings formats form digits) (met_plain rings formats form digits (is_plain digits other)) ∙ values_plain rings formats form digits)

pub decode_taken : (app : App) (words : List Text) (form : DescriptorForm) (digits : Text) → IsProgram app → SaysDecode words form digits → takes app words ≡ true
decode_taken app words form digits program says =
    let rings = are_two program.rings.ref_ptr program.rings.now (codes "rx") (codes "tx") program.rings_are in
    let formats = are_two program.formats.ref_ptr program.formats.now (codes "read") (codes "back") program.formats_are in
    ap (λ (a : App). takes a words) (program.app_is ∙ ap₂ program_app rings.same formats.same)
    ∙ (ap (takes (app_at rings.list rings.first rings.second formats.list formats.first formats.second)) says.words_are
    ∙ takes_decode rings.list rings.first rings.second formats.list formats.first formats.second form digits says.no_option)

pub decode_found : (app : App) (words : List Text) (form : DescriptorForm) (digits : Text) → IsProgram app → SaysDecode words form digits
    → (rows : List Row) × (subcommand_of app words ≡ Some (codes "decode", rows)) × HasDecode rows form digits
decode_found app words form digits program says =
    let same = ap (λ (a : App). subcommand_of a words) program.app_is ∙ ap (subcommand_of (program_app program.rings program.formats)) says.words_are in
    let found = rows_in values_of (subcommand_of app words) (codes "decode") (said form digits)
    (ap values_in same ∙ values_of_decode program.rings program.formats form digits says.no_option) in (
      found.0,
      found.1,
      record {
        ring = ap (λ (v : Values). v.0) found.2;
        format = ap (λ (v : Values). v.1.0) found.2;
        hex = ap (λ (v : Values). v.1.1) found.2;
      },
    )
