-- What clap makes of the program's words: the program as a whole, and words that are no command line.
use Rattle.std.proofs.Common.{◌≡◌, ◌≢◌, ◌∙◌, ap, ap₂, sym, subst, refl, inl, inr, arith, ℕ, pos, Bool, true, false, List, [], ◌∷◌, ◌==◌, codes, map, drop, slice_index, slice_index_or, Option, Some, None, option_map, unwrap_or}
use Rattle.std.specs.Prelude.{◌⊎◌, ◌<◌, ◌≤◌, ◌^◌, ◌||◌, if◌then◌else◌, All, IsSomeAnd, cond, decimal, find, neg_ℤ, option_and_then, Result, Ok, Err}
use Rattle.std.specs.Borrow.{Bor}
use Rattle.std.specs.Option.{option_map_or}
use Rattle.std.specs.Str.{bytes_eq}
use Rattle.std.specs.Str.Parse.{ExplainsUnsignedError, HasUnsignedDigitsIfOk, IsNumeral, ParsesUnsigned, digits_value, signed_digits_value, without_leading_plus, without_leading_sign}
use Rattle.std.proofs.lemmas.Bool.{eq-eqb, ne_eqb}
use Rattle.std.proofs.lemmas.Fmt.{decimal_is_IsNumeral, parse-decimal}
use Rattle.std.proofs.lemmas.Int.{ints}
use Rattle.std.proofs.lemmas.List.Elements.{All-head, All-tail}
use Rattle.std.proofs.lemmas.Str.Parse.{digit_at}
use Rattle.clap.specs.Lexer.{long_of, short_of}
use Rattle.clap.specs.Takes.{bundle_passes, flag_word_passes, word_passes}
use Rattle.clap.specs.Values.{bool_text}
use Rattle.clap.specs.ValueTests.{accepts}
use Rattle.clap.specs.Matches.{matched_of}
use Rattle.clap.specs.Walk.{Held, idle, long_or_other, row_of, short_or_plain, trailing, value, word_met}
use Rattle.clap.specs.Words.{Accepts, App, IsAmong, Kinds, ReadsOne, Row, Rule, Shape, Text, fault_of, first_of, first_value, is_simple, is_simple_and_free, one_of, one_text, rows_of, without_minus}
use Rattle.clap.specs.declared.builder.value_parser.ValueParser.TheVariants.{Signed}
use Rattle.clap.specs.declared.error.kind.ErrorKind.{ErrorKind}
use Rattle.clap.specs.declared.error.kind.ErrorKind.TheVariants.{InvalidSubcommand, InvalidValue, MissingRequiredArgument, MissingSubcommand, OutOfMemory, UnknownArgument, ValueValidation}
use Rattle.clap.specs.declared.parser.matches.Found.{Found}
use Rattle.clap.specs.declared.parser.matches.MatchedArg.{MatchedArg}
use Rattle.clap.specs.declared.parser.matches.ValueSource.{ValueSource}
use Rattle.clap.proofs.OnLiterals.{clap_on_literals}
use Rattle.clap.proofs.ValueTestLemmas.{Accepts-accepts}
use Rattle.clap.proofs.WalkLemmas.{find_row, first_value-rows, one_text-rows}
use Rattle.command_line.specs.CommandLine.{AreMistakes, Choices, IsMistake, IsMisuse, IsProgram, program_app}
use Rattle.command_line.specs.OptionWords.{HasFlag, HasNumber}
use Rattle.command_line.specs.ReadingWords.{IsLimit}
use Rattle.command_line.specs.ScheduleWords.{by_words, is_said}

-- ---- the program

program_simple : (rings formats : Choices) → is_simple (program_app rings formats) ≡ true
unfolding clap_on_literals
program_simple rings formats = refl

program_free : (rings formats : Choices) → is_simple_and_free (program_app rings formats) ≡ true
unfolding clap_on_literals
program_free rings formats = refl

pub simple : (app : App) → IsProgram app → is_simple app ≡ true
simple app program = ap is_simple program.app_is ∙ program_simple program.rings program.formats

pub free : (app : App) → IsProgram app → is_simple_and_free app ≡ true
free app program = ap is_simple_and_free program.app_is ∙ program_free program.rings program.formats

-- ---- what the lemmas of each command share

-- a first byte that is no hyphen
pub not_hyphen : (x : ℕ) (xs : List ℕ) → slice_index (x ∷ xs) 0 ≢ 45 → (x == 45) ≡ false
not_hyphen x xs other = grind arith

-- the entries of a command, from its name and what is read in them
pub rows_in : {V : Type 0} (read : List Row → V) (found : Option (Text × List Row)) (name : Text) (seen : V)
    → option_map {U = Text × V} (λ p. (p.0, read p.1)) found ≡ Some (name, seen) → (rows : List Row) × (found ≡ Some (name, rows)) × (read rows ≡ seen)
rows_in read None name seen is = cc is
rows_in {V} read (Some p) name seen is =
    let same : (p.0, read p.1) ≡ (name, seen) = ap (λ (o : Option (Text × V)). unwrap_or o (name, seen)) is in
    (p.1, ap (λ (q : Text × V). Some (q.0, p.1)) same, ap (λ (q : Text × V). q.1) same)

-- an argument's value, as `get_str` gives it
value_is : (found : Found) (id seen : Text) → first_of id (rows_of found) ≡ Some seen → first_value found id ≡ Some seen
value_is found id seen is = first_value-rows found id ∙ is

-- and as `get_one` and `get_flag` do
pub text_is : (found : Found) (id seen : Text) → one_of id (rows_of found) ≡ Some seen → one_text found id ≡ Some seen
text_is found id seen is = one_text-rows found id ∙ is

-- so the word of an argument is this one
pub word_is : (found : Found) (id text : Text) (r : Option (Bor Text)) → option_map (λ word. word.now) r ≡ first_value found id → first_of id (rows_of found) ≡ Some text
    → IsSomeAnd r (λ word. word.now ≡ text)
word_is found id text None is said = let bad : None ≡ Some text = is ∙ value_is found id text said in cc bad
word_is found id text (Some word) is said = ap (λ (o : Option Text). unwrap_or o word.now) (is ∙ value_is found id text said)

-- a word that clap takes for no option
pub record IsPlain (word : Text) : Type 0 where
  pub no_dashes : bytes_eq word (45 ∷ 45 ∷ []) ≡ false
  pub no_long : long_of word ≡ None
  pub no_short : short_of word ≡ None

pub is_plain : (word : Text) → slice_index word 0 ≢ 45 → IsPlain word
is_plain [] other = record { no_dashes = refl; no_long = refl; no_short = refl }
is_plain (x ∷ xs) other = let plain = not_hyphen x xs other in record { no_dashes = simp plain refl; no_long = simp plain refl; no_short = simp plain refl }

-- where nothing waits and no command is to come, it goes to the next positional
pub plain_met : (rules : List Rule) (position : ℕ) (word : Text) (h : Held) → IsPlain word → word_met rules [] false idle position word h ≡ (h, value)
plain_met rules position word h plain =
    ap (λ b. if b then (h, trailing position) else long_or_other rules idle word (long_of word) h) plain.no_dashes
    ∙ (ap (λ o. long_or_other rules idle word o h) plain.no_long ∙ ap (λ o. short_or_plain rules idle word o h) plain.no_short)

pub plain_passes : (s : Shape) (word : Text) (h : Held) → IsPlain word → word_passes s [] false idle word h ≡ true
plain_passes s word h plain =
    ap (λ b. b || flag_word_passes s.rules s.args_override_self (long_of word) word h) plain.no_dashes
    ∙ (ap (λ o. flag_word_passes s.rules s.args_override_self o word h) plain.no_long
    ∙ ap (λ o. option_map_or (λ flags. bundle_passes s.rules s.args_override_self flags h) o true) plain.no_short)

-- ---- numbers and flags

-- a text that clap takes for a number up to this one
pub record IsNumber (most : ℕ) (word : Text) : Type 0 where
  pub plain : IsPlain word
  pub accepted : accepts false (Signed (pos 0) (pos most)) word ≡ true

-- a numeral has no sign
numeral_unsigned : (ds : List ℕ) → (slice_index ds 0 == 45) ≡ false → (slice_index ds 0 == 43) ≡ false → without_leading_sign ds ≡ ds
numeral_unsigned ds minus plus =
    ap (λ b. cond b (drop 1 ds) (without_leading_plus ds)) minus ∙ ap (λ b. drop (cond b 1 0) ds) plus

numeral_value : (ds : List ℕ) → (slice_index ds 0 == 45) ≡ false → (slice_index ds 0 == 43) ≡ false → signed_digits_value 10 ds ≡ pos (digits_value 10 ds)
numeral_value ds minus plus =
    ap (λ b. cond b (neg_ℤ (pos (digits_value 10 (without_leading_sign ds)))) (pos (digits_value 10 (without_leading_sign ds)))) minus
    ∙ ap (λ l. pos (digits_value 10 l)) (numeral_unsigned ds minus plus)

pub strips_none : (ds : List ℕ) → (slice_index ds 0 == 45) ≡ false → without_minus ds ≡ ds
strips_none [] minus = refl
strips_none (d ∷ ds) minus = ap (λ b. unwrap_or (if b then Some ds else None) (d ∷ ds)) minus

-- what the lemmas below take of the digits of a number
pub record IsNumeralOf (ds : List ℕ) (n : ℕ) : Type 0 where
  pub numeral : IsNumeral 10 ds
  pub value : digits_value 10 ds ≡ n
  pub no_minus : (slice_index ds 0 == 45) ≡ false
  pub no_plus : (slice_index ds 0 == 43) ≡ false

pub numeral_of : (n : ℕ) → n < 2 ^ 32 → IsNumeralOf (decimal n) n
numeral_of n fits =
    let is = decimal_is_IsNumeral n (omega arith) in
    let first = digit_at (decimal n) 0 is.0.1 is.0.0 in
    record {
      numeral = is.0;
      value = is.1;
      no_minus = ne_eqb _ _ (λ e. omega (arith, first));
      no_plus = ne_eqb _ _ (λ e. omega (arith, first));
    }

numeral_accepted : (most : ℕ) (ds : List ℕ) (n : ℕ) → n ≤ most → n < 2 ^ 32 → IsNumeralOf ds n → Accepts false (Signed (pos 0) (pos most)) ds
numeral_accepted most ds n low fits is =
    let value : signed_digits_value 10 ds ≡ pos n = numeral_value ds is.no_minus is.no_plus ∙ ap pos is.value in
    rw (value, numeral_unsigned ds is.no_minus is.no_plus) (is.numeral, record { sfits = omega (arith, fits) }, omega (arith, ints), omega (arith, ints, low))

not_45 : (ds : List ℕ) → (slice_index ds 0 == 45) ≡ false → slice_index ds 0 ≢ 45
not_45 ds minus e = let bad : (slice_index ds 0 == 45) ≡ true = eq-eqb _ _ e in cc

pub is_number : (most n : ℕ) → n ≤ most → n < 2 ^ 32 → IsNumber most (decimal n)
is_number most n low fits =
    let is = numeral_of n fits in
    record {
      plain = is_plain (decimal n) (not_45 (decimal n) is.no_minus);
      accepted = Accepts-accepts false (Signed (pos 0) (pos most)) (decimal n) (numeral_accepted most (decimal n) n low fits is);
    }

reads_by : {E : Type 0} (G : List ℕ → Result ℕ E → Type 0) (n : ℕ) (r : Option ℕ) → n < 2 ^ 32
    → ((u : List ℕ) (x : Result ℕ E) → G u x → ParsesUnsigned 32 10 u x) → ReadsOne G (decimal n) r → r ≡ Some n
reads_by {E} G n (Some v) fits parses reads =
    let same : ◌≡◌ {A = Result ℕ E} (Ok v) (Ok n) = parse-decimal 32 n (decimal n) (Ok v) (omega arith) (omega arith) refl (parses (decimal n) (Ok v) reads) in cc
reads_by {E} G n None fits parses reads =
    let same : ◌≡◌ {A = Result ℕ E} (Err reads.0) (Ok n) =
    parse-decimal 32 n (decimal n) (Err reads.0) (omega arith) (omega arith) refl (parses (decimal n) (Err reads.0) reads.1) in cc

-- what `get_one` reads of a number
reads_number : (n : ℕ) (r : Option ℕ) → n < 2 ^ 32
    → ReadsOne (λ bs x. ParsesUnsigned 32 10 bs x × ExplainsUnsignedError 10 bs x × HasUnsignedDigitsIfOk bs x) (decimal n) r → r ≡ Some n
reads_number n r fits reads =
    reads_by (λ bs x. ParsesUnsigned 32 10 bs x × ExplainsUnsignedError 10 bs x × HasUnsignedDigitsIfOk bs x) n r fits (λ u x g. g.0) reads

-- what is read is there, and is this
pub is_there : (n : ℕ) (r : Option ℕ) → r ≡ Some n → IsSomeAnd r (λ m. m ≡ n)
is_there n None is = cc is
is_there n (Some m) is = cc is

-- the number of an option
pub number_is : (found : Found) (id : Text) (n : ℕ) (r : Option ℕ) → HasNumber (rows_of found) id n
    → ((text : Text) → one_text found id ≡ Some text
    → ReadsOne (λ bs x. ParsesUnsigned 32 10 bs x × ExplainsUnsignedError 10 bs x × HasUnsignedDigitsIfOk bs x) text r) → IsSomeAnd r (λ m. m ≡ n)
number_is found id n r has reads = is_there n r (reads_number n r has.fits (reads (decimal n) (text_is found id (decimal n) has.value)))

-- the number of an option that may be left out
pub limit_is : (found : Found) (id : Text) (limit r : Option ℕ) → one_of id (rows_of found) ≡ option_map decimal limit → IsLimit limit
    → (one_text found id ≡ None → r ≡ None)
    → ((text : Text) → one_text found id ≡ Some text
    → ReadsOne (λ bs x. ParsesUnsigned 32 10 bs x × ExplainsUnsignedError 10 bs x × HasUnsignedDigitsIfOk bs x) text r) → r ≡ limit
limit_is found id None r has fits none reads = none (one_text-rows found id ∙ has)
limit_is found id (Some n) r has fits none reads = reads_number n r fits (reads (decimal n) (text_is found id (decimal n) has))

-- and what `get_flag` does of a flag
reads_flag : (b read : Bool) (o : Option Text) → (o ≡ Some (codes "true") → read ≡ true) → (o ≡ Some (codes "false") → read ≡ false)
    → o ≡ Some (bool_text b) → read ≡ b
reads_flag true read o as_true as_false is = as_true is
reads_flag false read o as_true as_false is = as_false is

pub flag_is : (found : Found) (id : Text) (b read : Bool) → HasFlag (rows_of found) id b → (one_text found id ≡ Some (codes "true") → read ≡ true)
    → (one_text found id ≡ Some (codes "false") → read ≡ false) → read ≡ b
flag_is found id b read has as_true as_false = reads_flag b read (one_text found id) as_true as_false (text_is found id (bool_text b) has)

-- ---- whether an option stands among the words

source-rows : (f : Found) (id : Text)
    → option_and_then (λ (a : MatchedArg). a.source) (matched_of f id) ≡ option_and_then (λ (r : Row). r.source) (find (λ r. bytes_eq r.id id) (rows_of f))
source-rows f id =
    go (find (λ e. bytes_eq e.0.now id) f.entries.items) ∙ ap (option_and_then (λ (r : Row). r.source)) (sym (find_row f.entries.items id))
  where
    go : (o : Option (Bor Text × MatchedArg))
        → option_and_then (λ (a : MatchedArg). a.source) (option_map (λ e. e.1) o) ≡ option_and_then (λ (r : Row). r.source) (option_map row_of o)
    go None = refl
    go (Some e) = refl

-- where a value came from, as `value_source` gives it
pub said_is : (found : Found) (id : Text) (source : Option ValueSource) → source ≡ option_and_then (λ (a : MatchedArg). a.source) (matched_of found id)
    → by_words source ≡ is_said id (rows_of found)
said_is found id source is = ap by_words (is ∙ source-rows found id)

-- ---- choices

-- two choices, by where they lie
abbrev pub two : ℕ × ℕ → ℕ × ℕ → ℕ × ℕ → Text → Text → Choices
two list first second a b = record { ref_ptr = list; now = record { ref_ptr = first; now = a } ∷ record { ref_ptr = second; now = b } ∷ [] }

pub record AreTwo (choices : Choices) (a b : Text) : Type 0 where
  pub list : ℕ × ℕ
  pub first : ℕ × ℕ
  pub second : ℕ × ℕ
  pub same : choices ≡ two list first second a b

pub are_two : (list : ℕ × ℕ) (words : List (Bor Text)) (a b : Text) → map (λ word. word.now) words ≡ a ∷ b ∷ []
    → AreTwo (record { ref_ptr = list; now = words }) a b
are_two list [] a b are = cc are
are_two list (x ∷ []) a b are = let none : [] ≡ b ∷ [] = ap (drop 1) are in cc none
are_two list (x ∷ y ∷ []) a b are = record {
  list = list;
  first = x.ref_ptr;
  second = y.ref_ptr;
  same = ap₂ (two list x.ref_ptr y.ref_ptr) (ap (λ ts. slice_index_or ts 0 a) are) (ap (λ ts. slice_index_or ts 1 b) are);
}
are_two list (x ∷ y ∷ z ∷ words) a b are = let none : z.now ∷ map (λ word. word.now) words ≡ [] = ap (drop 2) are in cc none

-- ---- misuse

among_all : (kind : ErrorKind) (kinds : Kinds) → All IsMistake kinds → IsAmong kind kinds → IsMistake kind
among_all kind [] all among = absurd among
among_all kind (k ∷ ks) all (inl same) = subst IsMistake (sym same) (All-head IsMistake k ks all)
among_all kind (k ∷ ks) all (inr later) = among_all kind ks (All-tail IsMistake k ks all) later

-- such a kind is a mistake, or want of memory
mistake_among : (kinds : Kinds) (kind : ErrorKind) → AreMistakes kinds → (kind ≡ OutOfMemory) ⊎ IsAmong kind kinds → (kind ≡ OutOfMemory) ⊎ IsMistake kind
mistake_among [] kind mistakes has = absurd mistakes
mistake_among (k ∷ ks) kind mistakes (inl memory) = inl memory
mistake_among (k ∷ ks) kind mistakes (inr among) = inr (among_all kind (k ∷ ks) mistakes among)

-- so words of misuse fail by a mistake, or for want of memory, and are never taken
pub misuse_fails : (app : App) (words : List Text) (kind : ErrorKind) → IsProgram app → IsMisuse words
    → (kind ≡ OutOfMemory) ⊎ IsAmong kind (fault_of app words) → (kind ≡ OutOfMemory) ⊎ IsMistake kind
misuse_fails app words kind program misuse has = mistake_among (fault_of app words) kind (misuse app program) has

pub misuse_not_taken : (app : App) (words : List Text) → IsProgram app → IsMisuse words → fault_of app words ≡ [] → ⊥
misuse_not_taken app words program misuse none = subst AreMistakes none (misuse app program)

-- no command, an unknown one, a missing argument, a word that is no choice, and one that is no number
no_command : (rings formats : Choices) → fault_of (program_app rings formats) [] ≡ MissingSubcommand ∷ []
unfolding clap_on_literals
no_command rings formats = refl

missing_argument : (rings formats : Choices) → fault_of (program_app rings formats) (codes "once" ∷ []) ≡ MissingRequiredArgument ∷ []
unfolding clap_on_literals
missing_argument rings formats = refl

unknown_command : (rings formats : Choices) → fault_of (program_app rings formats) (codes "twice" ∷ []) ≡ UnknownArgument ∷ InvalidSubcommand ∷ []
unfolding clap_on_literals
unknown_command rings formats = refl

no_choice : (list first second : ℕ × ℕ) (formats : Choices)
    → fault_of (program_app (two list first second (codes "rx") (codes "tx")) formats) (codes "decode" ∷ codes "sx" ∷ codes "read" ∷ codes "00" ∷ []) ≡ InvalidValue ∷ []
unfolding clap_on_literals
no_choice list first second formats = refl

no_number : (rings formats : Choices) → fault_of (program_app rings formats) (codes "replay" ∷ codes "--ring" ∷ codes "eight" ∷ []) ≡ ValueValidation ∷ []
unfolding clap_on_literals
no_number rings formats = refl
