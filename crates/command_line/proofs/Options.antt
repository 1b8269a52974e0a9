-- What clap makes of one option, given or left out: what its words do to what is held, the row that it leaves, and its value at
-- last. It knows no command: of the command's arguments it takes what a search for the option among them finds.
use Rattle.std.proofs.Common.{◌≡◌, ◌∙◌, ap, ap₂, sym, subst, refl, ℕ, pos, Bool, true, false, ◌&&◌, List, [], ◌∷◌, ◌++◌, codes, length, slice_get, Option, Some, None, IfSome}
use Rattle.std.specs.Prelude.{⊤, ◌||◌, All, if◌then◌else◌, is_some, not, fold, nat_lt, option_and_then, option_map}
use Rattle.std.specs.List.{list_all}
use Rattle.std.specs.Option.{option_map_or}
use Rattle.std.specs.Str.{bytes_eq}
use Rattle.std.proofs.lemmas.List.{append_assoc, append-nil}
use Rattle.std.proofs.lemmas.List.Elements.{All-head, All-tail}
use Rattle.clap.specs.Lexer.{long_of, without_minus}
use Rattle.clap.specs.Simple.{new_rule}
use Rattle.clap.specs.Takes.{bundle_passes, flag_word_passes, long_passes, other_passes, settle_passes, step_passes, turn_passes, use_passes, walk_passes, word_passes}
use Rattle.clap.specs.Values.{bool_text}
use Rattle.clap.specs.Walk.{Held, Row, Rule, Step, Text, Waiting, Walk, after_step, arg_by_id, arg_by_long, has_row, idle, is_empty, long_met, long_or_other, option, option_word, plain_word, positional, reacted, reading_by, row_text, settled, short_or_plain, subcommand_met, subcommand_or_other, trailing, used, used_by_id, walk_from, walked, with_default, with_values, without, word_met}
use Rattle.clap.specs.Walk.{all_of, first_of, one_of}
use Rattle.clap.specs.Walk.{after_flag as after_flag_word}
use Rattle.clap.specs.Simple.{Shape}
use Rattle.clap.specs.declared.builder.action.ArgAction.{ArgAction}
use Rattle.clap.specs.declared.builder.action.ArgAction.TheVariants.{Set, Append, SetTrue}
use Rattle.clap.specs.declared.builder.value_parser.ValueParser.{ValueParser}
use Rattle.clap.specs.declared.builder.value_parser.ValueParser.TheVariants.{Signed, String as AnyText, Bool as ReadsBool}
use Rattle.clap.specs.declared.parser.matches.ValueSource.TheVariants.{CommandLine, DefaultValue}
use Rattle.clap.specs.declared.builder.value_parser.Reading.{Reading}
use Rattle.clap.proofs.OnLiterals.{clap_on_literals}
use Rattle.command_line.specs.OptionWords.{flag_words}
use Rattle.command_line.specs.FileWords.{file_values, file_words}
use Rattle.command_line.specs.ScheduleWords.{by_words, is_said}
use Rattle.command_line.proofs.CommandLine.{IsNumber, IsPlain}
use Rattle.command_line.proofs.OptionRows.{OptionUse, absent-in, absent-use, all-keep, default-found, found, found-use, mentions, never-found, one-longer, row, rows-unused, rows-used, rows_in, used-absent, without-absent}

-- ---- options

-- what stands behind an option whose value may be left out: nothing, or `=` and its value
pub data OptionalValue : Type 0 where
  alone : OptionalValue
  with_word : Text → OptionalValue

-- an option with a number up to this one, which has these texts where it is left out; one without a value; one with a word; one with
-- a word, which may stand again and again; and one whose value may be left out, where it has this one. Each with what is said by it
pub data Given : Type 0 where
  number : Text → ℕ → List Text → Option Text → Given
  flag : Text → Bool → Given
  worded : Text → Option Text → Given
  files : Text → List Text → Given
  optional : Text → Text → Option OptionalValue → Given

abbrev pub id_of : Given → Text
id_of (number id most defaults said) = id
id_of (flag id said) = id
id_of (worded id said) = id
id_of (files id said) = id
id_of (optional id value said) = id

-- `--` and its name
abbrev pub dashed : Text → Text
dashed id = 45 ∷ 45 ∷ id

-- the argument that clap makes of it
abbrev pub value_rule : Text → ArgAction → ValueParser → List Text → Rule
value_rule id action parser defaults = record (new_rule id) {
  long = Some id;
  action = Some action;
  range = Some (record { start_inclusive = 1; end_inclusive = 1 });
  value_names = 1;
  defaults = defaults;
  parser = Some parser;
}

abbrev pub number_at : Text → ℕ → List Text → Rule
number_at id most defaults = value_rule id Set (Signed (pos 0) (pos most)) defaults

abbrev pub word_at : Text → Rule
word_at id = value_rule id Set AnyText []

abbrev pub file_at : Text → Rule
file_at id = value_rule id Append AnyText []

abbrev pub flag_at : Text → Rule
flag_at id = record (new_rule id) {
  long = Some id;
  action = Some SetTrue;
  range = Some (record { start_inclusive = 0; end_inclusive = 0 });
  defaults = codes "false" ∷ [];
  missing = codes "true" ∷ [];
  parser = Some ReadsBool;
}

abbrev pub optional_at : Text → Text → Rule
optional_at id value = record (new_rule id) {
  long = Some id;
  action = Some Set;
  range = Some (record { start_inclusive = 0; end_inclusive = 1 });
  value_names = 1;
  missing = value ∷ [];
  parser = Some AnyText;
}

abbrev pub rule_at : Given → Rule
rule_at (number id most defaults said) = number_at id most defaults
rule_at (flag id said) = flag_at id
rule_at (worded id said) = word_at id
rule_at (files id said) = file_at id
rule_at (optional id value said) = optional_at id value

-- its words
abbrev pub words_of : Given → List Text
words_of (number id most defaults None) = []
words_of (number id most defaults (Some word)) = dashed id ∷ word ∷ []
words_of (flag id said) = flag_words (dashed id) said
words_of (worded id None) = []
words_of (worded id (Some word)) = dashed id ∷ word ∷ []
words_of (files id said) = file_words (dashed id) said
words_of (optional id value None) = []
words_of (optional id value (Some alone)) = dashed id ∷ []
words_of (optional id value (Some (with_word word))) = (dashed id ++ 61 ∷ word) ∷ []

-- a word that is read as a long name and a value
pub record IsNamed (word : Text) (id : Text) (value : Option Text) : Type 0 where
  pub dashes : bytes_eq word (45 ∷ 45 ∷ []) ≡ false
  pub long : long_of word ≡ Some (id, value)

abbrev IsShown : Text → OptionalValue → Type 0
IsShown id alone = ⊤
IsShown id (with_word word) = IsNamed (dashed id ++ 61 ∷ word) id (Some word)

-- clap takes them
abbrev pub IsLawful : Given → Type 0
IsLawful (number id most defaults said) = IfSome said (IsNumber most)
IsLawful (flag id said) = ⊤
IsLawful (worded id said) = IfSome said IsPlain
IsLawful (files id said) = All IsPlain said
IsLawful (optional id value said) = IfSome said (IsShown id)

-- ---- the option among a command's arguments

-- no argument of this id has a default
abbrev has_none : Text → List Rule → Bool
has_none id rules = list_all (λ a. not (bytes_eq a.id id) || is_empty a.defaults) rules

-- what a search finds, and what it has to find
abbrev pub Facts : Type 0
Facts = Bool × Option (Text × Option Text) × Option Rule × Option Rule × Bool × Bool

abbrev pub facts_in : List Rule → Given → Facts
facts_in rules g = (
  bytes_eq (dashed (id_of g)) (45 ∷ 45 ∷ []),
  long_of (dashed (id_of g)),
  arg_by_long rules (id_of g),
  arg_by_id rules (id_of g),
  bytes_eq (id_of g) (id_of g),
  not (is_empty (rule_at g).defaults) || has_none (id_of g) rules,
)

abbrev pub facts_of : Given → Facts
facts_of g = (false, Some (id_of g, None), Some (rule_at g), Some (rule_at g), true, true)

pub record IsAmong (rules : List Rule) (id : Text) (a : Rule) : Type 0 where
  pub named : IsNamed (dashed id) id None
  pub by_long : arg_by_long rules id ≡ Some a
  pub by_id : arg_by_id rules id ≡ Some a
  pub same : bytes_eq id id ≡ true
  pub default : (not (is_empty a.defaults) || has_none id rules) ≡ true

pub is_among : (rules : List Rule) (g : Given) → facts_in rules g ≡ facts_of g → IsAmong rules (id_of g) (rule_at g)
is_among rules g facts = record {
  named = record { dashes = ap (λ (f : Facts). f.0) facts; long = ap (λ (f : Facts). f.1) facts };
  by_long = ap (λ (f : Facts). f.2) facts;
  by_id = ap (λ (f : Facts). f.3) facts;
  same = ap (λ (f : Facts). f.4) facts;
  default = ap (λ (f : Facts). f.5) facts;
}

-- ---- what is held

-- the walk with something that waits for a next word
abbrev pub at : Waiting → Held → Walk
at w h = record (walk_from h) { waiting = w }

abbrev after_value : List Rule → Text → Text → Held → Held
after_value rules id word h = record (settled rules h) { pending = Some (id, word ∷ []) }

abbrev after_values : List Rule → Text → List Text → Held → Held
after_values rules id [] h = h
after_values rules id (word ∷ words) h = after_values rules id words (after_value rules id word h)

abbrev pub after : List Rule → Given → Held → Held
after rules (number id most defaults None) h = h
after rules (number id most defaults (Some word)) h = after_value rules id word h
after rules (flag id false) h = h
after rules (flag id true) h = reacted rules (flag_at id) [] h
after rules (worded id None) h = h
after rules (worded id (Some word)) h = after_value rules id word h
after rules (files id said) h = after_values rules id said h
after rules (optional id value None) h = h
after rules (optional id value (Some alone)) h = record (settled rules h) { pending = Some (id, []) }
after rules (optional id value (Some (with_word word))) h = reacted rules (optional_at id value) (word ∷ []) h

abbrev behind_files : List Text → Waiting → Waiting
behind_files [] w = w
behind_files (word ∷ words) w = idle

-- and what waits for a next word
abbrev pub waiting_after : Given → Waiting → Waiting
waiting_after (number id most defaults None) w = w
waiting_after (number id most defaults (Some word)) w = idle
waiting_after (flag id false) w = w
waiting_after (flag id true) w = idle
waiting_after (worded id None) w = w
waiting_after (worded id (Some word)) w = idle
waiting_after (files id said) w = behind_files said w
waiting_after (optional id value None) w = w
waiting_after (optional id value (Some alone)) w = option id
waiting_after (optional id value (Some (with_word word))) w = idle

abbrev pub settles : Shape → Held → Bool
settles s h = settle_passes s.rules s.args_override_self h

-- ---- one word

none_met : (w : Waiting) (word : Text) → subcommand_met [] w word ≡ None
none_met idle word = refl
none_met (option id) word = refl
none_met positional word = refl

-- a long name is read as one, whatever waits
long_read : (rules : List Rule) (w : Waiting) (word id : Text) (value : Option Text) (a : Rule) (h : Held) → IsNamed word id value → arg_by_long rules id ≡ Some a
    → word_met rules [] false w 1 word h ≡ after_flag_word rules w word (long_met rules (Some a) value h).0 (long_met rules (Some a) value h).1
long_read rules w word id value a h named by_long =
    ap (λ (o : Option Text). subcommand_or_other rules o w 1 word h) (none_met w word)
    ∙ (ap (λ b. if b then (h, trailing 1) else long_or_other rules w word (long_of word) h) named.dashes
    ∙ (ap (λ (o : Option (Text × Option Text)). long_or_other rules w word o h) named.long
    ∙ ap (λ (o : Option Rule). after_flag_word rules w word (long_met rules o value h).0 (long_met rules o value h).1) by_long))

long_read_passes : (s : Shape) (w : Waiting) (word id : Text) (value : Option Text) (a : Rule) (h : Held) → IsNamed word id value → arg_by_long s.rules id ≡ Some a
    → word_passes s [] false w word h ≡ long_passes s.rules s.args_override_self (Some a) value h
long_read_passes s w word id value a h named by_long =
    ap (λ (o : Option Text). other_passes s o word h) (none_met w word)
    ∙ (ap (λ b. b || flag_word_passes s.rules s.args_override_self (long_of word) word h) named.dashes
    ∙ (ap (λ (o : Option (Text × Option Text)). flag_word_passes s.rules s.args_override_self o word h) named.long
    ∙ ap (λ (o : Option Rule). long_passes s.rules s.args_override_self o value h) by_long))

-- a word that is none goes to the option that waits
pub plain_read : (rules : List Rule) (id : Text) (position : ℕ) (word : Text) (h : Held) → IsPlain word
    → word_met rules [] false (option id) position word h ≡ plain_word rules (option id) word h
plain_read rules id position word h plain =
    ap (λ b. if b then (h, trailing position) else long_or_other rules (option id) word (long_of word) h) plain.no_dashes
    ∙ (ap (λ o. long_or_other rules (option id) word o h) plain.no_long ∙ ap (λ o. short_or_plain rules (option id) word o h) plain.no_short)

pub plain_read_passes : (s : Shape) (id : Text) (word : Text) (h : Held) → IsPlain word → word_passes s [] false (option id) word h ≡ true
plain_read_passes s id word h plain =
    ap (λ b. b || flag_word_passes s.rules s.args_override_self (long_of word) word h) plain.no_dashes
    ∙ (ap (λ o. flag_word_passes s.rules s.args_override_self o word h) plain.no_long
    ∙ ap (λ o. option_map_or (λ flags. bundle_passes s.rules s.args_override_self flags h) o true) plain.no_short)

-- ---- an option with a value

-- it waits for its value
abbrev waits : List Rule → Text → Held → Walk
waits rules id h = at (option id) (record (settled rules h) { pending = Some (id, []) })

option_walked : (rules : List Rule) (id : Text) (action : ArgAction) (parser : ValueParser) (defaults : List Text) (w : Waiting) (h : Held)
    → IsAmong rules id (value_rule id action parser defaults) → walked rules [] (at w h) (dashed id) ≡ waits rules id h
unfolding clap_on_literals
option_walked rules id action parser defaults w h among =
    ap (λ (met : Held × Step). after_step rules (dashed id) (at w h) met.0 met.1) (long_read rules w (dashed id) id None (value_rule id action parser defaults) h among.named among.by_long)

option_passes : (s : Shape) (id : Text) (action : ArgAction) (parser : ValueParser) (defaults : List Text) (w : Waiting) (h : Held)
    → IsAmong s.rules id (value_rule id action parser defaults) → settles s h ≡ true → turn_passes s [] (at w h) (dashed id) ≡ true
option_passes s id action parser defaults w h among settles_here =
    let a = value_rule id action parser defaults in
    ap₂ (λ b (met : Held × Step). b && step_passes s 1 met.0 met.1) (long_read_passes s w (dashed id) id None a h among.named among.by_long)
    (long_read s.rules w (dashed id) id None a h among.named among.by_long)
    ∙ ap (λ b. b && true) settles_here

word_walked : (rules : List Rule) (id : Text) (action : ArgAction) (parser : ValueParser) (defaults : List Text) (word : Text) (h : Held)
    → IsAmong rules id (value_rule id action parser defaults) → IsPlain word
    → walked rules [] (waits rules id h) word ≡ walk_from (after_value rules id word h)
unfolding clap_on_literals
word_walked rules id action parser defaults word h among plain =
    let waiting = (waits rules id h).held in
    ap (λ (met : Held × Step). after_step rules word (waits rules id h) met.0 met.1) (plain_read rules id 1 word waiting plain)
    ∙ (ap (λ (o : Option Rule). let met = option_word o id word waiting in at met.1 met.0) among.by_id
    ∙ ap (λ b. at (if nat_lt (if b then length (word ∷ []) else 0) 1 then option id else idle) (after_value rules id word h)) among.same)

turn_word : (s : Shape) (id : Text) (word : Text) (h : Held) → IsPlain word → turn_passes s [] (waits s.rules id h) word ≡ true
turn_word s id word h plain =
    let waiting = (waits s.rules id h).held in
    ap₂ (λ b (met : Held × Step). b && step_passes s 1 met.0 met.1) (plain_read_passes s id word waiting plain) (plain_read s.rules id 1 word waiting plain)

value_walked : (rules : List Rule) (id : Text) (action : ArgAction) (parser : ValueParser) (defaults : List Text) (word : Text) (w : Waiting) (h : Held) (rest : List Text)
    → IsAmong rules id (value_rule id action parser defaults) → IsPlain word
    → fold (walked rules []) (at w h) (dashed id ∷ word ∷ rest) ≡ fold (walked rules []) (walk_from (after_value rules id word h)) rest
value_walked rules id action parser defaults word w h rest among plain =
    ap (λ (v : Walk). fold (walked rules []) v rest)
    (ap (λ (v : Walk). walked rules [] v word) (option_walked rules id action parser defaults w h among)
    ∙ word_walked rules id action parser defaults word h among plain)

value_passed : (s : Shape) (id : Text) (action : ArgAction) (parser : ValueParser) (defaults : List Text) (word : Text) (w : Waiting) (h : Held) (rest : List Text)
    → IsAmong s.rules id (value_rule id action parser defaults) → IsPlain word → settles s h ≡ true
    → walk_passes s [] (at w h) (dashed id ∷ word ∷ rest) ≡ walk_passes s [] (walk_from (after_value s.rules id word h)) rest
unfolding clap_on_literals
value_passed s id action parser defaults word w h rest among plain settles_here =
    ap₂ (λ b (v : Walk). b && (turn_passes s [] v word && walk_passes s [] (walked s.rules [] v word) rest))
    (option_passes s id action parser defaults w h among settles_here) (option_walked s.rules id action parser defaults w h among)
    ∙ ap₂ (λ b (v : Walk). b && walk_passes s [] v rest) (turn_word s id word h plain) (word_walked s.rules id action parser defaults word h among plain)

-- its use, when it is settled
used_rows : (rules : List Rule) (id : Text) (a : Rule) (word : Text) (h : Held) → arg_by_id rules id ≡ Some a
    → (settled rules (after_value rules id word h)).rows ≡ used a (word ∷ []) (settled rules h).rows
used_rows rules id a word h by_id = ap (λ (o : Option Rule). used_by_id o (word ∷ []) (settled rules h).rows) by_id

used_settles : (s : Shape) (id : Text) (a : Rule) (word : Text) (h : Held) → arg_by_id s.rules id ≡ Some a
    → settles s (after_value s.rules id word h) ≡ use_passes s.args_override_self a (word ∷ []) (settled s.rules h).rows
used_settles s id a word h by_id =
    ap (λ (o : Option Rule). option_map_or (λ (b : Rule). use_passes s.args_override_self b (word ∷ []) (settled s.rules h).rows) o true) by_id

-- ---- an option that is done with its word

flag_walked : (rules : List Rule) (id : Text) (w : Waiting) (h : Held) → IsAmong rules id (flag_at id)
    → walked rules [] (at w h) (dashed id) ≡ walk_from (reacted rules (flag_at id) [] h)
unfolding clap_on_literals
flag_walked rules id w h among =
    ap (λ (met : Held × Step). after_step rules (dashed id) (at w h) met.0 met.1) (long_read rules w (dashed id) id None (flag_at id) h among.named among.by_long)

word_attached : (rules : List Rule) (id value word : Text) (w : Waiting) (h : Held) → IsAmong rules id (optional_at id value)
    → IsNamed (dashed id ++ 61 ∷ word) id (Some word)
    → walked rules [] (at w h) (dashed id ++ 61 ∷ word) ≡ walk_from (reacted rules (optional_at id value) (word ∷ []) h)
unfolding clap_on_literals
word_attached rules id value word w h among named =
    ap (λ (met : Held × Step). after_step rules (dashed id ++ 61 ∷ word) (at w h) met.0 met.1)
    (long_read rules w (dashed id ++ 61 ∷ word) id (Some word) (optional_at id value) h named among.by_long)

-- and one that waits for a value that may not come
left_waiting : (rules : List Rule) (id value : Text) (w : Waiting) (h : Held) → IsAmong rules id (optional_at id value)
    → walked rules [] (at w h) (dashed id) ≡ at (option id) (record (settled rules h) { pending = Some (id, []) })
unfolding clap_on_literals
left_waiting rules id value w h among =
    ap (λ (met : Held × Step). after_step rules (dashed id) (at w h) met.0 met.1)
    (long_read rules w (dashed id) id None (optional_at id value) h among.named among.by_long)

-- it may be used where no row has its id
set_used : (again : Bool) (id : Text) (rows : List Row) → has_row id rows ≡ false → ((not (has_row id rows) || again) && true) ≡ true
set_used again id rows absent = ap (λ b. (not b || again) && true) absent

flag_turn : (s : Shape) (id : Text) (w : Waiting) (h : Held) → IsAmong s.rules id (flag_at id) → settles s h ≡ true → has_row id (settled s.rules h).rows ≡ false
    → turn_passes s [] (at w h) (dashed id) ≡ true
flag_turn s id w h among settles_here absent =
    ap₂ (λ b (met : Held × Step). b && step_passes s 1 met.0 met.1) (long_read_passes s w (dashed id) id None (flag_at id) h among.named among.by_long)
    (long_read s.rules w (dashed id) id None (flag_at id) h among.named among.by_long)
    ∙ ap₂ (λ a b. (a && b) && true) settles_here (set_used s.args_override_self id (settled s.rules h).rows absent)

attached_turn : (s : Shape) (id value word : Text) (w : Waiting) (h : Held) → IsAmong s.rules id (optional_at id value)
    → IsNamed (dashed id ++ 61 ∷ word) id (Some word) → settles s h ≡ true → has_row id (settled s.rules h).rows ≡ false
    → turn_passes s [] (at w h) (dashed id ++ 61 ∷ word) ≡ true
attached_turn s id value word w h among named settles_here absent =
    let whole = dashed id ++ 61 ∷ word in
    ap₂ (λ b (met : Held × Step). b && step_passes s 1 met.0 met.1) (long_read_passes s w whole id (Some word) (optional_at id value) h named among.by_long)
    (long_read s.rules w whole id (Some word) (optional_at id value) h named among.by_long)
    ∙ ap₂ (λ a b. (a && b) && true) settles_here (set_used s.args_override_self id (settled s.rules h).rows absent)

waiting_turn : (s : Shape) (id value : Text) (w : Waiting) (h : Held) → IsAmong s.rules id (optional_at id value) → settles s h ≡ true
    → turn_passes s [] (at w h) (dashed id) ≡ true
waiting_turn s id value w h among settles_here =
    ap₂ (λ b (met : Held × Step). b && step_passes s 1 met.0 met.1) (long_read_passes s w (dashed id) id None (optional_at id value) h among.named among.by_long)
    (long_read s.rules w (dashed id) id None (optional_at id value) h among.named among.by_long)
    ∙ ap (λ b. b && true) settles_here

-- ---- the rows that options leave

-- what a flag that stands has for its value
abbrev flag_values : Bool → Option (List Text)
flag_values true = Some (codes "true" ∷ [])
flag_values false = None

abbrev values_of : Given → Option (List Text)
values_of (number id most defaults said) = option_map (λ (word : Text). word ∷ []) said
values_of (flag id said) = flag_values said
values_of (worded id said) = option_map (λ (word : Text). word ∷ []) said
values_of (files id said) = file_values said
values_of (optional id value None) = None
values_of (optional id value (Some alone)) = Some (value ∷ [])
values_of (optional id value (Some (with_word word))) = Some (word ∷ [])

abbrev pub use_of : Given → OptionUse
use_of g = record { id = id_of g; how = reading_by (rule_at g); values = values_of g }

-- after some options these rows are held, and what waits passes
pub record Stands (s : Shape) (h : Held) (us : List OptionUse) : Type 0 where
  pub rows : (settled s.rules h).rows ≡ rows_in us
  pub settles : settles s h ≡ true

-- a use of an argument that no row has is one row more
one-more : (id : Text) (how : Reading) (us : List OptionUse) (values : List Text) (rows : List Row) → rows ≡ rows_in us → mentions id us ≡ false
    → with_values id how CommandLine values (without id rows) ≡ rows_in (us ++ record { id = id; how = how; values = Some values } ∷ [])
one-more id how us values rows is new =
    let absent = absent-in id us new in
    ap (λ (l : List Row). with_values id how CommandLine values (without id l)) is
    ∙ (ap (with_values id how CommandLine values) (without-absent id (rows_in us) absent)
    ∙ (used-absent id how CommandLine values (rows_in us) absent ∙ rows-used us id how values))

-- an option that does not stand changes nothing
left_out : (s : Shape) (h : Held) (us : List OptionUse) (id : Text) (how : Reading) → Stands s h us
    → Stands s h (us ++ record { id = id; how = how; values = None } ∷ [])
left_out s h us id how stands = record { rows = stands.rows ∙ rows-unused us id how; settles = stands.settles }

number_stands : (s : Shape) (id : Text) (most : ℕ) (defaults : List Text) (word : Text) (h : Held) (us : List OptionUse)
    → IsAmong s.rules id (number_at id most defaults) → IsNumber most word → Stands s h us → mentions id us ≡ false
    → Stands s (after s.rules (number id most defaults (Some word)) h) (us ++ use_of (number id most defaults (Some word)) ∷ [])
number_stands s id most defaults word h us among is stands new =
    let a = number_at id most defaults in record {
      rows = used_rows s.rules id a word h among.by_id ∙ one-more id (reading_by a) us (word ∷ []) (settled s.rules h).rows stands.rows new;
      settles = used_settles s id a word h among.by_id
          ∙ ap₂ (λ b c. (not b || s.args_override_self) && (c && true)) (ap (has_row id) stands.rows ∙ absent-in id us new) is.accepted;
    }

word_stands : (s : Shape) (id : Text) (word : Text) (h : Held) (us : List OptionUse) → IsAmong s.rules id (word_at id) → Stands s h us → mentions id us ≡ false
    → Stands s (after s.rules (worded id (Some word)) h) (us ++ use_of (worded id (Some word)) ∷ [])
word_stands s id word h us among stands new =
    let a = word_at id in record {
      rows = used_rows s.rules id a word h among.by_id ∙ one-more id (reading_by a) us (word ∷ []) (settled s.rules h).rows stands.rows new;
      settles = used_settles s id a word h among.by_id
          ∙ set_used s.args_override_self id (settled s.rules h).rows (ap (has_row id) stands.rows ∙ absent-in id us new);
    }

flag_stands : (s : Shape) (id : Text) (h : Held) (us : List OptionUse) → Stands s h us → mentions id us ≡ false
    → Stands s (after s.rules (flag id true) h) (us ++ use_of (flag id true) ∷ [])
flag_stands s id h us stands new = record {
  rows = one-more id (reading_by (flag_at id)) us (codes "true" ∷ []) (settled s.rules h).rows stands.rows new;
  settles = refl;
}

alone_stands : (s : Shape) (id value : Text) (h : Held) (us : List OptionUse) → IsAmong s.rules id (optional_at id value) → Stands s h us → mentions id us ≡ false
    → Stands s (after s.rules (optional id value (Some alone)) h) (us ++ use_of (optional id value (Some alone)) ∷ [])
alone_stands s id value h us among stands new =
    let a = optional_at id value in record {
      rows = ap (λ (o : Option Rule). used_by_id o [] (settled s.rules h).rows) among.by_id
          ∙ one-more id (reading_by a) us (value ∷ []) (settled s.rules h).rows stands.rows new;
      settles = ap (λ (o : Option Rule). option_map_or (λ (b : Rule). use_passes s.args_override_self b [] (settled s.rules h).rows) o true) among.by_id
          ∙ set_used s.args_override_self id (settled s.rules h).rows (ap (has_row id) stands.rows ∙ absent-in id us new);
    }

attached_stands : (s : Shape) (id value word : Text) (h : Held) (us : List OptionUse) → Stands s h us → mentions id us ≡ false
    → Stands s (after s.rules (optional id value (Some (with_word word))) h) (us ++ use_of (optional id value (Some (with_word word))) ∷ [])
attached_stands s id value word h us stands new = record {
  rows = one-more id (reading_by (optional_at id value)) us (word ∷ []) (settled s.rules h).rows stands.rows new;
  settles = refl;
}

-- a file more
more_rows : (id : Text) (how : Reading) (words : List Text) (word : Text) (rows : List Row) (us : List OptionUse) → bytes_eq id id ≡ true → mentions id us ≡ false
    → rows ≡ rows_in (us ++ record { id = id; how = how; values = file_values words } ∷ [])
    → with_values id how CommandLine (word ∷ []) rows ≡ rows_in (us ++ record { id = id; how = how; values = file_values (words ++ word ∷ []) } ∷ [])
more_rows id how [] word rows us same new is =
    ap (with_values id how CommandLine (word ∷ [])) (is ∙ sym (rows-unused us id how))
    ∙ (used-absent id how CommandLine (word ∷ []) (rows_in us) (absent-in id us new) ∙ rows-used us id how (word ∷ []))
more_rows id how (first ∷ words) word rows us same new is =
    ap (with_values id how CommandLine (word ∷ [])) (is ∙ sym (rows-used us id how (first ∷ words)))
    ∙ (one-longer us id how (first ∷ words) (word ∷ []) new same ∙ rows-used us id how (first ∷ (words ++ word ∷ [])))

file_stands : (s : Shape) (id : Text) (words : List Text) (word : Text) (h : Held) (us : List OptionUse) → IsAmong s.rules id (file_at id)
    → mentions id us ≡ false → Stands s h (us ++ use_of (files id words) ∷ [])
    → Stands s (after_value s.rules id word h) (us ++ use_of (files id (words ++ word ∷ [])) ∷ [])
file_stands s id words word h us among new stands = record {
  rows = used_rows s.rules id (file_at id) word h among.by_id
      ∙ more_rows id (reading_by (file_at id)) words word (settled s.rules h).rows us among.same new stands.rows;
  settles = used_settles s id (file_at id) word h among.by_id;
}

-- files behind others
files_stand : (s : Shape) (id : Text) (words before : List Text) (h : Held) (us : List OptionUse) → IsAmong s.rules id (file_at id)
    → mentions id us ≡ false → Stands s h (us ++ use_of (files id before) ∷ [])
    → Stands s (after_values s.rules id words h) (us ++ use_of (files id (before ++ words)) ∷ [])
files_stand s id [] before h us among new stands =
    subst (λ (ws : List Text). Stands s h (us ++ use_of (files id ws) ∷ [])) (sym (append-nil before)) stands
files_stand s id (word ∷ words) before h us among new stands =
    subst (λ (ws : List Text). Stands s (after_values s.rules id words (after_value s.rules id word h)) (us ++ use_of (files id ws) ∷ [])) (append_assoc before (word ∷ []) words)
    (files_stand s id words (before ++ word ∷ []) (after_value s.rules id word h) us among new (file_stands s id before word h us among new stands))

no_wait : (words : List Text) → behind_files words idle ≡ idle
no_wait [] = refl
no_wait (word ∷ words) = refl

files_walked : (rules : List Rule) (id : Text) (words : List Text) (w : Waiting) (h : Held) (rest : List Text) → IsAmong rules id (file_at id) → All IsPlain words
    → fold (walked rules []) (at w h) (file_words (dashed id) words ++ rest) ≡ fold (walked rules []) (at (behind_files words w) (after_values rules id words h)) rest
files_walked rules id [] w h rest among plain = refl
files_walked rules id (word ∷ words) w h rest among plain =
    value_walked rules id Append AnyText [] word w h (file_words (dashed id) words ++ rest) among (All-head IsPlain word words plain)
    ∙ (files_walked rules id words idle (after_value rules id word h) rest among (All-tail IsPlain word words plain)
    ∙ ap (λ v. fold (walked rules []) (at v (after_values rules id words (after_value rules id word h))) rest) (no_wait words))

files_pass : (s : Shape) (id : Text) (words before : List Text) (w : Waiting) (h : Held) (us : List OptionUse) (rest : List Text) → IsAmong s.rules id (file_at id)
    → All IsPlain words → mentions id us ≡ false → Stands s h (us ++ use_of (files id before) ∷ [])
    → walk_passes s [] (at w h) (file_words (dashed id) words ++ rest) ≡ walk_passes s [] (at (behind_files words w) (after_values s.rules id words h)) rest
files_pass s id [] before w h us rest among plain new stands = refl
files_pass s id (word ∷ words) before w h us rest among plain new stands =
    value_passed s id Append AnyText [] word w h (file_words (dashed id) words ++ rest) among (All-head IsPlain word words plain) stands.settles
    ∙ (files_pass s id words (before ++ word ∷ []) idle (after_value s.rules id word h) us rest among (All-tail IsPlain word words plain) new
    (file_stands s id before word h us among new stands)
    ∙ ap (λ v. walk_passes s [] (at v (after_values s.rules id words (after_value s.rules id word h))) rest) (no_wait words))

-- ---- any option

pub given_walked : (rules : List Rule) (g : Given) (w : Waiting) (h : Held) (rest : List Text) → IsAmong rules (id_of g) (rule_at g) → IsLawful g
    → fold (walked rules []) (at w h) (words_of g ++ rest) ≡ fold (walked rules []) (at (waiting_after g w) (after rules g h)) rest
given_walked rules (number id most defaults None) w h rest among lawful = refl
given_walked rules (number id most defaults (Some word)) w h rest among lawful =
    value_walked rules id Set (Signed (pos 0) (pos most)) defaults word w h rest among lawful.plain
given_walked rules (flag id false) w h rest among lawful = refl
given_walked rules (flag id true) w h rest among lawful = ap (λ (v : Walk). fold (walked rules []) v rest) (flag_walked rules id w h among)
given_walked rules (worded id None) w h rest among lawful = refl
given_walked rules (worded id (Some word)) w h rest among lawful = value_walked rules id Set AnyText [] word w h rest among lawful
given_walked rules (files id said) w h rest among lawful = files_walked rules id said w h rest among lawful
given_walked rules (optional id value None) w h rest among lawful = refl
given_walked rules (optional id value (Some alone)) w h rest among lawful = ap (λ (v : Walk). fold (walked rules []) v rest) (left_waiting rules id value w h among)
given_walked rules (optional id value (Some (with_word word))) w h rest among lawful =
    ap (λ (v : Walk). fold (walked rules []) v rest) (word_attached rules id value word w h among lawful)

pub given_passes : (s : Shape) (g : Given) (w : Waiting) (h : Held) (us : List OptionUse) (rest : List Text) → IsAmong s.rules (id_of g) (rule_at g) → IsLawful g
    → Stands s h us → mentions (id_of g) us ≡ false
    → walk_passes s [] (at w h) (words_of g ++ rest) ≡ walk_passes s [] (at (waiting_after g w) (after s.rules g h)) rest
unfolding clap_on_literals
given_passes s (number id most defaults None) w h us rest among lawful stands new = refl
given_passes s (number id most defaults (Some word)) w h us rest among lawful stands new =
    value_passed s id Set (Signed (pos 0) (pos most)) defaults word w h rest among lawful.plain stands.settles
given_passes s (flag id false) w h us rest among lawful stands new = refl
given_passes s (flag id true) w h us rest among lawful stands new =
    ap₂ (λ b (v : Walk). b && walk_passes s [] v rest)
    (flag_turn s id w h among stands.settles (ap (has_row id) stands.rows ∙ absent-in id us new)) (flag_walked s.rules id w h among)
given_passes s (worded id None) w h us rest among lawful stands new = refl
given_passes s (worded id (Some word)) w h us rest among lawful stands new = value_passed s id Set AnyText [] word w h rest among lawful stands.settles
given_passes s (files id said) w h us rest among lawful stands new =
    files_pass s id said [] w h us rest among lawful new (left_out s h us id (reading_by (file_at id)) stands)
given_passes s (optional id value None) w h us rest among lawful stands new = refl
given_passes s (optional id value (Some alone)) w h us rest among lawful stands new =
    ap₂ (λ b (v : Walk). b && walk_passes s [] v rest) (waiting_turn s id value w h among stands.settles) (left_waiting s.rules id value w h among)
given_passes s (optional id value (Some (with_word word))) w h us rest among lawful stands new =
    ap₂ (λ b (v : Walk). b && walk_passes s [] v rest)
    (attached_turn s id value word w h among lawful stands.settles (ap (has_row id) stands.rows ∙ absent-in id us new))
    (word_attached s.rules id value word w h among lawful)

pub given_stands : (s : Shape) (g : Given) (h : Held) (us : List OptionUse) → IsAmong s.rules (id_of g) (rule_at g) → IsLawful g
    → Stands s h us → mentions (id_of g) us ≡ false → Stands s (after s.rules g h) (us ++ use_of g ∷ [])
given_stands s (number id most defaults None) h us among lawful stands new = left_out s h us id (reading_by (number_at id most defaults)) stands
given_stands s (number id most defaults (Some word)) h us among lawful stands new = number_stands s id most defaults word h us among lawful stands new
given_stands s (flag id false) h us among lawful stands new = left_out s h us id (reading_by (flag_at id)) stands
given_stands s (flag id true) h us among lawful stands new = flag_stands s id h us stands new
given_stands s (worded id None) h us among lawful stands new = left_out s h us id (reading_by (word_at id)) stands
given_stands s (worded id (Some word)) h us among lawful stands new = word_stands s id word h us among stands new
given_stands s (files id said) h us among lawful stands new =
    files_stand s id said [] h us among new (left_out s h us id (reading_by (file_at id)) stands)
given_stands s (optional id value None) h us among lawful stands new = left_out s h us id (reading_by (optional_at id value)) stands
given_stands s (optional id value (Some alone)) h us among lawful stands new = alone_stands s id value h us among stands new
given_stands s (optional id value (Some (with_word word))) h us among lawful stands new = attached_stands s id value word h us stands new

-- ---- its value at last

-- a number, where it is left out the first of its defaults
abbrev pub number_said : List Text → Option Text → Option Text
number_said defaults (Some word) = Some (without_minus word)
number_said [] None = None
number_said (default ∷ defaults) None = Some (without_minus default)

-- a value that may be left out, where the option stands
abbrev pub optional_said : Text → Option OptionalValue → Option Text
optional_said value None = None
optional_said value (Some alone) = Some value
optional_said value (Some (with_word word)) = Some word

abbrev pub HasValue : List Row → Given → Type 0
HasValue rows (number id most defaults said) = one_of id rows ≡ number_said defaults said
HasValue rows (flag id said) = one_of id rows ≡ Some (bool_text said)
HasValue rows (worded id said) = first_of id rows ≡ said
HasValue rows (files id said) = all_of id rows ≡ file_values said
HasValue rows (optional id value said) = first_of id rows ≡ optional_said value said

-- whatever options stand before it and behind it
abbrev pub rows_at_last : List Rule → List OptionUse → Given → List OptionUse → List Row
rows_at_last rules before g behind = fold with_default (rows_in (before ++ use_of g ∷ behind)) rules

-- the row of one that stands
standing : (rules : List Rule) (before behind : List OptionUse) (id : Text) (how : Reading) (values : List Text) → bytes_eq id id ≡ true → mentions id before ≡ false
    → found id (fold with_default (rows_in (before ++ record { id = id; how = how; values = Some values } ∷ behind)) rules) ≡ Some (row id how CommandLine values)
standing rules before behind id how values same first =
    all-keep id rules (rows_in (before ++ record { id = id; how = how; values = Some values } ∷ behind)) (row id how CommandLine values)
    (found-use before behind id how values first same)

-- that of one that is left out, and has a default
by_default : (rules : List Rule) (before behind : List OptionUse) (a : Rule) (value : Text) (values : List Text) → IsAmong rules a.id a → a.defaults ≡ value ∷ values
    → mentions a.id before ≡ false → mentions a.id behind ≡ false
    → found a.id (fold with_default (rows_in (before ++ record { id = a.id; how = reading_by a; values = None } ∷ behind)) rules)
    ≡ Some (row a.id (reading_by a) DefaultValue (value ∷ values))
by_default rules before behind a value values among defaults first last =
    default-found rules a (rows_in (before ++ record { id = a.id; how = reading_by a; values = None } ∷ behind)) value values
    (absent-use before behind a.id (reading_by a) first last) among.by_id defaults among.same

-- and of one without a default
by_nothing : (rules : List Rule) (before behind : List OptionUse) (id : Text) (how : Reading) → has_none id rules ≡ true
    → mentions id before ≡ false → mentions id behind ≡ false
    → found id (fold with_default (rows_in (before ++ record { id = id; how = how; values = None } ∷ behind)) rules) ≡ None
by_nothing rules before behind id how none first last =
    never-found rules (rows_in (before ++ record { id = id; how = how; values = None } ∷ behind)) id (absent-use before behind id how first last) none

pub given_value : (rules : List Rule) (before behind : List OptionUse) (g : Given) → IsAmong rules (id_of g) (rule_at g)
    → mentions (id_of g) before ≡ false → mentions (id_of g) behind ≡ false → HasValue (rows_at_last rules before g behind) g
given_value rules before behind (number id most defaults (Some word)) among first last =
    ap (option_and_then row_text) (standing rules before behind id (reading_by (number_at id most defaults)) (word ∷ []) among.same first)
given_value rules before behind (number id most [] None) among first last =
    ap (option_and_then row_text) (by_nothing rules before behind id (reading_by (number_at id most [])) among.default first last)
given_value rules before behind (number id most (value ∷ values) None) among first last =
    ap (option_and_then row_text) (by_default rules before behind (number_at id most (value ∷ values)) value values among refl first last)
given_value rules before behind (flag id true) among first last =
    ap (option_and_then row_text) (standing rules before behind id (reading_by (flag_at id)) (codes "true" ∷ []) among.same first)
given_value rules before behind (flag id false) among first last =
    ap (option_and_then row_text) (by_default rules before behind (flag_at id) (codes "false") [] among refl first last)
given_value rules before behind (worded id None) among first last =
    ap (option_and_then (λ (r : Row). slice_get r.values 0)) (by_nothing rules before behind id (reading_by (word_at id)) among.default first last)
given_value rules before behind (worded id (Some word)) among first last =
    ap (option_and_then (λ (r : Row). slice_get r.values 0)) (standing rules before behind id (reading_by (word_at id)) (word ∷ []) among.same first)
given_value rules before behind (files id []) among first last =
    ap (option_map (λ (r : Row). r.values)) (by_nothing rules before behind id (reading_by (file_at id)) among.default first last)
given_value rules before behind (files id (word ∷ words)) among first last =
    ap (option_map (λ (r : Row). r.values)) (standing rules before behind id (reading_by (file_at id)) (word ∷ words) among.same first)
given_value rules before behind (optional id value None) among first last =
    ap (option_and_then (λ (r : Row). slice_get r.values 0)) (by_nothing rules before behind id (reading_by (optional_at id value)) among.default first last)
given_value rules before behind (optional id value (Some alone)) among first last =
    ap (option_and_then (λ (r : Row). slice_get r.values 0)) (standing rules before behind id (reading_by (optional_at id value)) (value ∷ []) among.same first)
given_value rules before behind (optional id value (Some (with_word word))) among first last =
    ap (option_and_then (λ (r : Row). slice_get r.values 0)) (standing rules before behind id (reading_by (optional_at id value)) (word ∷ []) among.same first)

-- ---- whether it stands

abbrev pub stands : Given → Bool
stands (number id most defaults said) = is_some said
stands (flag id said) = said
stands (worded id said) = is_some said
stands (files id said) = is_some (file_values said)
stands (optional id value said) = is_some said

abbrev row_is_said : Option Row → Bool
row_is_said r = by_words (option_and_then (λ (r : Row). r.source) r)

-- its row tells
pub given_said : (rules : List Rule) (before behind : List OptionUse) (g : Given) → IsAmong rules (id_of g) (rule_at g)
    → mentions (id_of g) before ≡ false → mentions (id_of g) behind ≡ false → is_said (id_of g) (rows_at_last rules before g behind) ≡ stands g
given_said rules before behind (number id most defaults (Some word)) among first last =
    ap row_is_said (standing rules before behind id (reading_by (number_at id most defaults)) (word ∷ []) among.same first)
given_said rules before behind (number id most [] None) among first last =
    ap row_is_said (by_nothing rules before behind id (reading_by (number_at id most [])) among.default first last)
given_said rules before behind (number id most (value ∷ values) None) among first last =
    ap row_is_said (by_default rules before behind (number_at id most (value ∷ values)) value values among refl first last)
given_said rules before behind (flag id true) among first last =
    ap row_is_said (standing rules before behind id (reading_by (flag_at id)) (codes "true" ∷ []) among.same first)
given_said rules before behind (flag id false) among first last =
    ap row_is_said (by_default rules before behind (flag_at id) (codes "false") [] among refl first last)
given_said rules before behind (worded id None) among first last =
    ap row_is_said (by_nothing rules before behind id (reading_by (word_at id)) among.default first last)
given_said rules before behind (worded id (Some word)) among first last =
    ap row_is_said (standing rules before behind id (reading_by (word_at id)) (word ∷ []) among.same first)
given_said rules before behind (files id []) among first last =
    ap row_is_said (by_nothing rules before behind id (reading_by (file_at id)) among.default first last)
given_said rules before behind (files id (word ∷ words)) among first last =
    ap row_is_said (standing rules before behind id (reading_by (file_at id)) (word ∷ words) among.same first)
given_said rules before behind (optional id value None) among first last =
    ap row_is_said (by_nothing rules before behind id (reading_by (optional_at id value)) among.default first last)
given_said rules before behind (optional id value (Some alone)) among first last =
    ap row_is_said (standing rules before behind id (reading_by (optional_at id value)) (value ∷ []) among.same first)
given_said rules before behind (optional id value (Some (with_word word))) among first last =
    ap row_is_said (standing rules before behind id (reading_by (optional_at id value)) (word ∷ []) among.same first)
