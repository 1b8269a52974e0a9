-- What clap makes of a command whose words are options alone: of the words of all of them, by induction on their list.
use Rattle.std.proofs.Common.{◌≡◌, ◌∙◌, ap, ap₂, sym, subst, refl, arith, inl, inr, ℕ, ◌+◌, Bool, true, false, not, ◌&&◌, List, [], ◌∷◌, ◌++◌, map, drop, slice_index_or, Option, Some, None, IfSome}
use Rattle.std.specs.Prelude.{⊤, ◌<◌, ◌≤◌, ◌^◌, All, decimal, fold, is_some}
use Rattle.std.specs.List.{list_all}
use Rattle.std.proofs.lemmas.List.{append_assoc, append-nil}
use Rattle.std.proofs.lemmas.List.Elements.{All-cons, All-nil}
use Rattle.clap.specs.Lexer.{without_minus}
use Rattle.clap.specs.Simple.{Shape, entered, names_of}
use Rattle.clap.specs.Takes.{default_passes, entered_passes, is_valid, level_passes, settle_passes, walk_passes}
use Rattle.clap.specs.Walk.{Held, Names, Row, Rule, Text, Waiting, Walk, finished, idle, nothing_held, walk, walk_from, walked, with_default}
use Rattle.clap.specs.Words.{App, built, subcommand_of, takes}
use Rattle.clap.proofs.OnLiterals.{clap_on_literals}
use Rattle.command_line.specs.CommandLine.{Choices, IsProgram, program_app}
use Rattle.command_line.specs.OptionWords.{SaysNumberBelow}
use Rattle.command_line.proofs.CommandLine.{IsNumber, is_number, numeral_of, strips_none}
use Rattle.command_line.proofs.OptionRows.{OptionUse, and-left, and-right, mentions, rows_in}
use Rattle.command_line.specs.ScheduleWords.{is_said as row_said}
use Rattle.command_line.proofs.Options.{Facts, Given, HasValue, IsAmong, IsLawful, Stands, after, at, dashed, facts_in, facts_of, given_passes, given_said, given_stands, given_value, given_walked, id_of, is_among, number_said, rows_at_last, rule_at, settles, stands, use_of, waiting_after, words_of}
use Rattle.command_line.proofs.Options.Given.{number}

-- ---- the options

-- the words of all of them
abbrev and_more : List Text → List Given → List Text → List Text
and_more words [] more = words
and_more words (g ∷ gs) more = words ++ more

abbrev pub all_words : List Given → List Text
all_words [] = []
all_words (g ∷ gs) = and_more (words_of g) gs (all_words gs)

-- clap takes each of them
abbrev pub AreLawful : List Given → Type 0
AreLawful [] = ⊤
AreLawful (g ∷ gs) = IsLawful g × AreLawful gs

-- each is found among the command's arguments
abbrev pub AreAmong : List Rule → List Given → Type 0
AreAmong rules gs = map (facts_in rules) gs ≡ map facts_of gs

-- and none has the id of one of these, or of one behind it
abbrev pub are_distinct : List OptionUse → List Given → Bool
are_distinct before [] = true
are_distinct before (g ∷ gs) =
    not (mentions (id_of g) before) && (not (mentions (id_of g) (map use_of gs)) && are_distinct (before ++ use_of g ∷ []) gs)

-- what waits for a next word after all of them, and what is held
abbrev pub all_waiting : List Given → Waiting → Waiting
all_waiting [] w = w
all_waiting (g ∷ gs) w = all_waiting gs (waiting_after g w)

abbrev pub all_after : List Rule → List Given → Held → Held
all_after rules [] h = h
all_after rules (g ∷ gs) h = all_after rules gs (after rules g h)

-- the same words, each before the words behind it
abbrev flat_words : List Given → List Text
flat_words [] = []
flat_words (g ∷ gs) = words_of g ++ flat_words gs

flat : (gs : List Given) → all_words gs ≡ flat_words gs
flat [] = refl
flat (g ∷ gs) = by_rest gs (flat gs)
  where
    by_rest : (hs : List Given) → all_words hs ≡ flat_words hs → and_more (words_of g) hs (all_words hs) ≡ words_of g ++ flat_words hs
    by_rest [] same = sym (append-nil (words_of g))
    by_rest (h ∷ hs) same = ap (λ (l : List Text). words_of g ++ l) same

first_fact : (rules : List Rule) (g : Given) (gs : List Given) → AreAmong rules (g ∷ gs) → facts_in rules g ≡ facts_of g
first_fact rules g gs among = ap (λ (l : List Facts). slice_index_or l 0 (facts_of g)) among

not-so : (b : Bool) → not b ≡ true → b ≡ false
not-so true is = cc is
not-so false is = refl

new-to : (before : List OptionUse) (g : Given) (gs : List Given) → are_distinct before (g ∷ gs) ≡ true → mentions (id_of g) before ≡ false
new-to before g gs distinct =
    not-so (mentions (id_of g) before)
    (and-left (not (mentions (id_of g) before)) (not (mentions (id_of g) (map use_of gs)) && are_distinct (before ++ use_of g ∷ []) gs) distinct)

behind : (before : List OptionUse) (g : Given) (gs : List Given) → are_distinct before (g ∷ gs) ≡ true
    → (not (mentions (id_of g) (map use_of gs)) && are_distinct (before ++ use_of g ∷ []) gs) ≡ true
behind before g gs distinct =
    and-right (not (mentions (id_of g) before)) (not (mentions (id_of g) (map use_of gs)) && are_distinct (before ++ use_of g ∷ []) gs) distinct

not-again : (before : List OptionUse) (g : Given) (gs : List Given) → are_distinct before (g ∷ gs) ≡ true → mentions (id_of g) (map use_of gs) ≡ false
not-again before g gs distinct =
    not-so (mentions (id_of g) (map use_of gs))
    (and-left (not (mentions (id_of g) (map use_of gs))) (are_distinct (before ++ use_of g ∷ []) gs) (behind before g gs distinct))

others : (before : List OptionUse) (g : Given) (gs : List Given) → are_distinct before (g ∷ gs) ≡ true → are_distinct (before ++ use_of g ∷ []) gs ≡ true
others before g gs distinct =
    and-right (not (mentions (id_of g) (map use_of gs))) (are_distinct (before ++ use_of g ∷ []) gs) (behind before g gs distinct)

-- ---- the walk over their words

all_walked : (rules : List Rule) (gs : List Given) (w : Waiting) (h : Held) → AreAmong rules gs → AreLawful gs
    → fold (walked rules []) (at w h) (flat_words gs) ≡ at (all_waiting gs w) (all_after rules gs h)
all_walked rules [] w h among lawful = refl
all_walked rules (g ∷ gs) w h among lawful =
    given_walked rules g w h (flat_words gs) (is_among rules g (first_fact rules g gs among)) lawful.0
    ∙ all_walked rules gs (waiting_after g w) (after rules g h) (ap (drop 1) among) lawful.1

all_pass : (s : Shape) (gs : List Given) (w : Waiting) (h : Held) (us : List OptionUse) → AreAmong s.rules gs → AreLawful gs → Stands s h us → are_distinct us gs ≡ true
    → walk_passes s [] (at w h) (flat_words gs) ≡ true
unfolding clap_on_literals
all_pass s [] w h us among lawful stands distinct = refl
all_pass s (g ∷ gs) w h us among lawful stands distinct =
    let mine = is_among s.rules g (first_fact s.rules g gs among) in
    let new = new-to us g gs distinct in
    given_passes s g w h us (flat_words gs) mine lawful.0 stands new
    ∙ all_pass s gs (waiting_after g w) (after s.rules g h) (us ++ use_of g ∷ []) (ap (drop 1) among) lawful.1 (given_stands s g h us mine lawful.0 stands new) (others us g gs distinct)

all_stand : (s : Shape) (gs : List Given) (h : Held) (us : List OptionUse) → AreAmong s.rules gs → AreLawful gs → Stands s h us → are_distinct us gs ≡ true
    → Stands s (all_after s.rules gs h) (us ++ map use_of gs)
all_stand s [] h us among lawful stands distinct = subst (Stands s h) (sym (append-nil us)) stands
all_stand s (g ∷ gs) h us among lawful stands distinct =
    let mine = is_among s.rules g (first_fact s.rules g gs among) in
    let new = new-to us g gs distinct in
    subst (Stands s (all_after s.rules gs (after s.rules g h))) (append_assoc us (use_of g ∷ []) (map use_of gs))
    (all_stand s gs (after s.rules g h) (us ++ use_of g ∷ []) (ap (drop 1) among) lawful.1 (given_stands s g h us mine lawful.0 stands new) (others us g gs distinct))

-- ---- what holds of each at last

-- it holds of any one, whatever options stand before it and behind it
abbrev pub HoldsOfEach : (List Row → Given → Type 0) → Type 0
HoldsOfEach P = (rules : List Rule) (before behind : List OptionUse) (g : Given) → IsAmong rules (id_of g) (rule_at g)
    → mentions (id_of g) before ≡ false → mentions (id_of g) behind ≡ false → P (rows_at_last rules before g behind) g

all_hold : (P : List Row → Given → Type 0) → HoldsOfEach P → (rules : List Rule) (before : List OptionUse) (gs : List Given) → AreAmong rules gs
    → are_distinct before gs ≡ true → All (P (fold with_default (rows_in (before ++ map use_of gs)) rules)) gs
all_hold P each rules before [] among distinct = All-nil (P (fold with_default (rows_in (before ++ [])) rules))
all_hold P each rules before (g ∷ gs) among distinct =
    All-cons (P (fold with_default (rows_in (before ++ use_of g ∷ map use_of gs)) rules)) g gs
    (each rules before (map use_of gs) g (is_among rules g (first_fact rules g gs among)) (new-to before g gs distinct) (not-again before g gs distinct))
    (subst (λ (us : List OptionUse). All (P (fold with_default (rows_in us) rules)) gs) (append_assoc before (use_of g ∷ []) (map use_of gs))
    (all_hold P each rules (before ++ use_of g ∷ []) gs (ap (drop 1) among) (others before g gs distinct)))

-- ---- a command

-- once it is met, the words are its own
abbrev pub stopped_at : Text → List Text → Walk
stopped_at name words = record (walk_from nothing_held) { stopped = Some (name, words) }

stops : (top : List Rule) (names : Names) (name : Text) (before rest : List Text) → fold (walked top names) (stopped_at name before) rest ≡ stopped_at name (before ++ rest)
unfolding clap_on_literals
stops top names name before [] = ap (stopped_at name) (sym (append-nil before))
stops top names name before (word ∷ rest) =
    stops top names name (before ++ word ∷ []) rest ∙ ap (stopped_at name) (append_assoc before (word ∷ []) rest)

stop_passes : (s : Shape) (names : Names) (name : Text) (before rest : List Text) → walk_passes s names (stopped_at name before) rest ≡ true
unfolding clap_on_literals
stop_passes s names name before [] = refl
stop_passes s names name before (word ∷ rest) = stop_passes s names name (before ++ word ∷ []) rest

abbrev pub built_program : Choices → Choices → App
built_program rings formats = built (program_app rings formats)

abbrev pub top_passes : Choices → Choices → Walk → Bool → Bool
top_passes rings formats w pass =
    let a = built_program rings formats in
    entered_passes a w.stopped && (pass && (settle_passes a.top.rules false w.held
    && (list_all default_passes a.top.rules && is_valid a.top (finished a.top.rules w.held) (is_some (entered a w.stopped)))))

-- the program's words begin with its name, and it is built so. Each holds by `refl` of a name
pub record IsCommand (rings formats : Choices) (name : Text) (s : Shape) : Type 0 where
  pub taken : (rest : List Text) → let a = built_program rings formats in takes (program_app rings formats) (name ∷ rest)
      ≡ top_passes rings formats (fold (walked a.top.rules (names_of a)) (stopped_at name []) rest) (walk_passes a.top (names_of a) (stopped_at name []) rest)
  pub level : (rest : List Text) → top_passes rings formats (stopped_at name rest) true ≡ (level_passes s [] nothing_held rest false && true)
  pub met : (rest : List Text) → let a = built_program rings formats in
      subcommand_of (program_app rings formats) (name ∷ rest) ≡ entered a (fold (walked a.top.rules (names_of a)) (stopped_at name []) rest).stopped
  pub entry : (rest : List Text) → entered (built_program rings formats) (Some (name, rest)) ≡ Some (name, finished s.rules (walk s.rules [] nothing_held rest).held)

-- so the program takes the words if the command takes those behind its name
pub command_taken : (app : App) (words rest : List Text) (name : Text) (s : Shape) → IsProgram app → ((rings formats : Choices) → IsCommand rings formats name s)
    → words ≡ name ∷ rest → level_passes s [] nothing_held rest false ≡ true → takes app words ≡ true
command_taken app words rest name s program is_command words_are passes =
    let a = built_program program.rings program.formats in
    let command = is_command program.rings program.formats in
    ap₂ takes program.app_is words_are
    ∙ (command.taken rest
    ∙ (ap₂ (top_passes program.rings program.formats) (stops a.top.rules (names_of a) name [] rest) (stop_passes a.top (names_of a) name [] rest)
    ∙ (command.level rest ∙ ap (λ b. b && true) passes)))

-- and finds what the command makes of them
pub command_found : (app : App) (words rest : List Text) (name : Text) (s : Shape) → IsProgram app → ((rings formats : Choices) → IsCommand rings formats name s)
    → words ≡ name ∷ rest → subcommand_of app words ≡ Some (name, finished s.rules (walk s.rules [] nothing_held rest).held)
command_found app words rest name s program is_command words_are =
    let a = built_program program.rings program.formats in
    let command = is_command program.rings program.formats in
    ap₂ subcommand_of program.app_is words_are
    ∙ (command.met rest ∙ (ap (λ (w : Walk). entered a w.stopped) (stops a.top.rules (names_of a) name [] rest) ∙ command.entry rest))

-- these are options of it, and it wants no other words
pub record HasOptions (name : Text) (s : Shape) (gs : List Given) : Type 0 where
  pub command : (rings formats : Choices) → IsCommand rings formats name s
  pub among : AreAmong s.rules gs
  pub distinct : are_distinct [] gs ≡ true
  pub valid : (h : Held) → (list_all default_passes s.rules && is_valid s (finished s.rules h) false) ≡ true

begins : (s : Shape) → Stands s nothing_held []
begins s = record { rows = refl; settles = refl }

options_level : (name : Text) (s : Shape) (gs : List Given) → HasOptions name s gs → AreLawful gs → level_passes s [] nothing_held (all_words gs) false ≡ true
options_level name s gs has lawful =
    let held = all_after s.rules gs nothing_held in
    ap (λ (words : List Text). level_passes s [] nothing_held words false) (flat gs)
    ∙ (ap₂ (λ b (w : Walk). b && (settles s w.held && (list_all default_passes s.rules && is_valid s (finished s.rules w.held) false)))
    (all_pass s gs idle nothing_held [] has.among lawful (begins s) has.distinct) (all_walked s.rules gs idle nothing_held has.among lawful)
    ∙ ap₂ (λ a b. a && b) (all_stand s gs nothing_held [] has.among lawful (begins s) has.distinct).settles (has.valid held))

options_rows : (name : Text) (s : Shape) (gs : List Given) → HasOptions name s gs → AreLawful gs
    → finished s.rules (walk s.rules [] nothing_held (all_words gs)).held ≡ fold with_default (rows_in (map use_of gs)) s.rules
options_rows name s gs has lawful =
    ap (λ (words : List Text). finished s.rules (walk s.rules [] nothing_held words).held) (flat gs)
    ∙ (ap (λ (w : Walk). finished s.rules w.held) (all_walked s.rules gs idle nothing_held has.among lawful)
    ∙ ap (λ (l : List Row). fold with_default l s.rules) (all_stand s gs nothing_held [] has.among lawful (begins s) has.distinct).rows)

-- the words are taken
pub options_taken : (app : App) (words : List Text) (name : Text) (s : Shape) (gs : List Given) → IsProgram app → HasOptions name s gs → AreLawful gs
    → words ≡ name ∷ all_words gs → takes app words ≡ true
options_taken app words name s gs program has lawful words_are =
    command_taken app words (all_words gs) name s program has.command words_are (options_level name s gs has lawful)

-- and what holds of each option holds in the command's matches
pub options_hold : (P : List Row → Given → Type 0) → HoldsOfEach P → (app : App) (words : List Text) (name : Text) (s : Shape) (gs : List Given) → IsProgram app
    → HasOptions name s gs → AreLawful gs → words ≡ name ∷ all_words gs
    → (rows : List Row) × (subcommand_of app words ≡ Some (name, rows)) × All (P rows) gs
options_hold P each app words name s gs program has lawful words_are = (
  finished s.rules (walk s.rules [] nothing_held (all_words gs)).held,
  command_found app words (all_words gs) name s program has.command words_are,
  subst (λ (rows : List Row). All (P rows) gs) (sym (options_rows name s gs has lawful)) (all_hold P each s.rules [] gs has.among has.distinct),
)

-- so each has its value there
pub options_found : (app : App) (words : List Text) (name : Text) (s : Shape) (gs : List Given) → IsProgram app → HasOptions name s gs → AreLawful gs
    → words ≡ name ∷ all_words gs → (rows : List Row) × (subcommand_of app words ≡ Some (name, rows)) × All (HasValue rows) gs
options_found = options_hold HasValue given_value

-- each has its value, and stands or doesn't
abbrev pub IsRead : List Row → Given → Type 0
IsRead rows g = HasValue rows g × (row_said (id_of g) rows ≡ stands g)

pub each_read : HoldsOfEach IsRead
each_read rules before behind g among first last = (given_value rules before behind g among first last, given_said rules before behind g among first last)

-- ---- what words say of a number

abbrev pub said_of : (bound : ℕ) (option : Text) (default : ℕ) (words : List Text) (n : ℕ) → SaysNumberBelow bound option default words n → Option Text
said_of bound option default words n (inl stands) = Some (decimal n)
said_of bound option default words n (inr out) = None

pub record IsSaid (id : Text) (most : ℕ) (default : Text) (words : List Text) (n : ℕ) (said : Option Text) : Type 0 where
  pub words_are : words ≡ words_of (number id most (default ∷ []) said)
  pub lawful : IfSome said (IsNumber most)
  pub value : number_said (default ∷ []) said ≡ Some (decimal n)
  pub fits : n < 2 ^ 32

-- a number's own text is read as it stands
pub reads_itself : (n : ℕ) → n < 2 ^ 32 → Some (without_minus (decimal n)) ≡ Some (decimal n)
reads_itself n fits = ap (λ (t : Text). Some t) (strips_none (decimal n) (numeral_of n fits).no_minus)

pub is_said : (id : Text) (most default : ℕ) (text : Text) (words : List Text) (n : ℕ) → most < 2 ^ 32 → default ≤ most → text ≡ decimal default
    → (says : SaysNumberBelow (most + 1) (dashed id) default words n) → IsSaid id most text words n (said_of (most + 1) (dashed id) default words n says)
is_said id most default text words n small low text_is (inl stands) =
    let fits : n < 2 ^ 32 = omega (arith, small, stands.1) in record {
      words_are = stands.0;
      lawful = is_number most n (omega (arith, stands.1)) fits;
      value = reads_itself n fits;
      fits = fits;
    }
is_said id most default text words n small low text_is (inr out) =
    let fits : default < 2 ^ 32 = omega (arith, small, low) in record {
      words_are = out.0;
      lawful = tt;
      value = ap (λ (t : Text). Some (without_minus t)) text_is ∙ (reads_itself default fits ∙ ap (λ (k : ℕ). Some (decimal k)) (sym out.1));
      fits = subst (λ (k : ℕ). k < 2 ^ 32) (sym out.1) fits;
    }
