-- What clap makes of `from-capture` and `to-capture` and their places.
use Rattle.std.proofs.Common.{◌≡◌, ◌∙◌, ◌+◌, ap, ap₂, sym, refl, arith, ℕ, suc, zero, pos, Bool, true, false, ◌&&◌, List, [], ◌∷◌, ◌++◌, codes, slice_index_or, Option, Some, None, option_map}
use Rattle.std.specs.List.{list_all}
use Rattle.std.specs.Prelude.{◌<◌, IsSomeAnd, decimal, Result, Ok, Err}
use Rattle.std.specs.Str.Parse.{ExplainsUnsignedError, HasUnsignedDigitsIfOk, ParsesUnsigned}
use Rattle.std.proofs.lemmas.Fmt.{decimal_digit, parse-decimal}
use Rattle.clap.specs.Simple.{Shape, new_shape}
use Rattle.clap.specs.Takes.{default_passes, is_valid, level_passes, settle_passes, step_passes, word_passes}
use Rattle.clap.specs.ValueTests.{accepts}
use Rattle.clap.specs.Walk.{Held, Step, Walk, after_step, finished, nothing_held, option, plain_word, walk, word_met}
use Rattle.clap.specs.Words.{App, ReadsOne, Row, Text, built, one_of, one_text, rows_of, subcommand_of, takes, without_minus}
use Rattle.clap.specs.Values.{bool_text}
use Rattle.clap.specs.declared.builder.value_parser.ValueParser.TheVariants.{Signed}
use Rattle.clap.specs.declared.parser.matches.Found.{Found}
use Rattle.clap.proofs.OnLiterals.{clap_on_literals}
use Rattle.limits.specs.declared.profile.TheConstants.{MOST_PAIRS, PORTS}
use Rattle.command_line.specs.CaptureWords.{HasFromCapture, HasPlace, HasToCapture, SaysFromCapture, SaysToCapture}
use Rattle.capture.specs.declared.options.ReadOptions.{ReadOptions}
use Rattle.command_line.specs.OptionWords.{flag_words}
use Rattle.command_line.specs.ReadingWords.{IsLimit, limit_words}
use Rattle.command_line.specs.CommandLine.{Choices, IsProgram, program_app}
use Rattle.command_line.proofs.CommandLine.{IsNumber, is_number, is_there, rows_in, text_is}
use Rattle.command_line.proofs.OptionLists.{IsCommand, command_found, command_taken, reads_itself}
use Rattle.command_line.proofs.Options.{plain_read, plain_read_passes}

-- ---- a port, and a queue

each-port : (P : ℕ → Type 0) (n : ℕ) → n < PORTS → P 0 → P 1 → P n
each-port P zero low p0 p1 = p0
each-port P (suc zero) low p0 p1 = p1
each-port P (suc (suc n)) low p0 p1 = absurd (omega (arith, low))

each-queue : (P : ℕ → Type 0) (n : ℕ) → n < MOST_PAIRS → P 0 → P 1 → P 2 → P 3 → P 4 → P 5 → P 6 → P 7 → P n
each-queue P zero low p0 p1 p2 p3 p4 p5 p6 p7 = p0
each-queue P (suc zero) low p0 p1 p2 p3 p4 p5 p6 p7 = p1
each-queue P (suc (suc zero)) low p0 p1 p2 p3 p4 p5 p6 p7 = p2
each-queue P (suc (suc (suc zero))) low p0 p1 p2 p3 p4 p5 p6 p7 = p3
each-queue P (suc (suc (suc (suc zero)))) low p0 p1 p2 p3 p4 p5 p6 p7 = p4
each-queue P (suc (suc (suc (suc (suc zero))))) low p0 p1 p2 p3 p4 p5 p6 p7 = p5
each-queue P (suc (suc (suc (suc (suc (suc zero)))))) low p0 p1 p2 p3 p4 p5 p6 p7 = p6
each-queue P (suc (suc (suc (suc (suc (suc (suc zero))))))) low p0 p1 p2 p3 p4 p5 p6 p7 = p7
each-queue P (suc (suc (suc (suc (suc (suc (suc (suc n)))))))) low p0 p1 p2 p3 p4 p5 p6 p7 = absurd (omega (arith, low))

-- a queue of a port
each-place : (P : ℕ → ℕ → Type 0) (n k : ℕ) → n < PORTS → k < MOST_PAIRS → P 0 0 → P 0 1 → P 0 2 → P 0 3 → P 0 4 → P 0 5 → P 0 6 → P 0 7
    → P 1 0 → P 1 1 → P 1 2 → P 1 3 → P 1 4 → P 1 5 → P 1 6 → P 1 7 → P n k
each-place P n k port queue a0 a1 a2 a3 a4 a5 a6 a7 b0 b1 b2 b3 b4 b5 b6 b7 =
    each-port (λ m. P m k) n port (each-queue (P 0) k queue a0 a1 a2 a3 a4 a5 a6 a7) (each-queue (P 1) k queue b0 b1 b2 b3 b4 b5 b6 b7)

-- as ports are fewer than queues
port-is-place : (n : ℕ) → n < PORTS → n < MOST_PAIRS
port-is-place n low = omega (arith, low)

reads_by : {E : Type 0} (G : List ℕ → Result ℕ E → Type 0) (n : ℕ) (r : Option ℕ) → n < MOST_PAIRS
    → ((u : List ℕ) (x : Result ℕ E) → G u x → ParsesUnsigned 8 10 u x) → ReadsOne G (decimal n) r → r ≡ Some n
reads_by {E} G n (Some v) low parses reads =
    let same : ◌≡◌ {A = Result ℕ E} (Ok v) (Ok n) = parse-decimal 8 n (decimal n) (Ok v) (omega (arith, low)) (omega (arith, low)) refl (parses (decimal n) (Ok v) reads) in cc
reads_by {E} G n None low parses reads =
    let same : ◌≡◌ {A = Result ℕ E} (Err reads.0) (Ok n) =
    parse-decimal 8 n (decimal n) (Err reads.0) (omega (arith, low)) (omega (arith, low)) refl (parses (decimal n) (Err reads.0) reads.1) in cc

-- what `get_one` reads of it
reads_place : (n : ℕ) (r : Option ℕ) → n < MOST_PAIRS
    → ReadsOne (λ bs x. ParsesUnsigned 8 10 bs x × ExplainsUnsignedError 10 bs x × HasUnsignedDigitsIfOk bs x) (decimal n) r → r ≡ Some n
reads_place n r low reads =
    reads_by (λ bs x. ParsesUnsigned 8 10 bs x × ExplainsUnsignedError 10 bs x × HasUnsignedDigitsIfOk bs x) n r low (λ u x g. g.0) reads

pub place_is : (found : Found) (id : Text) (n : ℕ) (r : Option ℕ) → HasPlace (rows_of found) id n
    → ((text : Text) → one_text found id ≡ Some text
    → ReadsOne (λ bs x. ParsesUnsigned 8 10 bs x × ExplainsUnsignedError 10 bs x × HasUnsignedDigitsIfOk bs x) text r) → IsSomeAnd r (λ m. m ≡ n)
place_is found id n r has reads = is_there n r (reads_place n r has.low (reads (decimal n) (text_is found id (decimal n) has.value)))

-- its one digit
abbrev digit : ℕ → Text
digit n = (48 + n) ∷ []

has_place : (rows : List Row) (id : Text) (n : ℕ) → n < MOST_PAIRS → one_of id rows ≡ Some (digit n) → HasPlace rows id n
has_place rows id n low is = record { value = is ∙ ap (λ (t : Text). Some t) (sym (decimal_digit n (omega (arith, low)))); low = low }

-- ---- from a capture

-- the command as clap builds it, which says nothing of the choices of `decode`
abbrev from_shape : Shape
from_shape = let none : Choices = record { ref_ptr = (0, 0); now = [] } in slice_index_or (built (program_app none none)).subs 4 (new_shape [])

from_command : (rings formats : Choices) → IsCommand rings formats (codes "from-capture") from_shape
unfolding clap_on_literals
from_command rings formats = record { taken = λ rest. refl; level = λ rest. refl; met = λ rest. refl; entry = λ rest. refl }

-- the words behind its name: `--skip` if it is given, a port, a queue, and these
abbrev from_words : Bool → ℕ → ℕ → List Text → List Text
from_words skip port queue more = flag_words (codes "--skip") skip ++ digit port ∷ digit queue ∷ more

from_words_are : (skip : Bool) (port queue : ℕ) (more : List Text) → port < PORTS → queue < MOST_PAIRS
    → flag_words (codes "--skip") skip ++ decimal port ∷ decimal queue ∷ more ≡ from_words skip port queue more
from_words_are skip port queue more port_is queue_is =
    ap₂ (λ (p q : Text). flag_words (codes "--skip") skip ++ p ∷ q ∷ more) (decimal_digit port (omega (arith, port_is))) (decimal_digit queue (omega (arith, queue_is)))

-- clap takes these words
abbrev Takes : List Text → Type 0
Takes words = level_passes from_shape [] nothing_held words false ≡ true

-- the values that it makes of them: the port, the queue, `--skip` and `--limit`
abbrev Places : Type 0
Places = (Option Text × Option Text) × (Option Text × Option Text)

abbrev places_of : Held → Places
places_of h =
    let rows = finished from_shape.rules h in
    ((one_of (codes "port") rows, one_of (codes "queue") rows), (one_of (codes "skip") rows, one_of (codes "limit") rows))

abbrev places_said : Bool → ℕ → ℕ → Option Text → Places
places_said skip port queue limit = ((Some (digit port), Some (digit queue)), (Some (bool_text skip), limit))

abbrev held_after : List Text → Held
held_after words = (walk from_shape.rules [] nothing_held words).held

-- without a limit: whether clap takes them, and what it finds
abbrev Unlimited : Type 0
Unlimited = Bool × Places

abbrev unlimited_facts : Bool → ℕ → ℕ → Unlimited
unlimited_facts skip port queue = let words = from_words skip port queue [] in (level_passes from_shape [] nothing_held words false, places_of (held_after words))

abbrev IsUnlimited : Bool → ℕ → ℕ → Type 0
IsUnlimited skip port queue = unlimited_facts skip port queue ≡ (true, places_said skip port queue None)

is_unlimited : (skip : Bool) (port queue : ℕ) → port < PORTS → queue < MOST_PAIRS → IsUnlimited skip port queue
unfolding clap_on_literals
is_unlimited true port queue port_is queue_is =
    each-place (IsUnlimited true) port queue port_is queue_is refl refl refl refl refl refl refl refl refl refl refl refl refl refl refl refl
is_unlimited false port queue port_is queue_is =
    each-place (IsUnlimited false) port queue port_is queue_is refl refl refl refl refl refl refl refl refl refl refl refl refl refl refl refl

-- with a limit: the walk up to its number, and what is met there
abbrev limited : Bool → ℕ → ℕ → Text → List Text
limited skip port queue word = from_words skip port queue (codes "--limit" ∷ word ∷ [])

abbrev to_number : Bool → ℕ → ℕ → Walk
to_number skip port queue = walk from_shape.rules [] nothing_held (from_words skip port queue (codes "--limit" ∷ []))

abbrev met : Bool → ℕ → ℕ → Text → Held × Step
met skip port queue word = word_met from_shape.rules [] false (option (codes "limit")) 3 word (to_number skip port queue).held

abbrev met_plainly : Bool → ℕ → ℕ → Text → Held × Step
met_plainly skip port queue word = plain_word from_shape.rules (option (codes "limit")) word (to_number skip port queue).held

abbrev word_passing : Bool → ℕ → ℕ → Text → Bool
word_passing skip port queue word = word_passes from_shape [] false (option (codes "limit")) word (to_number skip port queue).held

-- what is held at last, by what is met
abbrev held_by : Bool → ℕ → ℕ → Text → Held × Step → Held
held_by skip port queue word m = (after_step from_shape.rules word (to_number skip port queue) m.0 m.1).held

abbrev passes_by : Bool → ℕ → ℕ → Text → Held × Step → Bool → Bool
passes_by skip port queue word m pass =
    let end = held_by skip port queue word m in
    ((pass && step_passes from_shape 3 m.0 m.1) && true)
    && (settle_passes from_shape.rules from_shape.args_override_self end && (list_all default_passes from_shape.rules && is_valid from_shape (finished from_shape.rules end) false))

-- whether clap takes them, and what it holds and finds at last, by what is met. `accepts` is what it makes of the number alone
abbrev Limited : Type 0
Limited = (Bool × Bool) × (Held × Places)

abbrev limited_facts : Bool → ℕ → ℕ → Text → Limited
limited_facts skip port queue word = (
  (level_passes from_shape [] nothing_held (limited skip port queue word) false, passes_by skip port queue word (met_plainly skip port queue word) true),
  (held_after (limited skip port queue word), places_of (held_by skip port queue word (met_plainly skip port queue word))),
)

abbrev limited_said : Bool → ℕ → ℕ → Text → Limited
limited_said skip port queue word = (
  (passes_by skip port queue word (met skip port queue word) (word_passing skip port queue word), (accepts false (Signed (pos 0) (pos 4294967295)) word && true) && true),
  (held_by skip port queue word (met skip port queue word), places_said skip port queue (Some (without_minus word))),
)

abbrev IsLimited : Bool → Text → ℕ → ℕ → Type 0
IsLimited skip word port queue = limited_facts skip port queue word ≡ limited_said skip port queue word

is_limited : (skip : Bool) (port queue : ℕ) (word : Text) → port < PORTS → queue < MOST_PAIRS → IsLimited skip word port queue
unfolding clap_on_literals
is_limited true port queue word port_is queue_is =
    each-place (IsLimited true word) port queue port_is queue_is refl refl refl refl refl refl refl refl refl refl refl refl refl refl refl refl
is_limited false port queue word port_is queue_is =
    each-place (IsLimited false word) port queue port_is queue_is refl refl refl refl refl refl refl refl refl refl refl refl refl refl refl refl

takes_limited : (skip : Bool) (port queue : ℕ) (word : Text) → port < PORTS → queue < MOST_PAIRS → IsNumber 4294967295 word → Takes (limited skip port queue word)
takes_limited skip port queue word port_is queue_is number =
    let is = is_limited skip port queue word port_is queue_is in
    ap (λ (f : Limited). f.0.0) is
    ∙ (ap₂ (passes_by skip port queue word) (plain_read from_shape.rules (codes "limit") 3 word (to_number skip port queue).held number.plain)
    (plain_read_passes from_shape (codes "limit") word (to_number skip port queue).held number.plain)
    ∙ (ap (λ (f : Limited). f.0.1) is ∙ ap (λ b. (b && true) && true) number.accepted))

finds_limited : (skip : Bool) (port queue : ℕ) (word : Text) → port < PORTS → queue < MOST_PAIRS → IsNumber 4294967295 word
    → places_of (held_after (limited skip port queue word)) ≡ places_said skip port queue (Some (without_minus word))
finds_limited skip port queue word port_is queue_is number =
    let is = is_limited skip port queue word port_is queue_is in
    ap (λ (f : Limited). places_of f.1.0) is
    ∙ (ap (λ m. places_of (held_by skip port queue word m)) (plain_read from_shape.rules (codes "limit") 3 word (to_number skip port queue).held number.plain)
    ∙ ap (λ (f : Limited). f.1.1) is)

-- with or without it
takes_from : (skip : Bool) (port queue : ℕ) (limit : Option ℕ) → port < PORTS → queue < MOST_PAIRS → IsLimit limit → Takes (from_words skip port queue (limit_words limit))
takes_from skip port queue None port_is queue_is fits = ap (λ (f : Unlimited). f.0) (is_unlimited skip port queue port_is queue_is)
takes_from skip port queue (Some n) port_is queue_is fits =
    takes_limited skip port queue (decimal n) port_is queue_is (is_number 4294967295 n (omega (arith, fits)) fits)

finds_from : (skip : Bool) (port queue : ℕ) (limit : Option ℕ) → port < PORTS → queue < MOST_PAIRS → IsLimit limit
    → places_of (held_after (from_words skip port queue (limit_words limit))) ≡ places_said skip port queue (option_map decimal limit)
finds_from skip port queue None port_is queue_is fits = ap (λ (f : Unlimited). f.1) (is_unlimited skip port queue port_is queue_is)
finds_from skip port queue (Some n) port_is queue_is fits =
    finds_limited skip port queue (decimal n) port_is queue_is (is_number 4294967295 n (omega (arith, fits)) fits)
    ∙ ap (places_said skip port queue) (reads_itself n fits)

from_words_said : (words : List Text) (port queue : ℕ) (reading : ReadOptions) → SaysFromCapture words port queue reading
    → words ≡ codes "from-capture" ∷ from_words reading.skip port queue (limit_words reading.limit)
from_words_said words port queue reading says =
    says.words_are ∙ ap (λ (l : List Text). codes "from-capture" ∷ l) (from_words_are reading.skip port queue (limit_words reading.limit) says.port_is says.queue_is)

pub from_taken : (app : App) (words : List Text) (port queue : ℕ) (reading : ReadOptions) → IsProgram app → SaysFromCapture words port queue reading → takes app words ≡ true
from_taken app words port queue reading program says =
    command_taken app words (from_words reading.skip port queue (limit_words reading.limit)) (codes "from-capture") from_shape program from_command
    (from_words_said words port queue reading says) (takes_from reading.skip port queue reading.limit says.port_is says.queue_is says.fits)

pub from_found : (app : App) (words : List Text) (port queue : ℕ) (reading : ReadOptions) → IsProgram app → SaysFromCapture words port queue reading
    → (rows : List Row) × (subcommand_of app words ≡ Some (codes "from-capture", rows)) × HasFromCapture rows port queue reading
from_found app words port queue reading program says =
    let rest = from_words reading.skip port queue (limit_words reading.limit) in
    let rows = finished from_shape.rules (held_after rest) in
    let values = finds_from reading.skip port queue reading.limit says.port_is says.queue_is says.fits in (
      rows,
      command_found app words rest (codes "from-capture") from_shape program from_command (from_words_said words port queue reading says),
      record {
        has_port = has_place rows (codes "port") port (port-is-place port says.port_is) (ap (λ (v : Places). v.0.0) values);
        has_queue = has_place rows (codes "queue") queue says.queue_is (ap (λ (v : Places). v.0.1) values);
        has_reading = record { skip = ap (λ (v : Places). v.1.0) values; limit = ap (λ (v : Places). v.1.1) values; fits = says.fits };
        port_is = says.port_is;
      },
    )

-- ---- to a capture

abbrev to_words : ℕ → List Text
to_words port = codes "to-capture" ∷ digit port ∷ []

to_words_are : (port : ℕ) → port < PORTS → codes "to-capture" ∷ decimal port ∷ [] ≡ to_words port
to_words_are port port_is = ap (λ (p : Text). codes "to-capture" ∷ p ∷ []) (decimal_digit port (omega (arith, port_is)))

abbrev TakesTo : Choices → Choices → ℕ → Type 0
TakesTo rings formats port = takes (program_app rings formats) (to_words port) ≡ true

takes_to : (rings formats : Choices) (port : ℕ) → port < PORTS → TakesTo rings formats port
unfolding clap_on_literals
takes_to rings formats port port_is = each-port (TakesTo rings formats) port port_is refl refl

abbrev FindsTo : Choices → Choices → ℕ → Type 0
FindsTo rings formats port =
    option_map {U = Text × Option Text} (λ p. (p.0, one_of (codes "port") p.1)) (subcommand_of (program_app rings formats) (to_words port))
    ≡ Some (codes "to-capture", Some (digit port))

finds_to : (rings formats : Choices) (port : ℕ) → port < PORTS → FindsTo rings formats port
unfolding clap_on_literals
finds_to rings formats port port_is = each-port (FindsTo rings formats) port port_is refl refl

pub to_taken : (app : App) (words : List Text) (port : ℕ) → IsProgram app → SaysToCapture words port → takes app words ≡ true
to_taken app words port program says =
    ap (λ (a : App). takes a words) program.app_is ∙ (ap (takes (program_app program.rings program.formats)) (says.words_are ∙ to_words_are port says.port_is)
    ∙ takes_to program.rings program.formats port says.port_is)

pub to_found : (app : App) (words : List Text) (port : ℕ) → IsProgram app → SaysToCapture words port
    → (rows : List Row) × (subcommand_of app words ≡ Some (codes "to-capture", rows)) × HasToCapture rows port
to_found app words port program says =
    let same = ap (λ (a : App). subcommand_of a words) program.app_is
    ∙ ap (subcommand_of (program_app program.rings program.formats)) (says.words_are ∙ to_words_are port says.port_is) in
    let found = rows_in (one_of (codes "port")) (subcommand_of app words) (codes "to-capture") (Some (digit port))
    (ap (option_map {U = Text × Option Text} (λ p. (p.0, one_of (codes "port") p.1))) same ∙ finds_to program.rings program.formats port says.port_is) in
    (found.0, found.1, record { has_port = has_place found.0 (codes "port") port (port-is-place port says.port_is) found.2; port_is = says.port_is })
