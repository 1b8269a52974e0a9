-- What clap makes of `forward` and its options.
use Rattle.std.proofs.Common.{◌≡◌, ◌∙◌, ap, ap₂, refl, arith, ℕ, ◌+◌, Bool, true, false, List, [], ◌∷◌, ◌++◌, codes, map, slice_index, slice_index_or, Some}
use Rattle.std.specs.Prelude.{◌≢◌, ◌<◌, All, not}
use Rattle.std.specs.Fmt.{digits}
use Rattle.std.proofs.lemmas.List.Elements.{All-cons, All-head, All-nil, All-tail}
use Rattle.clap.specs.Simple.{Shape, new_shape}
use Rattle.clap.specs.Words.{App, Row, Text, built, subcommand_of, takes}
use Rattle.clap.proofs.OnLiterals.{clap_on_literals}
use Rattle.settings.specs.declared.config.Config.{Config}
use Rattle.requests.specs.declared.printing.Printing.{Printing}
use Rattle.ring_model.specs.declared.states.Completion.{Completion}
use Rattle.command_line.specs.CommandLine.{Choices, HasForward, HasPrinting, IsProgram, SaysForward, program_app}
use Rattle.command_line.specs.OptionWords.{is_head}
use Rattle.command_line.specs.FileWords.{FileOptions, HasFiles}
use Rattle.requests.specs.Files.{IsSource, IsWireFile, PortFile, SourceFile, source_word, wire_file_word}
use Rattle.command_line.proofs.CommandLine.{IsPlain, is_plain}
use Rattle.command_line.proofs.Limits.{limit_given, limit_lawful, limit_value, limit_words_are}
use Rattle.command_line.proofs.Options.{Given, words_of}
use Rattle.command_line.proofs.Options.Given.{files as file_option, flag, number}
use Rattle.command_line.proofs.OptionLists.{AreLawful, HasOptions, IsCommand, IsSaid, all_words, is_said, options_found, options_taken, said_of}

-- `forward` as clap builds it, which says nothing of the choices of `decode`
abbrev shape : Shape
shape = let none : Choices = record { ref_ptr = (0, 0); now = [] } in slice_index_or (built (program_app none none)).subs 3 (new_shape [])

-- ---- its options, with what the words say

-- those behind the numbers
abbrev plain_options : Config → Printing → Bool → FileOptions → List Given
plain_options config printing explained files =
    flag (codes "drop") config.drop_en
    ∷ flag (codes "no-retry") (not config.retry)
    ∷ flag (codes "head") (is_head config.completion)
    ∷ flag (codes "quiet") printing.quiet
    ∷ flag (codes "json") printing.json
    ∷ flag (codes "progress") printing.progress
    ∷ flag (codes "rate") printing.rate
    ∷ flag (codes "explain") explained
    ∷ file_option (codes "capture") (map source_word files.sources)
    ∷ flag (codes "skip") files.reading.skip
    ∷ limit_given files.reading.limit
    ∷ file_option (codes "wire-capture") (map wire_file_word files.wires)
    ∷ []

abbrev options : (words : List Text) (config : Config) (printing : Printing) (files : FileOptions) → SaysForward words config printing files → List Given
options words config printing files says =
    number (codes "pairs") 4294967295 (codes "1" ∷ []) (said_of _ _ _ _ _ says.says_pairs)
    ∷ number (codes "ring") 4294967295 (codes "512" ∷ []) (said_of _ _ _ _ _ says.says_ring)
    ∷ number (codes "buffers") 4294967295 (codes "4096" ∷ []) (said_of _ _ _ _ _ says.says_buffers)
    ∷ number (codes "bsize") 4294967295 (codes "2048" ∷ []) (said_of _ _ _ _ _ says.says_bsize)
    ∷ number (codes "batch") 4294967295 (codes "32" ∷ []) (said_of _ _ _ _ _ says.says_batch)
    ∷ number (codes "rs-every") 4294967295 (codes "32" ∷ []) (said_of _ _ _ _ _ says.says_rs_every)
    ∷ number (codes "workers") 4294967295 (codes "1" ∷ []) (said_of _ _ _ _ _ says.says_workers)
    ∷ number (codes "turns") 4294967295 (codes "0" ∷ []) (said_of _ _ _ _ _ says.says_turns)
    ∷ number (codes "repeat") 4294967295 (codes "1" ∷ []) (said_of _ _ _ _ _ says.says_repeat)
    ∷ plain_options config printing says.explained files

is_command : (rings formats : Choices) → IsCommand rings formats (codes "forward") shape
unfolding clap_on_literals
is_command rings formats = record { taken = λ rest. refl; level = λ rest. refl; met = λ rest. refl; entry = λ rest. refl }

has_options : (words : List Text) (config : Config) (printing : Printing) (files : FileOptions) (says : SaysForward words config printing files) → HasOptions (codes "forward") shape (options words config printing files says)
has_options words config printing files says = record { command = is_command; among = refl; distinct = refl; valid = λ h. refl }

-- what each of its numbers says
record ParsedCommand (words : List Text) (config : Config) (printing : Printing) (files : FileOptions) (says : SaysForward words config printing files) : Type 0 where
  pairs : IsSaid (codes "pairs") 4294967295 (codes "1") says.pairs config.pairs (said_of _ _ _ _ _ says.says_pairs)
  ring : IsSaid (codes "ring") 4294967295 (codes "512") says.ring config.ring (said_of _ _ _ _ _ says.says_ring)
  buffers : IsSaid (codes "buffers") 4294967295 (codes "4096") says.buffers config.buffers (said_of _ _ _ _ _ says.says_buffers)
  bsize : IsSaid (codes "bsize") 4294967295 (codes "2048") says.bsize config.bsize (said_of _ _ _ _ _ says.says_bsize)
  batch : IsSaid (codes "batch") 4294967295 (codes "32") says.batch config.batch (said_of _ _ _ _ _ says.says_batch)
  rs_every : IsSaid (codes "rs-every") 4294967295 (codes "32") says.rs_every config.rs_every (said_of _ _ _ _ _ says.says_rs_every)
  workers : IsSaid (codes "workers") 4294967295 (codes "1") says.workers config.workers (said_of _ _ _ _ _ says.says_workers)
  turns : IsSaid (codes "turns") 4294967295 (codes "0") says.turns config.turns (said_of _ _ _ _ _ says.says_turns)
  repeat : IsSaid (codes "repeat") 4294967295 (codes "1") says.repeat config.repeat (said_of _ _ _ _ _ says.says_repeat)

saying : (words : List Text) (config : Config) (printing : Printing) (files : FileOptions) (says : SaysForward words config printing files) → ParsedCommand words config printing files says
unfolding digits
saying words config printing files says = record {
  pairs = is_said (codes "pairs") 4294967295 1 (codes "1") says.pairs config.pairs (omega arith) (omega arith) refl says.says_pairs;
  ring = is_said (codes "ring") 4294967295 512 (codes "512") says.ring config.ring (omega arith) (omega arith) refl says.says_ring;
  buffers = is_said (codes "buffers") 4294967295 4096 (codes "4096") says.buffers config.buffers (omega arith) (omega arith) refl says.says_buffers;
  bsize = is_said (codes "bsize") 4294967295 2048 (codes "2048") says.bsize config.bsize (omega arith) (omega arith) refl says.says_bsize;
  batch = is_said (codes "batch") 4294967295 32 (codes "32") says.batch config.batch (omega arith) (omega arith) refl says.says_batch;
  rs_every = is_said (codes "rs-every") 4294967295 32 (codes "32") says.rs_every config.rs_every (omega arith) (omega arith) refl says.says_rs_every;
  workers = is_said (codes "workers") 4294967295 1 (codes "1") says.workers config.workers (omega arith) (omega arith) refl says.says_workers;
  turns = is_said (codes "turns") 4294967295 0 (codes "0") says.turns config.turns (omega arith) (omega arith) refl says.says_turns;
  repeat = is_said (codes "repeat") 4294967295 1 (codes "1") says.repeat config.repeat (omega arith) (omega arith) refl says.says_repeat;
}

-- a port is no hyphen, and begins the word of a file
begins-plain : (port below : ℕ) (rest : Text) → port < below → slice_index ((48 + port) ∷ rest) 0 ≢ 45
begins-plain port below rest low is = let same : 48 + port ≡ 45 = is in absurd (omega (arith, same))

sources_plain : (sources : List SourceFile) → All IsSource sources → All IsPlain (map source_word sources)
sources_plain [] are = All-nil IsPlain
sources_plain (s ∷ ss) are =
    All-cons IsPlain (source_word s) (map source_word ss) (is_plain (source_word s) (begins-plain s.port 2 (58 ∷ (48 + s.queue) ∷ 61 ∷ s.file) (All-head IsSource s ss are).port))
    (sources_plain ss (All-tail IsSource s ss are))

wires_plain : (wires : List PortFile) → All IsWireFile wires → All IsPlain (map wire_file_word wires)
wires_plain [] are = All-nil IsPlain
wires_plain (w ∷ ws) are =
    All-cons IsPlain (wire_file_word w) (map wire_file_word ws) (is_plain (wire_file_word w) (begins-plain w.port 2 (61 ∷ w.file) (All-head IsWireFile w ws are).port))
    (wires_plain ws (All-tail IsWireFile w ws are))

are_lawful : (words : List Text) (config : Config) (printing : Printing) (files : FileOptions) (says : SaysForward words config printing files) → AreLawful (options words config printing files says)
are_lawful words config printing files says =
    let are = saying words config printing files says in
    (are.pairs.lawful, (are.ring.lawful, (are.buffers.lawful, (are.bsize.lawful, (are.batch.lawful, (are.rs_every.lawful, (are.workers.lawful, (are.turns.lawful, (are.repeat.lawful, (tt, (tt, (tt, (tt, (tt, (tt, (tt, (tt, (sources_plain files.sources says.are_files.sources, (tt, (limit_lawful files.reading.limit says.are_files.limit, (wires_plain files.wires says.are_files.wires, tt)))))))))))))))))))))

words_are : (words : List Text) (config : Config) (printing : Printing) (files : FileOptions) (says : SaysForward words config printing files) → words ≡ codes "forward" ∷ all_words (options words config printing files says)
words_are words config printing files says =
    let are = saying words config printing files says in
    let both : (a b c d : List Text) → a ≡ b → c ≡ d → a ++ c ≡ b ++ d = λ a b c d. ap₂ (λ (x y : List Text). x ++ y) in
    let flags : List Text → List Text = λ (limit : List Text). words_of (flag (codes "drop") config.drop_en)
    ++ (words_of (flag (codes "no-retry") (not config.retry)) ++ (words_of (flag (codes "head") (is_head config.completion))
    ++ (words_of (flag (codes "quiet") printing.quiet) ++ (words_of (flag (codes "json") printing.json)
    ++ (words_of (flag (codes "progress") printing.progress) ++ (words_of (flag (codes "rate") printing.rate)
    ++ (words_of (flag (codes "explain") says.explained)
    ++ (words_of (file_option (codes "capture") (map source_word files.sources)) ++ (words_of (flag (codes "skip") files.reading.skip)
    ++ (limit ++ words_of (file_option (codes "wire-capture") (map wire_file_word files.wires)))))))))))) in
    says.words_are
    ∙ ap (λ (a : List Text). codes "forward" ∷ a)
    (both _ _ _ _ are.pairs.words_are (both _ _ _ _ are.ring.words_are (both _ _ _ _ are.buffers.words_are (both _ _ _ _ are.bsize.words_are
    (both _ _ _ _ are.batch.words_are (both _ _ _ _ are.rs_every.words_are (both _ _ _ _ are.workers.words_are (both _ _ _ _ are.turns.words_are
    (ap₂ (λ (a b : List Text). a ++ flags b) are.repeat.words_are (limit_words_are files.reading.limit))))))))))

-- ---- what clap makes of them

pub forward_taken : (app : App) (words : List Text) (config : Config) (printing : Printing) (files : FileOptions) → IsProgram app → SaysForward words config printing files → takes app words ≡ true
forward_taken app words config printing files program says =
    options_taken app words (codes "forward") shape (options words config printing files says) program (has_options words config printing files says) (are_lawful words config printing files says) (words_are words config printing files says)

pub forward_found : (app : App) (words : List Text) (config : Config) (printing : Printing) (files : FileOptions) → IsProgram app → SaysForward words config printing files
    → (rows : List Row) × (subcommand_of app words ≡ Some (codes "forward", rows)) × HasForward rows config × HasPrinting rows printing × HasFiles rows files
forward_found app words config printing files program says =
    let are = saying words config printing files says in
    let found = options_found app words (codes "forward") shape (options words config printing files says) program (has_options words config printing files says) (are_lawful words config printing files says) (words_are words config printing files says) in
    let none : Given = flag [] false in (
      found.0,
      found.1,
      record {
        pairs = record { value = found.2 0 none (omega arith) ∙ are.pairs.value; fits = are.pairs.fits };
        ring = record { value = found.2 1 none (omega arith) ∙ are.ring.value; fits = are.ring.fits };
        buffers = record { value = found.2 2 none (omega arith) ∙ are.buffers.value; fits = are.buffers.fits };
        bsize = record { value = found.2 3 none (omega arith) ∙ are.bsize.value; fits = are.bsize.fits };
        batch = record { value = found.2 4 none (omega arith) ∙ are.batch.value; fits = are.batch.fits };
        rs_every = record { value = found.2 5 none (omega arith) ∙ are.rs_every.value; fits = are.rs_every.fits };
        workers = record { value = found.2 6 none (omega arith) ∙ are.workers.value; fits = are.workers.fits };
        turns = record { value = found.2 7 none (omega arith) ∙ are.turns.value; fits = are.turns.fits };
        repeat = record { value = found.2 8 none (omega arith) ∙ are.repeat.value; fits = are.repeat.fits };
        drop = found.2 9 none (omega arith);
        no_retry = found.2 10 none (omega arith);
        head = found.2 11 none (omega arith);
        keeps = says.keeps;
      },
      record {
        quiet = found.2 12 none (omega arith);
        json = found.2 13 none (omega arith);
        progress = found.2 14 none (omega arith);
        rate = found.2 15 none (omega arith);
      },
      record {
        sources = found.2 17 none (omega arith);
        reading = record {
          skip = found.2 18 none (omega arith);
          limit = found.2 19 none (omega arith) ∙ limit_value files.reading.limit says.are_files.limit;
          fits = says.are_files.limit;
        };
        wires = found.2 20 none (omega arith);
      },
    )

-- a configuration, from its parts
pub config_is : (config : Config) (p r b z a e w t n : ℕ) (d y k : Bool) (c : Completion) → p ≡ config.pairs → r ≡ config.ring → b ≡ config.buffers → z ≡ config.bsize
    → a ≡ config.batch → e ≡ config.rs_every → w ≡ config.workers → t ≡ config.turns → n ≡ config.repeat → d ≡ config.drop_en → y ≡ config.retry → c ≡ config.completion
    → k ≡ config.keep → ◌≡◌ {A = Config} (record { pairs = p; ring = r; batch = a; buffers = b; bsize = z; rs_every = e; drop_en = d; retry = y; workers = w; turns = t; repeat = n; keep = k; completion = c }) config
config_is config p r b z a e w t n d y k c pairs_are ring_is buffers_are bsize_is batch_is rs_every_is workers_are turns_are repeat_is drop_is retry_is completion_is keep_is =
    rw (pairs_are, ring_is, buffers_are, bsize_is, batch_is, rs_every_is, workers_are, turns_are, repeat_is, drop_is, retry_is, completion_is, keep_is) refl
