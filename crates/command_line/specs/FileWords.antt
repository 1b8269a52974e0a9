-- The file options of `forward`.
use Rattle.std.specs.Prelude.{◌≡◌, ◌||◌, Bool, false, is_some, List, [], ◌∷◌, ◌++◌, All, codes, map, Option, Some, None}
use Rattle.std.specs.Borrow.{Bor}
use Rattle.std.specs.List.{AllZip, flat_map}
use Rattle.clap.specs.Words.{Row, Rule, Text, all_of, new_rule}
use Rattle.clap.specs.declared.builder.action.ArgAction.TheVariants.{Append}
use Rattle.requests.specs.Files.{IsSource, IsWireFile, PortFile, SourceFile, source_word, wire_file_word}
use Rattle.capture.specs.declared.options.ReadOptions.{ReadOptions}
use Rattle.command_line.specs.OptionWords.{flag_words}
use Rattle.command_line.specs.ReadingWords.{HasReading, IsLimit, limit_words}
use Rattle.command_line.specs.declared.files.ForwardFiles.{ForwardFiles}

-- an option that may be given any number of times, each time with a word
abbrev pub file_rule : Text → Rule
file_rule id = record (new_rule id) { long = Some id; value_names = 1; action = Some Append }

-- captures whose frames come in, how they are read, and files for the frames that leave a port, each in the order of
-- their words
pub record FileOptions : Type 0 where
  pub sources : List SourceFile
  pub reading : ReadOptions
  pub wires : List PortFile

-- captures are to be read with options, and there are none
abbrev pub lacks_captures : List SourceFile → ReadOptions → Bool
lacks_captures [] reading = reading.skip || is_some reading.limit
lacks_captures (s ∷ ss) reading = false

pub record AreFiles (files : FileOptions) : Type 0 where
  pub sources : All IsSource files.sources
  pub limit : IsLimit files.reading.limit
  pub read : lacks_captures files.sources files.reading ≡ false
  pub wires : All IsWireFile files.wires

-- the option is given once for each of these words
abbrev pub file_words : Text → List Text → List Text
file_words option words = flat_map (λ word. option ∷ word ∷ []) words

-- the words of files
abbrev pub words_of_files : FileOptions → List Text
words_of_files files =
    file_words (codes "--capture") (map source_word files.sources)
    ++ (flag_words (codes "--skip") files.reading.skip
    ++ (limit_words files.reading.limit ++ file_words (codes "--wire-capture") (map wire_file_word files.wires)))

-- the values of an option that is given for each of these words
abbrev pub file_values : List Text → Option (List Text)
file_values [] = None
file_values (word ∷ words) = Some (word ∷ words)

-- each of these words is parsed as one of these
abbrev pub AreTold : {X : Type 0} → (Bor Text → Option X → Type 0) → List Text → List X → Type 0
AreTold {X} told words xs = AllZip (λ text x. (word : Bor Text) (found : Option X) → word.now ≡ text → told word found → found ≡ Some x) words xs

-- the values of the options
pub record HasFiles (rows : List Row) (files : FileOptions) : Type 0 where
  pub sources : all_of (codes "capture") rows ≡ file_values (map source_word files.sources)
  pub reading : HasReading rows files.reading
  pub wires : all_of (codes "wire-capture") rows ≡ file_values (map wire_file_word files.wires)

-- these are the files
abbrev pub HoldsFiles : ForwardFiles → FileOptions → Type 0
HoldsFiles held files = (held.sources.items ≡ files.sources) × (held.wires.items ≡ files.wires) × (held.reading ≡ files.reading)
