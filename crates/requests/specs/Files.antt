-- The words of `--capture` and `--wire-capture`, and their meaning.
use Rattle.std.specs.Prelude.{◌≢◌, ℕ, Bool, ◌+◌, ◌<◌, ◌≤◌, ◌||◌, if◌then◌else◌, List, [], ◌∷◌, codes, Option, Some, None}
use Rattle.std.specs.Str.{bytes_eq}
use Rattle.limits.specs.declared.profile.TheConstants.{MOST_PAIRS, PORTS}

-- a capture's file, and the port and the queue at which its frames come in
pub record SourceFile : Type 0 where
  pub port : ℕ
  pub queue : ℕ
  pub file : List ℕ

pub record IsSource (s : SourceFile) : Type 0 where
  pub port : s.port < PORTS
  pub queue : s.queue < MOST_PAIRS
  pub named : s.file ≢ []

-- its word: `P:Q=FILE`
abbrev pub source_word : SourceFile → List ℕ
source_word s = (48 + s.port) ∷ 58 ∷ (48 + s.queue) ∷ 61 ∷ s.file

-- a file for the frames that leave a port
pub record PortFile : Type 0 where
  pub port : ℕ
  pub file : List ℕ

pub record IsWireFile (w : PortFile) : Type 0 where
  pub port : w.port < PORTS
  pub named : w.file ≢ []

-- its word: `P=FILE`
abbrev pub wire_file_word : PortFile → List ℕ
wire_file_word w = (48 + w.port) ∷ 61 ∷ w.file

-- the byte is a digit whose value is less than `below`
abbrev pub IsDigit : ℕ → ℕ → Type 0
IsDigit below byte = (48 ≤ byte) × (byte < 48 + below)

-- a word that does not begin with an ASCII byte
abbrev pub NoFirst : List ℕ → Type 0
NoFirst word = (byte : ℕ) (rest : List ℕ) → byte < 128 → word ≢ byte ∷ rest

-- a word that does not begin with a digit less than `below` and this mark
abbrev pub NoField : ℕ → ℕ → List ℕ → Type 0
NoField below mark word = (number : ℕ) (rest : List ℕ) → number < below → word ≢ (48 + number) ∷ mark ∷ rest

-- the wire capture's file is standard output
abbrev pub names_output : List ℕ → Bool
names_output file = bytes_eq file (codes "-") || bytes_eq file (codes "/dev/stdout")

-- the capture's file is standard input
abbrev pub names_input : List ℕ → Bool
names_input file = bytes_eq file (codes "-") || bytes_eq file (codes "/dev/stdin")

-- the port whose capture goes to standard output, if any
abbrev pub streamed_port : List PortFile → Option ℕ
streamed_port [] = None
streamed_port (w ∷ ws) = if names_output w.file then Some w.port else streamed_port ws
