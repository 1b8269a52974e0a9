-- The output and the exit status of a command.
use Rattle.std.specs.Prelude.{◌≡◌, ◌⊎◌, ℕ, List, take, Option, Result, Ok, Err}
use Rattle.std.specs.Io.KnownBytes.{Appends, Keeps}
use Rattle.requests.specs.declared.refusal.Refusal.{Refusal}
use Rattle.requests.specs.declared.answers.TheConstants.{EXIT_SUCCESS, EXIT_REFUSED}

-- known bytes grow by the first bytes of a text: none, some or all of them
abbrev pub AppendsFirst : Option (List ℕ) → Option (List ℕ) → List ℕ → Type 0
AppendsFirst old new text = (count : ℕ) × Appends old new (take count text)

-- how a command ends, by its result: the text is printed, or the command is refused; a refusal prints nothing
abbrev pub EndsBy : Result (List ℕ) Refusal → ℕ → Option (List ℕ) → Option (List ℕ) → Type 0
EndsBy (Ok text) status old new = ((status ≡ EXIT_SUCCESS) × Appends old new text) ⊎ (status ≡ EXIT_REFUSED)
EndsBy (Err refusal) status old new = (status ≡ EXIT_REFUSED) × Keeps old new
