-- The output and the exit status of a request.
use Rattle.std.specs.Prelude.{◌≡◌, ◌⊎◌, ℕ, List, [], ◌∷◌, ◌++◌, Option, Some, Result, Ok, Err}
use Rattle.std.specs.Result.{result_map_both}
use Rattle.std.specs.Io.KnownBytes.{Appends, Keeps}
use Rattle.hex.specs.Hex.{encode_lower}
use Rattle.requests.specs.declared.request.Request.{Request}
use Rattle.requests.specs.declared.request.Request.TheVariants.{Once, Decode, Replay}
use Rattle.requests.specs.declared.refusal.Refusal.{Refusal}
use Rattle.requests.specs.declared.refusal.Refusal.TheVariants.{Memory, Output}
use Rattle.requests.specs.declared.answers.TheConstants.{EXIT_SUCCESS, EXIT_REFUSED}
use Rattle.requests.specs.declared.decode.DescriptorForm.{DescriptorForm}
use Rattle.requests.specs.Answers.{EndsBy}
use Rattle.commands.specs.Digits.{bytes_in}
use Rattle.commands.specs.Frame.{frame_in}
use Rattle.commands.specs.Decoding.{IsDecoded}
use Rattle.commands.specs.Replay.{EndsReplay, IsReplayed, RefusesReplay}
use Rattle.requests.specs.Refusals.{IsUnmade}

-- the lower case digits of a frame, and LF
abbrev pub line_of : List ℕ → List ℕ
line_of frame = encode_lower frame ++ 10 ∷ []

-- the output of `once`, or why its digits are refused
abbrev pub once_answer : List ℕ → Result (List ℕ) Refusal
once_answer digits = result_map_both line_of (λ refusal. refusal) (frame_in digits)

-- why `once` has no text, apart from memory: its digits are faulty, or a ring or a thread is missing
abbrev pub IsOnceRefused : Result (List ℕ) Refusal → Refusal → Type 0
IsOnceRefused (Ok frame) e = IsUnmade e
IsOnceRefused (Err refusal) e = e ≡ refusal

-- the text that a request prints for this input
abbrev pub IsText : Request → Option (List ℕ) → List ℕ → Type 0
IsText (Once digits) input text = once_answer digits.now ≡ Ok text
IsText (Decode form digits) input text = IsDecoded form (bytes_in digits.now) (Ok text)
IsText (Replay plan) input text = IsReplayed plan input text

-- why a request has no text
abbrev pub IsWithheld : Request → Option (List ℕ) → Refusal → Type 0
IsWithheld (Once digits) input e = (e ≡ Memory) ⊎ IsOnceRefused (frame_in digits.now) e
IsWithheld (Decode form digits) input e = (e ≡ Memory) ⊎ IsDecoded form (bytes_in digits.now) (Err e)
IsWithheld (Replay plan) input e = RefusesReplay plan input e

-- the whole text was printed, if the output's bytes are known
abbrev pub Prints : Request → Option (List ℕ) → Option (List ℕ) → Option (List ℕ) → Type 0
Prints request input old new = (text : List ℕ) × IsText request input text × Appends old new text

-- it was refused: there is no text, and the output is unchanged; or the output failed, and may have part of the text
abbrev pub Refuses : Request → Option (List ℕ) → Refusal → Option (List ℕ) → Option (List ℕ) → Type 0
Refuses request input e old new = (IsWithheld request input e × Keeps old new) ⊎ ((text : List ℕ) × IsText request input text × (e ≡ Output))

-- how `once` ends: its frame's line is printed, or it is refused; digits that are no frame are always refused
abbrev pub Ends : Result (List ℕ) Refusal → ℕ → Option (List ℕ) → Option (List ℕ) → Type 0
Ends (Ok frame) status old new = ((status ≡ EXIT_SUCCESS) × Appends old new (line_of frame)) ⊎ (status ≡ EXIT_REFUSED)
Ends (Err refusal) status old new = (status ≡ EXIT_REFUSED) × Keeps old new

-- how `decode` ends: by the meaning of the digits in that form, or refused with nothing printed if memory is missing
abbrev pub EndsDecode : DescriptorForm → List ℕ → ℕ → Option (List ℕ) → Option (List ℕ) → Type 0
EndsDecode form digits status old new =
    ((answer : Result (List ℕ) Refusal) × IsDecoded form (bytes_in digits) answer × EndsBy answer status old new)
    ⊎ ((status ≡ EXIT_REFUSED) × Keeps old new)

-- how a request ends. For `replay`, the bytes of the input must be known
abbrev pub EndsAs : Request → Option (List ℕ) → ℕ → Option (List ℕ) → Option (List ℕ) → Type 0
EndsAs (Once digits) input status old new = Ends (frame_in digits.now) status old new
EndsAs (Decode form digits) input status old new = EndsDecode form digits.now status old new
EndsAs (Replay plan) input status old new = (text : List ℕ) → input ≡ Some text → EndsReplay plan text status old new
