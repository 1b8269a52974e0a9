-- Why a wire file is refused.
use Rattle.std.specs.Prelude.{◌≡◌, ◌⊎◌, ℕ, ◌<◌, List, length}
use Rattle.requests.specs.declared.refusal.Refusal.{Refusal}
use Rattle.requests.specs.declared.refusal.Refusal.TheVariants as refusal
use Rattle.forward_io.specs.declared.captured.refused.RefusalSubject.TheVariants.{Wire}
use Rattle.forward_io.specs.declared.captured.refused.FileRefusal.{FileRefusal}
use Rattle.forward_io.specs.Wires.{IsUncaptured}
use Rattle.forward_io.specs.Refusals.{IsFileNotWritten, refused_itself}
use Rattle.requests.specs.Files.{PortFile}

-- why a wire file is refused before anything is forwarded: it cannot be written, it is the same file as another, or
-- memory is missing
abbrev pub IsTaken : Refusal → Type 0
IsTaken e = IsFileNotWritten e ⊎ ((e ≡ refusal.SameFile) ⊎ (e ≡ refusal.Memory))

abbrev pub IsUntargeted : List PortFile → FileRefusal → Type 0
IsUntargeted wires e = (e ≡ refused_itself refusal.Memory) ⊎ ((at : ℕ) × (at < length wires) × (e.place ≡ Wire at) × IsTaken e.refusal)

-- a wire file cannot be written, or there is no capture for it
abbrev pub IsLost : Refusal → Type 0
IsLost e = IsFileNotWritten e ⊎ IsUncaptured e

abbrev pub IsUnwritten : List PortFile → FileRefusal → Type 0
IsUnwritten wires e = (at : ℕ) × (at < length wires) × (e.place ≡ Wire at) × IsLost e.refusal

-- memory is missing for the page, or a wire file is not written
abbrev pub IsUnpaged : List PortFile → FileRefusal → Type 0
IsUnpaged wires e = (e ≡ refused_itself refusal.Memory) ⊎ IsUnwritten wires e
