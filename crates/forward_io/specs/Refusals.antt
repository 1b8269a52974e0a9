-- A refusal, and its subject.
use Rattle.requests.specs.declared.refusal.Refusal.{Refusal}
use Rattle.requests.specs.declared.refusal.Refusal.TheVariants.{FileNotRead, FileNotWritten}
use Rattle.forward_io.specs.declared.captured.refused.RefusalSubject.TheVariants.{Command}
use Rattle.forward_io.specs.declared.captured.refused.FileRefusal.{FileRefusal}

-- a refusal of the command itself, or of one of its streams
abbrev pub refused_itself : Refusal → FileRefusal
refused_itself e = record { place = Command; refusal = e }

-- a file cannot be read, or cannot be written, whatever the system's error number
abbrev pub IsFileNotRead : Refusal → Type 0
IsFileNotRead (FileNotRead code) = Unit {0}
IsFileNotRead refusal = ⊥

abbrev pub IsFileNotWritten : Refusal → Type 0
IsFileNotWritten (FileNotWritten code) = Unit {0}
IsFileNotWritten refusal = ⊥
