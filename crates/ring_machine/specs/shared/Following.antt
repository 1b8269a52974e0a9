-- What the ring that a machine agrees with guarantees of the machine's steps.
use Rattle.std.specs.Prelude.{◌≡◌, ℕ, Bool, List, Option, Some, None, Result, if◌then◌else◌, Ok, Err}
use Rattle.std.specs.Option.{ok_or}
use Rattle.ring_model.specs.declared.notes.Note.{Note}
use Rattle.ring_model.specs.shared.Schedules.{after_all, happened, next}
use Rattle.refusals.specs.declared.errors.MachineError.{MachineError}
use Rattle.refusals.specs.declared.errors.MachineError.TheVariants as refusal

-- The result is the note, or refusal 11 if there is none. The machine agrees with the ring's later state. A refusal
-- leaves it unchanged.
pub record Did {Parts State : Type 0} (Agree : Parts → State → Type 0) (told : Option Note) (later : State) (result : Result Note MachineError) (old new : Parts) : Type 0 where
  pub answer : result ≡ ok_or told refusal.NotEnabled
  pub agrees : Agree new later
  pub kept : told ≡ None → new ≡ old

-- The number of steps that a result says were made.
abbrev pub count_of : Result Note MachineError → ℕ
count_of (Ok told) = 1
count_of (Err why) = 0

-- `Reached` says which rings the promise covers, `can` whether a step can happen, `changed` the state after it, and
-- `tells` its note.
module _ {Parts State Step : Type 0} (Agree : Parts → State → Type 0) (Reached : ℕ → State → Type 0) (can : State → Step → Bool) (changed : State → Step → State) (tells : State → Step → Note) where
  -- If the ring has the step, the machine's note and later state are the ring's. If not, the result is refusal 11 and
  -- the machine is unchanged.
  abbrev pub Follows : Parts → Step → Result Note MachineError → Parts → Type 0
  Follows old s result new = (n : ℕ) (r : State) → Reached n r → Agree old r → Did Agree (if can r s then Some (tells r s) else None) (next can changed r s) result old new

  -- A machine that agreed with a reached ring agrees with the ring after these steps too. `count` is the number of
  -- steps that happened.
  abbrev pub Runs : Parts → List Step → ℕ → Parts → Type 0
  Runs old schedule count new = (n : ℕ) (r : State) → Reached n r → Agree old r → Agree new (after_all can changed r schedule) × (count ≡ happened can changed r schedule)
