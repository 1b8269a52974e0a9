-- How work ends.
use Rattle.std.specs.Prelude.{◌≡◌, ◌<◌, ℕ, Bool, true}
use Rattle.atomic_table.specs.Seated.{TableId}
use Rattle.teams.specs.declared.gate.Who.{Who}
use Rattle.teams.specs.declared.gate.Event.{Event}
use Rattle.teams.specs.declared.ending.Ending.{Ending}
use Rattle.teams.specs.declared.ending.Ending.TheVariants.{Done, Refused, Stopped}
use Rattle.teams.specs.Refusals.{Halted}

-- The ending of two pieces of work together. A refusal outranks everything, and Stopped outranks Done.
abbrev pub worse : Ending → Ending → Ending
worse Done other = other
worse (Refused e) other = Refused e
worse Stopped Done = Stopped
worse Stopped (Refused e) = Refused e
worse Stopped Stopped = Stopped

-- What a stop word's pass knows of work with this ending: how often it was the first to set the word, and whether it
-- saw the word set.
abbrev pub Tells : ℕ → Bool → Ending → Type 0
Tells firsts seen Done = firsts ≡ 0
Tells firsts seen (Refused e) = 0 < firsts
Tells firsts seen Stopped = (firsts ≡ 0) × (seen ≡ true)

-- The state of a piece of work: its stop word, its share of that word, and its ending.
pub record Status : Type 0 where
  pub word : TableId
  pub share : ℕ
  pub ending : Ending

abbrev pub status_of : TableId → ℕ → Ending → Status
status_of word share ending = record { word = word; share = share; ending = ending }

module _ {G : Type 0} where
  -- The ending is true: `all` holds if it is Done, and a refusal is one that can happen.
  abbrev pub IsSo : Type 0 → (G → Who → Event → Bool → Type 0) → G → Ending → Type 0
  IsSo all answers gate Done = all
  IsSo all answers gate (Refused e) = Halted answers gate e
  IsSo all answers gate Stopped = Unit {0}

  -- Work with a share of 1 of the stop word and a true ending.
  abbrev pub IsEnded : Type 0 → (G → Who → Event → Bool → Type 0) → G → TableId → Status → Type 0
  IsEnded all answers gate word s = IsSo all answers gate s.ending × (s.word ≡ word) × (s.share ≡ 1)
