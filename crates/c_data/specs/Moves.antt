-- The output of a list of moves.
use Rattle.std.specs.Prelude.{◌≡◌, ℕ, ◌<◌, List, ◌++◌, length, drop, Option, Some, None, Bool, true, false}
use Rattle.ring_model.specs.declared.states.Completion.{Completion}
use Rattle.ring_model.specs.declared.states.Completion.TheVariants.{Status, Head}
use Rattle.requests.specs.Refusals.{refusal_number, refused_line}
use Rattle.commands.specs.Replay.{HasPage, RefusesReplay}
use Rattle.requests.specs.declared.refusal.Refusal.{Refusal}
use Rattle.requests.specs.declared.replay.QueuePlan.{QueuePlan}
use Rattle.requests.specs.declared.replay.TheConstants.{NOTES}
use Rattle.ffi_handle.specs.Words.{is_set}
use Rattle.c_data.specs.declared.moves.Poll82599Plan.{Poll82599Plan}

abbrev pub completion_of : Bool → Completion
completion_of true = Head
completion_of false = Status

abbrev pub plan_of : Poll82599Plan → QueuePlan
plan_of p = record { pairs = p.pairs; ring = p.descriptors; enabled = is_set p.enabled; completion = completion_of (is_set p.by_head); lists = false; shown = record NOTES { json = is_set p.json } }

-- the output of the moves has `needed` bytes
pub record Prints (plan : QueuePlan) (text : List ℕ) (needed : ℕ) : Type 0 where
  pub page : List ℕ
  pub has : HasPage plan text page
  pub needed_is : needed ≡ length page

-- the output is at the beginning of the room
pub record Printed (plan : QueuePlan) (text : List ℕ) (needed : ℕ) (before after : List ℕ) : Type 0 where
  pub prints : Prints plan text needed
  pub copied : after ≡ prints.page ++ drop needed before

-- the room is too small for the output
pub record TooSmall (plan : QueuePlan) (text : List ℕ) (needed : ℕ) (room : List ℕ) : Type 0 where
  pub prints : Prints plan text needed
  pub small : length room < needed

-- the line of a faulty move, counted from 1; or 0
abbrev pub line_of : Option ℕ → ℕ
line_of (Some line) = line
line_of None = 0

-- the text is refused with this number, at this line
pub record IsRefused (plan : QueuePlan) (text : List ℕ) (answer line : ℕ) : Type 0 where
  pub why : Refusal
  pub refuses : RefusesReplay plan (Some text) why
  pub number : answer ≡ refusal_number why
  pub line_is : line ≡ line_of (refused_line why)
