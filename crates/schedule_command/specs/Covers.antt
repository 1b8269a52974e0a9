-- The output of `schedules --cover`.
use Rattle.std.specs.Prelude.{◌≡◌, ◌⊎◌, ℕ, false, List, [], ◌∷◌, ◌++◌, codes, Option, Some, All}
use Rattle.std.specs.List.{flat_map}
use Rattle.std.specs.Io.KnownBytes.{Appends}
use Rattle.ring_machine.specs.declared.moves.Move.{Move}
use Rattle.ring_machine.specs.text.Moves.{text_of}
use Rattle.commands.specs.Replay.{RefusesReplay}
use Rattle.requests.specs.declared.answers.TheConstants.{EXIT_SUCCESS, EXIT_REFUSED}
use Rattle.requests.specs.declared.refusal.Refusal.{Refusal}
use Rattle.requests.specs.declared.refusal.Refusal.TheVariants as refusal
use Rattle.requests.specs.declared.replay.QueuePlan.{QueuePlan}
use Rattle.requests.specs.declared.replay.ReplayOutput.{ReplayOutput}
use Rattle.schedules.specs.Lists.{Meets}
use Rattle.schedules.specs.Pairs.{pair_text}
use Rattle.schedules.specs.Tried.{completion_of}
use Rattle.schedules.specs.declared.covering.lists.CoverList.{CoverList}
use Rattle.schedules.specs.declared.covering.tried.Scope.{Scope}
use Rattle.schedules.specs.declared.covering.tried.SearchedQueue.TheVariants as side
use Rattle.schedule_command.specs.Lists.{Follows, joined}
use Rattle.requests.specs.declared.covers.CoverRequest.{CoverRequest}

-- The queues with which a list begins, as `replay` makes them, and the form of its output.
abbrev pub queues_of : Scope → ReplayOutput → QueuePlan
queues_of s form = record { pairs = 1; ring = 8; enabled = s.device_only; completion = completion_of s.side; lists = false; shown = form }

-- Each move on its own line.
abbrev pub move_lines : List Move → List ℕ
move_lines moves = flat_map (λ m. text_of m ++ 10 ∷ []) moves

-- A list's pair as a comment, its moves, and the line that ends it.
abbrev pub list_text : CoverList → List ℕ
list_text l = codes "# " ++ (pair_text l.pair ++ 10 ∷ []) ++ move_lines l.moves.items ++ codes "# end\n"

-- The text of a list, and after it the output of `replay` for it, or nothing.
pub record IsText (s : Scope) (expect : Option ReplayOutput) (l : CoverList) (text : List ℕ) : Type 0 where
  pub more : List ℕ
  pub follows : Follows expect (queues_of s) (list_text l) more
  pub text_is : text ≡ list_text l ++ more

-- The texts of these lists, in order.
abbrev pub AreTexts : Scope → Option ReplayOutput → List CoverList → List (List ℕ) → Type 0
AreTexts s expect [] [] = Unit {0}
AreTexts s expect [] (t ∷ ts) = ⊥
AreTexts s expect (l ∷ ls) [] = ⊥
AreTexts s expect (l ∷ ls) (t ∷ ts) = IsText s expect l t × AreTexts s expect ls ts

-- These lists are printed, one after another, and nothing else.
pub record PrintsLists (s : Scope) (expect : Option ReplayOutput) (lists : List CoverList) (old new : Option (List ℕ)) : Type 0 where
  pub texts : List (List ℕ)
  pub are_texts : AreTexts s expect lists texts
  pub appends : Appends old new (joined texts)

-- The printed lists each meet the pair that their comment names.
pub record Prints (s : Scope) (expect : Option ReplayOutput) (old new : Option (List ℕ)) : Type 0 where
  pub lists : List CoverList
  pub meet : All (Meets s) lists
  pub printed : PrintsLists s expect lists old new

-- The scopes of a request: a receive queue, and then a transmit queue.
abbrev pub receive_scope : CoverRequest → Scope
receive_scope r = record { side = side.Receive; device_only = r.device_only }

abbrev pub transmit_scope : CoverRequest → Scope
transmit_scope r = record { side = side.Transmit r.completion; device_only = r.device_only }

-- The lists of the receive queue are printed, and after them those of the transmit queue.
pub record PrintsCover (r : CoverRequest) (old new : Option (List ℕ)) : Type 0 where
  pub between : Option (List ℕ)
  pub receive : Prints (receive_scope r) r.expect old between
  pub transmit : Prints (transmit_scope r) r.expect between new

-- `replay` refuses this text on the queues of this scope.
pub record IsUnreplayed (s : Scope) (text : List ℕ) (e : Refusal) : Type 0 where
  pub form : ReplayOutput
  pub why : RefusesReplay (queues_of s form) (Some text) e

-- Why a list was not printed: memory was refused, or `replay` refuses its text.
abbrev pub NotPrinted : Scope → CoverList → Refusal → Type 0
NotPrinted s l e = (e ≡ refusal.Memory) ⊎ IsUnreplayed s (list_text l) e

-- Fewer lists are printed: memory is refused, a list cannot be made, or the output fails.
abbrev pub Refuses : Scope → Refusal → Type 0
Refuses s e = (e ≡ refusal.Memory) ⊎ (((l : CoverList) × Meets s l × NotPrinted s l e) ⊎ (e ≡ refusal.Output))

abbrev pub RefusesCover : CoverRequest → Refusal → Type 0
RefusesCover r e = Refuses (receive_scope r) e ⊎ Refuses (transmit_scope r) e

-- The end of `schedules --cover`: its lists are printed, or it is refused.
pub record EndsCover (r : CoverRequest) (status : ℕ) (old new : Option (List ℕ)) : Type 0 where
  pub done : status ≡ EXIT_SUCCESS → PrintsCover r old new
  pub either : (status ≡ EXIT_SUCCESS) ⊎ (status ≡ EXIT_REFUSED)
