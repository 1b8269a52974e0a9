-- The output of `schedules`.
use Rattle.std.specs.Prelude.{◌≡◌, ◌⊎◌, ◌≤◌, ⊤, ℕ, Bool, true, false, List, [], ◌∷◌, ◌++◌, codes, length, Option, None, Some, All}
use Rattle.std.specs.List.{flat_map}
use Rattle.std.specs.Io.KnownBytes.{Appends, Keeps}
use Rattle.ring_machine.specs.Queues.{AreQueues}
use Rattle.refusals.specs.declared.errors.MachineError.TheVariants.{RingLength, Memory as NoQueues}
use Rattle.ring_machine.specs.text.Moves.{text_of}
use Rattle.commands.specs.Page.{page_of}
use Rattle.commands.specs.Replay.{HasPage, RefusesReplay}
use Rattle.requests.specs.Replaying.{is_page}
use Rattle.requests.specs.declared.answers.TheConstants.{EXIT_SUCCESS, EXIT_REFUSED}
use Rattle.requests.specs.declared.refusal.Refusal.{Refusal}
use Rattle.requests.specs.declared.refusal.Refusal.TheVariants as refusal
use Rattle.requests.specs.Lists.{shows_page}
use Rattle.requests.specs.declared.replay.QueuePlan.{QueuePlan}
use Rattle.requests.specs.declared.replay.ReplayOutput.{ReplayOutput}
use Rattle.requests.specs.declared.replay.TheConstants.{PAGE_DATA}
use Rattle.schedules.specs.Drawing.{IsDrawn}
use Rattle.schedules.specs.declared.drawing.Drawn.{Drawn}
use Rattle.requests.specs.declared.lists.ScheduleRequest.{ScheduleRequest}

-- The queues that the lists are drawn for, as `replay` makes them, and the form of its output.
abbrev pub queues_of : ScheduleRequest → ReplayOutput → QueuePlan
queues_of r form = record { pairs = r.plan.pairs; ring = r.plan.ring; enabled = r.plan.enabled; completion = r.plan.completion; lists = false; shown = form }

-- Each move on its own line.
abbrev pub move_lines : List Drawn → List ℕ
move_lines l = flat_map (λ d. text_of d.action ++ 10 ∷ []) l

-- The same with the line that ends the list.
abbrev pub list_text : List Drawn → List ℕ
list_text l = move_lines l ++ codes "# end\n"

-- The text after a list: the output of `replay` for it in this form, or nothing.
abbrev pub Follows : Option ReplayOutput → (ReplayOutput → QueuePlan) → List ℕ → List ℕ → Type 0
Follows (Some form) queues list more = HasPage (queues form) list more
Follows None queues list more = more ≡ []

-- A list drawn as requested, with the text after it.
pub record IsPrinted (r : ScheduleRequest) (text : List ℕ) : Type 0 where
  pub list : List Drawn
  pub drawn : IsDrawn r.plan list
  pub more : List ℕ
  pub follows : Follows r.expect (queues_of r) (list_text list) more
  pub text_is : text ≡ list_text list ++ more

-- Why a list was not drawn: such queues cannot exist, or memory was refused.
abbrev pub NotDrawn : ScheduleRequest → Refusal → Type 0
NotDrawn r (refusal.Machine RingLength) = ¬ (AreQueues r.plan.pairs r.plan.ring)
NotDrawn r (refusal.Machine NoQueues) = ⊤
NotDrawn r refusal.Memory = ⊤
NotDrawn r e = ⊥

-- Why it was not printed: it was not drawn, or `replay` refuses its text.
abbrev pub NotPrinted : ScheduleRequest → Refusal → Type 0
NotPrinted r e = NotDrawn r e ⊎ ((form : ReplayOutput) × (l : List Drawn) × IsDrawn r.plan l × RefusesReplay (queues_of r form) (Some (list_text l)) e)

-- The texts, one after another.
abbrev pub joined : List (List ℕ) → List ℕ
joined texts = flat_map (λ t. t) texts

-- The requested number of lists is printed, and nothing else.
pub record PrintsLists (r : ScheduleRequest) (old new : Option (List ℕ)) : Type 0 where
  pub texts : List (List ℕ)
  pub count : length texts ≡ r.count
  pub each : All (IsPrinted r) texts
  pub appends : Appends old new (joined texts)

-- The data of a list drawn as requested, in a page.
pub record IsShown (r : ScheduleRequest) (content : List ℕ) : Type 0 where
  pub list : List Drawn
  pub drawn : IsDrawn r.plan list
  pub has : HasPage (queues_of r PAGE_DATA) (list_text list) content

-- The data of the requested number of lists.
pub record AreShown (r : ScheduleRequest) (content : List ℕ) : Type 0 where
  pub contents : List (List ℕ)
  pub count : length contents ≡ r.count
  pub each : All (IsShown r) contents
  pub content_is : content ≡ joined contents

-- A page with the requested number of lists is printed, and nothing else.
pub record PrintsPage (r : ScheduleRequest) (old new : Option (List ℕ)) : Type 0 where
  pub content : List ℕ
  pub shown : AreShown r content
  pub appends : Appends old new (page_of content)

abbrev pub PrintsBy : Bool → ScheduleRequest → Option (List ℕ) → Option (List ℕ) → Type 0
PrintsBy false = PrintsLists
PrintsBy true = PrintsPage

-- The requested lists are printed, or shown as a page.
abbrev pub Prints : ScheduleRequest → Option (List ℕ) → Option (List ℕ) → Type 0
Prints r old new = PrintsBy (shows_page r.expect) r old new

-- Fewer lists are printed, since one cannot be made or the output fails.
abbrev pub Refuses : ScheduleRequest → Refusal → Type 0
Refuses r e = NotPrinted r e ⊎ (e ≡ refusal.Output)

-- The end of `schedules`: its lists are printed, or it is refused. If the queues cannot exist and there is a list to
-- draw, it is refused with nothing printed.
pub record EndsSchedules (r : ScheduleRequest) (status : ℕ) (old new : Option (List ℕ)) : Type 0 where
  pub done : status ≡ EXIT_SUCCESS → Prints r old new
  pub either : (status ≡ EXIT_SUCCESS) ⊎ (status ≡ EXIT_REFUSED)
  pub no_queues : ¬ (AreQueues r.plan.pairs r.plan.ring) → 1 ≤ r.count → (status ≡ EXIT_REFUSED) × Keeps old new
