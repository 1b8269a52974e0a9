-- The input and output of `replay`: a list of moves, one per line, and the note of each.
use Rattle.std.specs.Prelude.{◌≡◌, ◌≢◌, ◌⊎◌, ℕ, ◌+◌, Bool, true, false, List, [], ◌∷◌, ◌++◌, codes, decimal, length, map, Option, Some, None, IfSome, All, if◌then◌else◌}
use Rattle.std.specs.List.{filter}
use Rattle.std.specs.Io.KnownBytes.{Appends, Keeps}
use Rattle.text_lines.specs.Parts.{lines_of, says_something}
use Rattle.ring_machine.specs.declared.moves.Move.{Move}
use Rattle.ring_model.specs.declared.notes.Note.{Note}
use Rattle.refusals.specs.declared.errors.MachineError.TheVariants.{RingLength, Memory as MachineMemory}
use Rattle.ring_model.specs.shared.Schedules.{next}
use Rattle.pictures.specs.NoteMembers.{note_members}
use Rattle.ring_model.specs.NoteTexts.{note_text}
use Rattle.ring_model.specs.Worlds.{World, opening_world, after_move, after_moves, can_move, moves_happened, note_in}
use Rattle.ring_machine.specs.Queues.{AreQueues, QueueParts, QueuesAgree, queue_move}
use Rattle.ring_machine.specs.Registers.{registers_in}
use Rattle.limits.specs.declared.profile.TheConstants.{MOST_PAIRS}
use Rattle.pictures.specs.Pictures.{queue_picture}
use Rattle.pictures.specs.States.{opening_lines, state_line}
use Rattle.ring_machine.specs.declared.registers.Registers.{Registers}
use Rattle.ring_machine.specs.declared.registers.QueueKind.{QueueKind}
use Rattle.ring_machine.specs.declared.registers.QueueKind.TheVariants as kind
use Rattle.ring_machine.specs.text.Moves.{IsInRange, name_of, text_of}
use Rattle.ring_machine.specs.text.RegisterTexts.{registers_text}
use Rattle.ring_model.specs.shared.Agreement.{bit}
use Rattle.requests.specs.Replaying.{is_page}
use Rattle.requests.specs.declared.replay.Pictures.{Pictures}
use Rattle.requests.specs.declared.replay.Pictures.TheVariants as pictures
use Rattle.requests.specs.declared.replay.QueuePlan.{QueuePlan}
use Rattle.requests.specs.declared.replay.ReplayOutput.{ReplayOutput}
use Rattle.requests.specs.declared.answers.TheConstants.{EXIT_SUCCESS, EXIT_REFUSED}
use Rattle.requests.specs.declared.refusal.Refusal.{Refusal}
use Rattle.requests.specs.declared.refusal.Refusal.TheVariants as refusal
use Rattle.commands.specs.Lists.{lists_of}
use Rattle.commands.specs.Page.{page_of}

-- The lines that are not skipped are the texts of these moves, in order.
pub record Says (lines : List (List ℕ)) (moves : List Move) : Type 0 where
  pub texts : filter says_something lines ≡ map text_of moves
  pub in_range : All IsInRange moves

abbrev pub IsMoveList : List ℕ → Type 0
IsMoveList text = (moves : List Move) × Says (lines_of text) moves

-- The line is skipped, or is the text of a move.
abbrev pub Reads : List ℕ → Type 0
Reads line = (says_something line ≡ false) ⊎ ((m : Move) × IsInRange m × (line ≡ text_of m))

-- The line is neither skipped nor a move.
pub record IsNoMove (line : List ℕ) : Type 0 where
  pub is_move : says_something line ≡ true
  pub no_text : (m : Move) → IsInRange m → line ≢ text_of m

-- Line `k`, counted from 1, is neither skipped nor a move, and the lines before it have no fault.
pub record IsFaulty (lines : List (List ℕ)) (k : ℕ) : Type 0 where
  pub before : List (List ℕ)
  pub line : List ℕ
  pub later : List (List ℕ)
  pub split : before ++ line ∷ later ≡ lines
  pub number : k ≡ length before + 1
  pub moves : List Move
  pub says : Says before moves
  pub no_move : IsNoMove line

abbrev pub told_text : Option Note → List ℕ
told_text None = codes "not enabled"
told_text (Some note) = note_text note

-- The world after a move, which changes nothing if it cannot happen.
abbrev pub after_it : World → Move → World
after_it w m = next can_move after_move w (queue_move m)

-- The members of an object that state whether the move was made, and its note.
abbrev pub told_members : Option Note → List ℕ
told_members None = codes "false"
told_members (Some note) = codes "true" ++ note_members note

-- The registers of a move's queue, if they are shown and there is such a queue.
abbrev pub shown_registers : ReplayOutput → World → Move → Option Registers
shown_registers shown w m = if shown.registers then registers_in w (queue_move m) else None

abbrev pub registers_line : Option Registers → List ℕ
registers_line None = []
registers_line (Some r) = registers_text r ++ 10 ∷ []

-- The same as members of an object.
abbrev pub members_by : QueueKind → ℕ → ℕ → Bool → List ℕ
members_by kind.Receive head tail enable = codes ",\"RDH\":" ++ (decimal head ++ (codes ",\"RDT\":" ++ (decimal tail ++ (codes ",\"RXDCTL.ENABLE\":" ++ decimal (bit enable)))))
members_by kind.Transmit head tail enable = codes ",\"TDH\":" ++ (decimal head ++ (codes ",\"TDT\":" ++ (decimal tail ++ (codes ",\"TXDCTL.ENABLE\":" ++ decimal (bit enable)))))

abbrev pub members_of : Registers → List ℕ
members_of r = members_by r.kind r.head r.tail r.enable

abbrev pub register_members : Option Registers → List ℕ
register_members None = []
register_members (Some r) = members_of r

-- A move's queue, kind and note.
abbrev pub words_line : Move → Option Note → List ℕ
words_line m told = name_of m ++ (codes " " ++ (told_text told ++ 10 ∷ []))

abbrev pub note_object : Move → Option Note → List ℕ
note_object m told = codes "{\"move\":\"" ++ (name_of m ++ (codes "\",\"made\":" ++ told_members told))

abbrev pub object_line : Move → Option Note → Option Registers → List ℕ
object_line m told read = note_object m told ++ (register_members read ++ codes "}\n")

-- The output for a move: lines of words, or an object.
abbrev pub told_line : Bool → Move → Option Note → Option Registers → List ℕ
told_line false m told read = words_line m told ++ registers_line read
told_line true m told read = object_line m told read

-- The registers are shown as they are after the move.
abbrev pub line_in : ReplayOutput → World → Move → List ℕ
line_in shown w m = told_line shown.json m (note_in w (queue_move m)) (shown_registers shown (after_it w m) m)

-- The move whose queue is drawn directly after its line, and the one whose queue is drawn after all lines.
abbrev pub drawn_at_once : Pictures → Move → Option Move
drawn_at_once pictures.Never m = None
drawn_at_once pictures.Each m = Some m
drawn_at_once pictures.Last m = None
drawn_at_once pictures.States m = Some m
drawn_at_once pictures.Page m = Some m

abbrev pub drawn_at_last : Pictures → Option Move → Option Move
drawn_at_last pictures.Never last = None
drawn_at_last pictures.Each last = None
drawn_at_last pictures.Last last = last
drawn_at_last pictures.States last = None
drawn_at_last pictures.Page last = None

-- Whether a queue is drawn as a line of JSON with its state.
abbrev pub has_states : Pictures → Bool
has_states pictures.States = true
has_states pictures.Page = true
has_states form = false

abbrev pub queue_drawing : Pictures → QueueParts → Move → List ℕ
queue_drawing form queues m = if has_states form then state_line queues m else queue_picture queues m

abbrev pub drawn_of : Pictures → QueueParts → Option Move → List ℕ
drawn_of form queues None = []
drawn_of form queues (Some m) = queue_drawing form queues m

-- The text before the first move: with states, a line for each queue.
abbrev pub opening_of : Pictures → QueueParts → List ℕ
opening_of form queues = if has_states form then opening_lines queues MOST_PAIRS else []

-- The picture of queues that agree with this world.
pub record IsDrawn (form : Pictures) (w : World) (action : Option Move) (drawn : List ℕ) : Type 0 where
  pub queues : QueueParts
  pub agrees : QueuesAgree queues w
  pub drawn_is : drawn ≡ drawn_of form queues action

-- The text before the first move, of queues that agree with this world.
pub record IsOpening (form : Pictures) (w : World) (opening : List ℕ) : Type 0 where
  pub queues : QueueParts
  pub agrees : QueuesAgree queues w
  pub opening_is : opening ≡ opening_of form queues

-- The lines of the moves. After each line comes the picture, if any, of its queue after the move.
abbrev pub Tells : ReplayOutput → World → List Move → List ℕ → Type 0
Tells shown w [] lines = lines ≡ []
Tells shown w (m ∷ ms) lines = (drawn : List ℕ) × (later : List ℕ) × IsDrawn shown.pictures (after_it w m) (drawn_at_once shown.pictures m) drawn
    × Tells shown (after_it w m) ms later × (lines ≡ line_in shown w m ++ (drawn ++ later))

-- The last move: `last`, if no moves follow.
abbrev pub last_from : Option Move → List Move → Option Move
last_from last [] = last
last_from last (m ∷ ms) = last_from (Some m) ms

abbrev pub count_line : Bool → ℕ → ℕ → List ℕ
count_line false made read = codes "moves " ++ (decimal made ++ (codes " of " ++ (decimal read ++ 10 ∷ [])))
count_line true made read = codes "{\"made\":" ++ (decimal made ++ (codes ",\"read\":" ++ (decimal read ++ codes "}\n")))

-- The page has the text before the first move, the lines of each move, a picture of the last one's queue, if selected,
-- and the number of moves that happened.
pub record Replayed (shown : ReplayOutput) (w : World) (ms : List Move) (page : List ℕ) : Type 0 where
  pub opening : List ℕ
  pub is_opening : IsOpening shown.pictures w opening
  pub lines : List ℕ
  pub drawn : List ℕ
  pub tells : Tells shown w ms lines
  pub is_drawn : IsDrawn shown.pictures (after_moves w (map queue_move ms)) (drawn_at_last shown.pictures (last_from None ms)) drawn
  pub page_is : page ≡ opening ++ (lines ++ (drawn ++ count_line shown.json (moves_happened w (map queue_move ms)) (length ms)))

-- The page is the output for the text's moves.
pub record IsPageOf (shown : ReplayOutput) (w : World) (text page : List ℕ) : Type 0 where
  pub moves : List Move
  pub says : Says (lines_of text) moves
  pub printed : Replayed shown w moves page

-- The new queues of the plan.
abbrev pub world_of : QueuePlan → World
world_of p = opening_world p.pairs p.ring (record { enabled = p.enabled; completion = p.completion })

-- The text is a list of moves, and such queues can exist.
pub record IsReplay (plan : QueuePlan) (text : List ℕ) (moves : List Move) : Type 0 where
  pub says : Says (lines_of text) moves
  pub queues : AreQueues plan.pairs plan.ring

-- The page is the output for the moves in these lines on new queues.
pub record IsListPage (plan : QueuePlan) (lines : List (List ℕ)) (page : List ℕ) : Type 0 where
  pub moves : List Move
  pub says : Says lines moves
  pub printed : Replayed plan.shown (world_of plan) moves page

-- The pages of these lists, joined. Each list has fresh queues.
abbrev pub ArePages : QueuePlan → List (List (List ℕ)) → List ℕ → Type 0
ArePages plan [] page = page ≡ []
ArePages plan (list ∷ lists) page =
    (first : List ℕ) × (later : List ℕ) × IsListPage plan list first × ArePages plan lists later × (page ≡ first ++ later)

-- The output for a text with these moves: one page, or with `lists` a page for each list in the text.
abbrev pub IsPrinted : Bool → QueuePlan → List ℕ → List Move → List ℕ → Type 0
IsPrinted false plan text moves page = Replayed plan.shown (world_of plan) moves page
IsPrinted true plan text moves page = ArePages plan (lists_of (lines_of text)) page

-- The data are the output for a text on queues of the plan, apart from the frame of a page.
pub record HasData (plan : QueuePlan) (text content : List ℕ) : Type 0 where
  pub moves : List Move
  pub replay : IsReplay plan text moves
  pub printed : IsPrinted plan.lists plan text moves content

-- The data are the output, or are in a page.
abbrev pub framed : Bool → List ℕ → List ℕ
framed false content = content
framed true content = page_of content

-- The page is the output for a text on queues of the plan.
pub record HasPage (plan : QueuePlan) (text page : List ℕ) : Type 0 where
  pub content : List ℕ
  pub has : HasData plan text content
  pub page_is : page ≡ framed (is_page plan.shown.pictures) content

-- The output for all moves was printed.
pub record HasReplayed (plan : QueuePlan) (text : List ℕ) (old new : Option (List ℕ)) : Type 0 where
  pub page : List ℕ
  pub has : HasPage plan text page
  pub printed : Appends old new page

-- Why a text is refused, the first that applies: a faulty line, then queues that cannot exist, then a lack of memory.
abbrev pub ReplayRefused : QueuePlan → List ℕ → Refusal → Type 0
ReplayRefused plan text (refusal.Move k) = IsFaulty (lines_of text) k
ReplayRefused plan text (refusal.Machine RingLength) = IsMoveList text × ¬ (AreQueues plan.pairs plan.ring)
ReplayRefused plan text (refusal.Machine MachineMemory) = (moves : List Move) × IsReplay plan text moves
ReplayRefused plan text refusal.Memory = (moves : List Move) × IsReplay plan text moves
ReplayRefused plan text e = ⊥

-- Memory was refused to the machine or the page.
abbrev pub LacksMemory : Refusal → Type 0
LacksMemory e = (e ≡ refusal.Memory) ⊎ (e ≡ refusal.Machine MachineMemory)

-- A text was read (the input, if it is known), and the page is its output.
abbrev pub IsReplayed : QueuePlan → Option (List ℕ) → List ℕ → Type 0
IsReplayed plan input page = (text : List ℕ) × IfSome input (λ known. text ≡ known) × HasPage plan text page

-- Nothing was read, or the text was refused.
abbrev pub RefusesReplay : QueuePlan → Option (List ℕ) → Refusal → Type 0
RefusesReplay plan input e =
    (e ≡ refusal.Input) ⊎ ((e ≡ refusal.Memory) ⊎ ((text : List ℕ) × IfSome input (λ known. text ≡ known) × ReplayRefused plan text e))

-- The end of `replay` for this text: its output is printed, or it is refused. A faulty text, and a plan of queues
-- that cannot exist, are always refused, with nothing printed.
pub record EndsReplay (plan : QueuePlan) (text : List ℕ) (status : ℕ) (old new : Option (List ℕ)) : Type 0 where
  pub done : status ≡ EXIT_SUCCESS → HasReplayed plan text old new
  pub either : (status ≡ EXIT_SUCCESS) ⊎ (status ≡ EXIT_REFUSED)
  pub faulty : (k : ℕ) → IsFaulty (lines_of text) k → (status ≡ EXIT_REFUSED) × Keeps old new
  pub no_queues : ¬ (AreQueues plan.pairs plan.ring) → (status ≡ EXIT_REFUSED) × Keeps old new

-- The output for one move was written, and the queues agree with the world after it.
pub record WroteMove (shown : ReplayOutput) (w : World) (m : Move) (made : Bool) (old new : List ℕ) (queues : QueueParts) : Type 0 where
  pub drawn : List ℕ
  pub is_drawn : IsDrawn shown.pictures (after_it w m) (drawn_at_once shown.pictures m) drawn
  pub text : new ≡ old ++ (line_in shown w m ++ drawn)
  pub agrees : QueuesAgree queues (after_it w m)
  pub counted : made ≡ can_move w (queue_move m)
