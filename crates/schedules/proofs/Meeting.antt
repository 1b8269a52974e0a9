-- A list whose moves were made, and whose last was answered as its pair says, meets the pair.
use Rattle.std.proofs.Common.{◌≡◌, ◌∙◌, ℕ, List, [], ◌∷◌, ◌++◌, length, map, Result, ap, sym}
use Rattle.ring_laws.specs.Schedules.{reached-more, reached-opening}
use Rattle.ring_model.specs.declared.notes.Note.{Note}
use Rattle.ring_model.specs.Worlds.{after_move, after_moves, can_move, opening_world}
use Rattle.refusals.specs.declared.errors.MachineError.{MachineError}
use Rattle.ring_machine.specs.declared.moves.Move.{Move}
use Rattle.ring_machine.specs.Queues.{QueueParts, QueuesAgree, QueuesFollow, QueuesRun, queue_move}
use Rattle.schedules.specs.declared.covering.lists.CoverList.{CoverList}
use Rattle.schedules.specs.declared.covering.tried.Scope.{Scope}
use Rattle.schedules.specs.Lists.{Meets, beginning}
use Rattle.schedules.specs.Tried.{InScope, completion_of}
use Rattle.schedules.specs.OutcomeKind.{outcome_of}

pub meets : (s : Scope) (l : CoverList) (path : List Move) (old between new : QueueParts) (count : ℕ) (answer : Result Note MachineError)
    → QueuesAgree old (beginning s) → QueuesRun old path count between → count ≡ length path → QueuesFollow between l.pair.action answer new
    → l.pair.outcome ≡ outcome_of answer → l.moves.items ≡ path ++ l.pair.action ∷ [] → InScope s l.moves.items → Meets s l
unfolding QueuesRun QueuesFollow
meets s l path old between new count answer made run all follows tells ends scoped =
    let opening = reached-opening can_move after_move (opening_world 1 8) (record { enabled = s.device_only; completion = completion_of s.side }) in
    let ran = run 1 8 (beginning s) opening made in
    let reached = reached-more can_move after_move (opening_world 1 8) (beginning s) (map queue_move path) opening in
    let did = follows 1 8 (after_moves (beginning s) (map queue_move path)) reached ran.0 in record {
      before = path;
      ends = ends;
      happen = sym ran.1 ∙ all;
      tells = tells ∙ ap outcome_of did.answer;
      in_scope = scoped;
    }
