-- What the moves print, put at the beginning of a room.
use Rattle.std.proofs.Common.{◌≡◌, ℕ, List, ◌++◌, length, drop, ap, ◌∙◌, subst}
use Rattle.commands.specs.Replay.{HasPage}
use Rattle.requests.specs.declared.replay.QueuePlan.{QueuePlan}
use Rattle.c_data.specs.Moves.{Printed}

pub printed_there : (plan known : QueuePlan) (text read before after bytes page : List ℕ) → known ≡ plan → read ≡ text → HasPage known read page → bytes ≡ page
    → after ≡ bytes ++ drop (length bytes) before → Printed plan text (length bytes) before after
printed_there plan known text read before after bytes page same read_is has is copied = record {
  prints = record {
    page = page;
    has = subst (λ (p : QueuePlan). HasPage p text page) same (subst (λ (t : List ℕ). HasPage known t page) read_is has);
    needed_is = ap length is;
  };
  copied = copied ∙ ap (λ (l : List ℕ). l ++ drop (length bytes) before) is;
}
