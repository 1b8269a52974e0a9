-- The view of a pass in contracts.
use Rattle.std.specs.Prelude.{ℕ, ◌+◌, Bool, false}
use Rattle.atomic_table.specs.Seated.{TableId}
use Rattle.teams.specs.declared.rule.PassKnowledge.{PassKnowledge}
use Rattle.teams.specs.Rule.{either, whole_share}

-- The pass's word, its share, how often it was the first to set the word, and whether it saw the word set.
pub record Passed : Type 0 where
  pub word : TableId
  pub share : ℕ
  pub firsts : ℕ
  pub seen : Bool

abbrev pub passed : TableId → PassKnowledge → Passed
passed word v = record { word = word; share = v.share; firsts = v.firsts; seen = v.seen }

-- The pass that a new word comes with.
abbrev pub first_pass : TableId → Passed
first_pass word = record { word = word; share = whole_share; firsts = 0; seen = false }

-- A pass that is split off.
abbrev pub part_of : Passed → Passed
part_of p = record { word = p.word; share = 1; firsts = 0; seen = p.seen }

-- A pass that took another in.
abbrev pub joined : Passed → Passed → Passed
joined p q = record { word = p.word; share = p.share + q.share; firsts = p.firsts + q.firsts; seen = either p.seen q.seen }
