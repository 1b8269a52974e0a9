-- The rule of a stop word, and the knowledge that each step gives to a pass.
use Rattle.std.specs.Prelude.{◌≡◌, ℕ, ◌+◌, ◌-◌, Bool, true, false, List}
use Rattle.std.specs.List.{sum_by}
use mathlib.Core.Option.{some}
use lib.ListN.{get_elem?}
use Rattle.teams.specs.declared.rule.Flag.{Flag}
use Rattle.teams.specs.declared.rule.PassKnowledge.{PassKnowledge}

abbrev pub known : ℕ → ℕ → Bool → PassKnowledge
known share firsts seen = record { share = share; firsts = firsts; seen = seen }

-- 1 for true, 0 for false.
abbrev pub worth : Bool → ℕ
worth true = 1
worth false = 0

abbrev pub either : Bool → Bool → Bool
either true b = true
either false b = b

-- More than there can be workers.
abbrev pub whole_share : ℕ
whole_share = 36893488147419103232

-- The knowledge of the pass that a new word comes with.
abbrev pub opened : PassKnowledge
opened = known whole_share 0 false

abbrev pub same : PassKnowledge → PassKnowledge
same v = v

-- The knowledge of a pass that has nothing left.
abbrev pub spent : PassKnowledge
spent = known 0 0 false

-- What a pass keeps after giving a share of 1 away, and what it gives.
abbrev pub cut : PassKnowledge → PassKnowledge
cut v = known (v.share - 1) v.firsts v.seen

abbrev pub given : PassKnowledge → PassKnowledge
given v = known 1 0 v.seen

-- The knowledge of a pass that took another in.
abbrev pub both : PassKnowledge → PassKnowledge → PassKnowledge
both v w = known (v.share + w.share) (v.firsts + w.firsts) (either v.seen w.seen)

-- The rule for one pass. Without a share it was never the first. If it saw the word set, the word is set.
pub record Fits (now : Flag) (v : PassKnowledge) : Type 0 where
  pub idle : v.share ≡ 0 → v.firsts ≡ 0
  pub seen : v.seen ≡ true → now.set ≡ true

-- All passes together have the whole share. Exactly one of them was the first if the word is set, and none if not.
pub record IsSettled (now : Flag) (all : List PassKnowledge) : Type 0 where
  pub shares : sum_by (λ v. v.share) all ≡ whole_share
  pub once : sum_by (λ v. v.firsts) all ≡ worth now.set
  pub each : (pass : ℕ) (v : PassKnowledge) → get_elem? all pass ≡ some v → Fits now v

-- A look at the word.
pub record HasLooked (old : PassKnowledge) (x y : Flag) (new : PassKnowledge) : Type 0 where
  pub set : x.set ≡ true → new ≡ known old.share old.firsts true
  pub unset : x.set ≡ false → new ≡ old
  pub stays : old.seen ≡ true → x.set ≡ true
  pub whole : old.share ≡ whole_share → old.firsts ≡ worth x.set

abbrev pub turned : Bool → Bool
turned true = false
turned false = true

-- The word is set. The pass was the first if it was not set before.
pub record HasSet (old : PassKnowledge) (x y : Flag) (new : PassKnowledge) : Type 0 where
  pub now : new ≡ known old.share (old.firsts + worth (turned x.set)) true
  pub once : old.seen ≡ true → x.set ≡ true
