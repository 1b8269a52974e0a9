use Rattle.std.proofs.Common.{◌≡◌, ℕ, ◌<◌, true, map, get_or}
use Rattle.teams.specs.declared.ending.Ending.TheVariants.{Done}
use Rattle.teams.proofs.serving.serve_round.Given as goal

abbrev pub invariant-loop-i : goal.invariant-loop-i
invariant-loop-i g l =
    record {
      keys : map g.F.Flow.key l.flows ≡ map g.F.Flow.key l.fn.flows;
      over : l.all_over ≡ true → (k : ℕ) (d : _) → k < l.i → g.F.Flow.over (get_or l.flows k d) ≡ true;
      word : l.status.word ≡ l.fn.status.word;
      share : l.status.share ≡ l.fn.status.share;
      going : l.status.ending ≡ Done;
    }
