use Rattle.std.proofs.Common.{◌≡◌, map}
use Rattle.teams.specs.declared.ending.Ending.TheVariants.{Done}
use Rattle.teams.proofs.serving.serve.Given as goal

abbrev pub invariant-loop : goal.invariant-loop
invariant-loop g l =
    record {
      keys : map g.F.Flow.key l.flows.items ≡ map g.F.Flow.key l.fn.flows.items;
      word : l.status.word ≡ l.fn.status.word;
      share : l.status.share ≡ l.fn.status.share;
      going : l.status.ending ≡ Done;
    }
