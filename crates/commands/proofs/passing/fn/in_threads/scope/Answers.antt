-- What the threads promised is what is answered.
use Rattle.std.proofs.Common.{rules, refl, subst}
use Rattle.commands.specs.Passing.{TookPacket}
use Rattle.commands.proofs.passing.fn.in_threads.scope.Goals as goal

pub returns-in_default : goal.returns-in_default
returns-in_default g c = record { driver = tt; controller = tt; refused = refl }

pub returns : goal.returns
returns g c = record {
  driver = subst (λ p. TookPacket p.0.now c.join-2.result.driver c.join-2.result.packet) c.in-Ok.ensures.ok c.join-2.ensures;
  controller = search rules;
  refused = tt;
}
