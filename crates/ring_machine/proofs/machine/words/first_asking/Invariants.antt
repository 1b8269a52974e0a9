-- What is left to look at finds what all finds.
use Rattle.std.proofs.Common.{◌≡◌, ◌<◌, ◌-◌}
use Rattle.ring_machine.specs.code.Words.{first_asking}
use Rattle.ring_machine.proofs.machine.words.first_asking.Given as goal

abbrev pub invariant-loop-i : goal.invariant-loop-i
invariant-loop-i l = record { inside : l.place < l.size; rest : first_asking l.words l.size l.place (l.count - l.i) ≡ first_asking l.words l.size l.from l.count }
