use Rattle.std.proofs.Common.{◌≡◌, ◌++◌, map}
use Rattle.std.specs.Prelude.{decimal}
use Rattle.ring_machine.specs.code.Fields.{AreSmall, later_fields}
use Rattle.ring_machine.proofs.text.ArgumentFields.{left_len}
use Rattle.ring_machine.proofs.moves.fields.arguments_in.Given as goal

abbrev pub invariant-loop-rest : goal.invariant-loop-rest
invariant-loop-rest l = record {
  read : later_fields l.initial.rest ≡ map decimal l.arguments.items ++ later_fields l.rest;
  small : AreSmall l.arguments.items;
}

abbrev pub decreases-loop-rest : goal.decreases-loop-rest
decreases-loop-rest l = left_len l.rest
