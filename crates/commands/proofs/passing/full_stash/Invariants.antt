use Rattle.std.proofs.Common.{◌≡◌, ◌+◌, length}
use Rattle.commands.specs.declared.passing.TheConstants.{BUFFERS}
use Rattle.commands.proofs.passing.full_stash.Given as goal

abbrev pub invariant-loop : goal.invariant-loop
invariant-loop l = record {
  taken : length l.stock.numbers + l.counter ≡ BUFFERS;
  put : length l.stash ≡ l.counter;
}
