use Rattle.std.proofs.Common.{◌≡◌, true}
use Rattle.ring_model.specs.shared.Handshakes.{is_open}
use Rattle.rx_ring.specs.Ends.{driver_state, taken}
use Rattle.commands.proofs.passing.enable.Given as goal

abbrev pub invariant-loop : goal.invariant-loop
invariant-loop g l = record {
  own : l.driver.end.table ≡ l.ring;
  not_shut : is_open (driver_state l.driver.end) ≡ true;
  taken : taken l.driver.end ≡ taken l.initial.driver.end;
  chain : l.driver.chain ≡ l.initial.driver.chain;
}
