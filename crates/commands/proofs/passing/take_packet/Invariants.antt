use Rattle.commands.proofs.Ends.{Takes}
use Rattle.commands.proofs.passing.take_packet.Given as goal

abbrev pub invariant-loop : goal.invariant-loop
invariant-loop g l = Takes l.ring l.driver.end l.driver.chain l.packets.items
