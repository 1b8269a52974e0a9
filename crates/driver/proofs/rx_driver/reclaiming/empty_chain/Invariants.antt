use Rattle.std.proofs.Common.{length}
use Rattle.std.specs.Prelude.{All}
use Rattle.driver.specs.receive.Chains.{HasSegment}
use Rattle.driver.specs.receive.Returns.{Unchained}
use Rattle.driver.proofs.rx_driver.reclaiming.empty_chain.Given as goal

abbrev pub invariant-loop-chain : goal.invariant-loop-chain
invariant-loop-chain l = record {
  moved : Unchained l.initial.chain l.initial.stash l.chain l.stash;
  each : All HasSegment l.chain;
}

abbrev pub decreases-loop-chain : goal.decreases-loop-chain
decreases-loop-chain l = length l.chain
