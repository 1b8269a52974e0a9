use Rattle.std.proofs.lemmas.List.Elements.{All-rest}
use Rattle.driver.specs.receive.Chains.{HasSegment}
use Rattle.driver.proofs.receive.Emptying.{unchained-one}
use Rattle.driver.proofs.rx_driver.reclaiming.empty_chain.Goals as goal

pub loop-chain-preserved : goal.loop-chain-preserved
loop-chain-preserved c =
    let first = c.in-Some.ensures.rest in record {
      moved = unchained-one c.args.chain.now c.args.stash.now c.loop-chain.chain c.loop-chain.stash c.pop_front.new.self c.push.new.self c.in-Some.buf c.loop-chain.invariant.moved first c.push.ensures;
      each = All-rest HasSegment c.in-Some.buf c.pop_front.new.self c.loop-chain.chain first c.loop-chain.invariant.each;
    }
