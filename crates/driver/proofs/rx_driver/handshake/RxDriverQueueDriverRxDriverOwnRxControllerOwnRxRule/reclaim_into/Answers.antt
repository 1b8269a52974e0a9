use Rattle.std.proofs.Common.{refl, subst}
use Rattle.driver.specs.receive.Receiver.{Receiver}
use Rattle.driver.specs.receive.Returns.{itself, GaveBack}
use Rattle.driver.proofs.Returning.{back-none}
use Rattle.driver.proofs.rx_driver.handshake.RxDriverQueueDriverRxDriverOwnRxControllerOwnRxRule.reclaim_into.Goals as goal

pub returns-then-not-empty_chain-clause-back : goal.returns-then-not-empty_chain-clause-back
returns-then-not-empty_chain-clause-back c =
    let new : Receiver = record { end = c.self.inside.end; chain = c.empty_chain.new.chain; batch = c.self.inside.batch } in
    λ stopped. subst (λ (r : Receiver). GaveBack r c.args.stash.now new c.empty_chain.new.stash) c.self.view_is (record {
      between = c.empty_chain.new.stash;
      chain = c.empty_chain.ensures.moved;
      ring = back-none itself c.self.inside.end c.empty_chain.new.stash;
      in_order = λ some. refl;
      known = refl;
      batch = refl;
    })
