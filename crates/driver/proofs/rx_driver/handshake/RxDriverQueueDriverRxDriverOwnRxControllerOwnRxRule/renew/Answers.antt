use Rattle.std.proofs.Common.{◌∙◌, ◌<◌, length, refl, sym, subst, rules}
use Rattle.std.proofs.lemmas.Bool.{false≢true}
use Rattle.driver.specs.receive.Receiver.{Receiver}
use Rattle.driver.specs.receive.Returns.{IsEmptied}
use Rattle.driver.proofs.receive.Emptying.{no_chain}
use Rattle.driver.proofs.rx_driver.handshake.RxDriverQueueDriverRxDriverOwnRxControllerOwnRxRule.renew.Goals as goal

pub returns-clause-renewed : goal.returns-clause-renewed
returns-clause-renewed c =
    let emptied : IsEmptied (record { end = c.self.inside.end; chain = c.self.inside.chain; batch = c.self.inside.batch }) = record {
      stopped = sym c.is_stopped.ensures ∙ c.if-not-is_stopped.false;
      no_chain = no_chain c.self.inside.chain (λ some. false≢true (c.if-has_chain.ensures.1 (subst (λ (r : Receiver). 0 < length r.chain) c.self.view_is some)));
      none_out = search rules;
    } in
    (λ e. subst (λ (r : Receiver). IsEmptied r) c.self.view_is emptied, λ e. refl)
