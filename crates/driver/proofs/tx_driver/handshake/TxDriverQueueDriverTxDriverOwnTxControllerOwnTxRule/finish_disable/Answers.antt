-- The head's load teaches no report.
use Rattle.std.proofs.Common.{◌≡◌, ◌∙◌, ap, subst}
use Rattle.shared_ring.specs.declared.events.DriverEvent.TheVariants.{LoadedHead}
use Rattle.shared_ring.proofs.Posting.{known-after}
use Rattle.tx_ring.specs.Ends.{seen_reported}
use Rattle.tx_ring.specs.Records.{Knowing}
use Rattle.driver.specs.transmit.Transmitter.{Transmitter}
use Rattle.driver.proofs.tx_driver.handshake.TxDriverQueueDriverTxDriverOwnTxControllerOwnTxRule.finish_disable.Goals as goal

pub returns-clause-known : goal.returns-clause-known
returns-clause-known c =
    let found = c.left.ensures in
    subst (λ (t : Transmitter). seen_reported c.left.new.self ≡ seen_reported t.end) c.self.view_is
    (ap (λ (k : Knowing). k.seen) (known-after c.state.new.self c.left.new.self (LoadedHead found.head) found.step)
    ∙ ap (λ (k : Knowing). k.seen) c.state.ensures.known)
