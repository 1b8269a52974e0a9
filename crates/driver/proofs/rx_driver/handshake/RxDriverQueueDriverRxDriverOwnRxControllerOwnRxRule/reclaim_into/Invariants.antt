use Rattle.driver.specs.receive.Returns.{itself}
use Rattle.driver.proofs.rx_driver.handshake.RxDriverQueueDriverRxDriverOwnRxControllerOwnRxRule.reclaim_into.Given as goal

abbrev pub ghost-empty_ring : goal.ghost-empty_ring
ghost-empty_ring a = itself
