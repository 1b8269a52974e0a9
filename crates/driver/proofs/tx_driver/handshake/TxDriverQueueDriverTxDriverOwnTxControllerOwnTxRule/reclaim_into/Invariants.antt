use Rattle.ring_model.specs.transmit.Ring.{number_of_posting}
use Rattle.driver.proofs.tx_driver.handshake.TxDriverQueueDriverTxDriverOwnTxControllerOwnTxRule.reclaim_into.Given as goal

abbrev pub ghost-empty_ring : goal.ghost-empty_ring
ghost-empty_ring a = number_of_posting
