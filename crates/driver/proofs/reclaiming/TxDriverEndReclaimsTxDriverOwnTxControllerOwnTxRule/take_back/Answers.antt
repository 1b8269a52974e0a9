use Rattle.driver.proofs.Returning.{sent-home}
use Rattle.driver.proofs.reclaiming.TxDriverEndReclaimsTxDriverOwnTxControllerOwnTxRule.take_back.Goals as goal

pub returns : goal.returns
returns c = sent-home c.reclaim.result c.args.self.now c.reclaim.new.self c.reclaim.ensures.back
