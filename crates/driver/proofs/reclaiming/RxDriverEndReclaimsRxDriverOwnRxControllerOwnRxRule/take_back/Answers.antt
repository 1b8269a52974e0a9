use Rattle.driver.proofs.Returning.{received-home}
use Rattle.driver.proofs.reclaiming.RxDriverEndReclaimsRxDriverOwnRxControllerOwnRxRule.take_back.Goals as goal

pub returns : goal.returns
returns c = received-home c.reclaim.result c.args.self.now c.reclaim.new.self c.reclaim.ensures.back
