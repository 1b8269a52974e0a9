use Rattle.ring_bench.proofs.Sent.{has_sent}
use Rattle.ring_bench.proofs.tx.sending.meet.Goals as goal

pub returns : goal.returns
returns c = let met = c.meet_tx.ensures in
    rw (met.same_driver, met.same_controller) (has_sent _ _ _ _ _ c.requires.driver c.requires.controller met.lawful met.all)
