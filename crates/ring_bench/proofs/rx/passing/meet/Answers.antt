use Rattle.ring_bench.proofs.Received.{has_passed}
use Rattle.ring_bench.proofs.rx.passing.meet.Goals as goal

pub returns : goal.returns
returns c = let met = c.meet_rx.ensures in
    rw (met.same_driver, met.same_controller) (has_passed _ _ _ _ _ c.requires.driver c.requires.controller met.lawful)
