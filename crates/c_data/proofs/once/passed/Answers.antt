use Rattle.commands.proofs.Passed.{has_passed}
use Rattle.c_data.proofs.Coming.{has_come}
use Rattle.c_data.proofs.once.passed.Goals as goal

pub returns : goal.returns
returns c =
    let ends = c.in_turns-driver.ensures in
    let met = c.meet_rx.ensures in
    has_come _ met.same_driver met.same_controller (λ p took. has_passed _ _ _ _ p took ends.controller met.lawful) ends.driver
