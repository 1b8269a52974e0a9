-- Each clause is a lemma of `ring_model`.
use Rattle.std.proofs.Common.{rules}
use Rattle.ring_model.proofs.shared.Stepping.{control_fits_of, returned_completed, held_below, fetch_facts, answered_has_ended, answered_idle, answered_unheld}
use Rattle.ring_laws.proofs.queues.kept_queues_tell.Goals as goal

pub returns : goal.returns
returns g c = search (rules, control_fits_of, returned_completed, held_below, fetch_facts, answered_has_ended, answered_idle, answered_unheld)
