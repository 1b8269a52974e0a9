-- Each clause is a law of worlds.
use Rattle.ring_model.proofs.Apart.{makes_step, left_alone, lawful_world, later_world, reached_world}
use Rattle.ring_model.proofs.laws.queues_stand_apart.Goals as goal

pub returns-clause-step : goal.returns-clause-step
returns-clause-step c = makes_step

pub returns-clause-alone : goal.returns-clause-alone
returns-clause-alone c = left_alone

pub returns-clause-lawful : goal.returns-clause-lawful
returns-clause-lawful c = lawful_world

pub returns-clause-later : goal.returns-clause-later
returns-clause-later c = later_world

pub returns-clause-reached : goal.returns-clause-reached
returns-clause-reached c = reached_world
