-- Each clause is a lemma of `ring_model`.
use Rattle.std.proofs.Common.{rules}
use Rattle.ring_model.proofs.shared.ControlSteps.{new_open, on_open, open_unanswered, live_unanswered, stopped_full, stopped_answered, cleared_emptied, tailed_emptied, emptied_answered, answered_closed, learned_open, learned_unanswered, serving_unended, on_serving, serving_unanswered, control_steps-enable, control_steps-disable}
use Rattle.ring_laws.proofs.states.states_tell.Goals as goal

pub returns : goal.returns
returns c = search (rules, new_open, on_open, open_unanswered, live_unanswered, stopped_full, stopped_answered, cleared_emptied, tailed_emptied, emptied_answered, answered_closed, learned_open, learned_unanswered, serving_unended, on_serving, serving_unanswered, control_steps-enable, control_steps-disable)
