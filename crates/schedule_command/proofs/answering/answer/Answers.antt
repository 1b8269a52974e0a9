use Rattle.schedule_command.proofs.answering.answer.Goals as goal

-- lists were printed, so there can be such queues
pub returns-in-Ok-clause-no_queues : goal.returns-in-Ok-clause-no_queues
returns-in-Ok-clause-no_queues g c = λ off some. let bad = (c.in-Ok.ensures.no_queues off some).0 in let never : ⊥ = cc bad in absurd never

pub returns-in-Err-clause-no_queues : goal.returns-in-Err-clause-no_queues
returns-in-Err-clause-no_queues g c = λ off some. (c.refuse_request.ensures, (c.in-Err.ensures.no_queues off some).1)
