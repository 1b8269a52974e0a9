-- Each clause is a lemma of `ring_model`.
use Rattle.std.proofs.Common.{rules}
use Rattle.ring_model.proofs.shared.Wanted.{fetch_here, fetch_rest}
use Rattle.ring_laws.proofs.queues.a_fetch_takes_one.Goals as goal

pub returns : goal.returns
returns g c = search (rules, fetch_here, fetch_rest)
