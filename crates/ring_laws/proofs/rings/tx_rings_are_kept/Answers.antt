-- Each clause is a lemma of `ring_model`.
use Rattle.std.proofs.Common.{rules}
use Rattle.ring_model.proofs.transmit.Reached.{tx_kept, tx_lawful, tx_ordered, tx_concluded, tx_later-all}
use Rattle.ring_model.proofs.transmit.Stepping.{first_report-above, seen_sent}
use Rattle.ring_laws.proofs.rings.tx_rings_are_kept.Goals as goal

pub returns : goal.returns
returns g c = search (rules, tx_kept, tx_lawful, tx_ordered, tx_concluded, tx_later-all, first_report-above, seen_sent)
