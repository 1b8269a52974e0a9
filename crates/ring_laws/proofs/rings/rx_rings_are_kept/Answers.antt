-- Each clause is a lemma of `ring_model`.
use Rattle.std.proofs.Common.{rules}
use Rattle.ring_model.proofs.receive.Reached.{rx_kept, rx_lawful, rx_ordered, rx_concluded, rx_later-all}
use Rattle.ring_model.proofs.receive.Stepping.{rx_kept-opening}
use Rattle.ring_model.proofs.receive.Quiesced.{quiesced-ended, said-stays}
use Rattle.ring_laws.proofs.rings.rx_rings_are_kept.Goals as goal

pub returns : goal.returns
returns g c = search (rules, rx_kept, rx_lawful, rx_ordered, rx_concluded, rx_later-all, rx_kept-opening, quiesced-ended, said-stays)
