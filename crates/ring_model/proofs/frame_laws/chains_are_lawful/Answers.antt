-- What follows lawfully is joined to lawful frames.
use Rattle.ring_model.specs.shared.Segments.{piece_of}
use Rattle.ring_model.proofs.shared.FrameLaws.{AllFollow-lengths}
use Rattle.ring_model.specs.transmit.Ring.{carried}
use Rattle.ring_model.proofs.shared.Chains.{AllFollow-chains}
use Rattle.ring_model.proofs.transmit.Postings.{AllMayFollow-follow, AllMayFollow-lengths, chains-paylen}
use Rattle.ring_model.proofs.frame_laws.chains_are_lawful.Goals as goal

pub returns-clause-stored : goal.returns-clause-stored
returns-clause-stored c = AllFollow-lengths piece_of

pub returns-clause-posted : goal.returns-clause-posted
returns-clause-posted c = AllMayFollow-lengths

pub returns-clause-stored_chains : goal.returns-clause-stored_chains
returns-clause-stored_chains c = AllFollow-chains piece_of

pub returns-clause-posted_chains : goal.returns-clause-posted_chains
returns-clause-posted_chains c = λ n ps all. AllFollow-chains carried n ps (AllMayFollow-follow n ps all)

pub returns-clause-paylen : goal.returns-clause-paylen
returns-clause-paylen c = chains-paylen
