-- Each clause is a law of frames.
use Rattle.ring_model.specs.shared.Segments.{piece_of}
use Rattle.ring_model.specs.transmit.Ring.{carried}
use Rattle.ring_model.proofs.shared.FrameLaws.{frames-beginning}
use Rattle.ring_model.proofs.shared.Cuts.{cut_by, join-cut, frames-cut}
use Rattle.ring_model.proofs.frame_laws.frames_are_rejoined.Goals as goal

pub returns-clause-cut : goal.returns-clause-cut
returns-clause-cut c = cut_by

pub returns-clause-pieces : goal.returns-clause-pieces
returns-clause-pieces c = join-cut

pub returns-clause-segments : goal.returns-clause-segments
returns-clause-segments c = frames-cut piece_of

pub returns-clause-postings : goal.returns-clause-postings
returns-clause-postings c = frames-cut carried

pub returns-clause-beginnings : goal.returns-clause-beginnings
returns-clause-beginnings c = frames-beginning piece_of

pub returns-clause-posted_beginnings : goal.returns-clause-posted_beginnings
returns-clause-posted_beginnings c = frames-beginning carried
