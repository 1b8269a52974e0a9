use Rattle.wire_script.proofs.FillLine.{fill_answered}
use Rattle.wire_script.proofs.Meaning.{fault_said, frames_said}
use Rattle.wire_script.proofs.reading.parse.Goals as goal

pub returns-clause-frames : goal.returns-clause-frames
returns-clause-frames c = frames_said c.args.text.now c.read.result c.read.ensures

pub returns-clause-refused : goal.returns-clause-refused
returns-clause-refused c = fault_said c.args.text.now c.read.result c.read.ensures

pub returns-clause-fill : goal.returns-clause-fill
returns-clause-fill c = λ frame byte wire small same is. fill_answered c.args.text.now c.read.result frame byte c.read.ensures wire small same is
