use Rattle.std.proofs.Common.{inr, refl}
use Rattle.forward_io.proofs.captured.wires.write_frame.Goals as goal

pub returns-then-frame-lt-LEAST_FRAME-clause-refused : goal.returns-then-frame-lt-LEAST_FRAME-clause-refused
returns-then-frame-lt-LEAST_FRAME-clause-refused c = inr (_, refl)
