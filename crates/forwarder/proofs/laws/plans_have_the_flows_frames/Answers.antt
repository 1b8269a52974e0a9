use Rattle.forwarder.proofs.FlowFrames.{plan-frames}
use Rattle.forwarder.proofs.laws.plans_have_the_flows_frames.Goals as goal

pub returns : goal.returns
returns c = record { frames = plan-frames }
