use denote.Param.Send.{sendable}
use Rattle.flows.proofs.Sent.{controller_flow, driver_flow}
use Rattle.forwarder.proofs.running.serve_sides.Goals as goal

pub serve_flows-served-requires-send-D : goal.serve_flows-served-requires-send-D
serve_flows-served-requires-send-D g c κs = search (sendable, driver_flow)

pub serve_flows-served-requires-send-C : goal.serve_flows-served-requires-send-C
serve_flows-served-requires-send-C g c κs = search (sendable, controller_flow)
