use Rattle.flows.specs.Driven.{driving_of}
use Rattle.flows.proofs.Closing.{at-rule}
use Rattle.flows.proofs.driver_flow.DriverFlow.counts.Goals as goal

pub returns-clause-rule : goal.returns-clause-rule
returns-clause-rule c = let i = c.self.inside in at-rule i.flow_spec (driving_of i.flow_drivers) i.counts i.phase c.self.invariant.at
