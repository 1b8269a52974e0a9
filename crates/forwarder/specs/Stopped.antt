-- A flow that was stopped before it was over.
use Rattle.std.specs.Prelude.{◌≡◌, None}
use Rattle.flows.specs.Holding.{HoldsJust}
use Rattle.flows.specs.Parts.{parts_of}
use Rattle.pool.specs.Owned.{Pooled, IsOf}
use Rattle.rx_ring.specs.Ends as receive
use Rattle.tx_ring.specs.Ends as transmit
use Rattle.forwarder.specs.declared.flow_rings.FlowRings.{FlowRings}
use Rattle.forwarder.specs.declared.stopping.Stopped.{Stopped}

-- Both sides have the ends of the flow's two rings. The controllers hold no buffer. The driver's pass has a share of 1
-- and holds exactly the buffers of its side.
pub record IsStopped (pool : Pooled) (flow_rings : FlowRings) (s : Stopped) : Type 0 where
  pub from : (s.driver.rx.table ≡ flow_rings.from) × (s.controller.rx.table ≡ flow_rings.from)
  pub to : (s.driver.tx.table ≡ flow_rings.to) × (s.controller.tx.table ≡ flow_rings.to)
  pub unheld : (receive.held s.controller.rx ≡ None) × (transmit.held s.controller.tx ≡ None)
  pub of_pool : IsOf pool s.driver.pass
  pub share : s.driver.pass.hand.share ≡ 1
  pub held : HoldsJust s.driver.pass.hand.held (parts_of s.driver)
