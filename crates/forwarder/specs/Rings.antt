-- The rings of flows, newly made.
use Rattle.std.specs.Prelude.{◌≡◌, ℕ, ◌*◌, ◌<◌, List, length, slice_index_or}
use Rattle.limits.specs.declared.profile.TheConstants.{PORTS}
use Rattle.ring_model.specs.declared.states.Completion.{Completion}
use Rattle.rx_ring.specs.Meeting as receive
use Rattle.tx_ring.specs.Meeting as transmit
use Rattle.wire_script.specs.Frame.{Frame}
use Rattle.forwarder.specs.Flows.{places_of}
use Rattle.settings.specs.declared.config.Config.{Config}
use Rattle.forwarder.specs.declared.flow_rings.FlowRings.{FlowRings}
use Rattle.forwarder.specs.declared.flow_rings.FlowRingEnds.{FlowRingEnds}

-- The ends of this flow's two rings, newly made.
pub record AreEnds (n : ℕ) (mode : Completion) (flow_rings : FlowRings) (ends : FlowRingEnds) : Type 0 where
  pub receives : receive.MadeSeats n flow_rings.from ends.takes ends.stores
  pub sends : transmit.MadeSeats n mode flow_rings.to ends.posts ends.sends

-- Each flow of the script has its rings, newly made under this configuration, and the places of its frames.
pub record AreReady (c : Config) (script : List Frame) (index : List (List ℕ)) (rings : List FlowRings) (ends : List FlowRingEnds) : Type 0 where
  pub all_rings : length rings ≡ PORTS * c.pairs
  pub all_ends : length ends ≡ PORTS * c.pairs
  pub all_places : length index ≡ PORTS * c.pairs
  pub made : (k : ℕ) (d : FlowRings) (e : FlowRingEnds) → k < PORTS * c.pairs → AreEnds c.ring c.completion (slice_index_or rings k d) (slice_index_or ends k e)
  pub places : (flow : ℕ) (d : List ℕ) → flow < PORTS * c.pairs → slice_index_or index flow d ≡ places_of c.pairs flow script
