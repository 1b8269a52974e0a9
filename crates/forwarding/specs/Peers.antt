-- Where the frames of a flow leave.
use Rattle.std.specs.Prelude.{ℕ, ◌-◌}
use Rattle.forwarding.specs.declared.ports.PortQueue.{PortQueue}

abbrev pub place : ℕ → ℕ → PortQueue
place port queue = record { port = port; queue = queue }

-- Frames that come in at a queue of one port leave at the same queue of the other.
abbrev pub peer : PortQueue → PortQueue
peer input = record { port = 1 - input.port; queue = input.queue }
