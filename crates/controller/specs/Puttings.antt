-- What a sink does that puts a frame's bytes into a room or onto the wire.
use Rattle.std.specs.Prelude.{◌≡◌, ℕ}
use Rattle.descriptor.specs.Transmit.{paylen_of}
use Rattle.ring_model.specs.shared.Frames.{Bytes}
use Rattle.controller.specs.declared.sending_into.Putting.{Putting}
use Rattle.controller.specs.Sending.{Put}

-- The bytes were put, and the sink has the same room and the same wire.
pub record HasPut (word : ℕ) (bytes : Bytes) (p p' : Putting) : Type 0 where
  pub put : Put (paylen_of word) bytes p.room.now p.past p.arena.now p'.room.now p'.past p'.arena.now
  pub same_room : p'.room ≡ record p.room { now = p'.room.now }
  pub same_arena : p'.arena ≡ record p.arena { now = p'.arena.now }
