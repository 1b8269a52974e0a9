-- The handle may go to another thread, as its object may.
use denote.Struct.Struct.{exits_of}
use denote.Struct.Owning.{shape, fields, to}
use denote.Param.Send.{IsSend, AllSend, owning_send, struct_send, sendable}
use Rattle.std_alloc.proofs.SendSync.{quiet}
use Rattle.std_heap.proofs.Global.TheSendSync as handle
use Rattle.ffi_handle.proofs.Sending.{held_keyless}
use Rattle.poll82599_c.specs.contracts.end.End as Held
use Rattle.poll82599_c.specs.contracts.handle.Handle.{the_row, the_type}
use Rattle.poll82599_c.proofs.Sendable.{end}

pub send : IsSend the_row
send =
    let all : AllSend (fields the_type) = (search sendable, (handle.the_field_send, tt)) in
    owning_send the_type all (λ d. held_keyless Held.the_row end d.alloc d.ptr d.held) (λ k. quiet (to the_type) (exits_of k (fields the_type)) ((struct_send (shape the_type) all).leaving k))
