-- What a handle owns may go to another thread where its object may.
use base.Shift.{Keyless}
use denote.Memory.{lone}
use denote.Param.Send.{IsSend}
use denote.RattleType.{RattleType}
use denote.RawPtr.{Ptr, null_ptr, block_ptr}
use mir.Raw.{raw}
use Rattle.std.proofs.Crossing as heap
use Rattle.std.specs.Prelude.{Option, Some, None}
use Rattle.std_alloc.proofs.SendSync.{lies}
use Rattle.std_heap.specs.contracts.Global as Heap
use Rattle.std_heap.specs.contracts.GlobalAllocator.TheImpl.{ghosts}
use Rattle.ffi_handle.specs.Held.{held_owns}

pub held_keyless : (R : RattleType) → IsSend R → (a : (Heap.the_row).Denot) (p : Ptr) (h : Option R.Denot) → Keyless (held_owns (ghosts.dealloc_token a) R p h)
held_keyless R s a null_ptr None = tt
held_keyless R s a (block_ptr b o) None = tt
held_keyless R s a p (Some x) = (lies R s p x, heap.frees.frees a (raw (lone R.mir)) p)
