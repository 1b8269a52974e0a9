-- A handle after a write through what it lends.
use Rattle.std.specs.Prelude.{Some}
use Rattle.poll82599_c.specs.declared.end.End.{End}
use Rattle.poll82599_c.specs.declared.handle.Handle.{Handle}

-- the handle, with w as its object
abbrev pub with_held : Handle → End → Handle
with_held h w = record { ptr = h.ptr; alloc = h.alloc; held = Some w }
